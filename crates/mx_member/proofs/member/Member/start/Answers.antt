use Rattle.std.proofs.Common.{ℕ, ◌≡◌, ◌∙◌, [], length, ap, sym, arith}
use Rattle.mx_nodelaws.specs.Core.{Core}
use Rattle.mx_journal.specs.Drafted.{Drafted, fresh}
use Rattle.mx_journal.specs.Settled.{JournalState, unsettled}
use Rattle.mx_registers.specs.Based.{registers_in}
use Rattle.mx_registers.proofs.Based.{registers_unsettled}
use Rattle.mx_member.specs.Member.{IsViewOf, MemberState, Setting}
use Rattle.mx_member.specs.Steps.{start_of}
use Rattle.mx_member.proofs.member.Member.start.Goals as goal

-- a member made of a setting, a core, a journal and a draft
abbrev made : {S : Type 0} → Setting → S → JournalState → Drafted → MemberState S
made setting core journal draft = record { setting = setting; core = core; journal = journal; draft = draft }

-- one that is at rest
at_rest : {H S M : Type 0} (core : Core H S M) (shape : H) (me origin limit registers nodes : ℕ) (new : S) (journal : JournalState) (draft : Drafted) → nodes ≡ core.count shape → new ≡ core.start shape me origin limit → journal ≡ unsettled [] → draft ≡ fresh → made (record { me = me; nodes = nodes; limit = limit; registers = registers }) new journal draft ≡ start_of core shape me origin limit registers
at_rest core shape me origin limit registers nodes new journal draft count start nothing empty =
    ap (λ n. made (record { me = me; nodes = n; limit = limit; registers = registers }) new journal draft) count
    ∙ ap (λ s. made (record { me = me; nodes = core.count shape; limit = limit; registers = registers }) s journal draft) start
    ∙ ap (λ j. made (record { me = me; nodes = core.count shape; limit = limit; registers = registers }) (core.start shape me origin limit) j draft) nothing
    ∙ ap (λ d. made (record { me = me; nodes = core.count shape; limit = limit; registers = registers }) (core.start shape me origin limit) (unsettled []) d) empty

pub invariant_of-result : goal.invariant_of-result
unfolding IsViewOf
invariant_of-result g c =
    let reads = ap (λ d. length d.reads) c.new-3.ensures in
    let writes = ap (λ d. length d.writes) c.new-3.ensures in
    (c.new-4.ensures, c.requires.some, c.requires.few, omega arith, omega arith, c.new-2.ensures ∙ sym (registers_unsettled c.args.registers []) ∙ ap (λ (j : JournalState). registers_in c.args.registers j) (sym c.new.ensures))

pub returns : goal.returns
returns g c =
    at_rest g.C.Exclusion.core c.args.shape.now c.args.me c.args.origin c.args.limit c.args.registers c.nodes.result c.start.result c.new.result c.new-3.result c.nodes.ensures.value c.start.ensures c.new.ensures c.new-3.ensures

use Rattle.std.proofs.Common.{ℕ, ◌≡◌, ◌∷◌, ◌⊎◌, [], ◌∙◌, Result, inl, inr, sym, ap, subst, arith}
use Rattle.mx_journal.specs.declared.records.Record.{Record}
use Rattle.mx_journal.specs.declared.puts.Put.{Put}
use Rattle.mx_journal.specs.declared.puts.Put.TheVariants.{New}
use Rattle.mx_journal.specs.declared.puts.PutFault.{PutFault}
use Rattle.mx_journal.specs.declared.puts.PutFault.TheVariants.{Conflict}
use Rattle.mx_journal.specs.Records.{record_at}
use Rattle.mx_journal.specs.Settled.{Covers, JournalState, with_entry, with_list}
use Rattle.mx_registers.specs.Registers.{with_taken}
use Rattle.mx_member.specs.Member.{IsViewOf}
use Rattle.mx_member.proofs.Keeping.{conflict_apart, kept, ok_apart, put_err, put_ok, shown_with, uncovered}
use Rattle.mx_member.proofs.sections.keep.Goals as goal

-- a journal that refuses a record stays
refusal_stays : (result : Result Put PutFault) (n : ℕ) (journal new : JournalState) → result ≡ put_err (Conflict n) → (result ≡ put_ok New) ⊎ (new ≡ journal) → new ≡ journal
refusal_stays result n journal new e (inl h) = absurd (let bad : ⊥ = cc in bad)
refusal_stays result n journal new e (inr h) = h

pub returns-in-Ok-New-clause-shown : goal.returns-in-Ok-New-clause-shown
returns-in-Ok-New-clause-shown c = λ count is.
    let journal = c.args.journal.now in
    let entry = c.args.entry.now in
    let made : c.copy.result ≡ entry = c.copy.ensures in
    let new = c.in-Ok-New.is ∙ ap (λ (p : Put). put_ok p) c.in-Ok-New.field-0-is in
    let free = sym (ap (λ (x : Record). record_at x.number journal.records) made) ∙ (c.put.ensures.fresh.0 (inl new)).1 in
    let after = c.put.ensures.new new ∙ ap (λ x. with_entry x journal) made in
    subst (λ cells. IsViewOf count c.put.new.self cells) (sym c.take.ensures.value)
    (subst (λ j. IsViewOf count j (with_taken entry c.args.shown.now)) (sym after) (shown_with count journal c.args.shown.now entry c.is_empty.ensures.ordered free is))

pub returns-in-Ok-New-clause-ok : goal.returns-in-Ok-New-clause-ok
returns-in-Ok-New-clause-ok c =
    let made : c.copy.result ≡ c.args.entry.now = c.copy.ensures in
    let number = ap (λ (x : Record). x.number) made in
    kept c.args.journal.now c.put.new.self c.copy.result c.put.result c.is_empty.ensures.ordered (omega arith) c.put.ensures.zero c.put.ensures.conflict c.put.ensures.same c.put.ensures.new c.put.ensures.fresh c.put.ensures.kept
    (λ e. ok_apart c.in-Ok-New.field-0 (sym c.in-Ok-New.is ∙ e))
    ∙ ap (λ x. with_list (x ∷ []) c.args.journal.now) made

pub returns-in-Ok-Same-clause-ok : goal.returns-in-Ok-Same-clause-ok
returns-in-Ok-Same-clause-ok c =
    let made : c.copy.result ≡ c.args.entry.now = c.copy.ensures in
    let number = ap (λ (x : Record). x.number) made in
    kept c.args.journal.now c.put.new.self c.copy.result c.put.result c.is_empty.ensures.ordered (omega arith) c.put.ensures.zero c.put.ensures.conflict c.put.ensures.same c.put.ensures.new c.put.ensures.fresh c.put.ensures.kept
    (λ e. ok_apart c.in-Ok-Same.field-0 (sym c.in-Ok-Same.is ∙ e))
    ∙ ap (λ x. with_list (x ∷ []) c.args.journal.now) made

pub returns-in-Err-Conflict-clause-ok : goal.returns-in-Err-Conflict-clause-ok
returns-in-Err-Conflict-clause-ok c =
    let made : c.copy.result ≡ c.args.entry.now = c.copy.ensures in
    let number = ap (λ (x : Record). x.number) made in
    kept c.args.journal.now c.put.new.self c.copy.result c.put.result c.is_empty.ensures.ordered (omega arith) c.put.ensures.zero c.put.ensures.conflict c.put.ensures.same c.put.ensures.new c.put.ensures.fresh c.put.ensures.kept
    (λ e. conflict_apart c.in-Err-Conflict.field-0-0 (ap (λ (f : PutFault). put_err f) (sym c.in-Err-Conflict.field-0-is) ∙ sym c.in-Err-Conflict.is ∙ e))
    ∙ ap (λ x. with_list (x ∷ []) c.args.journal.now) made

pub returns-in-Err-Conflict-clause-shown : goal.returns-in-Err-Conflict-clause-shown
returns-in-Err-Conflict-clause-shown c = λ count is.
    let refused = c.in-Err-Conflict.is ∙ ap (λ (f : PutFault). put_err f) c.in-Err-Conflict.field-0-is in
    let stays = refusal_stays c.put.result c.in-Err-Conflict.field-0-0 c.args.journal.now c.put.new.self refused c.put.ensures.kept in
    subst (λ j. IsViewOf count j c.args.shown.now) (sym stays) is

pub returns-in-Err-Conflict-clause-missing : goal.returns-in-Err-Conflict-clause-missing
returns-in-Err-Conflict-clause-missing c = tt

pub returns-in-Err-Conflict-clause-err : goal.returns-in-Err-Conflict-clause-err
returns-in-Err-Conflict-clause-err c = tt

pub returns-in-Err-Memory-clause-missing : goal.returns-in-Err-Memory-clause-missing
returns-in-Err-Memory-clause-missing c = λ covers.
    let journal = c.args.journal.now in
    let made : c.copy.result ≡ c.args.entry.now = c.copy.ensures in
    let number = ap (λ (x : Record). x.number) made in
    let memory = c.in-Err-Memory.is ∙ ap (λ (f : PutFault). put_err f) c.in-Err-Memory.field-0-is in
    let free = c.put.ensures.fresh.0 (inr memory) in
    uncovered c.copy.result journal free.0 free.1 (subst (λ n. Covers n journal) (sym number) covers)

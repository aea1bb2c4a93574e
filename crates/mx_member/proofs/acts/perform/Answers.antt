use Rattle.std.proofs.Common.{◌≡◌, List, Result, Err, sym, ap, rules, subst, ◌∙◌, ℕ}
use Rattle.mx_nodelaws.specs.Core.{Core}
use Rattle.mx_member.specs.declared.acts.Act.{Act}
use Rattle.mx_member.specs.declared.acts.Answer.{Answer}
use Rattle.mx_member.specs.declared.acts.Answer.TheVariants as answer
use Rattle.mx_member.specs.declared.faults.CloseFault.{CloseFault}
use Rattle.mx_member.specs.declared.parcel.Parcel.{Parcel}
use Rattle.mx_member.specs.Acts.{IsPerformed}
use Rattle.mx_member.specs.Member.{MemberState}
use Rattle.mx_member.proofs.Leaving.{needs_memory, not_inside}
use Rattle.mx_member.proofs.acts.perform.Goals as goal

-- what is performed, once it is known which act it is
acted : {H S M F : Type 0} (core : Core H S M) (a is : Act M) (old new : MemberState S) (out : List (ℕ × Parcel M)) (r : Result Answer F) → a ≡ is → IsPerformed core is old new out r → IsPerformed core a old new out r
acted core a is old new out r same done = subst (λ x. IsPerformed core x old new out r) (sym same) done

pub deliver-requires : goal.deliver-requires
deliver-requires g c = search rules

pub returns-in-Ok : goal.returns-in-Ok
returns-in-Ok g c =
    acted g.C.Exclusion.core c.args.act _ _ _ _ _ c.in-Leave.is
    (record { state = c.in-Ok.ensures.state; answer = sym (ap answer.Left c.in-Ok.ensures.answer); letters = c.in-Ok.ensures.letters; memory = tt; err = tt; quiet = tt })

pub returns-in-Err-NotInside : goal.returns-in-Err-NotInside
returns-in-Err-NotInside g c =
    let e = c.in-Err-NotInside.ensures in
    let stays = not_inside g.C.Exclusion.core c.args.member.now c.args.act c.in-Leave.is (e.not_inside.0 (ap (λ (f : CloseFault). Err f) c.in-Err-NotInside.field-0-is)) in
    record { state = e.err ∙ sym (ap (λ d. d.state) stays); answer = sym (ap (λ d. d.answer) stays); letters = e.quiet ∙ sym (ap (λ d. d.letters) stays); memory = tt; err = tt; quiet = tt }

pub returns-in-Err-Memory : goal.returns-in-Err-Memory
returns-in-Err-Memory g c =
    let memory = c.in-Err-Memory.is ∙ ap (λ (f : CloseFault). Err f) c.in-Err-Memory.field-0-is in
    record { state = tt; answer = tt; letters = tt; memory = needs_memory g.C.Exclusion.core c.args.member.now c.args.act c.in-Leave.is (c.leave.ensures.memory memory); err = c.in-Err-Memory.ensures.err; quiet = c.in-Err-Memory.ensures.quiet }

pub returns-in-Ask : goal.returns-in-Ask
returns-in-Ask g c = acted g.C.Exclusion.core c.args.act _ _ _ _ _ c.in-Ask.is (search rules)

pub returns-in-Enter : goal.returns-in-Enter
returns-in-Enter g c = acted g.C.Exclusion.core c.args.act _ _ _ _ _ c.in-Enter.is (search rules)

pub returns-in-Read : goal.returns-in-Read
returns-in-Read g c = acted g.C.Exclusion.core c.args.act _ _ _ _ _ c.in-Read.is (search rules)

pub returns-in-Write : goal.returns-in-Write
returns-in-Write g c = acted g.C.Exclusion.core c.args.act _ _ _ _ _ c.in-Write.is (search rules)

pub returns-in-Cancel : goal.returns-in-Cancel
returns-in-Cancel g c = acted g.C.Exclusion.core c.args.act _ _ _ _ _ c.in-Cancel.is (search rules)

pub returns-in-Settle : goal.returns-in-Settle
returns-in-Settle g c = acted g.C.Exclusion.core c.args.act _ _ _ _ _ c.in-Settle.is (search rules)

pub returns-in-Tick : goal.returns-in-Tick
returns-in-Tick g c = acted g.C.Exclusion.core c.args.act _ _ _ _ _ c.in-Tick.is (search rules)

pub returns-in-Want : goal.returns-in-Want
returns-in-Want g c = acted g.C.Exclusion.core c.args.act _ _ _ _ _ c.in-Want.is (search rules)

pub returns-in-Restart : goal.returns-in-Restart
returns-in-Restart g c = acted g.C.Exclusion.core c.args.act _ _ _ _ _ c.in-Restart.is (search rules)

pub returns-in-Ok-deliver : goal.returns-in-Ok-deliver
returns-in-Ok-deliver g c = acted g.C.Exclusion.core c.args.act _ _ _ _ _ c.in-Deliver.is (search rules)

use Rattle.std.proofs.Common.{ℕ, ◌≡◌, ◌∙◌, List, [], ◌∷◌, refl, ap, arith, rules, sym}
use Rattle.mx_journal.specs.declared.records.Record.{Record}
use Rattle.mx_journal.specs.declared.receipts.Receipt.{Receipt}
use Rattle.mx_journal.specs.Drafted.{receipt_of, record_of}
use Rattle.mx_journal.specs.Settled.{with_list}
use Rattle.mx_member.specs.Member.{guarded}
use Rattle.mx_member.proofs.Leaving.{lacks_record, left_answer, left_letters, left_state, unchanged}
use Rattle.mx_member.proofs.Refusing.{closed_apart, is_err, left, memory_apart, no_ok, not_inside, not_left, where_err}
use Rattle.mx_member.proofs.member.Member.leave.Goals as goal

pub returns-in_default : goal.returns-in_default
returns-in_default g c =
    record {
      not_inside = not_inside (λ inside. c.in_default.not-Inside inside.0 (c.phase.ensures.value ∙ ap (λ m. g.C.Exclusion.core.phase m.core) c.self.view_is ∙ inside.1));
      memory = λ e. absurd (memory_apart _ e refl);
      state = tt;
      answer = tt;
      letters = tt;
      err = refl;
      quiet = c.requires;
    }

pub keep-requires : goal.keep-requires
keep-requires g c =
    let number : c.to_record.result.number ≡ c.in-Inside.number = ap (λ (e : Record). e.number) c.to_record.ensures ∙ ap (λ (r : Receipt). r.number) c.close-receipt.ensures.value in
    let numbered = c.in-Inside.ensures.numbered in omega arith

pub returns-in_err-keep-clause-err : goal.returns-in_err-keep-clause-err
returns-in_err-keep-clause-err g c = where_err c.from_residual.result (unchanged _ c.args.self.now _ c.self.view_is c.in_err-keep.ensures.err)

pub returns-in_err-keep-clause-state : goal.returns-in_err-keep-clause-state
returns-in_err-keep-clause-state g c = no_ok _ c.from_residual.result c.in_err-keep.field-0.0 (is_err c.from_residual.result c.in_err-keep.field-0.0 c.from_residual.ensures.1)

pub returns-in_err-keep-clause-letters : goal.returns-in_err-keep-clause-letters
returns-in_err-keep-clause-letters g c = no_ok _ c.from_residual.result c.in_err-keep.field-0.0 (is_err c.from_residual.result c.in_err-keep.field-0.0 c.from_residual.ensures.1)

pub returns-in_err-keep-clause-quiet : goal.returns-in_err-keep-clause-quiet
returns-in_err-keep-clause-quiet g c = where_err c.from_residual.result c.requires

pub returns-clause-err : goal.returns-clause-err
returns-clause-err g c = tt

pub returns-clause-quiet : goal.returns-clause-quiet
returns-clause-quiet g c = tt

pub returns-clause-memory : goal.returns-clause-memory
returns-clause-memory g c = λ e. absurd (closed_apart _ e)

pub leave-requires : goal.leave-requires
leave-requires g c = search rules

pub guard_all-requires : goal.guard_all-requires
guard_all-requires g c = search rules

pub invariant_of-self-2 : goal.invariant_of-self-2
invariant_of-self-2 g c =
    let was = c.self.invariant in (
      c.guard_all.ensures.empty,
      was.1,
      was.2,
      (search rules),
      (search rules),
      c.keep.ensures.shown c.self.inside.registers was.5,
    )

pub returns-in_err-keep-clause-not_inside : goal.returns-in_err-keep-clause-not_inside
returns-in_err-keep-clause-not_inside g c =
    not_left c.from_residual.result c.in_err-keep.field-0.0 (is_err c.from_residual.result c.in_err-keep.field-0.0 c.from_residual.ensures.1) c.in_err-keep.ensures.memory
    (c.in-Inside.number, ap (λ m. g.C.Exclusion.core.phase m.core) (sym c.self.view_is) ∙ sym c.phase.ensures.value ∙ c.in-Inside.is)

pub returns-clause-not_inside : goal.returns-clause-not_inside
returns-clause-not_inside g c =
    left c.close-receipt.result
    (c.in-Inside.number, ap (λ m. g.C.Exclusion.core.phase m.core) (sym c.self.view_is) ∙ sym c.phase.ensures.value ∙ c.in-Inside.is)

pub invariant_of-self : goal.invariant_of-self
invariant_of-self g c =
    let was = c.self.invariant in (was.0, was.1, was.2, was.3, was.4, c.keep.ensures.shown c.self.inside.registers was.5)

pub returns-in_err-keep-clause-memory : goal.returns-in_err-keep-clause-memory
returns-in_err-keep-clause-memory g c = λ memory.
    lacks_record g.C.Exclusion.core c.args.self.now _ c.in-Inside.number c.close-receipt.result c.to_record.result c.self.inside.draft c.self.view_is (sym c.phase.ensures.value ∙ c.in-Inside.is)
    (c.close-receipt.ensures.value ∙ ap (λ m. receipt_of c.in-Inside.number m.setting.me c.self.inside.draft) c.self.view_is) c.to_record.ensures c.in_err-keep.ensures.missing

pub returns-clause-state : goal.returns-clause-state
returns-clause-state g c =
    left_state g.C.Exclusion.core c.args.self.now _ c.in-Inside.number c.self.view_is (sym c.phase.ensures.value ∙ c.in-Inside.is) _ _ _ c.leave.ensures.state
    (c.in_ok-keep.ensures.ok ∙ ap (λ (e : Record). with_list (e ∷ []) c.self.inside.journal) (c.to_record.ensures ∙ ap (λ (r : Receipt). record_of r) c.close-receipt.ensures.value))
    c.clear.ensures

pub returns-clause-answer : goal.returns-clause-answer
returns-clause-answer g c =
    left_answer g.C.Exclusion.core c.args.self.now _ c.in-Inside.number c.self.view_is (sym c.phase.ensures.value ∙ c.in-Inside.is) c.close-receipt.result c.close-receipt.ensures.value

pub returns-clause-letters : goal.returns-clause-letters
returns-clause-letters g c =
    c.guard_all.ensures.sent
    ∙ ap (λ (ps : List (ℕ × g.row.C-Msg.Denot)). guarded ps) c.leave.ensures.letters
    ∙ left_letters g.C.Exclusion.core c.args.self.now _ c.in-Inside.number c.self.view_is (sym c.phase.ensures.value ∙ c.in-Inside.is)

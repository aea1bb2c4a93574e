use Rattle.std.proofs.Common.{Err, refl, sym, ap, ◌∙◌, [], ◌∷◌, ◌++◌, length}
use Rattle.mx_member.specs.declared.acts.Act.TheVariants.{Leave}
use Rattle.mx_member.specs.declared.faults.CloseFault.{CloseFault}
use Rattle.mx_member.proofs.Leaving.{not_inside}
use Rattle.mx_trace.specs.declared.outcome.Outcome.{Outcome}
use Rattle.mx_network.specs.Outcome.{outcome_of}
use Rattle.mx_network.proofs.parts.leave_and_note.Goals as goal

pub returns-in-Err-NotInside-clause-ok : goal.returns-in-Err-NotInside-clause-ok
returns-in-Err-NotInside-clause-ok g c =
    let e = c.in-Err-NotInside.ensures in
    let stays = not_inside g.C.Exclusion.core c.args.member.now Leave refl (e.not_inside.0 (ap (λ (f : CloseFault). Err f) c.in-Err-NotInside.field-0-is)) in
    record {
      state = e.err ∙ sym (ap (λ d. d.state) stays);
      letters = e.quiet ∙ sym (ap (λ d. d.letters) stays);
      noted = c.note-in-Err-NotInside.ensures
          ∙ ap (λ (o : Outcome). c.args.trace.now.items ++ record { event = c.args.event.now; outcome = o } ∷ [])
          (sym (ap (λ d. outcome_of d.answer (length d.letters)) stays));
    }

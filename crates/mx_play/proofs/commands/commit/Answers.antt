use Rattle.std.proofs.Common.{◌∙◌, ◌++◌, ◌∷◌, [], ap, refl}
use Rattle.mx_play.specs.Sessions.{SessionState}
use Rattle.mx_play.specs.declared.session.DoneLine.{DoneLine}
use Rattle.mx_play.proofs.commands.commit.Goals as goal

pub returns-clause-lines : goal.returns-clause-lines
returns-clause-lines g c =
    let last : DoneLine = record { text = c.in_ok-from_str.field-0; events = c.args.line.events } in (
      last,
      c.in_ok-from_str.ensures.ok ∙ c.trim.ensures.trim,
      refl,
      c.in_ok-push.ensures.items ∙ ap (λ (x : SessionState g.row.C.Denot g.row.C-Msg.Denot). x.lines ++ last ∷ []) c.session.view_is,
    )

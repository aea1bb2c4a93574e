use Rattle.std.proofs.Common.{◌∙◌, string_bytes, sym}
use Rattle.std.specs.Prelude.{◌&&◌}
use Rattle.mx_format.specs.LetterTexts.{letter_text}
use Rattle.mx_format.specs.ParcelTexts.{parcel_line}
use Rattle.mx_scripts.specs.Fates.{is_under_way}
use Rattle.mx_play.specs.Cuts.{is_to}
use Rattle.mx_play.proofs.ViewLemmas.{not_shown}
use Rattle.mx_play.proofs.shown_parcels.add_parcel.Goals as goal

pub returns : goal.returns
returns g c =
    let m = c.args.state.now in
    let sent = c.args.sent.now in
    not_shown (is_under_way m.fates c.args.number && is_to c.args.to.now sent.to)
    (parcel_line (letter_text g.C.Msg.Letter.parts) c.args.plan.now c.args.number (sent.from, sent.to, sent.parcel.now))
    (string_bytes c.args.text.now) (sym c.is_waiting.ensures ∙ c.if-is_waiting.false)

use Rattle.std.proofs.Common.{◌≡◌, ◌++◌, drop, string_bytes}
use Rattle.mx_format.specs.Lines.{each_text, texts_from}
use Rattle.mx_driver.specs.Shown.{shown_parcel}
use Rattle.mx_driver.proofs.view.View.add_parcels.Given as goal

abbrev pub invariant-loop-number : goal.invariant-loop-number
invariant-loop-number g l =
    let line = shown_parcel l.plan l.self g.C.Msg.Letter.parts in
    string_bytes l.initial.text ++ texts_from line l.before (drop l.before l.cluster.sent) ≡ string_bytes l.text ++ each_text (λ x. line x.0 x.1) l.number-iterator

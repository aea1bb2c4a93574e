use Rattle.std.proofs.Common.{inl, inr, length}
use Rattle.mx_stamps.proofs.Choices.{dec_le, not_both}
use Rattle.mx_stations.proofs.worker.is_to_ask.Goals as goal

pub returns-in-Idle : goal.returns-in-Idle
returns-in-Idle g c = λ idle.
    elim (dec_le c.args.sections (length c.args.station.now.me.receipts)) [
      | inl enough ↦ absurd (not_both c.has_sections.result (c.has_sections.ensures.1 enough) c.if-has_sections.false)
      | inr low ↦ low
    ]

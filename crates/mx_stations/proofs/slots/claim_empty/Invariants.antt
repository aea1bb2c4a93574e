use Rattle.std.proofs.Common.{◌≡◌, ℕ, ◌<◌}
use Rattle.mx_stations.specs.Links.{slot_in}
use Rattle.mx_stations.specs.Slides.{HasUsed}
use Rattle.mx_stations.proofs.slots.claim_empty.Given as goal

abbrev pub invariant-loop-index : goal.invariant-loop-index
invariant-loop-index g l =
    (l.seat.table_id ≡ l.fn.seat.table_id)
    × (l.seat.id ≡ l.fn.seat.id)
    × (l.seat.me ≡ l.fn.seat.me)
    × ((j : ℕ) → j < l.index → HasUsed (slot_in l.field.nodes l.link j) l.fn.seat.me)

abbrev pub ghosts-claim : goal.ghosts-claim
ghosts-claim g a = record { slot = slot_in a.field.now.nodes a.link.now a.index; from = a.link.now.from }

use Rattle.std.proofs.Common.{◌≡◌, ℕ, ◌+◌, []}
use Rattle.std.specs.Arc.{arc_value}
use Rattle.mx_stations.specs.Opened.{starts_of}
use Rattle.mx_stations.specs.Running.{all_from, fresh}
use Rattle.mx_stations.proofs.Opens.{SoFar}
use Rattle.mx_stations.proofs.creation.seat_all.Given as goal

abbrev pub invariant-loop-index : goal.invariant-loop-index
invariant-loop-index g l =
    let starts = starts_of g.C.Exclusion.core l.setup in
    (l.seat.table_id ≡ (arc_value l.field).board.shared.table_id)
    × ((arc_value l.field).nodes ≡ l.setup.nodes)
    × ((m : ℕ) × (l.index + m ≡ l.setup.nodes) × (l.seat.me ≡ (all_from l.index m (λ i. fresh i (starts i)), [])) × (l.members.items ≡ all_from l.index m starts))
    × SoFar starts l.setup.nodes (arc_value l.field).board.shared.table_id l.index l.all.items

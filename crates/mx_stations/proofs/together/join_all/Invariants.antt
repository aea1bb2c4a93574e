use Rattle.std.proofs.Common.{◌≡◌, ◌++◌, ℕ, map, length}
use mathlib.Core.Option.{some}
use lib.ListN.{get_elem?}
use Rattle.std.specs.Arc.{arc_value}
use Rattle.mx_member.specs.declared.parcel.Parcel.{Parcel}
use Rattle.mx_member.specs.Member.{MemberState}
use Rattle.mx_stations.specs.Posts.{Post}
use Rattle.mx_stations.specs.Gathered.{me_of, nodes_in}
use Rattle.mx_stations.proofs.together.join_all.Given as goal

abbrev pub invariant-loop-next : goal.invariant-loop-next
invariant-loop-next g l = record {
  table : l.seat.table_id ≡ (arc_value l.field).board.shared.table_id;
  nodes : (arc_value l.field).nodes ≡ nodes_in l.fn.stations.items;
  all : map me_of l.stations.items ++ l.seat.me.0 ≡ map me_of l.fn.stations.items;
  one : (k : ℕ) (s : Post (MemberState g.row.C.Denot) (Parcel g.row.C-Msg.Denot)) → get_elem? l.stations.items k ≡ some s → s.table ≡ l.seat.table_id;
}

abbrev pub decreases-loop-next : goal.decreases-loop-next
decreases-loop-next g l = length l.stations.items

-- Whether a session stands still, and which nodes wait then.
use Rattle.std.specs.Prelude.{Bool, List, [], if◌then◌else◌, length}
use Rattle.std.specs.List.{list_any}
use Rattle.mx_stamps.specs.Lists.{each_below}
use Rattle.mx_knowledge.specs.Facts.{Known}
use Rattle.mx_nodelaws.specs.Core.{Core}
use Rattle.mx_format.specs.StuckTexts.{WaiterState}
use Rattle.mx_driver.specs.Standstill.{stuck_nodes}
use Rattle.mx_scripts.specs.Fates.{is_under_way}
use Rattle.mx_scripts.specs.States.{RunState}

-- some parcel is under way
abbrev pub has_under_way : {S M : Type 0} → RunState S M → Bool
has_under_way s = list_any (is_under_way s.fates) (each_below (λ k. k) (length s.cluster.sent))

-- the nodes that wait, if no parcel is under way and no node is ready; none otherwise
abbrev pub stuck_in : {H S M : Type 0} → Core H S M → (S → List Known) → RunState S M
    → List WaiterState
stuck_in core knows s =
    if has_under_way s then [] else stuck_nodes core knows s.cluster.members

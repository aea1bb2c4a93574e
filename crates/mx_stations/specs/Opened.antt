use Rattle.std.specs.Prelude.{◌≡◌, ℕ, List, [], length}
use mathlib.Core.Option.{some}
use lib.ListN.{get_elem?}
use Rattle.atomic_table.specs.Seated.{TableId}
use Rattle.mx_nodelaws.specs.Core.{Core}
use Rattle.mx_member.specs.Member.{MemberState}
use Rattle.mx_member.specs.Steps.{start_of}
use Rattle.mx_stations.specs.declared.rule.Setup.{Setup}
use Rattle.mx_stations.specs.Running.{fresh}
use Rattle.mx_stations.specs.Posts.{Post}

-- the idle member of node i at a table with these parameters
abbrev pub starts_of : {H S M : Type 0} → Core H S M → Setup H → ℕ → MemberState S
starts_of core setup i = start_of core setup.shape i setup.origin setup.limit setup.registers

-- these are n stations at one table, in order of their nodes. Station k is new: its member is
-- `starts k`, its node has done nothing yet, and no parcel waits in it
abbrev pub AreFresh : {T P : Type 0} → ℕ → (ℕ → T) → List (Post T P) → Type 0
AreFresh {T} {P} n starts all =
    (length all ≡ n) × ((table : TableId) × ((k : ℕ) (s : Post T P) → get_elem? all k ≡ some s
    → (s.table ≡ table) × (s.nodes ≡ n) × (s.me ≡ fresh k (starts k)) × (s.waiting ≡ [])))

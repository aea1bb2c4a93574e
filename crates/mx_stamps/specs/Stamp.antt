-- The order of stamps (Lamport 1978).
use Rattle.std.specs.Prelude.{Bool, ◌||◌, ◌&&◌, ◌<◌, ◌≡◌, ◌⊎◌, nat_lt, nat_eq}
use Rattle.mx_stamps.specs.declared.stamp.Stamp.{Stamp}

-- stamp a comes before stamp b: by number, and then by node
abbrev pub Before : Stamp → Stamp → Type 0
Before a b = (a.number < b.number) ⊎ ((a.number ≡ b.number) × (a.node < b.node))

abbrev pub is_before_of : Stamp → Stamp → Bool
is_before_of a b = nat_lt a.number b.number || (nat_eq a.number b.number && nat_lt a.node b.node)

abbrev pub is_same_as : Stamp → Stamp → Bool
is_same_as a b = nat_eq a.number b.number && nat_eq a.node b.node

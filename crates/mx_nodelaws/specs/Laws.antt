-- The laws of an exclusion algorithm, about its invariant: a predicate Good of worlds.
use Rattle.std.specs.Prelude.{ℕ, ◌+◌, ◌<◌, ◌≤◌, ◌^◌, ◌≡◌, ◌↔◌, true, List, [], Ok, Err, length, nat_lt, if◌then◌else◌}
use Rattle.mx_stamps.specs.declared.limits.TheConstants.{MAX_SECTIONS}
use Rattle.mx_stamps.specs.Lists.{IsIn, each_below, greatest}
use Rattle.mx_nodelaws.specs.declared.faults.EnterFault.TheVariants.{NumbersSpent}
use Rattle.mx_nodelaws.specs.World.{World, quietly, IsNode, WasSent, after}
use Rattle.mx_nodelaws.specs.Core.{Core, IsInside}

module _ {H S M : Type 0} where
  -- the world at the start: each node has just been started, and nothing was sent
  abbrev pub started : Core H S M → H → ℕ → ℕ → World S M
  started core shape origin limit = record {
    nodes = each_below (λ i. core.start shape i origin limit) (core.count shape);
    sent = [];
  }

  -- the greatest number of a section that some node entered, or 0 before the first
  abbrev pub greatest_mine : Core H S M → World S M → ℕ
  greatest_mine core w = greatest core.mine w.nodes

  -- the laws: Good holds at the start, each step keeps it, and exclusion and numbering follow from
  -- it
  pub record KeepsGood (core : Core H S M) (IsShape : H → Type 0)
      (Good : World S M → Type 0) : Type 0 where
    -- start law: the world at the start is Good, for every valid shape, origin and limit
    pub at_start : (shape : H) (origin limit : ℕ) → IsShape shape → origin < 2 ^ 64 → 0 < limit →
        limit ≤ MAX_SECTIONS → Good (started core shape origin limit)
    -- step law: each step of a node keeps Good; a letter may be delivered at any time after it was
    -- sent to the node
    pub after_ask : (w : World S M) (i : ℕ) (s : S) → Good w → IsNode w i s →
        Good (after w i (core.ask s))
    pub after_deliver : (w : World S M) (i : ℕ) (s : S) (from : ℕ) (m : M) → Good w → IsNode w i s →
        WasSent w from i m → Good (after w i (core.deliver from m s))
    pub after_enter : (w : World S M) (i : ℕ) (s : S) → Good w → IsNode w i s →
        Good (after w i (quietly (core.enter s)))
    pub after_leave : (w : World S M) (i : ℕ) (s : S) → Good w → IsNode w i s →
        Good (after w i (core.leave s))
    pub after_cancel : (w : World S M) (i : ℕ) (s : S) → Good w → IsNode w i s →
        Good (after w i (core.cancel s))
    pub after_tick : (w : World S M) (i : ℕ) (s : S) → Good w → IsNode w i s →
        Good (after w i (core.tick s))
    -- Good depends on the set of the letters that were sent, not on how often or in which order
    pub by_membership : (w : World S M) (sent : List (ℕ × ℕ × M)) →
        ((x : ℕ × ℕ × M) → IsIn x w.sent ↔ IsIn x sent) → Good w →
        Good (record { nodes = w.nodes; sent = sent })
    -- each letter was sent to a node
    pub to_nodes : (w : World S M) (a b : ℕ) (m : M) → Good w → WasSent w a b m → b < length w.nodes
    -- exclusion law: at most one node is inside
    pub one_inside : (w : World S M) (i j : ℕ) (s t : S) → Good w → IsNode w i s → IsNode w j t →
        IsInside core s → IsInside core t → i ≡ j
    -- numbering law: if a node can enter, nobody is inside, and its section gets the number one
    -- above the greatest so far; if this number is above the limit, the node is refused
    pub entry : (w : World S M) (i : ℕ) (s : S) → Good w → IsNode w i s → core.can_enter s ≡ true →
        ((j : ℕ) (t : S) → IsNode w j t → IsInside core t → ⊥)
        × ((core.enter s).answer ≡ (if nat_lt (greatest_mine core w) (core.limit s)
        then Ok (greatest_mine core w + 1)
        else Err NumbersSpent))

-- The greatest number that the nodes of a world have reached.
use Rattle.std.proofs.Common.{ℕ, ◌≤◌, ◌≡◌, arith}
use Rattle.mx_stamps.specs.Lists.{greatest}
use Rattle.mx_stamps.proofs.Lists.{greatest_above, greatest_below}
use Rattle.mx_nodelaws.specs.World.{World, IsNode}
use Rattle.mx_nodelaws.specs.Raised.{IsReachedBy}

-- a number that some node has reached, and none has gone above, is the greatest
pub greatest_is : {S M : Type 0} (number : S → ℕ) (w : World S M) (top : ℕ) → ((j : ℕ) (t : S) → IsNode w j t → number t ≤ top) → IsReachedBy number w top → greatest number w.nodes ≡ top
greatest_is number w top below (j, t, tat, up) =
    let low : greatest number w.nodes ≤ top = greatest_below number w.nodes top below in
    let high : number t ≤ greatest number w.nodes = greatest_above number w.nodes j t tat in
    omega arith

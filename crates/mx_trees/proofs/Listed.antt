-- Edges by their places in a list.
use Rattle.std.proofs.Common.{ℕ, zero, suc, ◌<◌, ◌≡◌, inl, inr, List, [], ◌∷◌, length, get_or, slice_index_or, refl, sym, subst, arith}
use Rattle.mx_stamps.specs.Lists.{IsIn}
use Rattle.mx_trees.specs.declared.growth.Growth.{Growth}
use Rattle.mx_trees.specs.Growth.{is_reached, IsClosed}

-- the element at a place is in the list
pub in_at : {X : Type 0} (xs : List X) (k : ℕ) (d : X) → k < length xs → IsIn (get_or xs k d) xs
in_at [] k d lt = absurd (omega arith)
in_at (x ∷ xs) zero d lt = inl refl
in_at (x ∷ xs) (suc k) d lt = inr (in_at xs k d (omega arith))

-- what is in a list has a place there
pub place_of : {X : Type 0} (xs : List X) (x d : X) → IsIn x xs → (k : ℕ) × (k < length xs) × (get_or xs k d ≡ x)
place_of [] x d i = absurd i
place_of (y ∷ ys) x d (inl e) = (zero, omega arith, sym e)
place_of (y ∷ ys) x d (inr i) = let p = place_of ys x d i in (suc p.0, (let q = p.1 in omega arith), p.2)

-- what holds of the edge at each place holds of each edge in the list
pub each_in : (edges : List (ℕ × ℕ)) (P : ℕ × ℕ → Type 0) → ((k : ℕ) → k < length edges → P (get_or edges k (0, 0))) → (e : ℕ × ℕ) → IsIn e edges → P e
each_in edges P f e i = let p = place_of edges e (0, 0) i in subst P p.2 (f p.0 p.1)

-- a tree into which each edge leads with both ends or none is closed
pub linked_alike : (edges : List (ℕ × ℕ)) (g : Growth) → ((k : ℕ) → k < length edges → is_reached g (slice_index_or edges k (0, 0)).0 ≡ is_reached g (slice_index_or edges k (0, 0)).1) → IsClosed edges g
linked_alike edges g f i j l =
    let P : ℕ × ℕ → Type 0 = λ (e : ℕ × ℕ). is_reached g e.0 ≡ is_reached g e.1 in
    elim l [ inl n ↦ each_in edges P f (i, j) n | inr n ↦ sym (each_in edges P f (j, i) n) ]

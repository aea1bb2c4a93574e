-- Stations that come back from threads.
use Rattle.std.proofs.Common.{◌≡◌, ◌∙◌, ◌<◌, ℕ, zero, suc, List, [], ◌∷◌, length, get_or, refl, sym, ap, arith}
use mathlib.Core.Option.{some, some-injective, some-ne-none}
use lib.ListN.{get_elem?}
use Rattle.atomic_table.proofs.Lists.{at_index}
use Rattle.mx_stations.specs.Gathered.{KeepsTable, OfOneTable}
use Rattle.mx_stations.specs.Posts.{Post}

module _ {T P : Type 0} where
  there : (l : List (Post T P)) (k : ℕ) (s : Post T P) → get_elem? l k ≡ some s → get_or l k s ≡ s
  there [] k s is = absurd (some-ne-none s (sym is))
  there (x ∷ xs) zero s is = some-injective x s is
  there (x ∷ xs) (suc k) s is = there xs k s is

  below : (l : List (Post T P)) (k : ℕ) (s : Post T P) → get_elem? l k ≡ some s → k < length l
  below [] k s is = absurd (some-ne-none s (sym is))
  below (x ∷ xs) zero s is = omega arith
  below (x ∷ xs) (suc k) s is = let low = below xs k s is in omega (arith, low)

  whatever : (l : List (Post T P)) (k : ℕ) (s : Post T P) → k < length l → get_or l k s ≡ get_or l k (get_or l k s)
  whatever [] k s low = absurd (omega arith)
  whatever (x ∷ xs) zero s low = refl
  whatever (x ∷ xs) (suc k) s low = whatever xs k s (omega arith)

  -- one for each that went, made of it, and each still at its table
  pub come_back : (went back : List (Post T P)) → length back ≡ length went → ((k : ℕ) (s : Post T P) → k < length went → (job : Post T P) × (get_or went k s ≡ job) × KeepsTable job (get_or back k s))
      → OfOneTable went → OfOneTable back
  come_back went back long kept one = (
    one.0,
    one.1,
    λ k s is.
        let low : k < length went = omega (arith, long, below back k s is) in
        let stays = kept k s low in
        let was = one.2 k (get_or went k s) (at_index went k (get_or went k s) low (whatever went k s low)) in
        let same = sym (there back k s is) in
        let made = sym stays.1 in
        (ap (λ (z : Post T P). z.table) same ∙ stays.2.0 ∙ ap (λ (z : Post T P). z.table) made ∙ was.0, ap (λ (z : Post T P). z.nodes) same ∙ stays.2.1 ∙ ap (λ (z : Post T P). z.nodes) made ∙ was.1),
  )

-- What is so of a worker's acts and moves.
use Rattle.std.proofs.Common.{◌≡◌, inl, inr, ℕ, ap, ◌∙◌}
use Rattle.mx_nodelaws.specs.Core.{Core}
use Rattle.mx_stations.specs.Turns.{Goes, Moves, Station}
use Rattle.mx_stations.specs.Works.{Toils, Works}
use Rattle.mx_stations.proofs.Going.{goes_home, home_of, leads_keep, leads_none, leads_on, leads_once}

module _ {H S M : Type 0} (core : Core H S M) (register : ℕ) where
  pub works_on : (s t u : Station core) → Works core register s t → Works core register t u → Works core register s u
  works_on = leads_on (Toils core register)

  pub works_turning : (s t : Station core) → Goes core s t → Works core register s t
  works_turning = leads_keep (Moves core) (Works core register) (leads_none (Toils core register)) works_on (λ s t did. leads_once (Toils core register) s t (inl did))

  toiled_home : (s t : Station core) → Toils core register s t → home_of t ≡ home_of s
  toiled_home s t (inl did) = goes_home core s t (leads_once (Moves core) s t did)
  toiled_home s t (inr did) = ap home_of did.2

  pub works_home : (s t : Station core) → Works core register s t → home_of t ≡ home_of s
  works_home = leads_keep (Toils core register) (λ s t. home_of t ≡ home_of s) (λ s t same. ap home_of same) (λ s t u a b. b ∙ a) toiled_home

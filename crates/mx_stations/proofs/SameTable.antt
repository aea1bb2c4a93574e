-- A station stays at its table, whatever it does.
use Rattle.std.proofs.Common.{◌≡◌, inl, inr, ℕ, zero, suc, List, [], ◌∷◌, ◌++◌, Result, Ok, Err, IfOk, OnErr, OnOk, refl, sym, ap, subst, ◌∙◌}
use mathlib.Core.Option.{some, some-injective, some-ne-none}
use lib.ListN.{get_elem?}
use Rattle.atomic_table.specs.Seated.{TableId}
use Rattle.mx_nodelaws.specs.Core.{Core}
use Rattle.mx_member.specs.declared.acts.Act.{Act}
use Rattle.mx_stations.specs.declared.answers.PutOut.{PutOut}
use Rattle.mx_stations.specs.declared.answers.PutOut.TheVariants.{Sent, Full, Nothing}
use Rattle.mx_stations.specs.declared.answers.TakeFault.{TakeFault}
use Rattle.mx_stations.specs.declared.answers.Taken.{Taken}
use Rattle.mx_stations.specs.declared.answers.Taken.TheVariants.{Got, Empty}
use Rattle.mx_stations.specs.Gathered.{KeepsTable, OfOneTable}
use Rattle.mx_stations.specs.Opened.{AreFresh}
use Rattle.mx_stations.specs.Posts.{KeepsInHand, Post, PutsOut, TakesIn, does}
use Rattle.mx_stations.specs.Turns.{Goes, Station}
use Rattle.mx_stations.proofs.Gathers.{left_of}
use Rattle.mx_stations.proofs.Going.{goes_home}

module _ {T P : Type 0} where
  same_post : (s t u : Post T P) → t ≡ u → KeepsTable s u → KeepsTable s t
  same_post s t u is kept = (ap (λ (z : Post T P). z.table) is ∙ kept.0, ap (λ (z : Post T P). z.nodes) is ∙ kept.1)

  pub stays_kept : (s t : Post T P) → t ≡ s → KeepsTable s t
  stays_kept s t is = same_post s t s is (refl, refl)

  pub kept_on : (s t u : Post T P) → KeepsTable s t → KeepsTable t u → KeepsTable s u
  kept_on s t u a b = (b.0 ∙ a.0, b.1 ∙ a.1)

  -- a try to put a parcel out
  pub put_kept : (s t : Post T P) (r : PutOut) → PutsOut s r t → KeepsTable s t
  put_kept s t Sent did = same_post s t _ did.6 (refl, refl)
  put_kept s t Full did = same_post s t _ did.4 (refl, refl)
  put_kept s t Nothing did = stays_kept s t did.1

  -- the stations of a new table
  pub fresh_table : (n : ℕ) (starts : ℕ → T) (all : List (Post T P)) → AreFresh n starts all → OfOneTable all
  fresh_table n starts all fresh = (fresh.1.0, n, λ k s at. let r = fresh.1.1 k s at in (r.0, r.1))

  -- one station, and two of one table
  pub one_alone : (s : Post T P) → OfOneTable (s ∷ [])
  one_alone s = (s.table, s.nodes, λ k t at. one k t at)
    where
      one : (k : ℕ) (t : Post T P) → get_elem? (s ∷ []) k ≡ some t → (t.table ≡ s.table) × (t.nodes ≡ s.nodes)
      one zero t at = stays_kept s t (sym (some-injective s t at))
      one (suc k) t at = absurd (some-ne-none t (sym at))

  pub both_there : (s t : Post T P) → KeepsTable s t → OfOneTable (s ∷ t ∷ [])
  both_there s t kept = (s.table, s.nodes, λ k u at. each k u at)
    where
      each : (k : ℕ) (u : Post T P) → get_elem? (s ∷ t ∷ []) k ≡ some u → (u.table ≡ s.table) × (u.nodes ≡ s.nodes)
      each zero u at = stays_kept s u (sym (some-injective s u at))
      each (suc zero) u at = same_post s u t (sym (some-injective t u at)) kept
      each (suc (suc k)) u at = absurd (some-ne-none u (sym at))

  -- no station at all
  pub none_there : OfOneTable {T = T} {P = P} []
  none_there = (record { words = 0; slots = 0; views_name = 0; atom = 0; block = 0; offset = 0; slot_names = [] }, 0, λ k s at. absurd (some-ne-none s (sym at)))

  -- the last two of a new table
  pub last_two : (n : ℕ) (starts : ℕ → T) (all more left : List (Post T P)) (s t : Post T P) → AreFresh n starts all → all ≡ more ++ t ∷ [] → more ≡ left ++ s ∷ [] → KeepsTable s t
  last_two n starts all more left s t fresh is is_more =
      let one = fresh_table n starts all fresh in
      let last = left_of (λ (p : Post T P). (p.table ≡ one.0) × (p.nodes ≡ one.1)) all more t is one.2 in
      let next = left_of (λ (p : Post T P). (p.table ≡ one.0) × (p.nodes ≡ one.1)) more left s is_more last.0 in
      (last.1.0 ∙ sym next.1.0, last.1.1 ∙ sym next.1.1)

  -- what is so of each, and of one more
  pushed : (Q : Post T P → Type 0) (xs : List (Post T P)) (t : Post T P) → ((k : ℕ) (u : Post T P) → get_elem? xs k ≡ some u → Q u) → Q t → (k : ℕ) (u : Post T P) → get_elem? (xs ++ t ∷ []) k ≡ some u → Q u
  pushed Q [] t all is zero u at = subst Q (some-injective t u at) is
  pushed Q [] t all is (suc k) u at = absurd (some-ne-none u (sym at))
  pushed Q (x ∷ xs) t all is zero u at = all zero u at
  pushed Q (x ∷ xs) t all is (suc k) u at = pushed Q xs t (λ j v there. all (suc j) v there) is k u at

  -- the first of some stations of one table goes to their end, still at its table
  pub goes_last : (s t : Post T P) (xs old new : List (Post T P)) → old ≡ s ∷ xs → new ≡ xs ++ t ∷ [] → KeepsTable s t → OfOneTable old → OfOneTable new
  goes_last s t xs old new is grown kept one =
      let all : (k : ℕ) (u : Post T P) → get_elem? (s ∷ xs) k ≡ some u → (u.table ≡ one.0) × (u.nodes ≡ one.1) = subst (λ (l : List (Post T P)). (k : ℕ) (u : Post T P) → get_elem? l k ≡ some u → (u.table ≡ one.0) × (u.nodes ≡ one.1)) is one.2 in
      let first = all 0 s refl in (
        one.0,
        one.1,
        subst (λ (l : List (Post T P)). (k : ℕ) (u : Post T P) → get_elem? l k ≡ some u → (u.table ≡ one.0) × (u.nodes ≡ one.1)) (sym grown)
            (pushed (λ (u : Post T P). (u.table ≡ one.0) × (u.nodes ≡ one.1)) xs t (λ k u at. all (suc k) u at) (kept.0 ∙ first.0, kept.1 ∙ first.1)),
      )

module _ {H S M : Type 0} (core : Core H S M) where
  -- an act, and a refused one
  pub act_kept : {A E : Type 0} (a : Act M) (r : Result A E) (s t : Station core) → OnOk r (t ≡ does core a s) → OnErr r (t ≡ s) → KeepsTable s t
  act_kept a (Ok x) s t did refused = same_post s t _ did (refl, refl)
  act_kept a (Err e) s t did refused = stays_kept s t refused

  -- a try to take a parcel in
  pub take_kept : (from : ℕ) (r : Result Taken TakeFault) (s t : Station core) → IfOk r (λ taken. TakesIn core from s taken t) → OnErr r (KeepsInHand from s t) → KeepsTable s t
  take_kept from (Ok Got) s t (inl did) fault = same_post s t _ did.3 (refl, refl)
  take_kept from (Ok Got) s t (inr did) fault = kept_on s did.0 t (same_post s did.0 _ did.1.1.3 (refl, refl)) (same_post did.0 t _ did.2.3 (refl, refl))
  take_kept from (Ok Empty) s t did fault = stays_kept s t did.1
  take_kept from (Err e) s t did (inl fault) = stays_kept s t fault.1
  take_kept from (Err e) s t did (inr fault) = same_post s t _ fault.1.3 (refl, refl)

  -- a turn
  pub goes_kept : (s t : Station core) → Goes core s t → KeepsTable s t
  goes_kept s t did = let same = goes_home core s t did in (ap (λ (h : TableId × ℕ × ℕ). h.0) same, ap (λ (h : TableId × ℕ × ℕ). h.1) same)

-- Lists of steps, one after another: what is so of each step is so of all.
use Rattle.std.proofs.Common.{◌≡◌, inl, inr, ℕ, List, [], ◌∷◌, ◌++◌, Bool, true, false, MatchBool, Option, None, refl, sym, ap, ◌∙◌, subst}
use Rattle.atomic_table.specs.Seated.{TableId}
use Rattle.mx_letters.specs.declared.fates.Fate.{Fate}
use Rattle.mx_letters.specs.declared.fates.Fate.TheVariants.{Pass, Drop, Twice}
use Rattle.mx_nodelaws.specs.Core.{Core}
use Rattle.mx_member.specs.declared.acts.Act.TheVariants.{Deliver, Tick}
use Rattle.mx_member.specs.declared.parcel.Parcel.{Parcel}
use Rattle.mx_stations.specs.declared.answers.PutOut.{PutOut}
use Rattle.mx_stations.specs.declared.answers.PutOut.TheVariants.{Sent, Full, Nothing}
use Rattle.mx_stations.specs.Posts.{DeliversAs, Post, PutsOut, after_act, does}
use Rattle.mx_stations.specs.Turns.{Goes, IsFated, Leads, Moves, Path, Station}

module _ {X : Type 0} (Step : X → X → Type 0) where
  pub leads_none : (s t : X) → t ≡ s → Leads Step s t
  leads_none s t same = ([], same)

  pub leads_once : (s t : X) → Step s t → Leads Step s t
  leads_once s t did = (t ∷ [], (did, refl))

  pub path_on : (ms ns : List X) (s t u : X) → Path Step ms s t → Path Step ns t u → Path Step (ms ++ ns) s u
  path_on [] ns s t u same more = subst (λ (z : X). Path Step ns z u) same more
  path_on (m ∷ ms) ns s t u did more = (did.0, path_on ms ns m t u did.1 more)

  pub leads_on : (s t u : X) → Leads Step s t → Leads Step t u → Leads Step s u
  leads_on s t u a b = (a.0 ++ b.0, path_on a.0 b.0 s t u a.1 b.1)

  -- what is so of no step, of one step, and of two parts one after another
  pub leads_keep : (Kept : X → X → Type 0) → ((s t : X) → t ≡ s → Kept s t) → ((s t u : X) → Kept s t → Kept t u → Kept s u) → ((s t : X) → Step s t → Kept s t) → (s t : X) → Leads Step s t → Kept s t
  leads_keep Kept here on step s t (ms, did) = along ms s t did
    where
      along : (ms : List X) (s t : X) → Path Step ms s t → Kept s t
      along [] s t same = here s t same
      along (m ∷ ms) s t did = on s m t (step s m did.0) (along ms m t did.1)

-- whose station it is: its table, how many nodes that has, and its node
abbrev pub home_of : {T P : Type 0} → Post T P → TableId × ℕ × ℕ
home_of s = (s.table, s.nodes, s.me.node)

module _ {H S M : Type 0} (core : Core H S M) where
  pub stays : (s t : Station core) → t ≡ s → Goes core s t
  stays = leads_none (Moves core)

  pub goes_on : (s t u : Station core) → Goes core s t → Goes core t u → Goes core s u
  goes_on = leads_on (Moves core)

  pub goes_putting : (s t : Station core) (r : PutOut) → PutsOut s r t → Goes core s t
  goes_putting s t r did = leads_once (Moves core) s t (inr (inr (inr (inr (inl (r, did))))))

  pub goes_ticking : (s t : Station core) → t ≡ does core Tick s → Goes core s t
  goes_ticking s t did = leads_once (Moves core) s t (inr (inr (inr (inr (inr did)))))

  -- a try to deliver
  pub goes_had : (again : Bool) (s t : Station core) (b : Bool) → MatchBool b (DeliversAs core again s t) ((s.me.hand ≡ None) × (t ≡ s)) → Goes core s t
  goes_had again s t false none = stays s t none.1
  goes_had true s t true did = leads_once (Moves core) s t (inl did)
  goes_had false s t true did = leads_once (Moves core) s t (inr (inl did))

  -- the hand is empty after it
  pub hand_empty : (s t : Station core) (b : Bool) → MatchBool b (DeliversAs core false s t) ((s.me.hand ≡ None) × (t ≡ s)) → t.me.hand ≡ None
  hand_empty s t true did = ap (λ (z : Station core). z.me.hand) did.3
  hand_empty s t false none = ap (λ (z : Station core). z.me.hand) none.1 ∙ none.0

  -- a parcel that is taken
  pub goes_fated : (from : ℕ) (fate : Fate) (s t : Station core) → IsFated from fate s t → Goes core s t
  goes_fated from Pass s t did = leads_once (Moves core) s t (inr (inr (inl (from, did))))
  goes_fated from Drop s t did = leads_once (Moves core) s t (inr (inr (inr (inl (from, did)))))
  goes_fated from Twice s t did = leads_once (Moves core) s t (inr (inr (inl (from, did))))

  -- what is so of two parts one after another, of a step that leaves home, member and receipts, of a delivery, and of a tick
  module _ (Kept : Station core → Station core → Type 0) (on : (s t u : Station core) → Kept s t → Kept t u → Kept s u)
      (still : (s t : Station core) → home_of t ≡ home_of s → t.me.member ≡ s.me.member → t.me.receipts ≡ s.me.receipts → Kept s t)
      (delivers : (from : ℕ) (p : Parcel M) (hand : Option (ℕ × Parcel M)) (s : Station core) → Kept s (after_act core (Deliver from p) hand s)) (ticks : (s : Station core) → Kept s (does core Tick s)) where
    as_kept : (s t u : Station core) → t ≡ u → Kept s u → Kept s t
    as_kept s t u same kept = subst (λ (z : Station core). Kept s z) (sym same) kept

    puts : (s t : Station core) (r : PutOut) → PutsOut s r t → Kept s t
    puts s t Sent did = as_kept s t _ did.6 (still s _ refl refl refl)
    puts s t Full did = as_kept s t _ did.4 (still s _ refl refl refl)
    puts s t Nothing did = as_kept s t s did.1 (still s s refl refl refl)

    moves : (s t : Station core) → Moves core s t → Kept s t
    moves s t (inl did) = as_kept s t _ did.3 (delivers did.0 did.1 s.me.hand s)
    moves s t (inr (inl did)) = as_kept s t _ did.3 (delivers did.0 did.1 None s)
    moves s t (inr (inr (inl did))) = as_kept s t _ did.1.1.3 (still s _ refl refl refl)
    moves s t (inr (inr (inr (inl did)))) = as_kept s t _ did.1.1.3 (still s _ refl refl refl)
    moves s t (inr (inr (inr (inr (inl did))))) = puts s t did.0 did.1
    moves s t (inr (inr (inr (inr (inr did))))) = as_kept s t _ did (ticks s)

    -- is so of a turn
    pub goes_keep : (s t : Station core) → Goes core s t → Kept s t
    goes_keep = leads_keep (Moves core) Kept (λ s t same. as_kept s t s same (still s s refl refl refl)) on moves

  pub goes_home : (s t : Station core) → Goes core s t → home_of t ≡ home_of s
  goes_home = goes_keep (λ s t. home_of t ≡ home_of s) (λ s t u a b. b ∙ a) (λ s t home member receipts. home) (λ from p hand s. refl) (λ s. refl)

  pub goes_nodes : (s t : Station core) → Goes core s t → t.nodes ≡ s.nodes
  goes_nodes s t did = ap (λ (h : TableId × ℕ × ℕ). h.1) (goes_home s t did)

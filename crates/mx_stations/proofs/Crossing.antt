-- What a station knows of its node before and after a move of a parcel.
use Rattle.std.proofs.Common.{◌≡◌, ◌≢◌, ◌⊎◌, inl, inr, ℕ, ◌<◌, List, [], ◌∷◌, ◌++◌, Bool, true, false, MatchBool, Option, Some, None, refl, sym, ap, ◌∙◌, subst}
use Rattle.atomic_table.specs.Table.{Me}
use Rattle.atomic_table.specs.Seated.{TableId}
use Rattle.mx_stamps.specs.Lists.{IsIn}
use Rattle.mx_journal.specs.declared.receipts.Receipt.{Receipt}
use Rattle.mx_letters.specs.declared.fates.Fate.{Fate}
use Rattle.mx_letters.specs.declared.fates.Fate.TheVariants.{Pass, Drop, Twice}
use Rattle.mx_nodelaws.specs.Core.{Core}
use Rattle.mx_member.specs.declared.parcel.Parcel.{Parcel}
use Rattle.mx_member.specs.Member.{MemberState}
use Rattle.mx_member.specs.Steps.{IsTakeable}
use Rattle.mx_stations.specs.declared.answers.PutOut.TheVariants.{Sent, Full}
use Rattle.mx_stations.specs.Entries.{Entry}
use Rattle.mx_stations.specs.Links.{of, slot_at}
use Rattle.mx_stations.specs.Slides.{claiming, placing, taking, releasing, Claims, HasEmptied, HasTaken, HasUsed, Takes, placed_view, released_view, IsFilling, IsHolding, KeepsHand}
use Rattle.mx_stations.specs.Posts.{Delivers, Fetches, FindsNone, Post, PutsOut, Waits, post, sent_in, shown, slot_from}
use Rattle.mx_stations.specs.Turns.{IsFated, fated_hand}
use Rattle.mx_stations.proofs.Places.{only_one}
use Rattle.mx_stations.proofs.Posts.{settled}
use Rattle.mx_stations.proofs.Slides.{some_is}
use Rattle.mx_stations.proofs.Waits.{waits_still}

module _ {T P : Type 0} where
  module _ (i : ℕ) (x : T) (held : Option (ℕ × P)) (r : List Receipt) (m : Me (Option P) (List (Entry T P))) (is : m ≡ (shown i x held r m.0 ∷ [], [])) where
    abbrev me : Entry T P
    me = shown i x held r m.0

    only_me : (e : Entry T P) → m.0 ≡ e ∷ [] → e ≡ me
    only_me e at = only_one e me (sym at ∙ ap (λ (z : Me (Option P) (List (Entry T P))). z.0) is)

    -- the seat's slot, ready to be filled
    filling : (k : ℕ) (m1 : Me (Option P) (List (Entry T P))) → Claims k m m1 → (m1 ≡ (claiming k me ∷ [], (k, None) ∷ []))
    filling k m1 c =
        let one : c.0 ≡ me = only_me c.0 c.1 in
        c.2 ∙ (λ j. (claiming k (one j) ∷ [], (k, None) ∷ (is j).1))

    pub fills : (k to : ℕ) (p : P) (m1 : Me (Option P) (List (Entry T P))) → Claims k m m1 → IsIn (to, p) (sent_in m.0) → IsFilling m1 k i to p
    fills k to p m1 claims sent = (claiming k me, filling k m1 claims, refl, refl, sent)

    after_place : (k : ℕ) (p : P) (m1 m2 : Me (Option P) (List (Entry T P))) → Claims k m m1 → m2 ≡ (placed_view k p m1.0, []) → m2 ≡ (placing k p me ∷ [], [])
    after_place k p m1 m2 claims view = view ∙ ap (λ (z : Me (Option P) (List (Entry T P))). (placed_view k p z.0, [])) (filling k m1 claims)

    pub placed_seat : (k : ℕ) (p : P) (m1 m2 : Me (Option P) (List (Entry T P))) → Claims k m m1 → m2 ≡ (placed_view k p m1.0, []) → m2 ≡ (shown i x held r m2.0 ∷ [], [])
    placed_seat k p m1 m2 claims view = (settled i x held r m2 (placing k p me) (after_place k p m1 m2 claims view) refl).0

    pub placed_waits : (k : ℕ) (p : P) (m1 m2 : Me (Option P) (List (Entry T P))) (n : ℕ) (w w' : List (ℕ × P)) → Claims k m m1 → m2 ≡ (placed_view k p m1.0, []) → Waits n (sent_in m.0) w → ((x : ℕ × P) → IsIn x w' → IsIn x w) → Waits n (sent_in m2.0) w'
    placed_waits k p m1 m2 n w w' claims view waits among =
        waits_still n (sent_in m.0) (sent_in m2.0) w w' waits (ap (λ (z : Me (Option P) (List (Entry T P))). sent_in z.0) (after_place k p m1 m2 claims view)) among

    pub put_sent : (k to u : ℕ) (p : P) (m1 m2 : Me (Option P) (List (Entry T P))) (table table' : TableId) (n : ℕ) (w w' : List (ℕ × P)) (s : Post T P) → post table n me w ≡ s → table' ≡ table
        → k ≡ slot_at n i to u → u < 4 → Claims k m m1 → m2 ≡ (placed_view k p m1.0, []) → w ≡ (to, p) ∷ w' → PutsOut s Sent (post table' n (shown i x held r m2.0) w')
    put_sent k to u p m1 m2 table table' n w w' s same same_table k_is un claims view first =
        subst (λ (z : Post T P). PutsOut z Sent (post table' n (shown i x held r m2.0) w')) same (
          to,
          p,
          w',
          first,
          u,
          un,
          (λ j. post (same_table j) n ((settled i x held r m2 (placing k p me) (after_place k p m1 m2 claims view) refl).1 j) w')
              ∙ (λ j. post table n (placing (k_is j) p me) w'),
        )

    pub put_full : (k : ℕ → ℕ) (to : ℕ) (p : P) (m1 : Me (Option P) (List (Entry T P))) (table table' : TableId) (n : ℕ) (w w' w2 : List (ℕ × P)) (s : Post T P) → post table n me w ≡ s → table' ≡ table
        → ((u : ℕ) → k u ≡ slot_at n i to u) → m1 ≡ m → ((u : ℕ) → u < 4 → HasUsed (k u) m) → w ≡ (to, p) ∷ w' → w2 ≡ w' ++ (to, p) ∷ [] → PutsOut s Full (post table' n (shown i x held r m1.0) w2)
    put_full k to p m1 table table' n w w' w2 s same same_table k_is still used first turned =
        subst (λ (z : Post T P). PutsOut z Full (post table' n (shown i x held r m1.0) w2)) same (
          to,
          p,
          w',
          first,
          (λ j. post (same_table j) n (shown i x held r (still j).0) (turned j)),
          (λ u un. let c = used u un in subst (λ (z : ℕ × Entry T P). of z.0 z.1.placed ≢ []) (λ j. (k_is u j, only_me c.0 c.1 j)) c.2),
        )

    pub turned_waits : (m1 : Me (Option P) (List (Entry T P))) (n : ℕ) (w w' : List (ℕ × P)) → m1 ≡ m → Waits n (sent_in m.0) w → ((x : ℕ × P) → IsIn x w' → IsIn x w) → Waits n (sent_in m1.0) w'
    turned_waits m1 n w w' same waits among = waits_still n (sent_in m.0) (sent_in m1.0) w w' waits (ap (λ (z : Me (Option P) (List (Entry T P))). sent_in z.0) same) among

    -- the seat has the slot, in which the parcel that it took still lies
    pub has_taken : (k from : ℕ) (m1 : Me (Option P) (List (Entry T P))) (took : Takes k from m m1) → HasTaken k from me took.2.0 m1
    has_taken k from m1 took =
        let one : took.0 ≡ me = only_me took.0 took.1 in
        took.2.1 ∙ (λ j. (taking k from took.2.0 (one j) ∷ [], (k, Some took.2.0) ∷ (is j).1))

    pub finds_none : (k : ℕ → ℕ) (from : ℕ) (m1 : Me (Option P) (List (Entry T P))) (table table' : TableId) (n : ℕ) (w : List (ℕ × P)) (s : Post T P) → post table n me w ≡ s → table' ≡ table → s.me.hand ≡ None → ((u : ℕ) → k u ≡ slot_at n from i u)
        → m1 ≡ m → ((u : ℕ) → u < 4 → HasEmptied (k u) from m) → FindsNone from s (post table' n (shown i x held r m1.0) w)
    finds_none k from m1 table table' n w s same same_table empty k_is still emptied =
        subst (λ (z : Post T P). (z.me.hand ≡ None) → FindsNone from z (post table' n (shown i x held r m1.0) w)) same
        (λ none. (
          none,
          (λ j. post (same_table j) n (shown i x held r (still j).0) w),
          (λ own u un. let c = emptied u un in let one = only_me c.0 c.1 in subst (λ (z : ℕ × Entry T P). of z.0 z.1.placed ≡ of z.0 z.1.taken) (λ j. (k_is u j, one j)) (c.2 (own ∙ ap (λ (z : Entry T P). z.node) (sym one)))),
        ))
        empty

    -- the seat with what is in hand of the parcel, by its fate
    pub fated_seat : (k from : ℕ) (m2 : Me (Option P) (List (Entry T P))) (q : P) (h : Option (ℕ × P)) → m2 ≡ (releasing h (taking k from q me) ∷ [], [])
        → (m2 ≡ (shown i x h r m2.0 ∷ [], [])) × (sent_in m2.0 ≡ sent_in m.0)
    fated_seat k from m2 q h now = ((settled i x h r m2 (releasing h (taking k from q me)) now refl).0, (λ j. sent_in (now j).0))

    crosses : (fate : Fate) (k from u : ℕ) (m2 : Me (Option P) (List (Entry T P))) (q : P) (h : Option (ℕ × P)) (table table' : TableId) (n : ℕ) (w : List (ℕ × P)) (s : Post T P) → post table n me w ≡ s → table' ≡ table → k ≡ slot_at n from i u
        → m2 ≡ (releasing h (taking k from q me) ∷ [], []) → h ≡ fated_hand fate (from, q)
        → post table' n (shown i x h r m2.0) w ≡ post s.table s.nodes (releasing (fated_hand fate (from, q)) (taking (slot_from s from u) from q s.me)) s.waiting
    crosses fate k from u m2 q h table table' n w s same same_table k_is seat is_hand =
        let now = (settled i x h r m2 (releasing h (taking k from q me)) seat refl).1 in
        (λ j. post (same_table j) n (now j) w) ∙ (λ j. post table n (releasing (is_hand j) (taking (k_is j) from q me)) w)
        ∙ ap (λ (z : Post T P). post z.table z.nodes (releasing (fated_hand fate (from, q)) (taking (slot_from z from u) from q z.me)) z.waiting) same

    pub fated : (fate : Fate) (k from u : ℕ) (m2 : Me (Option P) (List (Entry T P))) (q : P) (h : Option (ℕ × P)) (table table' : TableId) (n : ℕ) (w : List (ℕ × P)) (s : Post T P) → post table n me w ≡ s → table' ≡ table → s.me.hand ≡ None → k ≡ slot_at n from i u → u < 4
        → m2 ≡ (releasing h (taking k from q me) ∷ [], []) → h ≡ fated_hand fate (from, q)
        → IsFated from fate s (post table' n (shown i x h r m2.0) w)
    fated Pass k from u m2 q h table table' n w s same same_table empty k_is un seat is_hand = (empty, (q, u, un, crosses Pass k from u m2 q h table table' n w s same same_table k_is seat is_hand))
    fated Drop k from u m2 q h table table' n w s same same_table empty k_is un seat is_hand = (empty, (q, u, un, crosses Drop k from u m2 q h table table' n w s same same_table k_is seat is_hand))
    fated Twice k from u m2 q h table table' n w s same same_table empty k_is un seat is_hand = (empty, (q, u, un, crosses Twice k from u m2 q h table table' n w s same same_table k_is seat is_hand))

-- The seat took this parcel out of the slot k, and gives the slot back with this in hand.
module _ {T P : Type 0} (k from node : ℕ) (e : Entry T P) (p q : P) (m m1 : Me (Option P) (List (Entry T P))) (has : HasTaken k from e p m) (lay : m.1 ≡ (k, Some q) ∷ []) (view : m1 ≡ (m.0, (k, None) ∷ [])) where
  pub lifted_is : p ≡ q
  lifted_is = some_is p q (ap (λ (z : ℕ × Option P). z.1) (only_one (k, Some p) (k, Some q) (sym (ap (λ (z : Me (Option P) (List (Entry T P))). z.1) has) ∙ lay)))

  lifted : m1 ≡ (taking k from q e ∷ [], (k, None) ∷ [])
  lifted = view ∙ (λ j. ((has j).0, (k, None) ∷ [])) ∙ (λ j. (taking k from (lifted_is j) e ∷ [], (k, None) ∷ []))

  pub holds_none : e.node ≡ node → IsHolding m1 k node None
  holds_none is = (taking k from q e, lifted, is, refl)

  keeps_hand : KeepsHand m1.0 (Some (from, q))
  keeps_hand f at =
      inl (ap (λ (z : Entry T P). z.hand) (only_one (taking k from q e) f (sym (ap (λ (z : Me (Option P) (List (Entry T P))). z.0) lifted) ∙ at)))

  pub keeps_fated : (fate : Fate) → KeepsHand m1.0 (fated_hand fate (from, q))
  keeps_fated Pass = keeps_hand
  keeps_fated Drop = λ f at. inr refl
  keeps_fated Twice = keeps_hand

  -- the hand and the seat after it
  pub lifts_fated : (fate : Fate) (h : Option (ℕ × P)) (m2 : Me (Option P) (List (Entry T P))) → h ≡ fated_hand fate (from, q) → m2 ≡ (released_view h m1.0, [])
      → (h ≡ fated_hand fate (from, p)) × (m2 ≡ (releasing h (taking k from p e) ∷ [], []))
  lifts_fated fate h m2 is given = (
    is ∙ ap (λ (z : P). fated_hand fate (from, z)) (sym lifted_is),
    given ∙ (λ j. (released_view h (lifted j).0, [])) ∙ (λ j. (releasing h (taking k from (sym lifted_is j) e) ∷ [], [])),
  )

module _ {H S M : Type 0} (core : Core H S M) where
  abbrev P : Type 0
  P = Post (MemberState S) (Parcel M)

  -- a parcel was fetched, and what is fetched is delivered
  pub took : (from : ℕ) (s s1 s2 t : P) (b : Bool) → (s.me.hand ≡ None) × (s1 ≡ s) → Fetches from s1 s2 → MatchBool b (Delivers core s2 t) ((s2.me.hand ≡ None) × (t ≡ s2)) → Delivers core s t ⊎ ((mid : P) × Fetches from s mid × Delivers core mid t)
  took from s s1 s2 t true still got did = inr (s2, subst (λ (z : P). Fetches from z s2) still.1 got, did)
  took from s s1 s2 t false still got did = let full : s2.me.hand ≡ Some (from, got.1.0) = ap (λ (z : P). z.me.hand) got.1.3 in let empty : s2.me.hand ≡ None = did.0 in absurd (cc)

  pub none_there : (from : ℕ) (s s1 t : P) → (s.me.hand ≡ None) × (s1 ≡ s) → FindsNone from s1 t → FindsNone from s t
  none_there from s s1 t still found = subst (λ (z : P). FindsNone from z t) still.1 found

-- the parcel in hand is the one that the member can take
pub held_takes : {S M : Type 0} (x : MemberState S) (hand : Option (ℕ × Parcel M)) (s : Post (MemberState S) (Parcel M)) (held : ℕ × Parcel M) → s.me.member ≡ x → s.me.hand ≡ hand → hand ≡ Some held
    → ((from : ℕ) × (p : Parcel M) × (s.me.hand ≡ Some (from, p)) × IsTakeable from p s.me.member) → IsTakeable held.0 held.1 x
held_takes {S} {M} x hand s held member same is can =
    subst (λ (z : (ℕ × Parcel M) × MemberState S). IsTakeable z.0.0 z.0.1 z.1) (λ i. (some_is (can.0, can.1) held (sym can.2 ∙ same ∙ is) i, member i)) can.3

-- Lists of nodes and of what they sent, and where each node stands.
use Rattle.std.proofs.Common.{◌≡◌, ◌≢◌, ◌⊎◌, inl, inr, ⊎_elim, ℕ, zero, suc, ◌<◌, List, [], ◌∷◌, ◌++◌, Some, length, set, get_or, slice_get, refl, sym, ap, ◌∙◌, subst, arith, length-set}
use mathlib.Core.Option.{some, some-injective, some-ne-none}
use lib.ListN.{get_elem?}
use native.Mathlib.Decide.{ℕ_discrete}
use mathlib.Core.Logic.{dite}
use Rattle.atomic_table.specs.Table.{State}
use Rattle.atomic_table.proofs.Lists.{at_set, set_again, set_here, set_else}
use Rattle.mx_stamps.specs.Lists.{IsIn}
use Rattle.mx_stamps.proofs.Lists.{in_append, in_left, in_right}
use Rattle.mx_nodelaws.specs.World.{sent_by}
use Rattle.mx_member.specs.Acts.{Grows}
use Rattle.mx_member.proofs.CorePart.{in_sent}
use Rattle.mx_stations.specs.Entries.{Entry}
use Rattle.mx_stations.specs.Running.{Once, Stands, sent_of}

pub set_same : (ns : List ℕ) (i : ℕ) → set ns i (get_or ns i 0) ≡ ns
set_same [] i = refl
set_same (n ∷ ns) zero = refl
set_same (n ∷ ns) (suc i) = λ j. n ∷ set_same ns i j

-- a step that leaves its word and its view as they are leaves the table as it is
pub again : {S V : Type 0} (Rule : State S V → Type 0) (s : State S V) (i id : ℕ) (v : V) → get_elem? s.views id ≡ some v → Rule s → Rule record { words = set s.words i (get_or s.words i 0); homes = s.homes; views = set s.views id v }
again {S} {V} Rule s i id v at h =
    subst (λ (z : List ℕ × List V). Rule record { words = z.0; homes = s.homes; views = z.1 }) (λ j. (sym (set_same s.words i) j, sym (set_again s.views id v at) j)) h

module _ {A : Type 0} where
  pub within : (l : List A) (i : ℕ) (a : A) → get_elem? l i ≡ some a → i < length l
  within [] i a e = absurd (some-ne-none a (sym e))
  within (x ∷ xs) zero a e = omega arith
  within (x ∷ xs) (suc i) a e = let h = within xs i a e in omega arith

  pub one_at : (l : List A) (i : ℕ) (a b : A) → get_elem? l i ≡ some a → get_elem? l i ≡ some b → a ≡ b
  one_at l i a b p q = some-injective a b (sym p ∙ q)

  pub in_one : (x y : A) → IsIn x (y ∷ []) → x ≡ y
  in_one x y (inl e) = e
  in_one x y (inr h) = absurd h

  pub only_one : (a b : A) → a ∷ [] ≡ b ∷ [] → a ≡ b
  only_one a b e = some-injective a b (ap (λ l. get_elem? l 0) e)

-- the same place of a list, in the words of a slice
pub as_slice_at : {A : Type 0} (l : List A) (i : ℕ) (a : A) → get_elem? l i ≡ some a → slice_get l i ≡ Some a
as_slice_at [] i a e = absurd (some-ne-none a (sym e))
as_slice_at (x ∷ xs) zero a e = ap (λ y. Some y) (some-injective x a e)
as_slice_at (x ∷ xs) (suc i) a e = as_slice_at xs i a e

module _ {P : Type 0} where
  pub sent_out : (i : ℕ) (l : ℕ × ℕ × P) (xs : List (ℕ × P)) → IsIn l (sent_by i xs) → (l.0 ≡ i) × IsIn (l.1, l.2) xs
  sent_out i l [] h = absurd h
  sent_out i l (y ∷ ys) (inl e) = (ap (λ (z : ℕ × ℕ × P). z.0) e, inl (λ k. ((e k).1, (e k).2)))
  sent_out i l (y ∷ ys) (inr h) = let r = sent_out i l ys h in (r.0, inr r.1)

module _ {T P : Type 0} where
  pub sent_in_world : (world : List (Entry T P)) (k : ℕ) (e : Entry T P) (x : ℕ × P) → get_elem? world k ≡ some e → IsIn x e.sent → IsIn (e.node, x.0, x.1) (sent_of world)
  sent_in_world [] k e x at h = absurd (some-ne-none e (sym at))
  sent_in_world (f ∷ world) zero e x at h =
      let is = some-injective f e at in
      subst (λ (z : Entry T P). IsIn (z.node, x.0, x.1) (sent_by f.node f.sent ++ sent_of world)) is (in_left (f.node, x.0, x.1) (sent_by f.node f.sent) (sent_of world) (in_sent f.node f.sent x.0 x.1 (subst (λ (z : Entry T P). IsIn x z.sent) (sym is) h)))
  sent_in_world (f ∷ world) (suc k) e x at h = in_right (e.node, x.0, x.1) (sent_by f.node f.sent) (sent_of world) (sent_in_world world k e x at h)

  -- and what the world sent one of its nodes sent
  pub sender_of : (world : List (Entry T P)) (l : ℕ × ℕ × P) → IsIn l (sent_of world) → (k : ℕ) × (f : Entry T P) × (get_elem? world k ≡ some f) × (l.0 ≡ f.node) × IsIn (l.1, l.2) f.sent
  sender_of [] l h = absurd h
  sender_of (f ∷ world) l h =
      ⊎_elim
      (λ a. let r = sent_out f.node l f.sent a in (0, f, refl, r.0, r.1))
      (λ b. let r = sender_of world l b in (suc r.0, r.1, r.2, r.3, r.4))
      (in_append l (sent_by f.node f.sent) (sent_of world) h)

  -- what a node may change, and the parcels after that
  abbrev Sends : Entry T P → List (ℕ × P) → Entry T P → Type 0
  Sends e out e' = (e'.node ≡ e.node) × (e'.sent ≡ e.sent ++ out)

  pub still : (world : List (Entry T P)) (k : ℕ) (e e' : Entry T P) (out : List (ℕ × P)) (l : ℕ × ℕ × P) → get_elem? world k ≡ some e → Sends e out e' → IsIn l (sent_of world) → IsIn l (sent_of (set world k e'))
  still [] k e e' out l at sends h = absurd h
  still (f ∷ world) zero e e' out l at sends h =
      let is = some-injective f e at in
      let old = in_append l (sent_by f.node f.sent) (sent_of world) h in
      ⊎_elim
      (λ a. let r = sent_out f.node l f.sent a in
      let x : ℕ × P = (l.1, l.2) in
      let there : IsIn x e'.sent = subst (λ (z : List (ℕ × P)). IsIn x z) (sym sends.1) (in_left x e.sent out (subst (λ (z : Entry T P). IsIn x z.sent) is r.1)) in
      let from : l.0 ≡ e'.node = r.0 ∙ ap (λ (z : Entry T P). z.node) is ∙ sym sends.0 in
      in_left l (sent_by e'.node e'.sent) (sent_of world) (subst (λ (i : ℕ). IsIn (i, l.1, l.2) (sent_by e'.node e'.sent)) (sym from) (in_sent e'.node e'.sent x.0 x.1 there)))
      (λ b. in_right l (sent_by e'.node e'.sent) (sent_of world) b)
      old
  still (f ∷ world) (suc k) e e' out l at sends h =
      ⊎_elim (λ a. in_left l (sent_by f.node f.sent) (sent_of (set world k e')) a) (λ b. in_right l (sent_by f.node f.sent) (sent_of (set world k e')) (still world k e e' out l at sends b)) (in_append l (sent_by f.node f.sent) (sent_of world) h)

  no_other : (world : List (Entry T P)) (k : ℕ) (e e' : Entry T P) (out : List (ℕ × P)) (l : ℕ × ℕ × P) → get_elem? world k ≡ some e → Sends e out e' → IsIn l (sent_of (set world k e')) → IsIn l (sent_of world) ⊎ ((l.0 ≡ e.node) × IsIn (l.1, l.2) out)
  no_other [] k e e' out l at sends h = absurd h
  no_other (f ∷ world) zero e e' out l at sends h =
      let is = some-injective f e at in
      let x : ℕ × P = (l.1, l.2) in
      ⊎_elim
      (λ a. let r = sent_out e'.node l e'.sent a in
      let from : l.0 ≡ e.node = r.0 ∙ sends.0 in
      ⊎_elim
      (λ old. inl (in_left l (sent_by f.node f.sent) (sent_of world) (subst (λ (z : Entry T P). IsIn l (sent_by z.node z.sent)) (sym is) (subst (λ (i : ℕ). IsIn (i, l.1, l.2) (sent_by e.node e.sent)) (sym from) (in_sent e.node e.sent x.0 x.1 old)))))
      (λ new. inr (from, new))
      (in_append x e.sent out (subst (λ (z : List (ℕ × P)). IsIn x z) sends.1 r.1)))
      (λ b. inl (in_right l (sent_by f.node f.sent) (sent_of world) b))
      (in_append l (sent_by e'.node e'.sent) (sent_of world) h)
  no_other (f ∷ world) (suc k) e e' out l at sends h =
      ⊎_elim
      (λ a. inl (in_left l (sent_by f.node f.sent) (sent_of world) a))
      (λ b. ⊎_elim (λ old. inl (in_right l (sent_by f.node f.sent) (sent_of world) old)) (λ new. inr new) (no_other world k e e' out l at sends b))
      (in_append l (sent_by f.node f.sent) (sent_of (set world k e')) h)

  -- one node's act adds its parcels, and no others
  pub grows : (world : List (Entry T P)) (k : ℕ) (e e' : Entry T P) (out : List (ℕ × P)) → get_elem? world k ≡ some e → Sends e out e' → Grows (sent_of world) e.node out (sent_of (set world k e'))
  grows world k e e' out at sends l = (
    (λ h. ⊎_elim
        (λ old. still world k e e' out l at sends old)
        (λ new. let r = sent_out e.node l out new in
        subst (λ (i : ℕ). IsIn (i, l.1, l.2) (sent_of (set world k e'))) (sends.0 ∙ sym r.0)
        (sent_in_world (set world k e') k e' (l.1, l.2) (set_here world k e' (within world k e at)) (subst (λ (z : List (ℕ × P)). IsIn (l.1, l.2) z) (sym sends.1) (in_right (l.1, l.2) e.sent out r.1))))
        (in_append l (sent_of world) (sent_by e.node out) h)),
    (λ h. ⊎_elim
        (λ old. in_left l (sent_of world) (sent_by e.node out) old)
        (λ new. in_right l (sent_of world) (sent_by e.node out) (subst (λ (i : ℕ). IsIn (i, l.1, l.2) (sent_by e.node out)) (sym new.0) (in_sent e.node out l.1 l.2 new.1)))
        (no_other world k e e' out l at sends h)),
  )

  -- a seat with one node changes it
  pub moves : (n : ℕ) (views : List (List (Entry T P))) (world : List (Entry T P)) (j : ℕ) (e e' : Entry T P) → Stands n views world → get_elem? views j ≡ some (e ∷ []) → e'.node ≡ e.node
      → Stands n (set views j (e' ∷ [])) (set world e.node e')
  moves n views world j e e' st at same =
      let mine = st.known j (e ∷ []) e at (inl refl) in
      let in_views = within views j (e ∷ []) at in
      let in_world = within world e.node e mine.0 in
      let after : List (List (Entry T P)) = set views j (e' ∷ []) in
      let now : List (Entry T P) = set world e.node e' in
      let here : get_elem? after j ≡ some (e' ∷ []) = set_here views j (e' ∷ []) in_views in
      record {
        owner = st.owner;
        long = length-set world e.node e' ∙ st.long;
        numbered = (λ i f is. ⊎_elim (λ t. ap (λ (z : Entry T P). z.node) (sym t.1) ∙ same ∙ sym t.0) (λ t. st.numbered i f t.1) (at_set world e.node i e' f is));
        known = (λ k v f vat h. ⊎_elim
            (λ t. let is : f ≡ e' = in_one f e' (subst (λ (z : List (Entry T P)). IsIn f z) (sym t.1) h) in
            subst (λ (z : Entry T P). (get_elem? now z.node ≡ some z) × (st.owner z.node ≡ k)) (sym is)
            (subst (λ (i : ℕ). (get_elem? now i ≡ some e') × (st.owner i ≡ k)) (sym same) (set_here world e.node e' in_world, mine.1 ∙ sym t.0)))
            (λ t. let was = st.known k v f t.1 h in
            let apart : f.node ≢ e.node = λ is. t.0 (sym was.1 ∙ ap st.owner is ∙ mine.1) in
            (set_else world e.node f.node e' apart ∙ was.0, was.1))
            (at_set views j k (e' ∷ []) v vat));
        there = (λ i f is. ⊎_elim
            (λ t. (e' ∷ [], ap (λ (z : ℕ). get_elem? after z) (ap st.owner t.0 ∙ mine.1) ∙ here, inl (sym t.1)))
            (λ t. let was = st.there i f t.1 in
            let num = st.numbered i f t.1 in
            dite (ℕ_discrete (st.owner i) j)
            (λ own. let v_is = one_at views j was.0 (e ∷ []) (ap (λ (z : ℕ). get_elem? views z) (sym own) ∙ was.1) at in
            let f_is = in_one f e (subst (λ (z : List (Entry T P)). IsIn f z) v_is was.2) in
            absurd (t.0 (sym num ∙ ap (λ (z : Entry T P). z.node) f_is)))
            (λ apart. (was.0, set_else views j (st.owner i) (e' ∷ []) apart ∙ was.1, was.2)))
            (at_set world e.node i e' f is));
        once = (λ k v vat. ⊎_elim (λ t. subst Once t.1 ((λ f h. absurd h), tt)) (λ t. st.once k v t.1) (at_set views j k (e' ∷ []) v vat));
      }

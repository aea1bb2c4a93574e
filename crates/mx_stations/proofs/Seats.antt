-- A seat hands its first node on, and a seat takes in the nodes of another.
use Rattle.std.proofs.Common.{◌≡◌, ◌≢◌, ◌⊎◌, inl, inr, ⊎_elim, ℕ, zero, suc, List, [], ◌∷◌, ◌++◌, length, set, cond, eqb, eq-eqb, ne_eqb, refl, sym, ap, ◌∙◌, subst, length-set}
use mathlib.Core.Option.{some, some-injective, some-ne-none}
use lib.ListN.{get_elem?}
use native.Mathlib.Decide.{ℕ_discrete}
use mathlib.Core.Logic.{dite}
use Rattle.atomic_table.specs.Table.{Splits, Joins}
use Rattle.atomic_table.proofs.Lists.{at_set, set_here, set_else, at_longer, at_last}
use Rattle.mx_stamps.specs.Lists.{IsIn}
use Rattle.mx_stamps.proofs.Lists.{in_append, in_left, in_right}
use Rattle.mx_nodelaws.specs.World.{World}
use Rattle.mx_nodelaws.specs.Core.{Core}
use Rattle.mx_stations.specs.Entries.{Entry, Node}
use Rattle.mx_stations.specs.Running.{Holds, Once, Stands, all_but_first, only_first}
use Rattle.mx_stations.proofs.Places.{within, one_at, in_one}

module _ {A : Type 0} where
  -- which element of a list that is one longer
  pub at_end : (l : List A) (a b : A) (j : ℕ) → get_elem? (l ++ a ∷ []) j ≡ some b → (get_elem? l j ≡ some b) ⊎ ((j ≡ length l) × (a ≡ b))
  at_end [] a b zero e = inr (refl, some-injective a b e)
  at_end [] a b (suc j) e = absurd (some-ne-none b (sym e))
  at_end (x ∷ xs) a b zero e = inl e
  at_end (x ∷ xs) a b (suc j) e = ⊎_elim (λ t. inl t) (λ t. inr (ap suc t.0, t.1)) (at_end xs a b j e)

-- f, but for k
abbrev but : (ℕ → ℕ) → ℕ → ℕ → ℕ → ℕ
but f k new i = cond (eqb i k) new (f i)

but_here : (f : ℕ → ℕ) (k new i : ℕ) → i ≡ k → but f k new i ≡ new
but_here f k new i e = ap (λ b. cond b new (f i)) (eq-eqb i k e)

but_else : (f : ℕ → ℕ) (k new i : ℕ) → i ≢ k → but f k new i ≡ f i
but_else f k new i e = ap (λ b. cond b new (f i)) (ne_eqb i k e)

-- f, but for where it is k
abbrev moved : (ℕ → ℕ) → ℕ → ℕ → ℕ → ℕ
moved f k new i = cond (eqb (f i) k) new (f i)

moved_here : (f : ℕ → ℕ) (k new i : ℕ) → f i ≡ k → moved f k new i ≡ new
moved_here f k new i e = ap (λ b. cond b new (f i)) (eq-eqb (f i) k e)

moved_else : (f : ℕ → ℕ) (k new i : ℕ) → f i ≢ k → moved f k new i ≡ f i
moved_else f k new i e = ap (λ b. cond b new (f i)) (ne_eqb (f i) k e)

module _ {T P : Type 0} where
  hands_on : (n : ℕ) (views : List (List (Entry T P))) (world : List (Entry T P)) (id : ℕ) (e : Entry T P) (rest : List (Entry T P)) → Stands n views world → get_elem? views id ≡ some (e ∷ rest)
      → Stands n (set views id rest ++ (e ∷ []) ∷ []) world
  hands_on n views world id e rest st at =
      let new : ℕ = length views in
      let owner : ℕ → ℕ = but st.owner e.node new in
      let mine = st.known id (e ∷ rest) e at (inl refl) in
      let one = st.once id (e ∷ rest) at in
      let left : List (List (Entry T P)) = set views id rest in
      let long : length left ≡ new = length-set views id rest in
      let here : get_elem? left id ≡ some rest = set_here views id rest (within views id (e ∷ rest) at) in
      let last : get_elem? (left ++ (e ∷ []) ∷ []) new ≡ some (e ∷ []) = at_last left (e ∷ []) new long in
      record {
        owner = owner;
        long = st.long;
        numbered = st.numbered;
        known = (λ j v f vat h. ⊎_elim
            (λ was. ⊎_elim
            (λ t. let in_rest : IsIn f rest = subst (λ (z : List (Entry T P)). IsIn f z) (sym t.1) h in
            let k = st.known id (e ∷ rest) f at (inr in_rest) in
            (k.0, but_else st.owner e.node new f.node (one.0 f in_rest) ∙ k.1 ∙ sym t.0))
            (λ t. let k = st.known j v f t.1 h in
            (k.0, but_else st.owner e.node new f.node (λ same. t.0 (sym k.1 ∙ ap st.owner same ∙ mine.1)) ∙ k.1))
            (at_set views id j rest v was))
            (λ t. let is : f ≡ e = in_one f e (subst (λ (z : List (Entry T P)). IsIn f z) (sym t.1) h) in
            subst (λ (z : Entry T P). (get_elem? world z.node ≡ some z) × (owner z.node ≡ j)) (sym is) (mine.0, but_here st.owner e.node new e.node refl ∙ sym long ∙ sym t.0))
            (at_end left (e ∷ []) v j vat));
        there = (λ i f is. let num = st.numbered i f is in dite (ℕ_discrete i e.node)
            (λ same. let f_is : f ≡ e = one_at world i f e is (ap (λ (z : ℕ). get_elem? world z) same ∙ mine.0) in
            (e ∷ [], ap (λ (z : ℕ). get_elem? (left ++ (e ∷ []) ∷ []) z) (but_here st.owner e.node new i same) ∙ last, inl f_is))
            (λ apart. let was = st.there i f is in
            let own : owner i ≡ st.owner i = but_else st.owner e.node new i apart in
            dite (ℕ_discrete (st.owner i) id)
            (λ same. let v_is = one_at views id was.0 (e ∷ rest) (ap (λ (z : ℕ). get_elem? views z) (sym same) ∙ was.1) at in
            let among : IsIn f (e ∷ rest) = subst (λ (z : List (Entry T P)). IsIn f z) v_is was.2 in
            let in_rest : IsIn f rest = ⊎_elim (λ f_is. absurd (apart (sym num ∙ ap (λ (z : Entry T P). z.node) f_is))) (λ r. r) among in
            (rest, ap (λ (z : ℕ). get_elem? (left ++ (e ∷ []) ∷ []) z) (own ∙ same) ∙ at_longer left ((e ∷ []) ∷ []) id rest here, in_rest))
            (λ other. (was.0, ap (λ (z : ℕ). get_elem? (left ++ (e ∷ []) ∷ []) z) own ∙ at_longer left ((e ∷ []) ∷ []) (st.owner i) was.0 (set_else views id (st.owner i) rest other ∙ was.1), was.2))));
        once = (λ j v vat. ⊎_elim
            (λ was. ⊎_elim (λ t. subst Once t.1 one.1) (λ t. st.once j v t.1) (at_set views id j rest v was))
            (λ t. subst Once t.1 ((λ f h. absurd h), tt))
            (at_end left (e ∷ []) v j vat));
      }

  -- a seat that knows no node makes another
  hands_none : (n : ℕ) (views : List (List (Entry T P))) (world : List (Entry T P)) (id : ℕ) → Stands n views world → get_elem? views id ≡ some [] → Stands n (set views id [] ++ [] ∷ []) world
  hands_none n views world id st at =
      record {
        owner = st.owner;
        long = st.long;
        numbered = st.numbered;
        known = (λ j v f vat h. ⊎_elim
            (λ was. ⊎_elim (λ t. absurd (subst (λ (z : List (Entry T P)). IsIn f z) (sym t.1) h)) (λ t. st.known j v f t.1 h) (at_set views id j [] v was))
            (λ t. absurd (subst (λ (z : List (Entry T P)). IsIn f z) (sym t.1) h))
            (at_end (set views id []) [] v j vat));
        there = (λ i f is. let was = st.there i f is in dite (ℕ_discrete (st.owner i) id)
            (λ same. absurd (subst (λ (z : List (Entry T P)). IsIn f z) (one_at views id was.0 [] (ap (λ (z : ℕ). get_elem? views z) (sym same) ∙ was.1) at) was.2))
            (λ other. (was.0, at_longer (set views id []) ([] ∷ []) (st.owner i) was.0 (set_else views id (st.owner i) [] other ∙ was.1), was.2)));
        once = (λ j v vat. ⊎_elim (λ was. ⊎_elim (λ t. subst Once t.1 tt) (λ t. st.once j v t.1) (at_set views id j [] v was)) (λ t. subst Once t.1 tt) (at_end (set views id []) [] v j vat));
      }

  once_both : (v w : List (Entry T P)) → Once v → Once w → ((e f : Entry T P) → IsIn e v → IsIn f w → f.node ≢ e.node) → Once (v ++ w)
  once_both [] w a b apart = b
  once_both (e ∷ v) w a b apart =
      ((λ f h. ⊎_elim (λ l. a.0 f l) (λ r. apart e f (inl refl) r) (in_append f v w h)), once_both v w a.1 b (λ x y hx hy. apart x y (inr hx) hy))

  takes_in : (n : ℕ) (views : List (List (Entry T P))) (world : List (Entry T P)) (id other : ℕ) (v w : List (Entry T P)) → Stands n views world → get_elem? views id ≡ some v → other ≢ id → get_elem? views other ≡ some w
      → Stands n (set (set views id (w ++ v)) other []) world
  takes_in n views world id other v w st at apart there =
      let both : List (List (Entry T P)) = set views id (w ++ v) in
      let all : List (List (Entry T P)) = set both other [] in
      let owner : ℕ → ℕ = moved st.owner other id in
      let here : get_elem? all id ≡ some (w ++ v) = set_else both other id [] (λ e. apart (sym e)) ∙ set_here views id (w ++ v) (within views id v at) in
      record {
        owner = owner;
        long = st.long;
        numbered = st.numbered;
        known = (λ j u f uat h. ⊎_elim
            (λ t. absurd (subst (λ (z : List (Entry T P)). IsIn f z) (sym t.1) h))
            (λ t. ⊎_elim
            (λ s. ⊎_elim
            (λ r. let k = st.known other w f there r in (k.0, moved_here st.owner other id f.node k.1 ∙ sym s.0))
            (λ l. let k = st.known id v f at l in (k.0, moved_else st.owner other id f.node (λ e. apart (sym e ∙ k.1)) ∙ k.1 ∙ sym s.0))
            (in_append f w v (subst (λ (z : List (Entry T P)). IsIn f z) (sym s.1) h)))
            (λ s. let k = st.known j u f s.1 h in (k.0, moved_else st.owner other id f.node (λ e. t.0 (sym k.1 ∙ e)) ∙ k.1))
            (at_set views id j (w ++ v) u t.1))
            (at_set both other j [] u uat));
        there = (λ i f is. let was = st.there i f is in dite (ℕ_discrete (st.owner i) other)
            (λ same. let in_w : IsIn f w = subst (λ (z : List (Entry T P)). IsIn f z) (one_at views other was.0 w (ap (λ (z : ℕ). get_elem? views z) (sym same) ∙ was.1) there) was.2 in
            (w ++ v, ap (λ (z : ℕ). get_elem? all z) (moved_here st.owner other id i same) ∙ here, in_left f w v in_w))
            (λ no. let own = moved_else st.owner other id i no in dite (ℕ_discrete (st.owner i) id)
            (λ same. let in_v : IsIn f v = subst (λ (z : List (Entry T P)). IsIn f z) (one_at views id was.0 v (ap (λ (z : ℕ). get_elem? views z) (sym same) ∙ was.1) at) was.2 in
            (w ++ v, ap (λ (z : ℕ). get_elem? all z) (own ∙ same) ∙ here, in_right f w v in_v))
            (λ nor. (was.0, ap (λ (z : ℕ). get_elem? all z) own ∙ set_else both other (st.owner i) [] no ∙ set_else views id (st.owner i) (w ++ v) nor ∙ was.1, was.2))));
        once = (λ j u uat. ⊎_elim
            (λ t. subst Once t.1 tt)
            (λ t. ⊎_elim
            (λ s. subst Once s.1 (once_both w v (st.once other w there) (st.once id v at) (λ e f he hf same. apart (sym (st.known other w e there he).1 ∙ ap st.owner (sym same) ∙ (st.known id v f at hf).1))))
            (λ s. st.once j u s.1)
            (at_set views id j (w ++ v) u t.1))
            (at_set both other j [] u uat));
      }

module _ {H S M : Type 0} (core : Core H S M) (Good : World S M → Type 0) where
  pub splits : (n id : ℕ) (v : List (Node S M)) → Splits (Holds core Good n) id v (all_but_first v) (only_first v)
  splits n id [] s h at = record { world = h.world; stands = hands_none n s.views h.world id h.stands at; shown = h.shown; links = h.links }
  splits n id (e ∷ rest) s h at = record { world = h.world; stands = hands_on n s.views h.world id e rest h.stands at; shown = h.shown; links = h.links }

  pub joins : (n id : ℕ) (v : List (Node S M)) (other : ℕ) (w : List (Node S M)) → Joins (Holds core Good n) id v other w (w ++ v) []
  joins n id v other w s h at apart there =
      let was = set_else s.views id other (w ++ v) apart in
      record { world = h.world; stands = takes_in n s.views h.world id other v w h.stands at apart (sym was ∙ there); shown = h.shown; links = h.links }

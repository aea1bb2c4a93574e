-- A new table, and how its first seat hands its nodes on.
use Rattle.std.proofs.Common.{◌≡◌, inl, inr, ⊎_elim, ℕ, zero, suc, ◌+◌, ◌*◌, ◌<◌, ◌≤◌, ◌^◌, List, [], ◌∷◌, ◌++◌, map, length, replicate, drop, slice_index_or, Option, Some, None, refl, sym, ap, ◌∙◌, subst, arith, length-append}
use mathlib.Core.Option.{some, some-injective, some-ne-none}
use mathlib.Core.Option as maybe
use Rattle.mx_stations.specs.Links.{empty, IsSlot, Links, slot_at}
use lib.ListN.{get_elem?}
use Rattle.atomic_table.specs.Table.{opening}
use Rattle.atomic_table.specs.Seated.{TableId}
use Rattle.mx_stamps.specs.Lists.{IsIn, each_below}
use Rattle.mx_nodelaws.specs.World.{World}
use Rattle.mx_nodelaws.specs.Core.{Core, KeepsPhases}
use Rattle.mx_nodelaws.specs.Laws.{KeepsGood}
use Rattle.mx_member.specs.declared.parcel.Parcel.{Parcel}
use Rattle.mx_member.specs.Member.{MemberState}
use Rattle.mx_member.specs.Running.{IsRunning, Owned, owned_start}
use Rattle.mx_member.specs.Steps.{start_of}
use Rattle.mx_member.proofs.Running.{running_at_start}
use Rattle.mx_stations.specs.Entries.{Entry, Node, owned_of}
use Rattle.mx_stations.specs.Running.{Holds, Once, Stands, all_but_first, all_from, all_of, fresh, only_first, sent_of, status, word_of}
use Rattle.mx_stations.specs.Posts.{Post}
use Rattle.mx_stations.proofs.Pairs.{slot_low}
use Rattle.mx_stations.proofs.Seats.{at_end}

module _ {A : Type 0} where
  pub all_length : (k n : ℕ) (f : ℕ → A) → length (all_from k n f) ≡ n
  all_length k zero f = refl
  all_length k (suc n) f = ap suc (all_length (suc k) n f)

  pub all_at : (k n : ℕ) (f : ℕ → A) (i : ℕ) (x : A) → get_elem? (all_from k n f) i ≡ some x → (i < n) × (x ≡ f (k + i))
  all_at k zero f i x e = absurd (some-ne-none x (sym e))
  all_at k (suc n) f zero x e = (omega arith, sym (some-injective (f k) x e) ∙ ap f (let h : k ≡ k + 0 = omega arith in h))
  all_at k (suc n) f (suc i) x e = let r = all_at (suc k) n f i x e in ((let h = r.0 in omega arith), r.1 ∙ ap f (let h : suc k + i ≡ k + suc i = omega arith in h))

  pub all_get : (k n : ℕ) (f : ℕ → A) (i : ℕ) → i < n → get_elem? (all_from k n f) i ≡ some (f (k + i))
  all_get k zero f i h = absurd (omega arith)
  all_get k (suc n) f zero h = ap (λ (z : ℕ). some (f z)) (let e : k ≡ k + 0 = omega arith in e)
  all_get k (suc n) f (suc i) h = all_get (suc k) n f i (omega arith) ∙ ap (λ (z : ℕ). some (f z)) (let e : suc k + i ≡ k + suc i = omega arith in e)

  pub all_among : (k n : ℕ) (f : ℕ → A) (x : A) → IsIn x (all_from k n f) → (i : ℕ) × (i < n) × (x ≡ f (k + i))
  all_among k zero f x h = absurd h
  all_among k (suc n) f x (inl e) = (0, (omega arith), e ∙ ap f (let h : k ≡ k + 0 = omega arith in h))
  all_among k (suc n) f x (inr h) = let r = all_among (suc k) n f x h in (suc r.0, (let l = r.1 in omega arith), r.2 ∙ ap f (let h : suc k + r.0 ≡ k + suc r.0 = omega arith in h))

  pub all_in : (k n : ℕ) (f : ℕ → A) (i : ℕ) → i < n → IsIn (f (k + i)) (all_from k n f)
  all_in k zero f i h = absurd (omega arith)
  all_in k (suc n) f zero h = inl (ap f (let e : k + 0 ≡ k = omega arith in e))
  all_in k (suc n) f (suc i) h = inr (subst (λ (z : ℕ). IsIn (f z) (all_from (suc k) n f)) (let e : suc k + i ≡ k + suc i = omega arith in e) (all_in (suc k) n f i (omega arith)))

  pub all_map : {B : Type 0} (g : A → B) (k n : ℕ) (f : ℕ → A) → map g (all_from k n f) ≡ all_from k n (λ i. g (f i))
  all_map g k zero f = refl
  all_map g k (suc n) f = λ i. g (f k) ∷ all_map g (suc k) n f i

  pub last_out : (k n : ℕ) (f : ℕ → A) → all_from k (suc n) f ≡ all_from k n f ++ f (k + n) ∷ []
  last_out k zero f = ap (λ (z : ℕ). f z ∷ []) (let e : k ≡ k + 0 = omega arith in e)
  last_out k (suc n) f = (λ i. f k ∷ last_out (suc k) n f i) ∙ ap (λ (z : ℕ). f k ∷ all_from (suc k) n f ++ f z ∷ []) (let e : suc k + n ≡ k + suc n = omega arith in e)

  pub all_more : (f : ℕ → A) (k : ℕ) (xs ys : List A) {x : A} → xs ≡ all_of k f → ys ≡ xs ++ x ∷ [] → x ≡ f k → ys ≡ all_of (k + 1) f
  all_more f k xs ys is more last =
      more ∙ (λ i. is i ++ last i ∷ []) ∙ ap (λ (z : ℕ). all_of k f ++ f z ∷ []) (let e : k ≡ 0 + k = omega arith in e) ∙ sym (last_out 0 k f) ∙ ap (λ (z : ℕ). all_of z f) (let e : suc k ≡ k + 1 = omega arith in e)

  pub replicate_at : (n : ℕ) (a : A) (i : ℕ) → i < n → get_elem? (replicate n a) i ≡ some a
  replicate_at zero a i h = absurd (omega arith)
  replicate_at (suc n) a zero h = refl
  replicate_at (suc n) a (suc i) h = replicate_at n a i (omega arith)

pub fresh_once : {T : Type 0} (P : Type 0) (starts : ℕ → T) (k n : ℕ) → Once {T = T} {P = P} (all_from k n (λ i. fresh i (starts i)))
fresh_once P starts k zero = tt
fresh_once {T} P starts k (suc n) = (
  (λ f h same. let F : ℕ → Entry T P = λ i. fresh i (starts i) in let r = all_among (suc k) n F f h in let e : f.node ≡ suc k + r.0 = ap (λ (z : Entry T P). z.node) r.2 in absurd (omega arith)),
  fresh_once P starts (suc k) n,
)

module _ {T P : Type 0} (starts : ℕ → T) where
  abbrev F : ℕ → Entry T P
  F i = fresh i (starts i)

  pub fresh_sent : (k n : ℕ) → sent_of (all_from k n F) ≡ []
  fresh_sent k zero = refl
  fresh_sent k (suc n) = fresh_sent (suc k) n

  pub fresh_stands : (n : ℕ) → Stands n (all_of n F ∷ []) (all_of n F)
  fresh_stands n =
      record {
        owner = (λ i. 0);
        long = all_length 0 n F;
        numbered = (λ i e is. let r = all_at 0 n F i e is in ap (λ (z : Entry T P). z.node) r.1 ∙ (let h : 0 + i ≡ i = omega arith in h));
        known = (λ j v e at h. ⊎_elim
            (λ t. absurd (some-ne-none v (sym t)))
            (λ t. let r = all_among 0 n F e (subst (λ (z : List (Entry T P)). IsIn e z) (sym t.1) h) in
            (subst (λ (z : Entry T P). get_elem? (all_of n F) z.node ≡ some z) (sym r.2) (ap (λ (z : ℕ). get_elem? (all_of n F) z) (let h : 0 + r.0 ≡ r.0 = omega arith in h) ∙ all_get 0 n F r.0 r.1), sym t.0))
            (at_end [] (all_of n F) v j at));
        there = (λ i e is. let r = all_at 0 n F i e is in (all_of n F, refl, subst (λ (z : Entry T P). IsIn z (all_of n F)) (sym r.1) (all_in 0 n F i r.0)));
        once = (λ j v at. ⊎_elim (λ t. absurd (some-ne-none v (sym t))) (λ t. subst Once t.1 (fresh_once P starts 0 n)) (at_end [] (all_of n F) v j at));
      }

map_replicate : {A B : Type 0} (f : A → B) (n : ℕ) (a : A) → map f (replicate n a) ≡ replicate n (f a)
map_replicate f zero a = refl
map_replicate f (suc n) a = λ i. f a ∷ map_replicate f n a i

pub replicate_length : {A : Type 0} (n : ℕ) (a : A) → length (replicate n a) ≡ n
replicate_length zero a = refl
replicate_length (suc n) a = ap suc (replicate_length n a)

module _ {T : Type 0} (P : Type 0) (starts : ℕ → T) where
  -- each slot is empty, and at home
  fresh_links : (n : ℕ) → Links n (replicate (n + n * n * 4) 0) (map some (replicate (n * n * 4) None)) (all_of n (λ i. fresh {T = T} {P = P} i (starts i)))
  fresh_links n =
      let F : ℕ → Entry T P = λ i. fresh i (starts i) in
      record {
        state = (λ k. empty);
        wide = ap length (map_replicate {B = maybe.Option (Option P)} some (n * n * 4) None) ∙ replicate_length (n * n * 4) (some None);
        each = (λ a b v e f in_four ea fb.
            let x = all_at 0 n F a e ea in let y = all_at 0 n F b f fb in
            let k : ℕ = slot_at n a b v in
            let low : k < n * n * 4 = slot_low n a b v x.0 y.0 in_four in
            subst (λ (z : Entry T P × Entry T P). IsSlot n (replicate (n + n * n * 4) 0) (map some (replicate (n * n * 4) None)) k b z.0 z.1 empty) (λ j. (sym x.1 j, sym y.1 j))
            record {
              word = replicate_at (n + n * n * 4) 0 (n + k) (omega arith);
              lies = ap (λ (l : List (maybe.Option (Option P))). get_elem? l k) (map_replicate {B = maybe.Option (Option P)} some (n * n * 4) None) ∙ replicate_at (n * n * 4) (some None) k low;
              log = refl;
              sent = tt;
              writer = ((λ h. h), (λ h. h));
              reader = ((λ h. h), (λ h. h));
              used = (λ r. absurd r);
            });
      }

-- the same nodes, counted from the other end
pub all_each : {A : Type 0} (n : ℕ) (f : ℕ → A) → all_of n f ≡ each_below f n
all_each zero f = refl
all_each (suc n) f = last_out 0 n f ∙ (λ i. all_each n f i ++ f (let e : 0 + n ≡ n = omega arith in e i) ∷ [])

module _ {H S M : Type 0} (core : Core H S M) (IsShape : H → Type 0) (Good : World S M → Type 0) (phases : KeepsPhases core) (laws : KeepsGood core IsShape Good) where
  -- nodes at rest, at words of 0 and empty slots
  pub begins : (shape : H) (n origin limit registers : ℕ) (words : List ℕ) → n ≡ core.count shape → IsShape shape → origin < 2 ^ 64 → 0 < limit → limit ≤ 1000000 → registers ≤ 32 → words ≡ replicate (n + n * n * 4) 0
      → Holds core Good n (opening words (replicate (n * n * 4) None) (all_of n (λ i. fresh i (start_of core shape i origin limit registers))))
  begins shape n origin limit registers words count valid low some_left high few is =
      let starts : ℕ → MemberState S = λ i. start_of core shape i origin limit registers in
      let F : ℕ → Node S M = λ i. fresh i (starts i) in
      let owned : map owned_of (all_of n F) ≡ each_below (λ i. owned_start core shape i origin limit registers) (core.count shape) =
      all_map owned_of 0 n F ∙ all_each n (λ i. owned_start core shape i origin limit registers) ∙ ap (each_below (λ i. owned_start core shape i origin limit registers)) count in
      record {
        world = all_of n F;
        stands = fresh_stands starts n;
        shown = record {
          shows = (λ i e at. let r = all_at 0 n F i e at in
              let zero_word : word_of core e.member ≡ 0 = ap (λ (z : Node S M). word_of core z.member) r.1 ∙ ap (λ p. status p (core.mine (starts (0 + i)).core)) (phases.started_idle shape (0 + i) origin limit) ∙ ap (λ (k : ℕ). 2 * k) (phases.started_mine shape (0 + i) origin limit) in
              let inside = r.0 in
              ap (λ (ws : List ℕ). get_elem? ws i) is ∙ replicate_at (n + n * n * 4) 0 i (omega arith) ∙ ap some (sym zero_word));
          runs = subst (λ (z : List (Owned S)). IsRunning core Good z (sent_of (all_of n F))) (sym owned)
              (subst (λ (z : List (ℕ × ℕ × Parcel M)). IsRunning core Good (each_below (λ i. owned_start core shape i origin limit registers) (core.count shape)) z) (sym (fresh_sent starts 0 n)) (running_at_start core IsShape Good phases laws shape origin limit registers valid low some_left high few));
          held = (λ i e x at h. let r = all_at 0 n F i e at in absurd (let no : None ≡ Some x = ap (λ (z : Node S M). z.hand) (sym r.1) ∙ h in cc));
        };
        links = subst (λ (ws : List ℕ). Links n ws (map some (replicate (n * n * 4) None)) (all_of n F)) (sym is) (fresh_links (Parcel M) starts n);
      }

module _ {T P : Type 0} where
  -- the stations made so far
  abbrev pub SoFar : (ℕ → T) → ℕ → TableId → ℕ → List (Post T P) → Type 0
  SoFar starts n table k all = (length all ≡ k) × ((j : ℕ) (s : Post T P) → get_elem? all j ≡ some s → (s.table ≡ table) × (s.nodes ≡ n) × (s.me ≡ fresh j (starts j)) × (s.waiting ≡ []))

  pub one_more : (starts : ℕ → T) (n : ℕ) (table : TableId) (k : ℕ) (all mid all' : List (Post T P)) (s : Post T P) → SoFar starts n table k all → mid ≡ all → all' ≡ mid ++ s ∷ [] → s.table ≡ table → s.nodes ≡ n → s.me ≡ fresh k (starts k) → s.waiting ≡ []
      → SoFar starts n table (k + 1) all'
  one_more starts n table k all mid all' s far same is t m v w =
      subst (λ (z : List (Post T P)). SoFar starts n table (k + 1) z) (sym (is ∙ ap (λ (l : List (Post T P)). l ++ s ∷ []) same)) (
        length-append all (s ∷ []) ∙ ap (λ (z : ℕ). z + 1) far.0,
        (λ j u at. ⊎_elim (λ old. far.1 j u old) (λ new. subst (λ (z : Post T P). (z.table ≡ table) × (z.nodes ≡ n) × (z.me ≡ fresh j (starts j)) × (z.waiting ≡ [])) new.1
            (t, m, subst (λ (z : ℕ). s.me ≡ fresh z (starts z)) (sym (new.0 ∙ far.0)) v, w)) (at_end all s u j at)),
      )

  -- what a seat hands on, and what is left
  pub first_of : (k m n : ℕ) (F : ℕ → Entry T P) (v : List (Entry T P)) → v ≡ all_from k m F → k + m ≡ n → k < n
      → (only_first v ≡ F k ∷ []) × ((r : ℕ) × (k + 1 + r ≡ n) × (all_but_first v ≡ all_from (k + 1) r F))
  first_of k zero n F v is sum low = absurd (omega arith)
  first_of k (suc m) n F v is sum low =
      (ap only_first is, (m, (omega arith), ap all_but_first is ∙ ap (λ (z : ℕ). all_from z m F) (let e : suc k ≡ k + 1 = omega arith in e)))

-- the first of them, and the others
pub first_out : {A : Type 0} (k m n : ℕ) (f : ℕ → A) (xs : List A) (x : A) → xs ≡ all_from k m f → k + m ≡ n → k < n → x ≡ slice_index_or xs 0 x
    → (x ≡ f k) × ((r : ℕ) → suc r ≡ m → drop 1 xs ≡ all_from (k + 1) r f)
first_out k zero n f xs x is sum low here = absurd (omega arith)
first_out k (suc m) n f xs x is sum low here =
    (here ∙ ap (λ l. slice_index_or l 0 x) is, λ r same. ap (drop 1) is ∙ (let e : suc k ≡ k + 1 = omega arith in let s : m ≡ r = omega arith in λ i. all_from (e i) (s i) f))

-- The sections of each node, among what was gathered.
use Rattle.std.proofs.Common.{◌≡◌, ◌≢◌, ◌⊎◌, ◌∙◌, ◌≤◌, ◌<◌, ◌+◌, ◌*◌, ◌==◌, ℕ, suc, List, [], ◌∷◌, cond, inl, inr, length, length-append, Result, Ok, Err, IfOk, refl, sym, ap, arith, subst, eq-eqb, ne_eqb, suc-mul, zero-add}
use mathlib.Core.Option.{some}
use lib.ListN.{get_elem?}
use Rattle.std.specs.List.{count_by}
use Rattle.std.proofs.lemmas.List.Sums.{sum_by-append}
use Rattle.std.proofs.lemmas.List.Sorted.{length_permutation, sum_by-IsPermutation}
use Rattle.mx_stamps.proofs.Choices.{compared}
use Rattle.mx_stamps.specs.Lists.{IsIn}
use Rattle.mx_journal.specs.declared.receipts.Receipt.{Receipt}
use Rattle.mx_journal.specs.Settled.{JournalState}
use Rattle.mx_nodelaws.specs.Core.{Core}
use Rattle.mx_plan.specs.Fields.{Fields}
use Rattle.mx_plan.specs.declared.shape.Shape.{Shape}
use Rattle.mx_stations.specs.declared.worker.Worked.{Worked}
use Rattle.mx_stations.specs.Gathered.{IsGathered, receipts_of}
use Rattle.mx_stations.specs.Posts.{Post}
use Rattle.mx_stations.specs.Turns.{Station}
use Rattle.mx_jobs.specs.Serial.{AreSerial}
use Rattle.mx_live.specs.declared.live_error.LiveError.{LiveError}
use Rattle.mx_cli.specs.declared.request.LiveOptions.{LiveOptions}
use Rattle.mx_live.specs.LiveErrors.{HasNone, InVainBy, IsShort}
use Rattle.mx_live.specs.Together.{AreGathered, ComeOf, GatheredBy, HaveSections}
use Rattle.mx_live.specs.Workers.{AreDone, HaveRun, stations_of}
use Rattle.mx_live.proofs.StationLemmas.{unmapped}
use Rattle.mx_live.proofs.WorkerLemmas.{done_just, left_home, left_many}

-- of a call that may fail, what its result is
pub both_ok : {X E : Type 0} (r : Result X E) (P Q R : X → Type 0) → IfOk r P → IfOk r Q → ((x : X) → P x → Q x → R x) → IfOk r R
both_ok (Ok x) P Q R p q both = both x p q
both_ok (Err e) P Q R p q both = tt

-- the receipts of one node count whole
own_count : (i : ℕ) (rs : List Receipt) → ((r : Receipt) → IsIn r rs → r.node ≡ i) → count_by (λ (r : Receipt). r.node == i) rs ≡ length rs
own_count i [] own = refl
own_count i (r ∷ rs) own =
    let one : count_by (λ (r : Receipt). r.node == i) (r ∷ []) ≡ 1 = ap (λ b. 0 + cond b 1 0) (eq-eqb r.node i (own r (inl refl))) in
    let rest = own_count i rs (λ s in_rest. own s (inr in_rest)) in
    let both : count_by (λ (r : Receipt). r.node == i) (r ∷ rs) ≡ count_by (λ (r : Receipt). r.node == i) (r ∷ []) + count_by (λ (r : Receipt). r.node == i) rs =
    sum_by-append (λ (r : Receipt). cond (r.node == i) 1 0) (r ∷ []) rs in
    omega (arith, one, rest, both)

-- and those of others not at all
other_count : (i : ℕ) (rs : List Receipt) → ((r : Receipt) → IsIn r rs → r.node ≢ i) → count_by (λ (r : Receipt). r.node == i) rs ≡ 0
other_count i [] other = refl
other_count i (r ∷ rs) other =
    let one : count_by (λ (r : Receipt). r.node == i) (r ∷ []) ≡ 0 = ap (λ b. 0 + cond b 1 0) (ne_eqb r.node i (other r (inl refl))) in
    let rest = other_count i rs (λ s in_rest. other s (inr in_rest)) in
    let both : count_by (λ (r : Receipt). r.node == i) (r ∷ rs) ≡ count_by (λ (r : Receipt). r.node == i) (r ∷ []) + count_by (λ (r : Receipt). r.node == i) rs =
    sum_by-append (λ (r : Receipt). cond (r.node == i) 1 0) (r ∷ []) rs in
    omega (arith, one, rest, both)

module _ {T P : Type 0} (sections : ℕ) where
  -- these are the stations of the nodes from `first` on, each with so many sections, all its own
  abbrev AreFull : ℕ → List (Post T P) → Type 0
  AreFull first posts = (k : ℕ) (s : Post T P) → get_elem? posts k ≡ some s → (length s.me.receipts ≡ sections) × ((r : Receipt) → IsIn r s.me.receipts → r.node ≡ first + k)

  rest_full : (first : ℕ) (t : Post T P) (posts : List (Post T P)) → AreFull first (t ∷ posts) → AreFull (suc first) posts
  rest_full first t posts full = λ k s at. let is = full (suc k) s at in (is.0, λ r in_it. let node = is.1 r in_it in omega (arith, node))

  first_and_rest : (i : ℕ) (t : Post T P) (posts : List (Post T P))
      → count_by (λ (r : Receipt). r.node == i) (receipts_of (t ∷ posts)) ≡ count_by (λ (r : Receipt). r.node == i) t.me.receipts + count_by (λ (r : Receipt). r.node == i) (receipts_of posts)
  first_and_rest i t posts = sum_by-append (λ (r : Receipt). cond (r.node == i) 1 0) t.me.receipts (receipts_of posts)

  -- a node before the first has none
  none_count : (i first : ℕ) (posts : List (Post T P)) → i < first → AreFull first posts → count_by (λ (r : Receipt). r.node == i) (receipts_of posts) ≡ 0
  none_count i first [] low full = refl
  none_count i first (t ∷ posts) low full =
      let here = other_count i t.me.receipts (λ r in_it same. let node = (full 0 t refl).1 r in_it in omega (arith, node, same, low)) in
      let rest = none_count i (suc first) posts (omega (arith, low)) (rest_full first t posts full) in
      omega (arith, first_and_rest i t posts, here, rest)

  -- each other has its own
  each_count : (i first : ℕ) (posts : List (Post T P)) → first ≤ i → i < first + length posts → AreFull first posts → count_by (λ (r : Receipt). r.node == i) (receipts_of posts) ≡ sections
  each_count i first [] low high full = absurd (omega (arith, low, high))
  each_count i first (t ∷ posts) low high full = elim (compared first i) [
    | inl less ↦
        let here = other_count i t.me.receipts (λ r in_it same. let node = (full 0 t refl).1 r in_it in omega (arith, node, same, less)) in
        let rest = each_count i (suc first) posts (omega (arith, less)) (omega (arith, high)) (rest_full first t posts full) in
        omega (arith, first_and_rest i t posts, here, rest)
    | inr (inl same) ↦
        let here = own_count i t.me.receipts (λ r in_it. let node = (full 0 t refl).1 r in_it in omega (arith, node, same)) in
        let rest = none_count i (suc first) posts (omega (arith, same)) (rest_full first t posts full) in
        let own = (full 0 t refl).0 in
        omega (arith, first_and_rest i t posts, here, rest, own)
    | inr (inr more) ↦ absurd (omega (arith, low, more))
  ]

  all_count : (first : ℕ) (posts : List (Post T P)) → AreFull first posts → length (receipts_of posts) ≡ length posts * sections
  all_count first [] full = omega arith
  all_count first (t ∷ posts) full =
      let own = (full 0 t refl).0 in
      let rest = all_count (suc first) posts (rest_full first t posts full) in
      let turn : sections + length posts * sections ≡ length posts * sections + sections = omega arith in
      let both = length-append t.me.receipts (receipts_of posts) in
      both ∙ ap (λ (n : ℕ). n + length (receipts_of posts)) own ∙ ap (λ (n : ℕ). sections + n) rest ∙ turn ∙ sym (suc-mul (length posts) sections)

module _ {H S M : Type 0} (core : Core H S M) (shape : H) (p : Fields) (orders : LiveOptions) where
  full : (left : List (Station core × Worked)) (journal : JournalState) (receipts : List Receipt) → HaveRun core shape p orders left → AreDone left → IsGathered (stations_of left) journal receipts → AreFull orders.sections 0 (stations_of left)
  full left journal receipts run done gathered = λ k s at.
      let one = unmapped (λ (ended : Station core × Worked). ended.0) left k s at in
      let home = left_home core shape p orders left run k one.0 one.1 in (
        ap (λ (z : Station core). length z.me.receipts) one.2 ∙ done_just core shape p orders left run done k one.0 one.1,
        λ r in_it. gathered.own k s r at in_it ∙ ap (λ (z : Station core). z.me.node) one.2 ∙ home.2 ∙ sym (zero-add k),
      )

  -- each node has just its sections among the receipts
  pub sections_gathered : (left : List (Station core × Worked)) (journal : JournalState) (receipts : List Receipt)
      → HaveRun core shape p orders left → AreDone left → IsGathered (stations_of left) journal receipts → HaveSections (length p.nodes) orders.sections receipts
  sections_gathered left journal receipts run done gathered =
      let many = left_many core shape p orders left run in
      let are = full left journal receipts run done gathered in
      record {
        each = λ i low.
            sum_by-IsPermutation (λ (r : Receipt). cond (r.node == i) 1 0) (receipts_of (stations_of left)) receipts gathered.each
            ∙ each_count orders.sections i 0 (stations_of left) (omega arith) (omega (arith, low, many)) are;
        all = length_permutation (receipts_of (stations_of left)) receipts gathered.each ∙ all_count orders.sections 0 (stations_of left) are ∙ ap (λ (n : ℕ). n * orders.sections) many;
      }

  pub come_gathered : (left : List (Station core × Worked)) (journal : JournalState) (receipts : List Receipt)
      → HaveRun core shape p orders left → AreDone left → IsGathered (stations_of left) journal receipts → HaveSections (length p.nodes) orders.sections receipts × AreGathered core shape p orders receipts journal
  come_gathered left journal receipts run done gathered = (sections_gathered left journal receipts run done gathered, record { left = left; run = run; done = done; gathered = gathered })

module _ {T P : Type 0} where
  pub serial : (posts : List (Post T P)) (journal : JournalState) (receipts : List Receipt) → IsGathered posts journal receipts → AreSerial receipts journal
  serial posts journal receipts g =
      record { numbered = g.numbered; records = g.records; covers = g.covers; reads = g.reads; shows = g.shows }

-- what is gathered by the algorithm of a shape, where that is the plan's
pub come_by : (shape : Shape) (p : Fields) (orders : LiveOptions) (receipts : List Receipt) (journal : JournalState) → p.shape ≡ shape → GatheredBy shape p orders receipts journal → ComeOf p orders receipts journal
come_by shape p orders receipts journal is come = subst (λ (s : Shape). GatheredBy s p orders receipts journal) (sym is) come

-- and why nothing is
pub none_by : (shape : Shape) (p : Fields) (orders : LiveOptions) (error : LiveError) → p.shape ≡ shape → InVainBy shape p orders error ⊎ IsShort error → HasNone p orders error
none_by shape p orders error is none = subst (λ (s : Shape). InVainBy s p orders error ⊎ IsShort error) (sym is) none

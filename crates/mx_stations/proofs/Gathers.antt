-- Loops over stations.
use Rattle.std.proofs.Common.{◌≡◌, ◌⊎◌, inl, inr, ℕ, zero, suc, ◌+◌, ◌<◌, ◌≤◌, List, [], ◌∷◌, ◌++◌, map, length, take, Result, Ok, Err, IsOk, IsErrAnd, refl, sym, ap, ◌∙◌, subst, arith, append_assoc, append-nil}
use Rattle.std.proofs.lemmas.List.{length-map, take_all}
use mathlib.Core.Option.{some, some-injective, some-ne-none}
use lib.ListN.{get_elem?}
use native.Mathlib.Decide.{ℕ_discrete}
use mathlib.Core.Logic.{dite}
use Rattle.atomic_table.proofs.Lists.{at_longer, at_last}
use Rattle.mx_journal.specs.declared.receipts.Receipt.{Receipt}
use Rattle.mx_journal.specs.Settled.{JournalState, joined}
use Rattle.mx_merge.specs.declared.join.MergeFault.{MergeFault}
use Rattle.mx_merge.specs.declared.join.MergeFault.TheVariants.{Conflict, Memory}
use Rattle.mx_merge.specs.Join.{IsLeastJournal}
use Rattle.mx_member.specs.declared.parcel.Parcel.{Parcel}
use Rattle.mx_member.specs.Member.{MemberState}
use Rattle.mx_member.specs.Running.{IsJoinOfNodes, IsNode}
use Rattle.mx_member.proofs.CorePart.{get_map}
use Rattle.mx_member.proofs.Joining.{join_next}
use Rattle.mx_stations.specs.Entries.{owned_of}
use Rattle.mx_stations.specs.Posts.{Post}
use Rattle.mx_stations.specs.Gathered.{nodes_in, owned_in, receipts_of}
use Rattle.mx_stations.proofs.Places.{as_slice_at, one_at, within}

module _ {A B : Type 0} (f : A → B) where
  map_both : (xs ys : List A) → map f (xs ++ ys) ≡ map f xs ++ map f ys
  map_both [] ys = refl
  map_both (x ∷ xs) ys = λ j. f x ∷ map_both xs ys j

  -- the last of `old` moves to the front of what was taken
  pub moved_over : (old left : List A) (x : A) (v w : List B) → old ≡ left ++ x ∷ [] → w ≡ f x ∷ v → map f left ++ w ≡ map f old ++ v
  moved_over old left x v w is w_is =
      ap (λ (z : List B). map f left ++ z) w_is ∙ sym (append_assoc (map f left) (f x ∷ []) v) ∙ ap (λ (z : List B). z ++ v) (sym (map_both left (x ∷ [])) ∙ ap (map f) (sym is))

-- what holds of each number below j, and of j
pub each_more : (Q : ℕ → Type 0) (j : ℕ) → ((i : ℕ) → i < j → Q i) → Q j → (i : ℕ) → i < j + 1 → Q i
each_more Q j below q i low = dite (ℕ_discrete i j) (λ same. subst Q (sym same) q) (λ apart. below i (let a = apart in omega arith))

module _ {T P : Type 0} where
  -- Q of the first j stations
  abbrev pub Below : (Post T P → Type 0) → List (Post T P) → ℕ → Type 0
  Below Q posts j = (k : ℕ) (s : Post T P) → k < j → get_elem? posts k ≡ some s → Q s

  pub below_none : (Q : Post T P → Type 0) (posts : List (Post T P)) → Below Q posts 0
  below_none Q posts k s low at = absurd (omega arith)

  pub below_more : (Q : Post T P → Type 0) (posts : List (Post T P)) (j : ℕ) (t : Post T P) → Below Q posts j → get_elem? posts j ≡ some t → Q t → Below Q posts (j + 1)
  below_more Q posts j t below here q k s low at =
      dite (ℕ_discrete k j)
      (λ same. subst Q (one_at posts j t s here (ap (λ (z : ℕ). get_elem? posts z) (sym same) ∙ at)) q)
      (λ apart. below k s (let a = apart in omega arith) at)

  pub below_all : (Q : Post T P → Type 0) (posts : List (Post T P)) (j : ℕ) → Below Q posts j → length posts ≤ j → (k : ℕ) (s : Post T P) → get_elem? posts k ≡ some s → Q s
  below_all Q posts j below long k s at = below k s (let low = within posts k s at in omega arith) at

  -- what holds of all stations holds of those that are left, and of the one that is taken
  pub left_of : (Q : Post T P → Type 0) (old left : List (Post T P)) (s : Post T P) → old ≡ left ++ s ∷ [] → ((k : ℕ) (t : Post T P) → get_elem? old k ≡ some t → Q t)
      → ((k : ℕ) (t : Post T P) → get_elem? left k ≡ some t → Q t) × Q s
  left_of Q old left s is all = (
    (λ k t at. all k t (ap (λ (z : List (Post T P)). get_elem? z k) is ∙ at_longer left (s ∷ []) k t at)),
    all (length left) s (ap (λ (z : List (Post T P)). get_elem? z (length left)) is ∙ at_last left s (length left) refl),
  )

  pub nodes_are : (posts : List (Post T P)) (n : ℕ) → 0 < length posts → ((k : ℕ) (t : Post T P) → get_elem? posts k ≡ some t → t.nodes ≡ n) → nodes_in posts ≡ n
  nodes_are [] n low all = absurd (omega arith)
  nodes_are (t ∷ posts) n low all = all 0 t refl

  receipts_step : (posts : List (Post T P)) (j : ℕ) (t : Post T P) → get_elem? posts j ≡ some t → receipts_of (take (suc j) posts) ≡ receipts_of (take j posts) ++ t.me.receipts
  receipts_step [] j t at = absurd (some-ne-none t (sym at))
  receipts_step (s ∷ posts) zero t at = append-nil s.me.receipts ∙ ap (λ (z : Post T P). z.me.receipts) (some-injective s t at)
  receipts_step (s ∷ posts) (suc j) t at = ap (λ (z : List Receipt). s.me.receipts ++ z) (receipts_step posts j t at) ∙ sym (append_assoc s.me.receipts (receipts_of (take j posts)) t.me.receipts)

  pub receipts_more : (posts : List (Post T P)) (j : ℕ) (t : Post T P) (all more : List Receipt) → get_elem? posts j ≡ some t → all ≡ receipts_of (take j posts) → more ≡ all ++ t.me.receipts → more ≡ receipts_of (take (j + 1) posts)
  receipts_more posts j t all more at was is =
      is ∙ ap (λ (z : List Receipt). z ++ t.me.receipts) was ∙ sym (receipts_step posts j t at) ∙ ap (λ (k : ℕ). receipts_of (take k posts)) (let e : suc j ≡ j + 1 = omega arith in e)

module _ {S M : Type 0} (posts : List (Post (MemberState S) (Parcel M))) where
  pub owned_at : (j : ℕ) (s : Post (MemberState S) (Parcel M)) → get_elem? posts j ≡ some s → IsNode (owned_in posts) j (owned_of s.me)
  owned_at j s at = get_map (λ (p : Post (MemberState S) (Parcel M)). owned_of p.me) posts j s (as_slice_at posts j s at)

  -- the join with the journal of one station more
  pub join_station : (j : ℕ) (s : Post (MemberState S) (Parcel M)) (all journal more : JournalState) → get_elem? posts j ≡ some s → IsJoinOfNodes (take j (owned_in posts)) all → journal ≡ s.me.member.journal → more ≡ joined journal all → IsLeastJournal all journal more → IsJoinOfNodes (take (j + 1) (owned_in posts)) more
  join_station j s all journal more at join same made bound =
      join_next (owned_in posts) j (owned_of s.me) all more (owned_at j s at) join (made ∙ ap (λ (z : JournalState). joined z all) same) (subst (λ (z : JournalState). IsLeastJournal all z more) same bound)

  pub join_whole : (j : ℕ) (all : JournalState) → IsJoinOfNodes (take j (owned_in posts)) all → length posts ≤ j → IsJoinOfNodes (owned_in posts) all
  join_whole j all join long =
      subst (λ l. IsJoinOfNodes l all) (take_all j (owned_in posts) (let size = length-map posts (λ (p : Post (MemberState S) (Parcel M)). owned_of p.me) in omega arith)) join

-- journals that agree want nothing but memory, so that no conflict is answered
pub no_conflict : {A : Type 0} (fault : MergeFault) (r : Result A MergeFault) (n : ℕ) → IsOk {T = ℕ} {E = MergeFault} (Err fault) ⊎ (◌≡◌ {A = Result ℕ MergeFault} (Err fault) (Err Memory)) → IsErrAnd r (λ f. f ≡ fault) → r ≡ Err (Conflict n) → ⊥
no_conflict fault (Ok a) n memory is e = cc
no_conflict fault (Err f) n (inl bad) is e = cc
no_conflict fault (Err f) n (inr m) is e = cc

-- a fault that is passed on
pub same_fault : {A : Type 0} (fault : MergeFault) (r : Result A MergeFault) (n : ℕ) → IsErrAnd r (λ f. f ≡ fault) → r ≡ Err (Conflict n) → fault ≡ Conflict n
same_fault fault (Ok a) n is e = cc
same_fault fault (Err f) n is e = cc

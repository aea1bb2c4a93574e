-- Any two sets of a grid meet, and any two of a plane.
use Rattle.std.proofs.Common.{ℕ, zero, suc, ◌+◌, ◌*◌, ◌/◌, ◌%◌, ◌<◌, ◌≡◌, inl, inr, ◌↔◌, Bool, true, false, ◌&&◌, ◌||◌, nat_eq, List, [], ◌∷◌, refl, sym, subst, arith, add-zero, Ok, Err, Result, IsOk, IfOk, IfErr}
use Rattle.std.proofs.lemmas.Nat.{rows, mod-mul-add, div-mul-add}
use Rattle.std.proofs.Math.Nat.{mod-eq_of_lt}
use Rattle.std.proofs.lemmas.Bool.Decides.{nat_tests}
use Rattle.mx_stamps.specs.Lists.{IsIn}
use Rattle.mx_stamps.proofs.Lists.{dec_eq}
use Rattle.mx_stamps.proofs.Choices.{bool_cases, and_true, or_false}
use Rattle.mx_quorums.specs.Family.{Family}
use Rattle.mx_quorums.specs.Rules.{AllOwn, AllMeet}
use Rattle.mx_quorums.specs.Shapes.{IsInLine, IsGrid, IsPlaneSize, difference_set, IsShifted}
use Rattle.mx_quorums.specs.Rows.{IsMember, IsFirstRowFault, IsChecked}
use Rattle.mx_quorums.specs.declared.fault.QuorumFault.{QuorumFault}
use Rattle.mx_quorums.specs.declared.fault.QuorumFault.TheVariants.{NotOwnMember, Apart}

-- rows that meet have no fault
rows_no_fault : (n : ℕ) (marks : List (List Bool)) (f : QuorumFault) → AllOwn (IsMember marks) n
    → AllMeet (IsMember marks) n → IsFirstRowFault n marks f → ⊥
rows_no_fault n marks (NotOwnMember i) own meet a = a.1 (own i a.0)
rows_no_fault n marks (Apart i j) own meet a = a.1.1.1 (meet i j a.1.0.0 a.1.1.0)
rows_no_fault n marks _ own meet a = a

-- so their check accepts them
accepts : (n : ℕ) (marks : List (List Bool)) → AllOwn (IsMember marks) n → AllMeet (IsMember marks) n
    → (r : Result Family QuorumFault) → IsChecked n marks r → IsOk r
accepts n marks own meet (Ok q) h = refl
accepts n marks own meet (Err f) h = absurd (rows_no_fault n marks f own meet h)

-- the node in the row of i and in the column of j is in the sets of both
grid_meet : (height cols i j : ℕ) → 0 < cols → i < height * cols → j < height * cols
    → (a : ℕ) × IsInLine (height * cols) cols i a × IsInLine (height * cols) cols j a
grid_meet height cols i j some lt lt2 =
    let row : i / cols < height = grind (arith, rows) in
    let column : j % cols < cols = omega arith in
    let a : ℕ = (i / cols) * cols + j % cols in
    let in_grid : a < height * cols = grind (arith, rows) in
    (a, (in_grid, inl (sym (div-mul-add (i / cols) cols (j % cols) column))), (in_grid, inr (sym (mod-mul-add (i / cols) cols (j % cols) column))))

-- a grid is accepted
pub grid_accepted : (height cols n : ℕ) (marks : List (List Bool)) → n ≡ height * cols → 0 < n
    → ((i j : ℕ) → IsMember marks i j ↔ ((i < n) × IsInLine n cols i j))
    → (r : Result Family QuorumFault) → IsChecked n marks r → IsOk r
grid_accepted height zero n marks e some same r h = absurd (omega arith)
grid_accepted height (suc c) n marks e some same r h =
    let meet : AllMeet (IsMember marks) n = λ i j lt lt2.
    let w = grid_meet height (suc c) i j (omega arith) (subst (λ m. i < m) e lt) (subst (λ m. j < m) e lt2) in
    (w.0, (same i w.0).1 (lt, subst (λ m. IsInLine m (suc c) i w.0) (sym e) w.1), (same j w.0).1 (lt2, subst (λ m. IsInLine m (suc c) j w.0) (sym e) w.2)) in
    accepts n marks (λ i lt. (same i i).1 (lt, (lt, inl refl))) meet r h

-- what is accepted is the grid
pub grid_sets : (height cols n : ℕ) (marks : List (List Bool)) → n ≡ height * cols
    → ((i j : ℕ) → IsMember marks i j ↔ ((i < n) × IsInLine n cols i j))
    → (r : Result Family QuorumFault) → IsChecked n marks r → IfOk r (λ f. IsGrid height cols f)
grid_sets height cols n marks e same (Ok q) h = subst (λ f. IsGrid height cols f) (sym h.0) (record {
  count = e;
  sets = λ i j. subst (λ m. IsMember marks i j ↔ ((i < m) × IsInLine m cols i j)) e (same i j);
})
grid_sets height cols n marks e same (Err f) h = tt

-- the test passes at each number below n
all_under : (ℕ → Bool) → ℕ → Bool
all_under p zero = true
all_under p (suc n) = p n && all_under p n

-- the test passes at some number of the list
some_in : (ℕ → Bool) → List ℕ → Bool
some_in p [] = false
some_in p (x ∷ xs) = p x || some_in p xs

all_under_at : (p : ℕ → Bool) (n i : ℕ) → all_under p n ≡ true → i < n → p i ≡ true
unfolding all_under
all_under_at p zero i h lt = absurd (omega arith)
all_under_at p (suc n) i h lt =
    let both = and_true (p n) (all_under p n) h in
    elim (dec_eq i n) [ inl e ↦ subst (λ k. p k ≡ true) (sym e) both.0 | inr ne ↦ all_under_at p n i both.1 (omega (arith, ne)) ]

some_in_at : (p : ℕ → Bool) (xs : List ℕ) → some_in p xs ≡ true → (x : ℕ) × IsIn x xs × (p x ≡ true)
unfolding some_in
some_in_at p [] h = let bad : ⊥ = cc in absurd bad
some_in_at p (x ∷ xs) h = elim (bool_cases (p x)) [
  | inl pass ↦ (x, inl refl, pass)
  | inr fail ↦ let w = some_in_at p xs (or_false (p x) (some_in p xs) h fail) in (w.0, inr w.1, w.2)
]

-- whether nodes i and j have a common node
shifts_meet : ℕ → List ℕ → ℕ → ℕ → Bool
shifts_meet n ds i j = some_in (λ d. some_in (λ e. nat_eq ((i + d) % n) ((j + e) % n)) ds) ds

all_shifts_meet : ℕ → List ℕ → Bool
all_shifts_meet n ds = all_under (λ i. all_under (shifts_meet n ds i) n) n

seven : all_shifts_meet 7 (0 ∷ 1 ∷ 3 ∷ []) ≡ true
unfolding all_shifts_meet shifts_meet all_under some_in
seven = refl

thirteen : all_shifts_meet 13 (0 ∷ 1 ∷ 3 ∷ 9 ∷ []) ≡ true
unfolding all_shifts_meet shifts_meet all_under some_in
thirteen = refl

twenty_one : all_shifts_meet 21 (0 ∷ 1 ∷ 4 ∷ 14 ∷ 16 ∷ []) ≡ true
unfolding all_shifts_meet shifts_meet all_under some_in
twenty_one = refl

plane_table : (n : ℕ) → IsPlaneSize n → all_shifts_meet n (difference_set n) ≡ true
plane_table n (inl e) = subst (λ m. all_shifts_meet m (difference_set m) ≡ true) (sym e) seven
plane_table n (inr (inl e)) = subst (λ m. all_shifts_meet m (difference_set m) ≡ true) (sym e) thirteen
plane_table n (inr (inr e)) = subst (λ m. all_shifts_meet m (difference_set m) ≡ true) (sym e) twenty_one

plane_meet : (n i j : ℕ) → IsPlaneSize n → i < n → j < n
    → (a : ℕ) × IsShifted n (difference_set n) i a × IsShifted n (difference_set n) j a
unfolding all_shifts_meet shifts_meet
plane_meet n i j size lt lt2 =
    let row = all_under_at (λ k. all_under (shifts_meet n (difference_set n) k) n) n i (plane_table n size) lt in
    let pair = all_under_at (shifts_meet n (difference_set n) i) n j row lt2 in
    let d = some_in_at (λ d. some_in (λ e. nat_eq ((i + d) % n) ((j + e) % n)) (difference_set n)) (difference_set n) pair in
    let e = some_in_at (λ e. nat_eq ((i + d.0) % n) ((j + e) % n)) (difference_set n) d.2 in
    let same : (i + d.0) % n ≡ (j + e.0) % n = grind (arith, nat_tests, e.2) in
    ((i + d.0) % n, (d.0, d.1, refl), (e.0, e.1, sym same))

own_rest : (n i : ℕ) → i < n → (i + 0) % n ≡ i
own_rest n i lt = rw add-zero (mod-eq_of_lt lt)

-- node i is its own shift by 0
plane_own : (n i : ℕ) → IsPlaneSize n → i < n → IsShifted n (difference_set n) i i
plane_own n i (inl e) lt = (0, subst (λ m. IsIn 0 (difference_set m)) (sym e) (inl refl), own_rest n i lt)
plane_own n i (inr (inl e)) lt = (0, subst (λ m. IsIn 0 (difference_set m)) (sym e) (inl refl), own_rest n i lt)
plane_own n i (inr (inr e)) lt = (0, subst (λ m. IsIn 0 (difference_set m)) (sym e) (inl refl), own_rest n i lt)

-- a plane is accepted
pub plane_accepted : (n : ℕ) (marks : List (List Bool)) → IsPlaneSize n
    → ((i j : ℕ) → IsMember marks i j ↔ ((i < n) × IsShifted n (difference_set n) i j))
    → (r : Result Family QuorumFault) → IsChecked n marks r → IsOk r
plane_accepted n marks size same r h =
    let meet : AllMeet (IsMember marks) n = λ i j lt lt2. let w = plane_meet n i j size lt lt2 in (w.0, (same i w.0).1 (lt, w.1), (same j w.0).1 (lt2, w.2)) in
    accepts n marks (λ i lt. (same i i).1 (lt, plane_own n i size lt)) meet r h

-- what was accepted was not refused
pub no_error : (P : QuorumFault → Type 0) (r : Result Family QuorumFault) → IsOk r → IfErr r P
no_error P (Ok q) h = tt
no_error P (Err f) h = let bad : ⊥ = cc in absurd bad

-- The line of a node, one text after another.
use Rattle.std.proofs.Common.{◌≡◌, ◌∙◌, ◌<◌, ◌+◌, ◌++◌, ℕ, Bool, List, Option, Some, Result, Ok, Err, OnOk, ap, append_assoc, arith, drop, length, slice_get, subst, unwrap_or, inl, inr, []}
use Rattle.std.specs.Prelude.{is_ok, if◌then◌else◌}
use Rattle.std.specs.Bool.{⊤}
use Rattle.std.specs.Option.{option_map}
use Rattle.std.specs.declared.alloc.AllocError.{AllocError}
use Rattle.std.specs.Iterator.{Yields, YieldsFirst}
use Rattle.std.specs.List.{range_with_len}
use Rattle.std.proofs.lemmas.Iterator.Consumers.{YieldsList-from_first, YieldsList-turn}
use Rattle.std.proofs.lemmas.List.FromFn.{get_or-range_with_len, length-range_with_len}
use Rattle.std.proofs.lemmas.Option.{slice_get_cases}
use Rattle.mx_journal.specs.Settled.{JournalState}
use Rattle.mx_registers.specs.declared.contents.Content.{Content}
use Rattle.mx_registers.specs.Based.{registers_in}
use Rattle.mx_registers.specs.Registers.{value_in}
use Rattle.mx_stamps.proofs.Lists.{has_each_below}
use Rattle.mx_plan.specs.Text.{Text}
use Rattle.mx_plan.specs.Fields.{Fields}
use Rattle.mx_format.specs.EventTexts.{register_name_of}
use Rattle.mx_format.specs.Lines.{texts_from}
use Rattle.mx_format.specs.NodeTexts.{register_in, value_by}
use Rattle.mx_format.proofs.Places.{place_more}

-- three texts that were appended in turn
pub three : (r : Result ⊤ AllocError) (t t1 t2 t3 a b c : Text) → t1 ≡ t ++ a → t2 ≡ t1 ++ b → t3 ≡ (if is_ok r then t2 ++ c else t2) → OnOk r (t3 ≡ t ++ ((a ++ b) ++ c))
three (Ok u) t t1 t2 t3 a b c first second third =
    third ∙ ap (λ (l : Text). l ++ c) (second ∙ ap (λ (l : Text). l ++ b) first ∙ append_assoc t a b) ∙ append_assoc t (a ++ b) c
three (Err e) t t1 t2 t3 a b c first second third = tt

-- four texts
pub four : (r : Result ⊤ AllocError) (t t1 t2 t3 t4 a b c d : Text) → t1 ≡ t ++ a → t2 ≡ t1 ++ b → t3 ≡ t2 ++ c → t4 ≡ (if is_ok r then t3 ++ d else t3)
    → OnOk r (t4 ≡ t ++ (((a ++ b) ++ c) ++ d))
four r t t1 t2 t3 t4 a b c d first second = three r t t2 t3 t4 (a ++ b) c d (second ∙ ap (λ (l : Text). l ++ b) first ∙ append_assoc t a b)

-- a list has something at each place below its length
pub is_at : {X : Type 0} (xs : List X) (k : ℕ) → k < length xs → (x : X) × (slice_get xs k ≡ Some x)
is_at xs k lt = elim (slice_get_cases xs k).1 [
  | inl q ↦ (q.0, q.2)
  | inr q ↦ absurd (omega (arith, lt, q.0))
]

-- a node that comes from the nodes below n
pub node_below : (n : ℕ) (s t u xs : List ℕ) (r : Option ℕ) (x : ℕ) → Yields (YieldsFirst (λ ids. ids)) s xs t → s ≡ range_with_len 0 n → r ≡ Some x → YieldsFirst (λ ids. ids) t r u → x < n
node_below n s t u xs r x so_far is some step =
    let turn = YieldsList-turn (YieldsList-from_first (λ x. x) (λ ids. ids) (range_with_len 0 n) is) xs t so_far r u x some step in
    let lt : length xs < n = subst (λ (m : ℕ). length xs < m) (length-range_with_len 0 n) turn.0 in
    let is_at : x ≡ 0 + length xs = turn.1 ∙ get_or-range_with_len 0 n (length xs) x lt in
    omega (arith, lt, is_at)

-- the value of a register that is there
pub value_there : (count : ℕ) (journal : JournalState) (k : ℕ) → k < count → value_in k (registers_in count journal) ≡ Some (register_in k journal).value
value_there count journal k lt = ap (option_map (λ (cell : Content). cell.value)) (has_each_below (λ r. register_in r journal) count k lt)

-- the value of one more register
pub value_more : (is_json : Bool) (p : Fields) (journal : JournalState) (k end count : ℕ) (name : Text) (found : Option ℕ) (value : ℕ) (t t' : Text)
    → k < end → end ≡ length p.registers → count ≡ length p.registers → name ≡ register_name_of p k → found ≡ value_in k (registers_in count journal) → value ≡ unwrap_or found 0
    → t' ≡ t ++ value_by is_json k name value
    → t ++ texts_from (λ i x. value_by is_json i x (register_in i journal).value) k (drop k p.registers)
    ≡ t' ++ texts_from (λ i x. value_by is_json i x (register_in i journal).value) (k + 1) (drop (k + 1) p.registers)
value_more is_json p journal k end count name found value t t' lt is_end is_count named is_found is e =
    let here : k < length p.registers = omega (arith, lt, is_end) in
    let few : k < count = omega (arith, here, is_count) in
    let there = is_at p.registers k here in
    let name_is : name ≡ there.0 = named ∙ ap (λ (o : Option Text). unwrap_or o []) there.1 in
    let value_is : value ≡ (register_in k journal).value = is ∙ ap (λ (o : Option ℕ). unwrap_or o 0) (is_found ∙ value_there count journal k few) in
    place_more (λ i x. value_by is_json i x (register_in i journal).value) p.registers k there.0 t t' there.1
    (e ∙ ap (λ (x : Text). t ++ value_by is_json k x value) name_is ∙ ap (λ (v : ℕ). t ++ value_by is_json k there.0 v) value_is)

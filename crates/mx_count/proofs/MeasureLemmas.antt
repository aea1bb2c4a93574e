-- Measures of a trace, one item after another.
use Rattle.std.proofs.Common.{◌≡◌, ◌∙◌, ◌<◌, ◌≤◌, ◌+◌, ◌-◌, ◌++◌, ℕ, List, ap, append_assoc, arith, drop, get_or, length, sym, take}
use Rattle.std.proofs.lemmas.List.{at_drop_all, at_drop_more, length-drop, take_all}
use Rattle.mx_stamps.proofs.Lists.{append_nil}
use Rattle.mx_trace.specs.declared.outcome.Entry.{Entry}
use Rattle.mx_member.specs.declared.parcel.Parcel.{Parcel}
use Rattle.mx_count.specs.Measures.{end_from, letters_until, measured}
use Rattle.mx_count.specs.declared.measures.Measure.{Measure}

-- one more item of the trace, and what begins there
pub measured_more : {M : Type 0} (measure : Measure) (sent : List (ℕ × ℕ × Parcel M)) (xs : List Entry) (k : ℕ) (a b total : List ℕ) (e : Entry) → k < length xs
    → a ++ measured measure sent (drop k xs) ≡ total
    → b ≡ a ++ letters_until sent (take (length xs - (k + 1)) (drop (k + 1) xs)) (end_from measure e (take (length xs - (k + 1)) (drop (k + 1) xs))) → e ≡ get_or xs k e
    → b ++ measured measure sent (drop (k + 1) xs) ≡ total
unfolding measured
measured_more {M} measure sent xs k a b total e lt is more there =
    let rest = drop (k + 1) xs in
    let left : length rest ≡ length xs - (k + 1) = length-drop (k + 1) xs in
    let few : length rest ≤ length xs - (k + 1) = omega (arith, left) in
    let begun = λ (r : List Entry) (x : Entry). letters_until sent r (end_from measure x r) in
    let one : b ≡ a ++ begun rest e = more ∙ ap (λ (r : List Entry). a ++ begun r e) (take_all (length xs - (k + 1)) rest few) in
    let same : b ≡ a ++ begun rest (get_or xs k e) = one ∙ ap (λ (x : Entry). a ++ begun rest x) there in
    ap (λ (l : List ℕ). l ++ measured measure sent rest) same ∙ append_assoc a (begun rest (get_or xs k e)) (measured measure sent rest)
    ∙ ap (λ (l : List ℕ). a ++ l) (sym (at_drop_more (measured measure sent) xs k e lt)) ∙ is

pub measured_end : {M : Type 0} (measure : Measure) (sent : List (ℕ × ℕ × Parcel M)) (xs : List Entry) (k : ℕ) (a total : List ℕ) → length xs ≤ k
    → a ++ measured measure sent (drop k xs) ≡ total → a ≡ total
unfolding measured
measured_end {M} measure sent xs k a total le is = sym (append_nil a) ∙ ap (λ (l : List ℕ). a ++ l) (sym (at_drop_all (measured measure sent) xs k le)) ∙ is

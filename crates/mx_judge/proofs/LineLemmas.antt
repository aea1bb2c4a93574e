-- The lines of a text, one after another.
use Rattle.std.proofs.Common.{◌≡◌, ◌∙◌, ◌⊎◌, ◌==◌, ℕ, ◌+◌, ◌<◌, ◌≤◌, zero, suc, List, [], ◌∷◌, Bool, true, false, length, length-drop, map, ap, arith, inl, inr, refl, sym, Result, Ok, Err}
use Rattle.std.specs.Prelude.{not}
use Rattle.std.specs.List.{after_first, before_first, onto_first, position_or_len}
use Rattle.std.proofs.lemmas.List.{take_all}
use Rattle.std.proofs.lemmas.List.Folds.{length-prefix_len}
use Rattle.std.proofs.lemmas.List.Sums.{prefix_len-le-length}
use Rattle.std.proofs.lemmas.List.Splits.{slice_split-cons_no, slice_split_first}
use Rattle.mx_plan.specs.Text.{Text}
use Rattle.mx_plan.specs.Fields.{Fields}
use Rattle.mx_judge.specs.Faults.{line_fault}
use Rattle.mx_judge.specs.Listed.{ReadTrace}
use Rattle.mx_judge.specs.Traces.{entries_from, go_on, line_item, lines_of, with_item}
use Rattle.mx_judge.specs.declared.faults.ItemFault.{ItemFault}
use Rattle.mx_judge.specs.declared.faults.TraceFault.{TraceFault}

abbrev pub is_feed : ℕ → Bool
is_feed b = b == 10

-- one more byte before a text that is one line if it has no line feed
one_more : (b : ℕ) (bs : Text) (t : Bool) → is_feed b ≡ t → position_or_len is_feed (b ∷ bs) ≡ length (b ∷ bs)
    → (position_or_len is_feed bs ≡ length bs → lines_of bs ≡ bs ∷ []) → lines_of (b ∷ bs) ≡ (b ∷ bs) ∷ []
one_more b bs true e h more = let none : 0 ≡ suc (length bs) = (rw e at h) in absurd (omega (arith, none))
one_more b bs false e h more =
    let less : 1 + position_or_len is_feed bs ≡ suc (length bs) = (rw e at h) in
    slice_split-cons_no is_feed b bs e ∙ ap (onto_first b) (more (omega (arith, less)))

-- a text without a line feed is one line
one_line : (text : Text) → position_or_len is_feed text ≡ length text → lines_of text ≡ text ∷ []
one_line [] h = refl
one_line (b ∷ bs) h = one_more b bs (is_feed b) refl h (one_line bs)

-- the first line of a text that has more, and of one that has not
pub more_lines : (text : Text) → length (before_first is_feed text) < length text → lines_of text ≡ before_first is_feed text ∷ lines_of (after_first is_feed text)
more_lines text h = slice_split_first is_feed text 0 (omega (arith, h, length-prefix_len (λ x. not (is_feed x)) text))

pub last_line : (text : Text) → length (before_first is_feed text) ≡ length text → lines_of text ≡ before_first is_feed text ∷ []
last_line text h =
    let at : position_or_len is_feed text ≡ length text = sym (length-prefix_len (λ x. not (is_feed x)) text) ∙ h in
    one_line text at ∙ ap (λ l. l ∷ []) (sym (take_all (position_or_len is_feed text) text (omega (arith, at))))

less_or_same : (m n : ℕ) → m ≤ n → (m < n) ⊎ (m ≡ n)
less_or_same zero zero h = inr refl
less_or_same zero (suc n) h = inl (omega arith)
less_or_same (suc m) zero h = absurd (omega (arith, h))
less_or_same (suc m) (suc n) h = elim (less_or_same m n (omega (arith, h))) [ inl less ↦ inl (omega (arith, less)) | inr same ↦ inr (ap suc same) ]

pub within_text : (text : Text) → length (before_first is_feed text) ≤ length text
within_text text = omega (arith, length-prefix_len (λ x. not (is_feed x)) text, prefix_len-le-length (λ x. not (is_feed x)) text)

-- a first line, whatever follows
first_line : (text : Text) → (others : List Text) × (lines_of text ≡ before_first is_feed text ∷ others)
first_line text =
    elim (less_or_same (length (before_first is_feed text)) (length text) (within_text text)) [
      | inl less ↦ (lines_of (after_first is_feed text), more_lines text less)
      | inr same ↦ ([], last_line text same)
    ]

pub less_after : (text : Text) → length (before_first is_feed text) < length text → length (after_first is_feed text) < length text
less_after text h = omega (arith, h, length-drop (position_or_len is_feed text + 1) text)

module _ (p : Fields) (t : ReadTrace) (k : ℕ) (rest : Text) where
  -- this trace, and the entries of the lines of the rest
  abbrev pub from_lines : Result ReadTrace TraceFault
  from_lines = entries_from line_fault t k (map (line_item p) (lines_of rest))

  of_lines : (line : Text) (others : List Text) → lines_of rest ≡ line ∷ others
      → from_lines ≡ go_on line_fault k (with_item k t (line_item p line t.names)) (λ more. entries_from line_fault more (k + 1) (map (line_item p) others))
  unfolding entries_from
  of_lines line others are = ap (λ ls. entries_from line_fault t k (map (line_item p) ls)) are

  -- a line that is a fault ends it
  pub line_refused : (fault : ItemFault) → with_item k t (line_item p (before_first is_feed rest) t.names) ≡ Err fault → from_lines ≡ Err (line_fault k fault)
  line_refused fault is =
      let first = first_line rest in
      of_lines (before_first is_feed rest) first.0 first.1
      ∙ ap (λ r. go_on line_fault k r (λ more. entries_from line_fault more (k + 1) (map (line_item p) first.0))) is

  -- the last line
  pub lines_end : (more : ReadTrace) → length (before_first is_feed rest) ≡ length rest
      → with_item k t (line_item p (before_first is_feed rest) t.names) ≡ Ok more → from_lines ≡ Ok more
  unfolding entries_from
  lines_end more same is =
      of_lines (before_first is_feed rest) [] (last_line rest same)
      ∙ ap (λ r. go_on line_fault k r (λ l. entries_from line_fault l (k + 1) [])) is

-- a line that is followed by others
pub lines_go_on : (p : Fields) (t more : ReadTrace) (k : ℕ) (rest : Text) → length (before_first is_feed rest) < length rest
    → with_item k t (line_item p (before_first is_feed rest) t.names) ≡ Ok more → from_lines p t k rest ≡ from_lines p more (k + 1) (after_first is_feed rest)
lines_go_on p t more k rest less is =
    of_lines p t k rest (before_first is_feed rest) (lines_of (after_first is_feed rest)) (more_lines rest less)
    ∙ ap (λ r. go_on line_fault k r (λ l. entries_from line_fault l (k + 1) (map (line_item p) (lines_of (after_first is_feed rest))))) is

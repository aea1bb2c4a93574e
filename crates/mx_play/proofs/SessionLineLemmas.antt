-- The lines of a text, one after another, and the turns that are theirs.
use Rattle.std.proofs.Common.{◌≡◌, ◌≤◌, ◌<◌, ◌∙◌, ◌+◌, ◌==◌, ℕ, suc, Bool, true, false, [], ◌∷◌, ◌++◌, Some, length, take, drop, refl, sym, ap, ap₂, subst, arith}
use Rattle.std.specs.Prelude.{cond, not, if◌then◌else◌}
use Rattle.std.specs.List.{after_first, before_first, position_or_len}
use Rattle.mx_plan.specs.Text.{Text}
use Rattle.mx_play.specs.Lines.{ReadsNext, before_lines, lines_of}
use Rattle.mx_play.specs.declared.line_sources.LineRead.TheVariants.{Line, TooLong}
use Rattle.mx_play.specs.declared.line_sources.TheConstants.{MAX_LINE}

-- the number of bytes before a line feed
abbrev place : Text → ℕ
place bs = position_or_len (λ b. b == 10) bs

one_more : (n : ℕ) → 1 + n ≡ suc n
one_more n = omega arith

two_more : (n : ℕ) → 1 + n + 1 ≡ suc (n + 1)
two_more n = omega arith

abbrev Splits : ℕ → Text → Bool → Type 0
Splits b bs is_feed =
    (if is_feed then [] ∷ lines_of bs else before_lines b (lines_of bs))
    ≡ take (cond (not is_feed) (1 + place bs) 0) (b ∷ bs) ∷ lines_of (drop (cond (not is_feed) (1 + place bs) 0 + 1) (b ∷ bs))

later : (b : ℕ) (bs : Text) → lines_of bs ≡ take (place bs) bs ∷ lines_of (drop (place bs + 1) bs) → Splits b bs false
later b bs is =
    ap (before_lines b) is
    ∙ ap₂ (λ (m n : ℕ). take m (b ∷ bs) ∷ lines_of (drop n (b ∷ bs))) (sym (one_more (place bs))) (sym (two_more (place bs)))

-- a text that is not empty: its first line, and then the others
line_split : (b : ℕ) (bs : Text) → lines_of (b ∷ bs) ≡ take (place (b ∷ bs)) (b ∷ bs) ∷ lines_of (drop (place (b ∷ bs) + 1) (b ∷ bs))
line_split b [] = elim (b == 10) as (λ is_feed. Splits b [] is_feed) [ true ↦ refl | false ↦ refl ]
line_split b (c ∷ cs) =
    elim (b == 10) as (λ is_feed. Splits b (c ∷ cs) is_feed) [ true ↦ refl | false ↦ later b (c ∷ cs) (line_split c cs) ]

first_line : (bs : Text) → (bs ≡ [] → ⊥) → lines_of bs ≡ before_first (λ b. b == 10) bs ∷ lines_of (after_first (λ b. b == 10) bs)
first_line [] some = absurd (some refl)
first_line (b ∷ bs) some = line_split b bs

-- the first line was read into an empty buffer
pub reads_line : (bs first rest empty buffer : Text) → (bs ≡ [] → ⊥) → first ≡ before_first (λ b. b == 10) bs → rest ≡ after_first (λ b. b == 10) bs → length first ≤ MAX_LINE
    → empty ≡ [] → buffer ≡ empty ++ first → ReadsNext (Some (lines_of bs)) Line buffer (Some (lines_of rest))
reads_line bs first rest empty buffer some is after short none got =
    let lines : lines_of bs ≡ first ∷ lines_of rest = first_line bs some ∙ ap₂ (λ (l r : Text). l ∷ lines_of r) (sym is) (sym after) in
    let whole : buffer ≡ first = got ∙ ap (λ (l : Text). l ++ first) none in
    subst (λ (l : Text). ReadsNext (Some (lines_of bs)) Line l (Some (lines_of rest))) (sym whole) (short, (lines_of rest, lines, refl))

-- the first line is too long
pub reads_long : (bs first rest buffer : Text) → (bs ≡ [] → ⊥) → first ≡ before_first (λ b. b == 10) bs → rest ≡ after_first (λ b. b == 10) bs → MAX_LINE < length first
    → ReadsNext (Some (lines_of bs)) TooLong buffer (Some (lines_of rest))
reads_long bs first rest buffer some is after long =
    (first, long, (lines_of rest, first_line bs some ∙ ap₂ (λ (l r : Text). l ∷ lines_of r) (sym is) (sym after), refl))

-- The lines of a report, and the last line of its text.
use Rattle.std.proofs.Common.{◌≡◌, ◌≢◌, ◌∙◌, ◌++◌, ◌==◌, ◌||◌, ◌&&◌, ◌↔◌, ℕ, Bool, true, false, not, cond, ltb, List, [], ◌∷◌, ap, sym, subst, refl, inl, inr, arith, append_assoc, append-nil}
use Rattle.std.proofs.lemmas.Bool.Decides.{nat_tests}
use Rattle.mx_plan.specs.Text.{Text}
use Rattle.mx_lines.specs.Escapes.{ArePrintable, IsPrintable, shown}
use Rattle.mx_lines.proofs.EscapeLemmas.{ArePrintable-append, shown-printable}
use Rattle.mx_explain.specs.Reports.{AreLines, AreShown, IsReportLine, IsReportText, has_colon, last_line, line_after, line_text, lines_text, nothing_at_fault, report_text}

-- ---- lines

or_true : (b : Bool) → (b || true) ≡ true
or_true true = refl
or_true false = refl

has_colon-after : (a b : Text) → has_colon (a ++ 58 ∷ b) ≡ true
has_colon-after [] b = refl
has_colon-after (x ∷ a) b = ap (λ t. (x == 58) || t) (has_colon-after a b) ∙ or_true (x == 58)

colon-printable : IsPrintable 58
colon-printable = (omega arith, λ e. omega arith)

is_line : (file said : Text) → IsReportLine (line_text file said)
is_line file said =
    subst IsReportLine (sym (append_assoc (shown file) (58 ∷ []) (shown said))) (record {
      printable = ArePrintable-append (shown file) (58 ∷ shown said) (shown-printable file) (colon-printable, shown-printable said);
      colon = has_colon-after (shown file) (shown said);
    })

AreLines-append : (xs ys : List Text) → AreLines xs → AreLines ys → AreLines (xs ++ ys)
AreLines-append [] ys p q = q
AreLines-append (x ∷ xs) ys p q = (p.0, AreLines-append xs ys p.1 q)

lines_text-append : (xs ys : List Text) → lines_text (xs ++ ys) ≡ lines_text xs ++ lines_text ys
lines_text-append [] ys = refl
lines_text-append (x ∷ xs) ys = ap (λ t. x ++ 10 ∷ t) (lines_text-append xs ys) ∙ sym (append_assoc x (10 ∷ lines_text xs) (lines_text ys))

-- ---- reports

-- a line more
pub report_longer : (old new file said : Text) → IsReportText old → new ≡ old ++ (line_text file said ++ 10 ∷ []) → IsReportText new
report_longer old new file said r e = record {
  lines = r.lines ++ line_text file said ∷ [];
  each = AreLines-append r.lines (line_text file said ∷ []) r.each (is_line file said, tt);
  are = e ∙ ap (λ t. t ++ (line_text file said ++ 10 ∷ [])) r.are ∙ sym (lines_text-append r.lines (line_text file said ∷ []));
}

-- ---- the last line

eqb_not : (b : ℕ) → IsPrintable b → (b == 10) ≡ false
eqb_not b p = grind (arith, nat_tests)

-- a line that ends becomes the last
line_after-line : (last begun l rest : Text) → ArePrintable l → line_after last begun (l ++ 10 ∷ rest) ≡ line_after (begun ++ l) [] rest
line_after-line last begun [] rest p = ap (λ x. line_after x [] rest) (sym (append-nil begun))
line_after-line last begun (b ∷ l) rest p =
    ap (λ t. cond t (line_after begun [] (l ++ 10 ∷ rest)) (line_after last (begun ++ b ∷ []) (l ++ 10 ∷ rest))) (eqb_not b p.0)
    ∙ line_after-line last (begun ++ b ∷ []) l rest p.1 ∙ ap (λ x. line_after x [] rest) (append_assoc begun (b ∷ []) l)

-- the text of the last line, or this one
last_text : Text → List Text → Text
last_text last [] = last
last_text last (l ∷ ls) = last_text l ls

line_after-lines : (last : Text) (ls : List Text) (rest : Text) → AreLines ls → line_after last [] (lines_text ls ++ rest) ≡ line_after (last_text last ls) [] rest
unfolding last_text
line_after-lines last [] rest p = refl
line_after-lines last (l ∷ ls) rest p =
    ap (λ x. line_after last [] x) (append_assoc l (10 ∷ lines_text ls) rest)
    ∙ line_after-line last [] l (lines_text ls ++ rest) p.0.printable
    ∙ line_after-lines l ls rest p.1

last_text-colon : (last : Text) (ls : List Text) → AreLines ls → has_colon last ≡ true → has_colon (last_text last ls) ≡ true
unfolding last_text
last_text-colon last [] p h = h
last_text-colon last (l ∷ ls) p h = last_text-colon l ls p.1 p.0.colon

is_nil : Text → Bool
is_nil [] = true
is_nil (b ∷ bs) = false

nothing_has_no_colon : has_colon nothing_at_fault ≡ false
nothing_has_no_colon = refl

last_text-not : (ls : List Text) → AreLines ls → last_text [] ls ≢ nothing_at_fault
unfolding last_text is_nil
last_text-not [] p e = absurd (let bad : true ≡ false = ap is_nil e in cc)
last_text-not (l ∷ ls) p e =
    let colon : has_colon nothing_at_fault ≡ true = subst (λ (x : Text). has_colon x ≡ true) e (last_text-colon l ls p.1 p.0.colon) in
    let none : has_colon nothing_at_fault ≡ false = nothing_has_no_colon in
    absurd (let bad : true ≡ false = sym colon ∙ none in cc)

ends_nothing : (ls : List Text) → AreLines ls → last_line (lines_text ls ++ (nothing_at_fault ++ 10 ∷ [])) ≡ nothing_at_fault
unfolding last_line
ends_nothing ls p = line_after-lines [] ls (nothing_at_fault ++ 10 ∷ []) p ∙ refl

ends_line : (ls : List Text) → AreLines ls → last_line (lines_text ls) ≢ nothing_at_fault
unfolding last_line
ends_line ls p e =
    let last : line_after [] [] (lines_text ls) ≡ last_text [] ls = ap (λ x. line_after [] [] x) (sym (append-nil (lines_text ls))) ∙ line_after-lines [] ls [] p in
    last_text-not ls p (sym last ∙ e)

pub report_well : (w : Bool) (text new : Text) → w ≡ true → IsReportText text → new ≡ report_text text → (last_line new ≡ nothing_at_fault) ↔ (w ≡ true)
report_well true text new n r e =
    let ends = ap last_line (e ∙ ap (λ t. t ++ (nothing_at_fault ++ 10 ∷ [])) r.are) ∙ ends_nothing r.lines r.each in
    (λ q. refl, λ q. ends)
report_well false text new n r e = absurd (let bad : false ≡ true = n in cc)

pub report_at_fault : (w : Bool) (text : Text) → w ≡ false → IsReportText text → (last_line text ≡ nothing_at_fault) ↔ (w ≡ true)
report_at_fault true text n r = absurd (let bad : true ≡ false = n in cc)
report_at_fault false text n r =
    (λ q. absurd (ends_line r.lines r.each (sym (ap last_line r.are) ∙ q)), λ q. absurd (let bad : false ≡ true = q in cc))

-- ---- printable lines

AreShown-line : (l rest : Text) → ArePrintable l → AreShown rest → AreShown (l ++ rest)
AreShown-line [] rest p q = q
AreShown-line (b ∷ l) rest p q = (inr p.0, AreShown-line l rest p.1 q)

AreShown-lines : (ls : List Text) (rest : Text) → AreLines ls → AreShown rest → AreShown (lines_text ls ++ rest)
AreShown-lines [] rest p q = q
AreShown-lines (l ∷ ls) rest p q =
    subst AreShown (sym (append_assoc l (10 ∷ lines_text ls) rest))
    (AreShown-line l (10 ∷ (lines_text ls ++ rest)) p.0.printable (inl refl, AreShown-lines ls rest p.1 q))

test : ℕ → Bool
test b = ltb 31 b && not (b == 127)

tests : Text → Bool
tests [] = true
tests (b ∷ bs) = test b && tests bs

and_left : (a b : Bool) → (a && b) ≡ true → a ≡ true
and_left true b e = refl
and_left false b e = e

and_right : (a b : Bool) → (a && b) ≡ true → b ≡ true
and_right true b e = e
and_right false b e = absurd (let bad : false ≡ true = e in cc)

from_test : (b : ℕ) → test b ≡ true → IsPrintable b
unfolding test
from_test b e = (grind (arith, nat_tests), λ q. grind (arith, nat_tests))

from_tests : (text : Text) → tests text ≡ true → ArePrintable text
unfolding tests
from_tests [] e = tt
from_tests (b ∷ bs) e = (from_test b (and_left (test b) (tests bs) e), from_tests bs (and_right (test b) (tests bs) e))

nothing-printable : ArePrintable nothing_at_fault
unfolding tests test
nothing-printable = from_tests nothing_at_fault refl

pub shown_well : (text new : Text) → IsReportText text → new ≡ report_text text → AreShown new
shown_well text new r e =
    subst AreShown (sym (e ∙ ap (λ t. t ++ (nothing_at_fault ++ 10 ∷ [])) r.are))
    (AreShown-lines r.lines (nothing_at_fault ++ 10 ∷ []) r.each (AreShown-line nothing_at_fault (10 ∷ []) nothing-printable (inl refl, tt)))

pub shown_at_fault : (text : Text) → IsReportText text → AreShown text
shown_at_fault text r = subst AreShown (sym (r.are ∙ sym (append-nil (lines_text r.lines)))) (AreShown-lines r.lines [] r.each tt)

-- Texts that are shown: one character more, and no control byte.
use Rattle.std.proofs.Common.{◌≡◌, ◌≢◌, ◌∙◌, ◌==◌, ◌+◌, ◌/◌, ◌%◌, ◌<◌, ◌≤◌, ◌++◌, ◌||◌, ℕ, zero, suc, Bool, true, false, cond, ltb, List, [], ◌∷◌, map, ap, sym, subst, refl, arith, append_assoc, append-nil}
use Rattle.std.specs.Char.{is_control}
use Rattle.std.specs.Fmt.{digit_glyph, digits, digits_onto}
use Rattle.std.specs.Str.{chars}
use Rattle.std.proofs.lemmas.Bool.Decides.{nat_tests}
use lib.Utf8.{encode}
use Rattle.mx_plan.specs.Text.{Text}
use Rattle.mx_lines.specs.Escapes.{ArePrintable, IsPrintable, escaped, is_format, is_unseen, shown, shown_char, shown_chars}

-- one character more
pub shown_chars_push : (cs : List ℕ) (c : ℕ) → shown_chars (cs ++ c ∷ []) ≡ shown_chars cs ++ shown_char c
shown_chars_push [] c = append-nil (shown_char c)
shown_chars_push (d ∷ cs) c = ap (λ x. shown_char d ++ x) (shown_chars_push cs c) ∙ sym (append_assoc (shown_char d) (shown_chars cs) (shown_char c))

shown_map : (cs : List ℕ) → shown_chars cs ≡ shown_chars (map (λ c. c) cs)
shown_map [] = refl
shown_map (c ∷ cs) = ap (λ x. shown_char c ++ x) (shown_map cs)

-- all characters of a text
pub shown_all : (cs : List ℕ) (text : Text) → map (λ c. c) cs ≡ chars text → shown_chars cs ≡ shown text
unfolding shown
shown_all cs text e = shown_map cs ∙ ap shown_chars e

-- ---- printable

pub ArePrintable-append : (xs ys : Text) → ArePrintable xs → ArePrintable ys → ArePrintable (xs ++ ys)
ArePrintable-append [] ys p q = q
ArePrintable-append (x ∷ xs) ys p q = (p.0, ArePrintable-append xs ys p.1 q)

either : (t : Bool) (xs ys : Text) → ArePrintable xs → ArePrintable ys → ArePrintable (cond t xs ys)
either true xs ys p q = p
either false xs ys p q = q

high : (b : ℕ) → 128 ≤ b → IsPrintable b
high b h = (omega arith, λ e. omega arith)

glyph_by : (d : ℕ) (t : Bool) → ltb d 10 ≡ t → d < 16 → IsPrintable (cond t (48 + d) (87 + d))
glyph_by d true e h = (omega arith, λ q. grind (arith, nat_tests))
glyph_by d false e h = (omega arith, λ q. grind (arith, nat_tests))

glyph : (d : ℕ) → d < 16 → IsPrintable (digit_glyph false d)
glyph d h = glyph_by d (ltb d 10) refl h

-- the digits of a number, each before those after it
digits_before : (k n : ℕ) (after : Text) → ArePrintable after → ArePrintable (digits_onto k 16 false n after)
digits_before zero n after a = a
digits_before (suc k) n after a =
    let more : ArePrintable (digit_glyph false (n % 16) ∷ after) = (glyph (n % 16) (omega arith), a) in
    either (n / 16 == 0) (digit_glyph false (n % 16) ∷ after) (digits_onto k 16 false (n / 16) (digit_glyph false (n % 16) ∷ after)) more (digits_before k (n / 16) (digit_glyph false (n % 16) ∷ after) more)

hex : (n : ℕ) → ArePrintable (digits 16 false n)
unfolding digits
hex n = digits_before 64 n [] tt

plain : (b : ℕ) → 32 ≤ b → b < 127 → IsPrintable b
plain b l h = (l, λ e. omega arith)

numbered : (n : ℕ) → ArePrintable ((92 ∷ 117 ∷ 123 ∷ []) ++ digits 16 false n ++ (125 ∷ []))
numbered n =
    ArePrintable-append ((92 ∷ 117 ∷ 123 ∷ []) ++ digits 16 false n) (125 ∷ [])
    (ArePrintable-append (92 ∷ 117 ∷ 123 ∷ []) (digits 16 false n) (plain 92 (omega arith) (omega arith), (plain 117 (omega arith) (omega arith), (plain 123 (omega arith) (omega arith), tt))) (hex n))
    (plain 125 (omega arith) (omega arith), tt)

letter : (b : ℕ) → 32 ≤ b → b < 127 → ArePrintable (92 ∷ b ∷ [])
letter b l h = (plain 92 (omega arith) (omega arith), (plain b l h, tt))

escaped-printable : (c : ℕ) → ArePrintable (escaped c)
escaped-printable c =
    let t4 : Text = (92 ∷ 117 ∷ 123 ∷ []) ++ digits 16 false c ++ (125 ∷ []) in
    let t3 : Text = cond (c == 13) (92 ∷ 114 ∷ []) t4 in
    let t2 : Text = cond (c == 10) (92 ∷ 110 ∷ []) t3 in
    let t1 : Text = cond (c == 9) (92 ∷ 116 ∷ []) t2 in
    either (c == 0) (92 ∷ 48 ∷ []) t1 (letter 48 (omega arith) (omega arith))
    (either (c == 9) (92 ∷ 116 ∷ []) t2 (letter 116 (omega arith) (omega arith))
    (either (c == 10) (92 ∷ 110 ∷ []) t3 (letter 110 (omega arith) (omega arith))
    (either (c == 13) (92 ∷ 114 ∷ []) t4 (letter 114 (omega arith) (omega arith)) (numbered c))))

encode_by : (c : ℕ) (a b d : Bool) → ltb c 128 ≡ a → 32 ≤ c → c ≢ 127
    → ArePrintable (cond a (c ∷ []) (cond b ((192 + c / 64) ∷ (128 + c % 64) ∷ []) (cond d ((224 + c / 4096) ∷ (128 + c / 64 % 64) ∷ (128 + c % 64) ∷ []) ((240 + c / 262144) ∷ (128 + c / 4096 % 64) ∷ (128 + c / 64 % 64) ∷ (128 + c % 64) ∷ []))))
encode_by c true b d e l n = ((l, n), tt)
encode_by c false true d e l n = (high _ (omega arith), (high _ (omega arith), tt))
encode_by c false false true e l n = (high _ (omega arith), (high _ (omega arith), (high _ (omega arith), tt)))
encode_by c false false false e l n = (high _ (omega arith), (high _ (omega arith), (high _ (omega arith), (high _ (omega arith), tt))))

encode-printable : (c : ℕ) → 32 ≤ c → c ≢ 127 → ArePrintable (encode c)
unfolding encode
encode-printable c l n = encode_by c (ltb c 128) (ltb c 2048) (ltb c 65536) refl l n

plain_above : (c : ℕ) → is_control c ≡ false → 32 ≤ c
plain_above c e = grind (arith, nat_tests)

plain_not : (c : ℕ) → is_control c ≡ false → c ≢ 127
plain_not c e q = grind (arith, nat_tests)

no_control : (t control : Bool) → t || control ≡ false → control ≡ false
no_control true control e = cc
no_control false control e = e

shown_by : (c : ℕ) (t : Bool) → is_unseen c ≡ t → ArePrintable (cond t (escaped c) (encode c))
shown_by c true e = escaped-printable c
shown_by c false e = let plain_one = no_control (is_format c) (is_control c) e in encode-printable c (plain_above c plain_one) (plain_not c plain_one)

shown_char-printable : (c : ℕ) → ArePrintable (shown_char c)
shown_char-printable c = shown_by c (is_unseen c) refl

shown_chars-printable : (cs : List ℕ) → ArePrintable (shown_chars cs)
shown_chars-printable [] = tt
shown_chars-printable (c ∷ cs) = ArePrintable-append (shown_char c) (shown_chars cs) (shown_char-printable c) (shown_chars-printable cs)

pub shown-printable : (text : Text) → ArePrintable (shown text)
unfolding shown
shown-printable text = shown_chars-printable (chars text)

-- a text that is begun empty, and is shown
pub printable_from : (t0 t raw : Text) → t0 ≡ [] → t ≡ t0 ++ shown raw → ArePrintable t
printable_from t0 t raw e f = subst ArePrintable (sym (f ∙ ap (λ x. x ++ shown raw) e)) (shown-printable raw)

-- How a text that others wrote is shown: characters that are not seen are escaped, and the others
-- are kept.
use Rattle.std.specs.Prelude.{◌==◌, ◌≤◌, ◌≢◌, ◌++◌, ◌||◌, ◌&&◌, ℕ, Bool, false, List, [], ◌∷◌, codes, if◌then◌else◌, nat_le}
use Rattle.std.specs.Char.{encode_utf8, is_control}
use Rattle.std.specs.Fmt.{digits}
use Rattle.std.specs.Str.{chars}
use Rattle.mx_plan.specs.Text.{Text}

-- whether the character is from a to b
abbrev pub is_between : ℕ → ℕ → ℕ → Bool
is_between a b c = nat_le a c && nat_le c b

-- whether this is a soft hyphen, a character without width, or one that separates lines or sets the
-- direction of what follows
abbrev pub is_format : ℕ → Bool
is_format c =
    (c == 173) || is_between 8203 8207 c || is_between 8232 8238 c || is_between 8288 8297 c
    || (c == 65279)

-- whether the character is not seen, or changes the order of others
abbrev pub is_unseen : ℕ → Bool
is_unseen c = is_format c || is_control c

-- how a character that is not seen is shown: as `\0`, `\t`, `\n` or `\r`, or by its number in hexadecimal
-- digits
abbrev pub escaped : ℕ → Text
escaped c =
    if c == 0 then codes "\\0" else
    if c == 9 then codes "\\t" else
    if c == 10 then codes "\\n" else
    if c == 13 then codes "\\r" else codes "\\u{" ++ digits 16 false c ++ codes "}"

-- how a character is shown
abbrev pub shown_char : ℕ → Text
shown_char c = if is_unseen c then escaped c else encode_utf8 c

-- how characters are shown, one after another
abbrev pub shown_chars : List ℕ → Text
shown_chars [] = []
shown_chars (c ∷ cs) = shown_char c ++ shown_chars cs

-- how a text is shown
unfoldable pub shown : Text → Text
shown text = shown_chars (chars text)

-- the byte is not a control byte
abbrev pub IsPrintable : ℕ → Type 0
IsPrintable byte = (32 ≤ byte) × (byte ≢ 127)

-- no byte of the text is a control byte
abbrev pub ArePrintable : Text → Type 0
ArePrintable [] = Unit {0}
ArePrintable (b ∷ bs) = IsPrintable b × ArePrintable bs

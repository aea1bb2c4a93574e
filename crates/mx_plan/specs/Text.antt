use Rattle.std.specs.Prelude.{◌≡◌, ◌<◌, ◌≤◌, ℕ, List, [], ◌∷◌, Bool, true, false, length, nat_le, ◌&&◌, ◌||◌, ◌==◌}
use Rattle.std.specs.List.{list_all, list_any}
use Rattle.std.specs.Str.{bytes_eq}

-- a text, by its bytes
abbrev pub Text : Type 0
Text = List ℕ

abbrev pub line_feed : Text
line_feed = 10 ∷ []

-- whether a byte is a letter, a digit, `_` or `-`
unfoldable pub is_name_byte : ℕ → Bool
is_name_byte b = (nat_le 48 b && nat_le b 57) || ((nat_le 65 b && nat_le b 90)
    || ((nat_le 97 b && nat_le b 122) || (b == 95 || b == 45)))

-- whether a text is a name: 1 to 16 such bytes
abbrev pub is_name : Text → Bool
is_name s = nat_le 1 (length s) && (nat_le (length s) 16 && list_all is_name_byte s)

-- whether some text occurs twice
abbrev pub has_double : List Text → Bool
has_double [] = false
has_double (x ∷ xs) = list_any (λ y. bytes_eq y x) xs || has_double xs

-- 1 to `most` names, all different
pub record AreNames (most : ℕ) (names : List Text) : Type 0 where
  pub some : 0 < length names
  pub few : length names ≤ most
  pub formed : list_all is_name names ≡ true
  pub distinct : has_double names ≡ false

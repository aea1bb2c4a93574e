-- The text of an event in a file: its tokens, as a reader of JSON finds them.
use Rattle.std.proofs.Common.{◌≡◌, ◌≢◌, ◌∙◌, ◌⊎◌, ◌<◌, ◌≤◌, ◌^◌, ℕ, Bool, true, false, List, [], ◌∷◌, ◌++◌, Option, refl, sym, ap, ap₂, subst, arith, append_assoc, decimal, inl, inr, IsUtf8, map}
use Rattle.std.specs.List.{list_all}
use Rattle.std.proofs.lemmas.Bool.{and_parts, lt-ltb}
use Rattle.std.proofs.lemmas.Bool.Decides.{nat_tests}
use Rattle.std.proofs.lemmas.Fmt.{IsAscii-decimal}
use Rattle.std.proofs.lemmas.Str.{IsUtf8-append, IsUtf8-from_ascii, IsUtf8-nil}
use Rattle.json.specs.Token.{Token}
use Rattle.json.specs.Lex.{Lexeme, token, comma, lex, between, in_string, string_token, punctuate, Place, fresh, after_value, after_comma, begins_colon, place_token}
use Rattle.json.specs.Text.{content, plain}
use Rattle.json.specs.Word.{ends_word}
use Rattle.json.specs.Print.{escape}
use Rattle.json.specs.Json as json
use Rattle.json.specs.Tree.{json_tokens, items_tokens}
use Rattle.json.proofs.Printed.Strings.{content-escape, escape_byte_plain, lex-escape}
use Rattle.json.proofs.Printed.Numbers.{lex-number}
use Rattle.json.proofs.Printed.Decimals.{IsNumber-decimal}
use Rattle.json.proofs.Printed.Utf8.{IsUtf8-are_ascii}
use Rattle.mx_events.specs.declared.argument.Argument.{Argument}
use Rattle.mx_events.specs.declared.argument.Argument.TheVariants as argument
use Rattle.mx_events.specs.declared.event.Event.{Event}
use Rattle.mx_events.specs.declared.event.Event.TheVariants.{Deliver}
use Rattle.mx_events.specs.Arguments.{given}
use Rattle.mx_events.specs.Events.{kind_of}
use Rattle.mx_events.specs.Words.{word_of}
use Rattle.mx_plan.specs.Text.{Text, is_name_byte}
use Rattle.mx_plan.specs.Fields.{Fields}
use Rattle.mx_format.specs.EventTexts.{name_of, register_name_of}
use Rattle.mx_format.specs.Lines.{each_text}
use Rattle.mx_format.specs.EventArrays.{item_text, quoted, value_text}

-- ---- a word

-- a byte of a name is none that JSON escapes
abbrev IsPlainByte : ℕ → Type 0
IsPlainByte x = (x ≢ 34) × (x ≢ 92) × (32 ≤ x) × (x < 128)

plain_byte : (x : ℕ) → is_name_byte x ≡ true → IsPlainByte x
unfolding is_name_byte
plain_byte x h = (λ e. grind (arith, nat_tests), λ e. grind (arith, nat_tests), grind (arith, nat_tests), grind (arith, nat_tests))

-- each byte of a word is one of a name
abbrev pub IsWord : Text → Type 0
IsWord w = list_all is_name_byte w ≡ true

escape_word : (w : Text) → IsWord w → escape w ≡ w
escape_word [] h = refl
escape_word (x ∷ xs) h =
    let both = and_parts (is_name_byte x) (list_all is_name_byte xs) h in
    let b = plain_byte x both.0 in
    ap₂ (λ (s t : Text). s ++ t) (escape_byte_plain x b.0 b.1 b.2) (escape_word xs both.1)

lex_word : (w r : Text) → IsWord w → lex between (quoted w ++ r) ≡ token (Token.string w) ∷ lex between r
unfolding lex
lex_word w r h =
    let same : (w ++ 34 ∷ []) ++ r ≡ escape w ++ 34 ∷ r = append_assoc w (34 ∷ []) r ∙ ap (λ (s : Text). s ++ 34 ∷ r) (sym (escape_word w h)) in
    ap (λ (s : Text). token (string_token (content plain s)) ∷ lex in_string s) same
    ∙ ap₂ (λ (c : Option Text) (l : List Lexeme). token (string_token c) ∷ l) (content-escape w r) (lex-escape w r)

-- ---- what follows the word of an event: names and numbers

pub data Part : Type 0 where
  name : Text → Part
  count : ℕ → Part

abbrev pub IsPart : Part → Type 0
IsPart (name w) = IsWord w
IsPart (count n) = n < 2 ^ 64

abbrev pub AreParts : List Part → Type 0
AreParts [] = Unit {0}
AreParts (t ∷ ts) = IsPart t × AreParts ts

abbrev pub event_word : Event → Text
event_word e = word_of (kind_of e)

abbrev part : Fields → Argument → Part
part p (argument.Node node) = name (name_of p node)
part p (argument.Register register) = name (register_name_of p register)
part p (argument.Number n) = count n

abbrev pub parts_of : Fields → Event → List Part
parts_of p e = map (part p) (given e)

-- ---- the text of an event

abbrev part_text : Part → Text
part_text (name w) = quoted w
part_text (count n) = decimal n

-- each after a comma, and the bracket that closes
abbrev rest_text : List Part → Text
rest_text [] = 93 ∷ []
rest_text (t ∷ ts) = 44 ∷ (part_text t ++ rest_text ts)

abbrev whole_text : Text → List Part → Text
whole_text w ts = 91 ∷ (quoted w ++ rest_text ts)

part_is : (p : Fields) (a : Argument) → value_text p a ≡ part_text (part p a)
part_is p (argument.Node node) = refl
part_is p (argument.Register register) = refl
part_is p (argument.Number n) = refl

rest_is : (p : Fields) (args : List Argument) → each_text (λ a. 44 ∷ value_text p a) args ++ 93 ∷ [] ≡ rest_text (map (part p) args)
rest_is p [] = refl
rest_is p (a ∷ args) =
    ap (λ (t : Text). 44 ∷ t) (append_assoc (value_text p a) (each_text (λ b. 44 ∷ value_text p b) args) (93 ∷ [])
    ∙ ap₂ (λ (s t : Text). s ++ t) (part_is p a) (rest_is p args))

item_is : (p : Fields) (e : Event) → item_text p e ≡ whole_text (event_word e) (parts_of p e)
item_is p e =
    let w = quoted (event_word e) in
    ap (λ (t : Text). 91 ∷ t) (append_assoc w (each_text (λ a. 44 ∷ value_text p a) (given e)) (93 ∷ []) ∙ ap (λ (t : Text). w ++ t) (rest_is p (given e)))

-- ---- its tokens

abbrev part_token : Part → Token
part_token (name w) = Token.string w
part_token (count n) = Token.number (decimal n)

abbrev pub part_json : Part → json.Json
part_json (name w) = json.string w
part_json (count n) = json.number (decimal n)

abbrev pub parts_json : List Part → json.Items
parts_json [] = json.no_items
parts_json (t ∷ ts) = json.item (part_json t) (parts_json ts)

abbrev rest_lexemes : List Part → List Lexeme
rest_lexemes [] = token Token.end_array ∷ []
rest_lexemes (t ∷ ts) = comma ∷ token (part_token t) ∷ rest_lexemes ts

lex_part : (t : Part) (r : Text) → IsPart t → ends_word r ≡ true → lex between (part_text t ++ r) ≡ token (part_token t) ∷ lex between r
lex_part (name w) r h e = lex_word w r h
lex_part (count n) r h e = lex-number (decimal n) r (IsNumber-decimal n h) e

rest_ends : (ts : List Part) (r : Text) → ends_word (rest_text ts ++ r) ≡ true
rest_ends [] r = refl
rest_ends (t ∷ ts) r = refl

lex_rest : (ts : List Part) (r : Text) → AreParts ts → lex between (rest_text ts ++ r) ≡ rest_lexemes ts ++ lex between r
unfolding lex
lex_rest [] r h = refl
lex_rest (t ∷ ts) r h =
    ap (λ (s : Text). comma ∷ lex between s) (append_assoc (part_text t) (rest_text ts) r)
    ∙ ap (λ (l : List Lexeme). comma ∷ l) (lex_part t (rest_text ts ++ r) h.0 (rest_ends ts r) ∙ ap (λ (l : List Lexeme). token (part_token t) ∷ l) (lex_rest ts r h.1))

no_colon : (ts : List Part) (ls : List Lexeme) → begins_colon (rest_lexemes ts ++ ls) ≡ false
no_colon [] ls = refl
no_colon (t ∷ ts) ls = refl

after_parts : (ts : List Part) (ls : List Lexeme) → punctuate after_value (rest_lexemes ts ++ ls) ≡ items_tokens (parts_json ts) ++ punctuate after_value ls
unfolding punctuate
after_parts [] ls = refl
after_parts (name w ∷ ts) ls =
    let rest = rest_lexemes ts ++ ls in
    ap (λ (b : Bool). place_token after_comma (Token.string w) b (λ next. punctuate next rest)) (no_colon ts ls) ∙ ap (λ (l : List Token). Token.string w ∷ l) (after_parts ts ls)
after_parts (count n ∷ ts) ls = ap (λ (l : List Token). Token.number (decimal n) ∷ l) (after_parts ts ls)

-- an event begins the list, or stands after a comma
abbrev Begins : Place → Type 0
Begins q = (q ≡ fresh) ⊎ (q ≡ after_comma)

unfoldable pub event_json : Fields → Event → json.Json
event_json p e = json.array (json.item (json.string (event_word e)) (parts_json (parts_of p e)))

array_tokens : (q : Place) → Begins q → (w : Text) (ts : List Part) (ls : List Lexeme)
    → punctuate q (token Token.begin_array ∷ token (Token.string w) ∷ (rest_lexemes ts ++ ls))
    ≡ Token.begin_array ∷ Token.string w ∷ (items_tokens (parts_json ts) ++ punctuate after_value ls)
unfolding punctuate
array_tokens q (inl is) w ts ls = rw (is, no_colon ts ls, after_parts ts ls) refl
array_tokens q (inr is) w ts ls = rw (is, no_colon ts ls, after_parts ts ls) refl

-- the text of an event, and what stands behind it
event_lexed : (p : Fields) (e : Event) (r : Text) → IsWord (event_word e) → AreParts (parts_of p e)
    → lex between (item_text p e ++ r) ≡ token Token.begin_array ∷ token (Token.string (event_word e)) ∷ (rest_lexemes (parts_of p e) ++ lex between r)
unfolding lex
event_lexed p e r word parts =
    let w = event_word e in
    let ts = parts_of p e in
    ap (λ (s : Text). lex between (s ++ r)) (item_is p e)
    ∙ ap (λ (s : Text). token Token.begin_array ∷ lex between s) (append_assoc (quoted w) (rest_text ts) r)
    ∙ ap (λ (l : List Lexeme). token Token.begin_array ∷ l) (lex_word w (rest_text ts ++ r) word)
    ∙ ap (λ (l : List Lexeme). token Token.begin_array ∷ token (Token.string w) ∷ l) (lex_rest ts r parts)

words_are : (e : Event) → IsWord (event_word e)
unfolding is_name_byte
words_are (Deliver k) = refl
words_are _ = refl

pub event_tokens : (q : Place) → Begins q → (p : Fields) (e : Event) (r : Text) → AreParts (parts_of p e)
    → punctuate q (lex between (item_text p e ++ r)) ≡ json_tokens (event_json p e) ++ punctuate after_value (lex between r)
unfolding event_json
event_tokens q begins p e r parts =
    ap (punctuate q) (event_lexed p e r (words_are e) parts) ∙ array_tokens q begins (event_word e) (parts_of p e) (lex between r)

-- ---- it is UTF-8

pub ascii_then : (x : ℕ) (xs : Text) → x < 128 → IsUtf8 xs → IsUtf8 (x ∷ xs)
ascii_then x xs small u = IsUtf8-append (x ∷ []) xs (IsUtf8-are_ascii (x ∷ []) (rw (lt-ltb x 128 small) refl)) u

word_utf8 : (w : Text) → IsWord w → IsUtf8 w
word_utf8 [] h = IsUtf8-nil
word_utf8 (x ∷ xs) h =
    let both = and_parts (is_name_byte x) (list_all is_name_byte xs) h in
    ascii_then x xs (plain_byte x both.0).3 (word_utf8 xs both.1)

quoted_utf8 : (w : Text) → IsWord w → IsUtf8 (quoted w)
quoted_utf8 w h = ascii_then 34 _ (omega arith) (IsUtf8-append w (34 ∷ []) (word_utf8 w h) (IsUtf8-are_ascii _ refl))

part_utf8 : (t : Part) → IsPart t → IsUtf8 (part_text t)
part_utf8 (name w) h = quoted_utf8 w h
part_utf8 (count n) h = IsUtf8-from_ascii (decimal n) (IsAscii-decimal n h)

rest_utf8 : (ts : List Part) → AreParts ts → IsUtf8 (rest_text ts)
rest_utf8 [] h = IsUtf8-are_ascii _ refl
rest_utf8 (t ∷ ts) h = ascii_then 44 _ (omega arith) (IsUtf8-append (part_text t) (rest_text ts) (part_utf8 t h.0) (rest_utf8 ts h.1))

pub item_utf8 : (p : Fields) (e : Event) → AreParts (parts_of p e) → IsUtf8 (item_text p e)
item_utf8 p e h =
    let w = event_word e in
    let ts = parts_of p e in
    subst (λ (s : Text). IsUtf8 s) (sym (item_is p e))
    (ascii_then 91 _ (omega arith) (IsUtf8-append (quoted w) (rest_text ts) (quoted_utf8 w (words_are e)) (rest_utf8 ts h)))

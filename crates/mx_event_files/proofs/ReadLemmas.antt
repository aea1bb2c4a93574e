-- A file of events is read back as these events.
use Rattle.std.proofs.Common.{◌≡◌, ◌∙◌, ◌&&◌, ◌<◌, ◌≤◌, ◌+◌, ℕ, zero, suc, Bool, true, false, List, [], ◌∷◌, ◌++◌, length, Some, Ok, option_map, unwrap_or, slice_get, position, refl, sym, ap, subst, arith, append_assoc, append-nil, inl, inr, IsUtf8, nat_le, nat_lt}
use Rattle.std.specs.List.{list_all, list_any, position_or_len}
use Rattle.std.specs.Str.{bytes_eq}
use Rattle.std.proofs.lemmas.Bool.{and_parts, lt-ltb, or_parts}
use Rattle.std.proofs.lemmas.Bool.Decides.{nat_tests}
use Rattle.std.proofs.lemmas.Slice.Eq.{bytes_eq-Decides}
use Rattle.std.proofs.lemmas.Str.{IsUtf8-append, IsUtf8-nil, is_utf8-from_IsUtf8}
use Rattle.json.specs.Token.{Token}
use Rattle.json.specs.Lex.{lex, between, punctuate, fresh, after_value, after_comma, tokens}
use Rattle.json.specs.Json as json
use Rattle.json.specs.Tree.{json_tokens, items_tokens, depth, items_depth}
use Rattle.json.proofs.Printed.Trees.{value-json_tokens}
use Rattle.json.proofs.Printed.Utf8.{IsUtf8-are_ascii}
use Rattle.serde_json.specs.Data.{Data, string, number, unsigned, array, Items, no_items, item}
use Rattle.serde_json.specs.Read.{read, of_json, of_items, max_depth}
use Rattle.serde_json.proofs.Numbers.{number_of-decimal}
use Rattle.mx_stamps.specs.Lists.{IsIn}
use Rattle.mx_events.specs.declared.event.Event.{Event}
use Rattle.mx_events.specs.declared.event.Event.TheVariants.{Read, Write, Want, Settle, Deliver}
use Rattle.mx_plan.specs.Text.{Text, is_name, is_name_byte, has_double}
use Rattle.mx_plan.specs.Fields.{Fields, IsPlan}
use Rattle.mx_plan.specs.Values.{each_from, list_of, value_of}
use Rattle.mx_plan.specs.NameLists.{is_name_value}
use Rattle.mx_plan.specs.Events.{event_of, events_at}
use Rattle.mx_events.specs.Arguments.{AreEventsWithin, IsWithin}
use Rattle.mx_format.specs.EventTexts.{name_of, register_name_of}
use Rattle.mx_format.specs.Lines.{each_text}
use Rattle.mx_format.specs.EventArrays.{item_text}
use Rattle.mx_format.specs.Files.{next_text, file_text}
use Rattle.mx_event_files.specs.Played.{AreReadable, HasSmallNumber}
use Rattle.mx_event_files.proofs.ItemLemmas.{AreParts, IsPart, IsWord, Part, ascii_then, count, event_json, event_tokens, event_word, item_utf8, name, part_json, parts_json, parts_of}

-- ---- the tokens of a file

abbrev AllParts : Fields → List Event → Type 0
AllParts p [] = Unit {0}
AllParts p (e ∷ es) = AreParts (parts_of p e) × AllParts p es

abbrev events_json : Fields → List Event → json.Items
events_json p [] = json.no_items
events_json p (e ∷ es) = json.item (event_json p e) (events_json p es)

further : (p : Fields) (es : List Event) → AllParts p es
    → punctuate after_value (lex between (each_text (next_text p) es ++ (10 ∷ 93 ∷ 10 ∷ []))) ≡ items_tokens (events_json p es)
unfolding lex punctuate
further p [] h = refl
further p (e ∷ es) h =
    let tail : Text = 10 ∷ 93 ∷ 10 ∷ [] in
    let rest = each_text (next_text p) es in
    ap (λ (s : Text). punctuate after_comma (lex between s)) (append_assoc (item_text p e) rest tail)
    ∙ event_tokens after_comma (inr refl) p e (rest ++ tail) h.0
    ∙ ap (λ (l : List Token). json_tokens (event_json p e) ++ l) (further p es h.1)

first_line : (first each : Text) → (((((91 ∷ 10 ∷ []) ++ first) ++ each) ++ 10 ∷ []) ++ 93 ∷ []) ++ 10 ∷ [] ≡ 91 ∷ 10 ∷ (first ++ (each ++ 10 ∷ 93 ∷ 10 ∷ []))
first_line first each = simp append_assoc

file_tokens : (p : Fields) (es : List Event) → AllParts p es → tokens (file_text p es) ≡ json_tokens (json.array (events_json p es))
unfolding lex punctuate
file_tokens p [] h = refl
file_tokens p (e ∷ es) h =
    let each = each_text (next_text p) es in
    let rest : Text = each ++ (10 ∷ 93 ∷ 10 ∷ []) in
    ap tokens (first_line (item_text p e) each)
    ∙ ap (λ (l : List Token). Token.begin_array ∷ l) (event_tokens fresh (inl refl) p e rest h.0)
    ∙ ap (λ (l : List Token). Token.begin_array ∷ (json_tokens (event_json p e) ++ l)) (further p es h.1)

-- ---- the value of a file

abbrev part_data : Part → Data
part_data (name w) = string w
part_data (count n) = number (unsigned n)

abbrev parts_data : List Part → Items
parts_data [] = no_items
parts_data (t ∷ ts) = item (part_data t) (parts_data ts)

abbrev event_data : Fields → Event → Data
event_data p e = array (item (string (event_word e)) (parts_data (parts_of p e)))

abbrev events_data : Fields → List Event → Items
events_data p [] = no_items
events_data p (e ∷ es) = item (event_data p e) (events_data p es)

part_of_json : (t : Part) → IsPart t → of_json (part_json t) ≡ Some (part_data t)
part_of_json (name w) h = refl
part_of_json (count n) h = ap (option_map number) (number_of-decimal n h)

parts_of_json : (ts : List Part) → AreParts ts → of_items (parts_json ts) ≡ Some (parts_data ts)
parts_of_json [] h = refl
parts_of_json (t ∷ ts) h = rw (part_of_json t h.0, parts_of_json ts h.1) refl

event_of_json : (p : Fields) (e : Event) → AreParts (parts_of p e) → of_json (event_json p e) ≡ Some (event_data p e)
unfolding event_json
event_of_json p e h = rw (parts_of_json (parts_of p e) h) refl

events_of_json : (p : Fields) (es : List Event) → AllParts p es → of_items (events_json p es) ≡ Some (events_data p es)
events_of_json p [] h = refl
events_of_json p (e ∷ es) h = rw (event_of_json p e h.0, events_of_json p es h.1) refl

part_is_flat : (t : Part) → depth (part_json t) ≡ 0
part_is_flat (name w) = refl
part_is_flat (count n) = refl

parts_are_flat : (ts : List Part) → items_depth (parts_json ts) ≡ 0
parts_are_flat [] = refl
parts_are_flat (t ∷ ts) = rw (part_is_flat t, parts_are_flat ts) refl

events_are_low : (p : Fields) (es : List Event) → items_depth (events_json p es) ≤ 1
unfolding event_json
events_are_low p [] = omega arith
events_are_low p (e ∷ es) = omega (arith, parts_are_flat (parts_of p e), events_are_low p es)

file_read : (p : Fields) (es : List Event) → AllParts p es → read (file_text p es) ≡ Some (array (events_data p es))
file_read p es h =
    let j = json.array (events_json p es) in
    let parsed = ap (json.value max_depth) (file_tokens p es h ∙ sym (append-nil (json_tokens j))) ∙ value-json_tokens j max_depth [] (omega (arith, events_are_low p es)) in
    rw (parsed, events_of_json p es h) refl

-- ---- a file is UTF-8

each_utf8 : (p : Fields) (es : List Event) → AllParts p es → IsUtf8 (each_text (next_text p) es)
each_utf8 p [] h = IsUtf8-nil
each_utf8 p (e ∷ es) h =
    IsUtf8-append (next_text p e) _ (ascii_then 44 _ (omega arith) (ascii_then 10 _ (omega arith) (item_utf8 p e h.0))) (each_utf8 p es h.1)

file_utf8 : (p : Fields) (es : List Event) → AllParts p es → IsUtf8 (file_text p es)
file_utf8 p [] h = IsUtf8-are_ascii _ refl
file_utf8 p (e ∷ es) h =
    let each = each_text (next_text p) es in
    let behind = IsUtf8-append each (10 ∷ 93 ∷ 10 ∷ []) (each_utf8 p es h.1) (IsUtf8-are_ascii _ refl) in
    subst (λ (s : Text). IsUtf8 s) (sym (first_line (item_text p e) each))
    (ascii_then 91 _ (omega arith) (ascii_then 10 _ (omega arith) (IsUtf8-append (item_text p e) _ (item_utf8 p e h.0) behind)))

-- ---- names

abbrev name_at : List Text → ℕ → Text
name_at xs i = unwrap_or (slice_get xs i) []

formed_at : (xs : List Text) (i : ℕ) → i < length xs → list_all is_name xs ≡ true → is_name (name_at xs i) ≡ true
formed_at [] i h all = absurd (omega arith)
formed_at (x ∷ xs) zero h all = (and_parts (is_name x) (list_all is_name xs) all).0
formed_at (x ∷ xs) (suc i) h all = formed_at xs i (omega arith) (and_parts (is_name x) (list_all is_name xs) all).1

fails_at : (f : Text → Bool) (xs : List Text) (i : ℕ) → i < length xs → list_any f xs ≡ false → f (name_at xs i) ≡ false
fails_at f [] i h none = absurd (omega arith)
fails_at f (x ∷ xs) zero h none = (or_parts (f x) (list_any f xs) none).0
fails_at f (x ∷ xs) (suc i) h none = fails_at f xs i (omega arith) (or_parts (f x) (list_any f xs) none).1

same_bytes : (x : Text) → bytes_eq x x ≡ true
same_bytes x = (bytes_eq-Decides x x).1 refl

first_at : (xs : List Text) (i : ℕ) → i < length xs → has_double xs ≡ false → position_or_len (bytes_eq (name_at xs i)) xs ≡ i
first_at [] i h single = absurd (omega arith)
first_at (x ∷ xs) zero h single = rw (same_bytes x) refl
first_at (x ∷ xs) (suc i) h single =
    let both = or_parts (list_any (λ y. bytes_eq y x) xs) (has_double xs) single in
    let other : bytes_eq (name_at xs i) x ≡ false = fails_at (λ y. bytes_eq y x) xs i (omega arith) both.0 in
    rw other (ap (λ (n : ℕ). 1 + n) (first_at xs i (omega arith) both.1) ∙ omega arith)

found_at : (xs : List Text) (i : ℕ) → i < length xs → has_double xs ≡ false → position (bytes_eq (name_at xs i)) xs ≡ Some i
found_at xs i h single = rw (first_at xs i h single, lt-ltb i (length xs) h) refl

-- a name has the bytes of one
name_is_word : (w : Text) → is_name w ≡ true → IsWord w
name_is_word w h = (and_parts (nat_le (length w) 16) (list_all is_name_byte w) (and_parts (nat_le 1 (length w)) (nat_le (length w) 16 && list_all is_name_byte w) h).1).1

-- ---- the events of a file

module _ (p : Fields) (valid : IsPlan p) where
  node_is : (i : ℕ) → i < length p.nodes → is_name (name_of p i) ≡ true
  node_is i h = formed_at p.nodes i h valid.nodes.formed

  register_is : (i : ℕ) → i < length p.registers → is_name (register_name_of p i) ≡ true
  register_is i h = formed_at p.registers i h valid.registers.formed

  node_found : (i : ℕ) → i < length p.nodes → position (bytes_eq (name_of p i)) p.nodes ≡ Some i
  node_found i h = found_at p.nodes i h valid.nodes.distinct

  register_found : (i : ℕ) → i < length p.registers → position (bytes_eq (register_name_of p i)) p.registers ≡ Some i
  register_found i h = found_at p.registers i h valid.registers.distinct

  node_word : (i : ℕ) → i < length p.nodes → IsWord (name_of p i)
  node_word i h = name_is_word (name_of p i) (node_is i h)

  register_word : (i : ℕ) → i < length p.registers → IsWord (register_name_of p i)
  register_word i h = name_is_word (register_name_of p i) (register_is i h)

  abbrev IsNamed : Event → Type 0
  IsNamed e = IsWithin (length p.nodes) (length p.registers) e

  parts_are : (e : Event) → IsNamed e → HasSmallNumber e → AreParts (parts_of p e)
  parts_are (Read node register) h n = (node_word node h.0, (register_word register h.1.0, tt))
  parts_are (Write node register value) h n = (node_word node h.0, (register_word register h.1.0, (n, tt)))
  parts_are (Want node other) h n = (node_word node h.0, (node_word other h.1.0, tt))
  parts_are (Settle node upto) h n = (node_word node h.0, (n, tt))
  parts_are (Deliver k) h n = (n, tt)
  parts_are _ h n = (node_word _ h.0, tt)

  event_is : (k : ℕ) (e : Event) → IsNamed e → event_of p k (event_data p e) ≡ Ok e
  unfolding event_of is_name_value
  event_is k (Read node register) h = rw (node_is node h.0, register_is register h.1.0, node_found node h.0, register_found register h.1.0) refl
  event_is k (Write node register value) h = rw (node_is node h.0, register_is register h.1.0, node_found node h.0, register_found register h.1.0) refl
  event_is k (Want node other) h = rw (node_is node h.0, node_is other h.1.0, node_found node h.0, node_found other h.1.0) refl
  event_is k (Deliver n) h = refl
  event_is k _ h = rw (node_is _ h.0, node_found _ h.0) refl

  events_are : (k : ℕ) (es : List Event) → AreEventsWithin (length p.nodes) (length p.registers) es → each_from (event_of p) k (list_of (events_data p es)) ≡ Ok es
  unfolding each_from
  events_are k [] over = refl
  events_are k (e ∷ es) over = rw (event_is k e (over e (inl refl)), events_are (k + 1) es (λ x is. over x (inr is))) refl

  all_parts : (es : List Event) → AreEventsWithin (length p.nodes) (length p.registers) es → ((e : Event) → IsIn e es → HasSmallNumber e) → AllParts p es
  all_parts [] over numbered = tt
  all_parts (e ∷ es) over numbered =
      (parts_are e (over e (inl refl)) (numbered e (inl refl)), all_parts es (λ x is. over x (inr is)) (λ x is. numbered x (inr is)))

  count_is : (es : List Event) → length (list_of (events_data p es)) ≡ length es
  count_is [] = refl
  count_is (e ∷ es) = ap (λ (n : ℕ). suc n) (count_is es)

  -- a file is read back as the events that it lists
  pub read_back : (es : List Event) → AreReadable p es → events_at p (file_text p es) ≡ Ok es
  unfolding value_of
  read_back es readable =
      let parts = all_parts es readable.over readable.numbered in
      let ascii = is_utf8-from_IsUtf8 (file_text p es) (file_utf8 p es parts) in
      let few : nat_lt 1000000 (length (list_of (events_data p es))) ≡ false = grind (arith, nat_tests, count_is es, readable.few) in
      rw (ascii, file_read p es parts, few) (events_are 0 es readable.over)

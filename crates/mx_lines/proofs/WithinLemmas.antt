-- What a line asks for is within the names by which it is read.
use Rattle.std.proofs.Common.{◌≡◌, ◌<◌, subst, ℕ, ◌+◌, ◌==◌, Bool, true, false, List, [], ◌∷◌, Option, Some, None, Result, Ok, Err, IfOk, IfSome, length, refl}
use Rattle.std.specs.Bool.{⊤}
use Rattle.std.specs.List.{position, position_or_len}
use Rattle.std.specs.Option.{option_map_or}
use Rattle.std.specs.Prelude.{if◌then◌else◌, nat_lt, option_map, codes}
use Rattle.std.specs.Str.{bytes_eq}
use Rattle.std.proofs.lemmas.Bool.{ltb-true}
use Rattle.mx_plan.specs.Text.{Text}
use Rattle.mx_events.specs.Arguments.{AreWithin, IsArgumentWithin, IsWithin, event_of}
use Rattle.mx_events.proofs.WithinLemmas.{event_within}
use Rattle.mx_lines.specs.Lines.{done_times, expects, line_at, line_of, repeated, times_of}
use Rattle.mx_lines.specs.Names.{Known}
use Rattle.mx_lines.specs.Numbers.{number_of}
use Rattle.mx_lines.specs.Refusals.{and_then}
use Rattle.mx_lines.specs.Sides.{sides_of}
use Rattle.mx_lines.specs.Orders.{argument_at, arguments_at, number_at, order_at, order_before, order_by, order_of, order_with}
use Rattle.mx_lines.specs.Verbs.{kinds_of, verb_of, verb_of_all}
use Rattle.mx_events.specs.declared.argument.Argument.{Argument}
use Rattle.mx_events.specs.declared.argument.Argument.TheVariants as argument
use Rattle.mx_events.specs.declared.argument.ArgumentKind.{ArgumentKind}
use Rattle.mx_events.specs.declared.argument.ArgumentKind.TheVariants as argument_kind
use Rattle.mx_lines.specs.declared.errors.Expected.{Expected}
use Rattle.mx_lines.specs.declared.errors.LineError.{LineError}
use Rattle.mx_lines.specs.declared.line.ScriptLine.{ScriptLine}
use Rattle.mx_lines.specs.declared.orders.Order.{Order}
use Rattle.mx_lines.specs.declared.orders.Order.TheVariants as order
use Rattle.mx_lines.specs.declared.verbs.Verb.{Verb}
use Rattle.mx_lines.specs.declared.verbs.Verb.TheVariants as verb
use Rattle.mx_lines.specs.Within.{IsLineWithin, IsOrderWithin}

-- ---- steps

-- what follows from a value that was read, and from a fault
pub passed : {A B : Type 0} (P : A → Type 0) (Q : B → Type 0) (r : Result A LineError) (f : A → Result B LineError)
    → IfOk r P → ((a : A) → P a → IfOk (f a) Q) → IfOk (and_then r f) Q
passed P Q (Ok a) f h more = more a h
passed P Q (Err e) f h more = tt

-- either way
choice : {A : Type 0} (P : A → Type 0) (b : Bool) (r s : Result A LineError) → IfOk r P → IfOk s P
    → IfOk (if b then r else s) P
choice P true r s h k = h
choice P false r s h k = k

pub or_wrong : {A B : Type 0} (P : A → Type 0) (Q : B → Type 0) (o : Option A) (f : A → Result B LineError) (e : LineError)
    → IfSome o P → ((a : A) → P a → IfOk (f a) Q) → IfOk (option_map_or f o (Err e)) Q
or_wrong P Q None f e h more = tt
or_wrong P Q (Some a) f e h more = more a h

-- a value is read on, or something else is
either : {A B : Type 0} (Q : B → Type 0) (o : Option A) (f : A → Result B LineError) (r : Result B LineError)
    → ((a : A) → IfOk (f a) Q) → IfOk r Q → IfOk (option_map_or f o r) Q
either Q None f r more h = h
either Q (Some a) f r more h = more a

mapped : {A B : Type 0} (P : A → Type 0) (Q : B → Type 0) (o : Option A) (f : A → B) → IfSome o P
    → ((a : A) → P a → Q (f a)) → IfSome (option_map f o) Q
mapped P Q None f h more = tt
mapped P Q (Some a) f h more = more a h

pub any : {A : Type 0} (o : Option A) → IfSome o (λ _. ⊤)
any None = tt
any (Some a) = tt

any_ok : {A : Type 0} (r : Result A LineError) → IfOk r (λ _. ⊤)
any_ok (Ok a) = tt
any_ok (Err e) = tt

-- ---- names

placed : (k n : ℕ) (b : Bool) → nat_lt k n ≡ b → IfSome (if b then Some k else None) (λ i. i < n)
placed k n true e = ltb-true k n e
placed k n false e = tt

named : (p : Text → Bool) (names : List Text) → IfSome (position p names) (λ i. i < length names)
named p names = placed (position_or_len p names) (length names) (nat_lt (position_or_len p names) (length names)) refl

-- ---- arguments

module _ (nodes registers : ℕ) where
  order_within : (verb : Verb) (arguments : List Argument) → AreWithin nodes registers arguments → IfSome (order_by verb arguments) (IsOrderWithin nodes registers)
  order_within (verb.Event kind) arguments h =
      mapped (IsWithin nodes registers) (IsOrderWithin nodes registers) (event_of kind arguments) order.Happens (event_within nodes registers kind arguments h) (λ e is. is)
  order_within _ (a ∷ b ∷ c ∷ more) h = tt
  order_within _ (argument.Node from ∷ argument.Node to ∷ []) h = tt
  order_within _ (argument.Number number ∷ []) h = tt
  order_within _ _ h = tt

-- ---- lines

module _ (names : Known) where
  abbrev Given : Argument → Type 0
  Given = IsArgumentWithin (length names.nodes) (length names.registers)

  abbrev AllGiven : List Argument → Type 0
  AllGiven = AreWithin (length names.nodes) (length names.registers)

  abbrev Ordered : Order → Type 0
  Ordered = IsOrderWithin (length names.nodes) (length names.registers)

  abbrev pub LineWithin : ScriptLine → Type 0
  LineWithin = IsLineWithin (length names.nodes) (length names.registers)

  number_within : (place : ℕ) (word : Text) (expected : Expected) → IfOk (number_at place word expected) Given
  number_within place word expected = or_wrong (λ v. ⊤) Given (number_of word) _ _ (any (number_of word)) (λ v h. tt)

  argument_within : (kind : ArgumentKind) (place : ℕ) (word : Text) → IfOk (argument_at names kind place word) Given
  argument_within argument_kind.Node place word = or_wrong (λ n. n < length names.nodes) Given _ _ _ (named (bytes_eq word) names.nodes) (λ n h. h)
  argument_within argument_kind.Register place word = or_wrong (λ n. n < length names.registers) Given _ _ _ (named (bytes_eq word) names.registers) (λ n h. h)
  argument_within argument_kind.Value place word = number_within place word _
  argument_within argument_kind.Section place word = number_within place word _
  argument_within argument_kind.Parcel place word = number_within place word _

  arguments_within : (kinds : List ArgumentKind) (place : ℕ) (words : List Text) → IfOk (arguments_at names kinds place words) AllGiven
  arguments_within [] place words = tt
  arguments_within (kind ∷ kinds) place [] = tt
  arguments_within (kind ∷ kinds) place (word ∷ words) =
      passed Given AllGiven (argument_at names kind place word) _ (argument_within kind place word)
      (λ a h. passed AllGiven AllGiven (arguments_at names kinds (place + 1) words) _ (arguments_within kinds (place + 1) words) (λ others more. (h, more)))

  with_within : (place : ℕ) (verb : Verb) (words : List Text) → IfOk (order_with names place verb words) Ordered
  with_within place verb words =
      choice Ordered (length (kinds_of verb) == length words) _ _
      (passed AllGiven Ordered (arguments_at names (kinds_of verb) (place + 1) words) _ (arguments_within (kinds_of verb) (place + 1) words)
      (λ arguments h. or_wrong Ordered Ordered (order_by verb arguments) _ _ (order_within (length names.nodes) (length names.registers) verb arguments h) (λ o h. h)))
      tt

  of_within : (place : ℕ) (word : Text) (words : List Text) → IfOk (order_of names place word words) Ordered
  of_within place word words = or_wrong (λ v. ⊤) Ordered (verb_of word (length words)) _ _ (any (verb_of word (length words))) (λ v h. with_within place v words)

  before_within : (place : ℕ) (word : Text) (words : List Text) → IfOk (order_before names place word words) Ordered
  before_within place word [] = of_within place word []
  before_within place word (next ∷ more) = either Ordered (verb_of_all word next (length more)) _ _ (λ v. with_within (place + 1) v more) (of_within place word (next ∷ more))

  single_within : (times place : ℕ) (word : Text) (words : List Text) → IfOk (line_at names times place word words) LineWithin
  single_within times place word words =
      passed Ordered LineWithin (order_at names place word words) _
      (choice Ordered (bytes_eq word (codes "times")) _ _ tt
      (choice Ordered (bytes_eq word (codes "partition")) _ _ (passed (λ s. ⊤) Ordered (sides_of names place words) _ (any_ok (sides_of names place words)) (λ s h. tt)) (before_within place word words)))
      (λ o h. h)

  done_within : (words : List Text) (times : ℕ) → IfOk (done_times names words times) LineWithin
  done_within [] times = tt
  done_within (word ∷ words) times = single_within times 2 word words

  repeated_within : (words : List Text) → IfOk (repeated names words) LineWithin
  repeated_within [] = tt
  repeated_within (count ∷ words) = passed (λ t. ⊤) LineWithin (times_of count) (done_times names words) (any_ok (times_of count)) (λ t h. done_within words t)

  expects_within : (words : List Text) → IfOk (expects words) LineWithin
  expects_within [] = tt
  expects_within (word ∷ words) = tt

  pub line_within : (words : List Text) → IfOk (line_of names words) LineWithin
  line_within [] = tt
  line_within (word ∷ words) =
      choice LineWithin (bytes_eq word (codes "times")) _ _ (repeated_within words)
      (choice LineWithin (bytes_eq word (codes "expect")) _ _ (expects_within words) (single_within 1 0 word words))

  -- what the words of a line ask for is within the names
  pub read_within : (words : List Text) (read : ScriptLine) → line_of names words ≡ Ok read → LineWithin read
  read_within words read is = subst (λ (x : Result ScriptLine LineError). IfOk x LineWithin) is (line_within words)

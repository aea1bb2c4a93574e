-- What the matches of a command line say.
use Rattle.std.proofs.Common.{◌≡◌, ◌∙◌, ◌<◌, ◌^◌, ℕ, Bool, List, [], Option, Some, None, arith, refl, sym, subst, ap, true, false, ◌∷◌, IsSome, IfOk, Result, Ok, Err}
use Rattle.std.specs.Prelude.{option_and_then, option_map}
use Rattle.std.specs.Str.Parse.{IsNumeral, ParsesUnsigned, digits_value, without_leading_plus}
use Rattle.clap.specs.declared.parser.matches.ArgMatches.{ArgMatches}
use Rattle.std.proofs.lemmas.Result.{IfOk-weaker}
use Rattle.std.specs.declared.alloc.AllocError.{AllocError}
use Rattle.clap.specs.declared.builder.command.Command.{Command}
use Rattle.clap.specs.Words.{App, ReadsOne, Row, Text, app_of, is_simple, one_text, subcommand_of, subcommand_rows_of}
use Rattle.clap.specs.ValueTests.{is_unsigned_in}
use Rattle.clap.specs.declared.builder.value_parser.ValueParser.TheVariants.{Unsigned}
use Rattle.clap.specs.Walk.{rows_of}
use Rattle.clap.specs.Kinds.{FailsBy, IsAmong, Kinds}
use Rattle.clap.specs.declared.error.Error.{Error}
use Rattle.clap.specs.declared.error.kind.ErrorKind.{ErrorKind}
use Rattle.clap.specs.declared.parser.matches.Found.{Found}
use Rattle.clap.proofs.WalkLemmas.{one_text-rows}
use Rattle.clap.proofs.ValueTestLemmas.{Accepts-accepts, accepts-Accepts}
use Rattle.clap.specs.Faults.{fault_of, is_simple_and_free}
use Rattle.mx_cli.specs.Words.{Finds, IsLine, IsReadable, ParsesAs, asked_of, number_at, number_of, where_none}

-- ---- numbers

number_is : (t : Text) → IsNumeral 10 (without_leading_plus t) → digits_value 10 (without_leading_plus t) < 2 ^ 64 → is_unsigned_in 0 18446744073709551615 t ≡ true
number_is t numeral fits = Accepts-accepts false (Unsigned 0 18446744073709551615) t (numeral, fits, omega arith, omega arith)

is_number : (t : Text) → is_unsigned_in 0 18446744073709551615 t ≡ true → IsNumeral 10 (without_leading_plus t) × (digits_value 10 (without_leading_plus t) < 2 ^ 64)
is_number t h = let a = accepts-Accepts false (Unsigned 0 18446744073709551615) t h in (a.0, a.1)

is_false : (b : Bool) → (b ≡ true → ⊥) → b ≡ false
is_false true h = absurd (h refl)
is_false false h = refl

-- what a text reads as is the number that it writes
module _ {E : Type 0} (G : List ℕ → Result ℕ E → Type 0) (only : (t : List ℕ) (r : Result ℕ E) → G t r → ParsesUnsigned 64 10 t r) where
  text_read : (t : Text) (r : Option ℕ) → ReadsOne G t r → r ≡ number_of t
  text_read t (Some n) h =
      let parsed = only t (Ok n) h in
      rw (number_is t parsed.0.0 parsed.0.1) (ap Some parsed.1)
  text_read t None h = rw (is_false (is_unsigned_in 0 18446744073709551615 t) (λ yes. only t (Err h.0) h.1 (is_number t yes))) refl

  found_read : (o : Option Text) (r : Option ℕ) → (o ≡ None → r ≡ None) → ((t : List ℕ) → o ≡ Some t → ReadsOne G t r) → r ≡ option_and_then number_of o
  found_read None r none some = none refl
  found_read (Some t) r none some = text_read t r (some t refl)

  pub number_read : (f : Found) (id : Text) (r : Option ℕ) → (one_text f id ≡ None → r ≡ None) → ((t : List ℕ) → one_text f id ≡ Some t → ReadsOne G t r) → r ≡ number_at id (rows_of f)
  number_read f id r none some = found_read (one_text f id) r none some ∙ ap (option_and_then number_of) (one_text-rows f id)

-- ---- a parse

-- what the parse of a command line answers, which is read as this application
found_in : (line : App) (words : List Text) (r : Result ArgMatches Error) → FailsBy (fault_of line words) r → IfOk r (λ m. subcommand_rows_of m ≡ subcommand_of line words) → Finds line words r
found_in line words (Ok m) none found = (none, found)
found_in line words (Err e) kinds found = kinds

pub parsed : (line : App) (words : List Text) (r : Result ArgMatches Error) → FailsBy (fault_of line words) r → IfOk r (λ m. subcommand_rows_of m ≡ subcommand_of line words)
    → (app : App) → line ≡ app → Finds app words r
parsed line words r fails found app is = subst (λ (a : App). Finds a words r) is (found_in line words r fails found)

-- a line that is read as an application that can be read
pub is_line : (r : Result Command AllocError) (app : App) → IfOk r (λ line. app_of line ≡ app) → IsReadable app → IfOk r (IsLine app)
is_line r app read h = IfOk-weaker r _ _ (λ line is. record { app = is; readable = record { plain = ap is_simple is ∙ h.plain; free = ap is_simple_and_free is ∙ h.free } }) read

-- what is read of what was found is what the words ask for
pub asks : {T X : Type 0} (value : T → X) (line : App) (words : List Text) (read : Option (Text × List Row) → Option X) (matches : ArgMatches) (request : Option T)
    → Finds line words (Ok matches) → option_map value request ≡ read (subcommand_rows_of matches) → ParsesAs value line words (asked_of line read words) (Ok request)
asks value line words read matches request found e =
    (found.0, e ∙ ap read found.1 ∙ sym (ap (λ kinds. where_none kinds (read (subcommand_of line words))) found.0))

-- ---- what an error's kind says of the words

none_among : {X : Type 0} (kinds : Kinds) (k : ErrorKind) (o : Option X) → IsAmong k kinds → IsSome (where_none kinds o) → ⊥
none_among [] k o among s = absurd among
none_among (x ∷ xs) k o among s = let bad : false ≡ true = s in cc

-- words that ask for something are refused only where memory runs out
pub none_asked : {X : Type 0} (line : App) (read : Option (Text × List Row) → Option X) (words : List Text) (k : ErrorKind) → IsAmong k (fault_of line words) → IsSome (asked_of line read words) → ⊥
none_asked line read words k among s = none_among (fault_of line words) k (read (subcommand_of line words)) among s

-- What the words of a command line ask for, as `clap` reads them.
use Rattle.std.specs.Prelude.{◌≡◌, ◌≢◌, ◌⊎◌, ℕ, Bool, List, [], ◌∷◌, Option, Some, None, true, false, codes, map, if◌then◌else◌, option_map, option_and_then, Result, MatchResult}
use Rattle.std.specs.Borrow.{Bor}
use Rattle.std.specs.Option.{option_map_or}
use Rattle.std.specs.Str.{bytes_eq}
use Rattle.std.specs.Str.Parse.{digits_value, without_leading_plus}
use Rattle.clap.specs.Words.{App, Row, Rule, Text, app_of, first_of, is_simple, one_of, rule_of, subcommand_of, subcommand_rows_of}
use Rattle.clap.specs.Faults.{fault_of, is_simple_and_free}
use Rattle.clap.specs.Kinds.{HasKind, Kinds, IsAmong}
use Rattle.clap.specs.ValueTests.{is_unsigned_in}
use Rattle.clap.specs.declared.builder.arg.Arg.{Arg}
use Rattle.clap.specs.declared.builder.command.Command.{Command}
use Rattle.clap.specs.declared.builder.command.Command.TheViews.{out-Command}
use Rattle.clap.specs.declared.parser.matches.ArgMatches.{ArgMatches}
use Rattle.mx_cli.specs.declared.request.FileNames.{FileNames}
use Rattle.clap.specs.declared.error.Error.{Error}
use Rattle.clap.specs.declared.error.kind.ErrorKind.{ErrorKind}
use Rattle.clap.specs.declared.error.kind.ErrorKind.TheVariants.{DisplayHelp, DisplayVersion}

-- the argument is read by this rule, and is not an argument of subcommands too
pub record IsArgument (read_by : Rule) (argument : Arg) : Type 0 where
  pub rule : rule_of argument ≡ read_by
  pub local : argument.global ≡ false

-- no argument of the command is an argument of its subcommands too
abbrev pub HasNoGlobals : Command → Type 0
HasNoGlobals command = (out-Command command).has_globals ≡ false

-- the command is read as this application, and none of its arguments is an argument of its
-- subcommands too
pub record IsCommand (read_as : App) (command : Command) : Type 0 where
  pub app : app_of command ≡ read_as
  pub local : HasNoGlobals command

-- what the words of the command line ask for, and what is wrong with them, follows from the words
-- alone
pub record IsReadable (line : App) : Type 0 where
  pub plain : is_simple line ≡ true
  pub free : is_simple_and_free line ≡ true

-- the command line is read as this application, and is readable
pub record IsLine (read_as : App) (line : Command) : Type 0 where
  pub app : app_of line ≡ read_as
  pub readable : IsReadable (app_of line)

abbrev pub texts_of : List (Bor Text) → List Text
texts_of = map (λ word. word.now)

-- ---- what is asked for

-- the names of the plan and of the events
abbrev pub names_of : FileNames → Text × Text
names_of names = (names.plan.now, names.events.now)

-- the number that a text writes, if it fits in 64 bits
abbrev pub number_of : Text → Option ℕ
number_of text =
    if is_unsigned_in 0 18446744073709551615 text
    then Some (digits_value 10 (without_leading_plus text)) else None

abbrev pub number_at : Text → List Row → Option ℕ
number_at id rows = option_and_then number_of (one_of id rows)

abbrev pub is_given : Text → List Row → Bool
is_given id rows = option_map_or (λ text. bytes_eq text (codes "true")) (first_of id rows) false

-- the value, if there are no faults; else `None`
abbrev pub where_none : {X : Type 0} → Kinds → Option X → Option X
where_none [] o = o
where_none (k ∷ ks) o = None

-- what the words ask of a command line, by the subcommand that they name, if nothing is wrong with
-- them
abbrev pub asked_of : {X : Type 0} → App → (Option (Text × List Row) → Option X) → List Text
    → Option X
asked_of line read words = where_none (fault_of line words) (read (subcommand_of line words))

-- the words have no fault, and the matches are those of the subcommand that they name; or the error
-- has the kind of a fault of the words, or says that memory ran out
abbrev pub Finds : App → List Text → Result ArgMatches Error → Type 0
Finds line words result =
    MatchResult result (λ matches. (fault_of line words ≡ [])
    × (subcommand_rows_of matches ≡ subcommand_of line words))
    (HasKind (fault_of line words))

-- the words have no fault, and the request is the one that is wanted; or the error has the kind of
-- a fault of the words, or says that memory ran out
abbrev pub ParsesAs : {T X : Type 0} → (T → X) → App → List Text → Option X → Result (Option T) Error
    → Type 0
ParsesAs value line words wanted result =
    MatchResult result (λ request. (fault_of line words ≡ []) × (option_map value request ≡ wanted))
    (HasKind (fault_of line words))

-- ---- words that are no command

-- the error is a request to show a text: help, or the version
abbrev pub IsHelpKind : ErrorKind → Type 0
IsHelpKind k = (k ≡ DisplayHelp) ⊎ (k ≡ DisplayVersion)

-- the words ask a command line for help, or for the version
pub record AskHelp (line : App) (words : List Text) : Type 0 where
  pub some : fault_of line words ≢ []
  pub each : (k : ErrorKind) → IsAmong k (fault_of line words) → IsHelpKind k

-- the words are wrong: they have faults, and no fault is a request for help or for the version
pub record AreWrong (line : App) (words : List Text) : Type 0 where
  pub some : fault_of line words ≢ []
  pub each : (k : ErrorKind) → IsAmong k (fault_of line words) → ¬ (IsHelpKind k)

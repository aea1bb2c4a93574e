-- What the words of a line ask for, apart from how often, or which word is wrong. Words have
-- numbers from 0, which are their places in the line.
use Rattle.std.specs.Prelude.{◌==◌, ℕ, ◌+◌, List, [], ◌∷◌, Option, Some, None, Result, Ok, codes, length, position, if◌then◌else◌, option_map, option_and_then}
use Rattle.std.specs.Option.{option_map_or}
use Rattle.std.specs.Str.{bytes_eq}
use Rattle.mx_plan.specs.Text.{Text}
use Rattle.mx_events.specs.Arguments.{event_of, node_in, number_in}
use Rattle.mx_lines.specs.Names.{Known}
use Rattle.mx_lines.specs.Numbers.{number_of}
use Rattle.mx_lines.specs.Refusals.{and_then, refused}
use Rattle.mx_lines.specs.Sides.{sides_of}
use Rattle.mx_lines.specs.Verbs.{kinds_of, verb_of, verb_of_all}
use Rattle.mx_events.specs.declared.argument.Argument.{Argument}
use Rattle.mx_events.specs.declared.argument.Argument.TheVariants as argument
use Rattle.mx_events.specs.declared.argument.ArgumentKind.{ArgumentKind}
use Rattle.mx_events.specs.declared.argument.ArgumentKind.TheVariants as kind
use Rattle.mx_lines.specs.declared.errors.Expected.{Expected}
use Rattle.mx_lines.specs.declared.errors.Expected.TheVariants as expected
use Rattle.mx_lines.specs.declared.errors.LineError.{LineError}
use Rattle.mx_lines.specs.declared.errors.LineFault.TheVariants as fault
use Rattle.mx_lines.specs.declared.orders.Order.{Order}
use Rattle.mx_lines.specs.declared.orders.Order.TheVariants.{Happens, Arrives, AllArrive, IsLost, ParcelIsLost, AllAreLost, ArrivesAgain, LinksChange, Parts}
use Rattle.mx_lines.specs.declared.orders.LinkChange.TheVariants as change
use Rattle.mx_lines.specs.declared.orders.Scope.TheVariants as scope
use Rattle.mx_lines.specs.declared.verbs.Verb.{Verb}
use Rattle.mx_lines.specs.declared.verbs.Verb.TheVariants as verb

-- the number that the word at this place of its line is, or the error that it is none
abbrev pub number_at : ℕ → Text → Expected → Result Argument LineError
number_at place word wanted =
    option_map_or (λ number. Ok (argument.Number number)) (number_of word)
    (refused fault.NotNumber place wanted)

module _ (names : Known) where
  -- the argument of this kind in the word at this place of its line
  abbrev pub argument_at : ArgumentKind → ℕ → Text → Result Argument LineError
  argument_at kind.Node place word =
      option_map_or (λ node. Ok (argument.Node node)) (position (bytes_eq word) names.nodes)
      (refused fault.NoNode place expected.Node)
  argument_at kind.Register place word =
      option_map_or (λ register. Ok (argument.Register register))
      (position (bytes_eq word) names.registers)
      (refused fault.NoRegister place expected.Register)
  argument_at kind.Value place word = number_at place word expected.Number
  argument_at kind.Section place word = number_at place word expected.Number
  argument_at kind.Parcel place word = number_at place word expected.Parcel

  -- arguments of these kinds in the words from this place on, or the error of the first wrong one
  abbrev pub arguments_at : List ArgumentKind → ℕ → List Text → Result (List Argument) LineError
  arguments_at [] place words = Ok []
  arguments_at (kind ∷ kinds) place [] = Ok []
  arguments_at (kind ∷ kinds) place (word ∷ words) =
      and_then (argument_at kind place word) (λ argument.
      and_then (arguments_at kinds (place + 1) words) (λ arguments. Ok (argument ∷ arguments)))

abbrev pub order_between : Verb → ℕ → ℕ → Order
order_between verb.DeliverLink from to = AllArrive (scope.Link from to)
order_between verb.Lose from to = IsLost from to
order_between verb.LoseLink from to = AllAreLost (scope.Link from to)
order_between verb.Again from to = ArrivesAgain from to
order_between verb.CutLink from to = LinksChange (change.Cut from to)
order_between verb.HealLink from to = LinksChange (change.HealLink from to)
order_between _ from to = Arrives from to

-- the order of a verb between the two nodes in its arguments
abbrev pub between : Verb → List Argument → Option Order
between verb (from ∷ to ∷ []) =
    option_and_then (λ node. option_map (order_between verb node) (node_in to)) (node_in from)
between _ _ = None

-- the order of a verb with this argument
abbrev pub order_of_one : Verb → Argument → Option Order
order_of_one verb.LoseParcel argument = option_map ParcelIsLost (number_in argument)
order_of_one verb.HealNode argument =
    option_map (λ node. LinksChange (change.HealNode node)) (node_in argument)
order_of_one _ argument =
    option_map (λ node. LinksChange (change.CutAll node)) (node_in argument)

-- the same, if it has just one argument
abbrev pub with_one : Verb → List Argument → Option Order
with_one verb (argument ∷ []) = order_of_one verb argument
with_one _ _ = None

abbrev pub order_by : Verb → List Argument → Option Order
order_by (verb.Event kind) arguments = option_map Happens (event_of kind arguments)
order_by verb.DeliverAll arguments = Some (AllArrive scope.All)
order_by verb.LoseAll arguments = Some (AllAreLost scope.All)
order_by verb.Heal arguments = Some (LinksChange change.Heal)
order_by verb.CutNode arguments = with_one verb.CutNode arguments
order_by verb.HealNode arguments = with_one verb.HealNode arguments
order_by verb.LoseParcel arguments = with_one verb.LoseParcel arguments
order_by verb arguments = between verb arguments

-- what a verb asks for with these arguments; a wrong number is an error of the word at this place
abbrev pub order_from : Verb → ℕ → List Argument → Result Order LineError
order_from verb place arguments =
    option_map_or (λ order. Ok order) (order_by verb arguments)
    (refused fault.WordCount place (expected.Arguments verb))

module _ (names : Known) where
  -- what a verb asks for with these words as its arguments; `place` is that of the verb's last
  -- word. A wrong number of arguments is an error of this word
  abbrev pub order_with : ℕ → Verb → List Text → Result Order LineError
  order_with place verb words =
      if length (kinds_of verb) == length words
      then and_then (arguments_at names (kinds_of verb) (place + 1) words) (order_from verb place)
      else refused fault.WordCount place (expected.Arguments verb)

  -- what the word at this place asks for if its arguments come right after it
  abbrev pub order_of : ℕ → Text → List Text → Result Order LineError
  order_of place word arguments =
      option_map_or (λ verb. order_with place verb arguments) (verb_of word (length arguments))
      (refused fault.NoWord place expected.Word)

  -- the same, or with `all` between the word and its arguments
  abbrev pub order_before : ℕ → Text → List Text → Result Order LineError
  order_before place word [] = order_of place word []
  order_before place word (next ∷ more) =
      option_map_or (λ verb. order_with (place + 1) verb more)
      (verb_of_all word next (length more)) (order_of place word (next ∷ more))

  -- what the word at this place asks for with the words after it; `times` is an error here
  abbrev pub order_at : ℕ → Text → List Text → Result Order LineError
  order_at place word arguments =
      if bytes_eq word (codes "times") then refused fault.WordCount place expected.Single
      else if bytes_eq word (codes "partition")
      then and_then (sides_of names place arguments) (λ sides. Ok (Parts sides))
      else order_before place word arguments

-- The first words of a line of a script (its verb), and the arguments after them.
use Rattle.std.specs.Prelude.{ℕ, ◌==◌, ◌&&◌, List, [], ◌∷◌, Option, Some, None, codes, if◌then◌else◌, not, option_map}
use Rattle.std.specs.Str.{bytes_eq}
use Rattle.mx_events.specs.Words.{kind_named}
use Rattle.mx_plan.specs.Text.{Text}
use Rattle.mx_events.specs.Arguments.{arguments_of}
use Rattle.mx_events.specs.declared.argument.ArgumentKind.{ArgumentKind}
use Rattle.mx_events.specs.declared.argument.ArgumentKind.TheVariants.{Node, Parcel}
use Rattle.mx_lines.specs.declared.verbs.Verb.{Verb}
use Rattle.mx_lines.specs.declared.verbs.Verb.TheVariants.{Event, Deliver, DeliverAll, DeliverLink, Lose, LoseParcel, LoseAll, LoseLink, Again, CutLink, CutNode, HealLink, HealNode, Heal}

-- the verb of `cut` if this number of words follows it
abbrev pub verb_of_cut : ℕ → Verb
verb_of_cut count = if count == 2 then CutLink else CutNode

-- the verb of `lose` if this number of words follows it
abbrev pub verb_of_lose : ℕ → Verb
verb_of_lose count = if count == 1 then LoseParcel else Lose

-- the verb of `heal` if this number of words follows it
abbrev pub verb_of_heal : ℕ → Verb
verb_of_heal count =
    if count == 0 then Heal else if count == 2 then HealLink else HealNode

-- the verb of a word if this number of words follows it
abbrev pub verb_of : Text → ℕ → Option Verb
verb_of word count =
    if bytes_eq word (codes "lose") then Some (verb_of_lose count)
    else if bytes_eq word (codes "again") then Some Again
    else if bytes_eq word (codes "cut") then Some (verb_of_cut count)
    else if bytes_eq word (codes "heal") then Some (verb_of_heal count)
    else if bytes_eq word (codes "deliver") && (count == 2) then Some Deliver
    else option_map Event (kind_named word)

-- the first verb if no more words follow, the second if two do
abbrev pub by_count : Verb → Verb → ℕ → Option Verb
by_count of_all of_link count =
    if count == 0 then Some of_all else if count == 2 then Some of_link else None

-- the verb of a word and the next one, if that is `all` and this number of words may follow it
abbrev pub verb_of_all : Text → Text → ℕ → Option Verb
verb_of_all word next count =
    if not (bytes_eq next (codes "all")) then None
    else if bytes_eq word (codes "deliver") then by_count DeliverAll DeliverLink count
    else if bytes_eq word (codes "lose") then by_count LoseAll LoseLink count
    else None

-- the kinds of the arguments that a verb takes: those of an event, none, one node, a parcel, or two
-- nodes
abbrev pub kinds_of : Verb → List ArgumentKind
kinds_of (Event kind) = arguments_of kind
kinds_of DeliverAll = []
kinds_of LoseAll = []
kinds_of Heal = []
kinds_of CutNode = Node ∷ []
kinds_of HealNode = Node ∷ []
kinds_of LoseParcel = Parcel ∷ []
kinds_of _ = Node ∷ Node ∷ []

-- What `explore` prints.
use Rattle.std.specs.Prelude.{List}
use Rattle.mx_nodelaws.specs.Core.{Core}
use Rattle.mx_ricart.specs.Step.{ricart_core}
use Rattle.mx_maekawa.specs.Step.{maekawa_core}
use Rattle.mx_raymond.specs.Step.{raymond_core}
use Rattle.mx_network.specs.Step.{ClusterState}
use Rattle.mx_plan.specs.Text.{Text}
use Rattle.mx_plan.specs.Fields.{Fields}
use Rattle.mx_plan.specs.declared.shape.Shape.{Shape}
use Rattle.mx_plan.specs.declared.shape.Shape.TheVariants.{Ricart, Maekawa, Raymond}
use Rattle.mx_format.specs.Parts.{maekawa_parts, maekawa_words, raymond_parts, raymond_words, ricart_parts, ricart_words, word_by}
use Rattle.mx_cli.specs.Printing.{IsWhole, Report}
use Rattle.mx_driver.specs.Runs.{at_rest}
use Rattle.mx_count.specs.Counted.{counts_text}
use Rattle.mx_count.specs.Printed.{options_of}
use Rattle.mx_count.specs.declared.counted_run.EventSource.TheVariants.{Drawn}
use Rattle.mx_draw.specs.Runs.{after_run}
use Rattle.mx_draw.specs.declared.explore_command.Explore.{Explore}

-- a report of `explore`: the counts of a cluster after the run, and the verdict, which is sound
abbrev pub IsExploredFrom : {H S M : Type 0} → Core H S M → (M → Text) → List Text → Fields
    → Explore → ClusterState S M → Report → Type 0
IsExploredFrom core kind_text words p e start r =
    IsWhole
    (counts_text kind_text words (options_of Drawn e.is_json e.has_counts) p e.run.steps
    (after_run core p e.run start)) 0 r

-- the same for a run that starts in the cluster of a plan, at rest, by the plan's algorithm
abbrev pub IsExploredBy : Fields → Explore → Shape → Report → Type 0
IsExploredBy p e (Ricart count) =
    IsExploredFrom ricart_core (word_by ricart_parts) ricart_words p e
    (at_rest ricart_core p count)
IsExploredBy p e (Maekawa family) =
    IsExploredFrom maekawa_core (word_by maekawa_parts) maekawa_words p e
    (at_rest maekawa_core p family)
IsExploredBy p e (Raymond tree) =
    IsExploredFrom raymond_core (word_by raymond_parts) raymond_words p e
    (at_rest raymond_core p tree)

abbrev pub IsExplored : Explore → Fields → Text → Report → Type 0
IsExplored e p text = IsExploredBy p e p.shape

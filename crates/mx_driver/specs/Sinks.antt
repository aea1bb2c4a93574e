-- What a sink prints of a run in the cluster of a plan, and what it is told, for each algorithm.
use Rattle.std.specs.Prelude.{ℕ, ◌≡◌, ◌+◌, List, [], ◌∷◌, Ok}
use Rattle.mx_nodelaws.specs.Core.{Core}
use Rattle.mx_network.specs.Step.{ClusterState, step_of}
use Rattle.mx_letters.specs.declared.ricart.RicartMsg.{RicartMsg}
use Rattle.mx_letters.specs.declared.maekawa.MaekawaMsg.{MaekawaMsg}
use Rattle.mx_letters.specs.declared.raymond.RaymondMsg.{RaymondMsg}
use Rattle.mx_ricart.specs.Node.{Node as RicartNode}
use Rattle.mx_ricart.specs.Step.{ricart_core}
use Rattle.mx_maekawa.specs.Node.{Node as MaekawaNode}
use Rattle.mx_maekawa.specs.Step.{maekawa_core}
use Rattle.mx_raymond.specs.Node.{Node as RaymondNode}
use Rattle.mx_raymond.specs.Step.{raymond_core}
use Rattle.mx_events.specs.declared.event.Event.{Event}
use Rattle.mx_plan.specs.Fields.{Fields}
use Rattle.mx_plan.specs.declared.shape.Shape.{Shape}
use Rattle.mx_plan.specs.declared.shape.Shape.TheVariants.{Ricart, Maekawa, Raymond}
use Rattle.mx_format.specs.LetterTexts.{maekawa_text, raymond_text, ricart_text}
use Rattle.mx_cli.specs.Printing.{Report}
use Rattle.mx_driver.specs.Runs.{Texts, at_rest, lines, report_from}

-- what is printed of a run, for each algorithm
pub record TextsBy : Type 0 where
  pub ricart : Texts RicartNode RicartMsg
  pub maekawa : Texts MaekawaNode MaekawaMsg
  pub raymond : Texts RaymondNode RaymondMsg

-- the report of a run of these events from the cluster of a plan, at rest
abbrev pub report_by : TextsBy → Fields → Shape → List Event → Report
report_by texts p (Ricart count) =
    report_from ricart_core texts.ricart 0 (at_rest ricart_core p count)
report_by texts p (Maekawa family) =
    report_from maekawa_core texts.maekawa 0 (at_rest maekawa_core p family)
report_by texts p (Raymond tree) =
    report_from raymond_core texts.raymond 0 (at_rest raymond_core p tree)

abbrev pub replay_lines : Fields → TextsBy
replay_lines p = record {
  ricart = lines ricart_core ricart_text p;
  maekawa = lines maekawa_core maekawa_text p;
  raymond = lines raymond_core raymond_text p;
}

-- ---- what a sink is told

-- what a sink becomes by an event, which leads from one cluster to the next, and at the end
pub record SinkTells (K S M : Type 0) : Type 1 where
  pub heard : K → ℕ → ClusterState S M → ClusterState S M → K → Type 0
  pub closed : K → ClusterState S M → K → Type 0

-- nothing is said of what a sink becomes, or (below) that it stays the same
abbrev pub anything : {K S M : Type 0} → SinkTells K S M
anything = record { heard = λ _ _ _ _ _. Unit {0}; closed = λ _ _ _. Unit {0} }

abbrev pub same : {K S M : Type 0} → SinkTells K S M
same = record { heard = λ sink _ _ _ told. told ≡ sink; closed = λ sink _ told. told ≡ sink }

module _ {K H S M : Type 0} (core : Core H S M) (tells : SinkTells K S M) where
  -- the sink is told of each of these events once, in order, the first with index k, and then of
  -- the end; so it becomes `last`
  abbrev pub IsTold : ℕ → ClusterState S M → List Event → K → K → Type 0
  IsTold k g [] sink last = tells.closed sink g last
  IsTold k g (e ∷ es) sink last =
      (new : ClusterState S M) × (step_of core g e ≡ Ok new)
      × (next : K) × tells.heard sink k g new next × IsTold (k + 1) new es next last

-- the same, for each algorithm
pub record TellsBy (K : Type 0) : Type 1 where
  pub ricart : SinkTells K RicartNode RicartMsg
  pub maekawa : SinkTells K MaekawaNode MaekawaMsg
  pub raymond : SinkTells K RaymondNode RaymondMsg

-- the sink is told of a run of these events from the cluster of a plan, at rest, and of its end
abbrev pub IsToldBy : {K : Type 0} → TellsBy K → Fields → Shape → List Event → K → K → Type 0
IsToldBy tells p (Ricart count) =
    IsTold ricart_core tells.ricart 0 (at_rest ricart_core p count)
IsToldBy tells p (Maekawa family) =
    IsTold maekawa_core tells.maekawa 0 (at_rest maekawa_core p family)
IsToldBy tells p (Raymond tree) =
    IsTold raymond_core tells.raymond 0 (at_rest raymond_core p tree)

-- What a sink prints does not change how a run ends.
use Rattle.std.proofs.Common.{◌≡◌, ◌+◌, ℕ, List, [], ◌∷◌, Result, Ok, Err, refl}
use Rattle.mx_nodelaws.specs.Core.{Core}
use Rattle.mx_ricart.specs.Step.{ricart_core}
use Rattle.mx_maekawa.specs.Step.{maekawa_core}
use Rattle.mx_raymond.specs.Step.{raymond_core}
use Rattle.mx_events.specs.declared.event.Event.{Event}
use Rattle.mx_network.specs.Step.{ClusterState, step_of}
use Rattle.mx_network.specs.declared.faults.StepFault.{StepFault}
use Rattle.mx_plan.specs.Fields.{Fields}
use Rattle.mx_plan.specs.declared.shape.Shape.{Shape}
use Rattle.mx_plan.specs.declared.shape.Shape.TheVariants.{Ricart, Maekawa, Raymond}
use Rattle.mx_driver.specs.Runs.{Texts, at_rest, report_from, stepped}
use Rattle.mx_driver.specs.Sinks.{TextsBy, report_by}

module _ {H S M : Type 0} (core : Core H S M) (texts others : Texts S M) where
  step_end : (es : List Event) (k : ℕ) (g : ClusterState S M) (r : Result (ClusterState S M) StepFault)
      → ((new : ClusterState S M) → (report_from core texts (k + 1) new es).end ≡ (report_from core others (k + 1) new es).end)
      → (stepped texts k g r (λ new. report_from core texts (k + 1) new es)).end ≡ (stepped others k g r (λ new. report_from core others (k + 1) new es)).end
  step_end es k g (Ok new) more = more new
  step_end es k g (Err fault) more = refl

  same_end : (es : List Event) (k : ℕ) (g : ClusterState S M) → (report_from core texts k g es).end ≡ (report_from core others k g es).end
  unfolding report_from
  same_end [] k g = refl
  same_end (e ∷ es) k g = step_end es k g (step_of core g e) (λ new. same_end es (k + 1) new)

pub end_alike : (texts others : TextsBy) (p : Fields) (es : List Event) (shape : Shape) → (report_by texts p shape es).end ≡ (report_by others p shape es).end
end_alike texts others p es (Ricart count) = same_end ricart_core texts.ricart others.ricart es 0 (at_rest ricart_core p count)
end_alike texts others p es (Maekawa family) = same_end maekawa_core texts.maekawa others.maekawa es 0 (at_rest maekawa_core p family)
end_alike texts others p es (Raymond tree) = same_end raymond_core texts.raymond others.raymond es 0 (at_rest raymond_core p tree)

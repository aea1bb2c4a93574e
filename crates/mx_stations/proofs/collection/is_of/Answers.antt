use Rattle.std.proofs.Common.{sym, ◌∙◌}
use Rattle.mx_stamps.proofs.Choices.{eq_is, eq_true}
use Rattle.mx_stations.proofs.collection.is_of.Goals as goal

pub returns : goal.returns
returns g c = (
  (λ t. sym c.node.ensures.value ∙ sym c.get.ensures.value ∙ eq_true _ _ t ∙ c.get-2.ensures.value),
  (λ e. eq_is _ _ (c.get.ensures.value ∙ c.node.ensures.value ∙ e ∙ sym c.get-2.ensures.value)),
)

-- In a safe world at most one node is inside, and a node that enters draws the next number.
use Rattle.std.proofs.Common.{ℕ, ◌≡◌, true, sym, ◌∙◌, ap, subst}
use Rattle.mx_letters.specs.declared.raymond.RaymondMsg.{RaymondMsg}
use Rattle.mx_nodelaws.specs.World.{World, IsNode}
use Rattle.mx_nodelaws.specs.Core.{IsInside}
use Rattle.mx_nodelaws.specs.Laws.{greatest_mine}
use Rattle.mx_nodelaws.proofs.Frame.{was}
use Rattle.mx_nodelaws.specs.declared.phase.Phase.TheVariants.{Waiting}
use Rattle.mx_nodelaws.proofs.Phases.{waiting_not_inside}
use Rattle.mx_nodelaws.proofs.Entries.{greatest_is}
use Rattle.mx_raymond.specs.Node.{Node}
use Rattle.mx_raymond.specs.Step.{has_permission, raymond_core}
use Rattle.mx_raymond.specs.Good.{IsHeld, IsSafe}
use Rattle.mx_raymond.specs.laws.Tests.{permission_holds}
use Rattle.mx_raymond.specs.laws.PrivilegeMoves.{holds}

pub one_inside : (w : World Node RaymondMsg) (i j : ℕ) (s t : Node) → IsSafe w → IsNode w i s
    → IsNode w j t → IsInside raymond_core s → IsInside raymond_core t → i ≡ j
one_inside w i j s t good at tat (n, in_s) (m, in_t) =
    let safe = good.at in
    let mine : s.holder ≡ i = (safe.nodes i s at).inside_holds n in_s in
    let other : t.holder ≡ j = (safe.nodes j t tat).inside_holds m in_t in
    let h = holds w i s at good.highest safe mine in
    sym h.1 ∙ sym (h.0.alone j t tat other)

module _ (w : World Node RaymondMsg) (i : ℕ) (s : Node) (good : IsSafe w) (at : IsNode w i s)
    (waiting : s.phase ≡ Waiting) (granted : has_permission s ≡ true) where
  held : (h : IsHeld w good.highest) × (h.node ≡ i)
  held =
      holds w i s at good.highest good.at (permission_holds s granted ∙ (good.at.nodes i s at).me)

  pub nobody_inside : (j : ℕ) (t : Node) → IsNode w j t → IsInside raymond_core t → ⊥
  nobody_inside j t tat inside =
      let other : t.holder ≡ j = (good.at.nodes j t tat).inside_holds inside.0 inside.1 in
      let same : j ≡ i = held.0.alone j t tat other ∙ held.1 in
      waiting_not_inside t.phase inside.0 (ap (λ x. x.phase) (was w i s at j t same tat)
      ∙ waiting) inside.1

  pub top_greatest : greatest_mine raymond_core w ≡ s.top
  top_greatest = greatest_is (λ x. x.mine) w s.top
      (held.0.top s (subst (λ x. IsNode w x s) (sym held.1) at)) (good.at.nodes i s at).top_reached

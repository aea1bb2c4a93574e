-- In a safe world at most one node is inside, and a node that enters draws the next number.
use Rattle.std.proofs.Common.{ℕ, ◌≤◌, ◌≡◌, ◌≢◌, inl, inr, true, refl, sym, ◌∙◌, ap, arith}
use Rattle.std.proofs.lemmas.Option.{slice_get_within}
use Rattle.mx_stamps.proofs.Lists.{dec_eq}
use Rattle.mx_stamps.proofs.Stamps.{before_apart}
use Rattle.mx_letters.specs.declared.ricart.RicartMsg.{RicartMsg}
use Rattle.mx_letters.specs.declared.ricart.RicartMsg.TheVariants.{Reply}
use Rattle.mx_nodelaws.specs.World.{World, IsNode}
use Rattle.mx_nodelaws.specs.Core.{IsInside}
use Rattle.mx_nodelaws.specs.Laws.{greatest_mine}
use Rattle.mx_nodelaws.specs.declared.phase.Phase.TheVariants.{Waiting}
use Rattle.mx_nodelaws.proofs.Frame.{was}
use Rattle.mx_nodelaws.specs.Phases.{is_busy}
use Rattle.mx_nodelaws.proofs.Phases.{waiting_not_inside}
use Rattle.mx_nodelaws.proofs.Entries.{greatest_is}
use Rattle.mx_ricart.specs.Node.{Node}
use Rattle.mx_ricart.specs.Step.{has_reply, has_all_replies, ricart_core}
use Rattle.mx_ricart.specs.Good.{IsBusy, IsReplyOk, IsSafe}
use Rattle.mx_ricart.specs.laws.Tests.{all_replies}
use Rattle.mx_ricart.specs.laws.Rows.{has_of_all}

-- no two nodes each have the other's reply to their current request
each_replied : (w : World Node RicartMsg) (i j : ℕ) (s t : Node) → IsSafe w → IsNode w i s
    → IsNode w j t → IsBusy s → IsBusy t → has_reply s j ≡ true → has_reply t i ≡ true → ⊥
each_replied w i j s t good at bt busy_s busy_t has_s has_t =
    let r = (good.nodes i s at).replies busy_s j has_s in
    let q = (good.nodes j t bt).replies busy_t i has_t in
    let a : IsReplyOk w j i s.ours r.0 = good.letters j i (Reply s.ours r.0) r.1 in
    let b : IsReplyOk w i j t.ours q.0 = good.letters i j (Reply t.ours q.0) q.1 in
    before_apart s.ours t.ours ((a.stands t s bt at busy_s refl).1 busy_t)
    ((b.stands s t at bt busy_t refl).1 busy_s)

pub one_inside : (w : World Node RicartMsg) (i j : ℕ) (s t : Node) → IsSafe w → IsNode w i s
    → IsNode w j t → IsInside ricart_core s → IsInside ricart_core t → i ≡ j
one_inside w i j s t good at bt (n, p) (m, q) = elim (dec_eq i j) [
  | inl e ↦ e
  | inr ne ↦ absurd (each_replied w i j s t good at bt (ap is_busy p) (ap is_busy q)
      ((good.nodes i s at).inside_has n p j (slice_get_within w.nodes j t bt) (λ e. ne (sym e)))
      ((good.nodes j t bt).inside_has m q i (slice_get_within w.nodes i s at) ne))
]

module _ (w : World Node RicartMsg) (i : ℕ) (s : Node) (good : IsSafe w) (at : IsNode w i s)
    (waiting : s.phase ≡ Waiting) (granted : has_all_replies s ≡ true) where
  -- the reply of each other node has counted
  has_its_reply : (j : ℕ) (t : Node) → IsNode w j t → j ≢ i → has_reply s j ≡ true
  has_its_reply j t bt ne =
      has_of_all w i s good at (all_replies s granted) j (slice_get_within w.nodes j t bt) ne

  pub nobody_inside : (j : ℕ) (t : Node) → IsNode w j t → IsInside ricart_core t → ⊥
  nobody_inside j t bt (n, inside) = elim (dec_eq j i) [
    | inl e ↦ waiting_not_inside t.phase n
        (ap (λ x. x.phase) (was w i s at j t e bt) ∙ waiting) inside
    | inr ne ↦ each_replied w i j s t good at bt (ap is_busy waiting) (ap is_busy inside)
        (has_its_reply j t bt ne)
        ((good.nodes j t bt).inside_has n inside i (slice_get_within w.nodes i s at)
        (λ e. ne (sym e)))
  ]

  -- no node has entered a section above the `top` of a node that may enter
  mine_below : (j : ℕ) (t : Node) → IsNode w j t → t.mine ≤ s.top
  mine_below j t bt = elim (dec_eq j i) [
    | inl e ↦ let same : t.mine ≡ s.mine = ap (λ x. x.mine) (was w i s at j t e bt) in let l =
        (good.nodes i s at).mine_top in omega arith
    | inr ne ↦
        let r = (good.nodes i s at).replies (ap is_busy waiting) j (has_its_reply j t bt ne) in
        let a : IsReplyOk w j i s.ours r.0 = good.letters j i (Reply s.ours r.0) r.1 in
        let k : t.mine ≤ r.0 = (a.stands t s bt at (ap is_busy waiting) refl).0 in
        let l : r.0 ≤ s.top = r.2 in omega arith
  ]

  -- the `top` of a node that may enter is the greatest `mine` of all nodes
  pub top_greatest : greatest_mine ricart_core w ≡ s.top
  top_greatest = greatest_is (λ x. x.mine) w s.top mine_below (good.nodes i s at).top_reached

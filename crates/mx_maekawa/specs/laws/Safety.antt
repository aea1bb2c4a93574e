-- In a safe world at most one node is inside, and a node that enters draws the next number.
use Rattle.std.proofs.Common.{ℕ, ◌≤◌, ◌≡◌, ◌≢◌, inl, inr, true, Some, sym, ◌∙◌, ap, subst, arith}
use Rattle.std.proofs.lemmas.Option.{same_Some}
use Rattle.mx_stamps.specs.Lists.{greatest}
use Rattle.mx_stamps.proofs.Lists.{dec_eq}
use Rattle.mx_letters.specs.declared.maekawa.MaekawaMsg.TheVariants.{Locked}
use Rattle.mx_nodelaws.specs.World.{IsNode, WasSent}
use Rattle.mx_nodelaws.specs.declared.phase.Phase.TheVariants.{Waiting, Inside}
use Rattle.mx_nodelaws.proofs.Frame.{was}
use Rattle.mx_nodelaws.specs.Phases.{is_busy}
use Rattle.mx_nodelaws.proofs.Phases.{waiting_not_inside}
use Rattle.mx_nodelaws.proofs.Entries.{greatest_is}
use Rattle.mx_maekawa.specs.declared.lock.Lock.{Lock}
use Rattle.mx_maekawa.specs.Node.{Node}
use Rattle.mx_maekawa.specs.RequesterStep.{held_at, is_own, holds_all}
use Rattle.mx_maekawa.specs.Good.{NodeWorld, IsBusy, IsLockedFor, IsEntered, IsNodeOk, IsSound, IsSafe}
use Rattle.mx_maekawa.specs.laws.Tests.{holds_each, some_of}

pub holds_own : (w : NodeWorld) (i : ℕ) (s : Node) → IsNodeOk w i s → holds_all s.requester ≡ true
    → (a : ℕ) → is_own s.requester a ≡ true → (g : ℕ) × (held_at s.requester a ≡ Some g)
holds_own w i s ok all a own =
    some_of (held_at s.requester a) (holds_each s.requester all a (ok.placed.own_few a own) own)

-- an arbiter whose grant is held is locked for it
pub held_lock : (w : NodeWorld) (i : ℕ) (s : Node) (a g : ℕ) (arbiter : Node) → IsSound w
    → IsNode w i s → IsBusy s.requester → held_at s.requester a ≡ Some g → IsNode w a arbiter
    → (c : ℕ) × (c ≤ s.requester.top) × IsLockedFor arbiter s.requester.ours g c
held_lock w i s a g arbiter good at busy has aat =
    let ok = (good.nodes i s at).held busy a g has in (ok.c, ok.top, ok.lock arbiter aat)

-- two nodes that hold grants of one arbiter are the same node
same_holder : (w : NodeWorld) (i j : ℕ) (s t : Node) (a g h : ℕ) → IsSound w → IsNode w i s
    → IsNode w j t → IsBusy s.requester → IsBusy t.requester → is_own s.requester a ≡ true
    → held_at s.requester a ≡ Some g → held_at t.requester a ≡ Some h → i ≡ j
same_holder w i j s t a g h good at bt busy_s busy_t own has_s has_t =
    let ok = good.nodes i s at in
    let ok_t = good.nodes j t bt in
    let node = ok.placed.own_node a own in
    let p = held_lock w i s a g node.0 good at busy_s has_s node.1 in
    let q = held_lock w j t a h node.0 good bt busy_t has_t node.1 in
    let e : record { stamp = s.requester.ours; grant = g; last = p.0 }
    ≡ record { stamp = t.requester.ours; grant = h; last = q.0 } =
    same_Some {A = Lock} (record { stamp = s.requester.ours; grant = g; last = p.0 })
    (record { stamp = t.requester.ours; grant = h; last = q.0 }) (sym p.2 ∙ q.2) in
    sym (ok.ours_node busy_s) ∙ ap (λ x. x.stamp.node) e ∙ ok_t.ours_node busy_t

pub one_inside : (w : NodeWorld) (i j : ℕ) (s t : Node) → IsSafe w → IsNode w i s → IsNode w j t
    → ((n : ℕ) × (s.requester.phase ≡ Inside n)) → ((n : ℕ) × (t.requester.phase ≡ Inside n)) → i
    ≡ j
one_inside w i j s t good at bt (n, p) (m, q) =
    let ok = good.sound.nodes i s at in
    let ok_t = good.sound.nodes j t bt in
    let common = ok.placed.meet j t bt in
    let g = ok.inside_holds n p common.0 common.1 in
    let h = ok_t.inside_holds m q common.0 common.2 in
    same_holder w i j s t common.0 g.0 h.0 good.sound at bt (ap is_busy p)
    (ap is_busy q) common.1 g.1 h.1

pub nobody_inside : (w : NodeWorld) (i : ℕ) (s : Node) (good : IsSafe w) (at : IsNode w i s)
    → s.requester.phase ≡ Waiting → holds_all s.requester ≡ true → (j : ℕ) (t : Node) → IsNode w j t
    → ((n : ℕ) × (t.requester.phase ≡ Inside n)) → ⊥
nobody_inside w i s good at waiting all j t bt (n, inside) =
    let ok = good.sound.nodes i s at in
    let ok_t = good.sound.nodes j t bt in
    let common = ok.placed.meet j t bt in
    let g = holds_own w i s ok all common.0 common.1 in
    let h = ok_t.inside_holds n inside common.0 common.2 in
    let e = same_holder w i j s t common.0 g.0 h.0 good.sound at bt (ap is_busy waiting)
    (ap is_busy inside) common.1 g.1 h.1 in
    waiting_not_inside t.requester.phase n
    (ap (λ x. x.requester.phase) (was w i s at j t (sym e) bt) ∙ waiting) inside

-- the lock of an arbiter for one node carries at least the number of the last section of another
-- node with this arbiter
grant_after : (w : NodeWorld) (i j : ℕ) (s t : Node) (a g c : ℕ) (arbiter : Node) (good : IsSound w)
    → IsNode w a arbiter → i ≢ j → s.requester.ours.node ≡ i
    → IsLockedFor arbiter s.requester.ours g c → (en : IsEntered w j t) → is_own t.requester a
    ≡ true → t.requester.mine ≤ c
grant_after w i j s t a g c arbiter good aat ne node lock en own =
    let last = (good.nodes a arbiter aat).lock_last
    (record { stamp = s.requester.ours; grant = g; last = c }) lock in
    let was = en.sent a own in
    let ok = good.letters a j (Locked en.stamp (en.grant_of a) was.0) was.1 in
    let le : en.grant_of a ≤ arbiter.arbiter.granted = ok.granted arbiter aat in
    let e : g ≡ arbiter.arbiter.granted = last.0 in
    elim (dec_eq (en.grant_of a) g) [
      | inl same ↦
          let k = ok.same s.requester.ours.node s.requester.ours c
          (subst (λ x. WasSent w a s.requester.ours.node (Locked s.requester.ours x c))
          (sym same) last.1) in
          absurd (ne (sym node ∙ ap (λ x. x.node) k.0 ∙ en.node))
      | inr f ↦ en.after a s.requester.ours.node s.requester.ours g c own last.1 (omega arith)
    ]

-- no node has entered a section above the `top` of a node that may enter
mine_below : (w : NodeWorld) (i : ℕ) (s : Node) (good : IsSafe w) (at : IsNode w i s)
    → s.requester.phase ≡ Waiting → holds_all s.requester ≡ true → (j : ℕ) (t : Node) → IsNode w j t
    → t.requester.mine ≤ s.requester.top
mine_below w i s good at waiting all j t bt =
    let ok = good.sound.nodes i s at in
    elim (dec_eq i j) [
      | inl e ↦ let same : t.requester.mine ≡ s.requester.mine =
          ap (λ x. x.requester.mine) (was w i s at j t (sym e) bt) in let l = ok.mine_top in
          omega arith
      | inr ne ↦ elim (dec_eq t.requester.mine 0) [
        | inl none ↦ omega arith
        | inr some ↦
            let common = ok.placed.meet j t bt in
            let g = holds_own w i s ok all common.0 common.1 in
            let node = ok.placed.own_node common.0 common.1 in
            let p = held_lock w i s common.0 g.0 node.0 good.sound at
            (ap is_busy waiting) g.1 node.1 in
            let k : t.requester.mine ≤ p.0 =
            grant_after w i j s t common.0 g.0 p.0 node.0 good.sound node.1 ne
            (ok.ours_node (ap is_busy waiting)) p.2
            ((good.sound.nodes j t bt).entered (omega arith)) common.2 in
            let l : p.0 ≤ s.requester.top = p.1 in
            omega arith
      ]
    ]

-- the `top` of a node that may enter is the greatest `mine` of all nodes
pub top_greatest : (w : NodeWorld) (i : ℕ) (s : Node) (good : IsSafe w) (at : IsNode w i s)
    → s.requester.phase ≡ Waiting → holds_all s.requester ≡ true
    → greatest (λ x. x.requester.mine) w.nodes ≡ s.requester.top
top_greatest w i s good at waiting all =
    greatest_is (λ x. x.requester.mine) w s.requester.top (mine_below w i s good at waiting all)
    (good.sound.nodes i s at).top_reached

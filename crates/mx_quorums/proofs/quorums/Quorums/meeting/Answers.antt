use Rattle.std.proofs.Common.{ℕ, ◌<◌, arith, ap, subst}
use Rattle.mx_quorums.specs.Family.{Family, IsWithin, IsCommon}
use Rattle.mx_quorums.specs.Rules.{IsLeast}
use Rattle.mx_quorums.proofs.RowLemmas.{finds_common}
use Rattle.mx_quorums.proofs.quorums.Quorums.meeting.Goals as goal

pub unwrap-requires : goal.unwrap-requires
unwrap-requires c =
    let count = ap (λ (f : Family). f.count) c.self.view_is in
    let first : c.get.result < c.self.inside.nodes = omega (arith, count, c.get.ensures.value) in
    let second : c.get-2.result < c.self.inside.nodes = omega (arith, count, c.get-2.ensures.value) in
    finds_common _ _ c.first_common.result c.first_common.ensures (c.self.invariant.0.meet c.get.result c.get-2.result first second)

pub returns : goal.returns
returns c =
    let r : ℕ = c.unwrap.result in
    let least = rw c.unwrap.ensures at c.first_common.ensures in
    let Least : Family → ℕ → ℕ → Type 0 = λ f i j. IsLeast (IsCommon f i j) 21 r in
    let inside : Family = record { count = c.self.inside.nodes; rows = c.self.inside.rows } in
    let first : Least inside c.args.i c.get-2.result = subst (λ i. Least inside i c.get-2.result) c.get.ensures.value least in
    let both : Least inside c.args.i c.args.j = subst (λ j. Least inside c.args.i j) c.get-2.ensures.value first in
    let all : Least c.args.self.now c.args.i c.args.j = subst (λ f. Least f c.args.i c.args.j) c.self.view_is both in
    let within : IsWithin c.args.self.now = subst (λ f. IsWithin f) c.self.view_is c.self.invariant.1 in
    (within.members c.args.i r all.1.0, all.1, all.2)

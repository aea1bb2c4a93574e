use Rattle.std.proofs.Common.{ℕ, ◌<◌, ◌↔◌, List, IsOk, refl, subst}
use Rattle.mx_quorums.specs.Rows.{IsMember}
use Rattle.mx_quorums.specs.Shapes.{IsShifted}
use Rattle.mx_quorums.proofs.ShapeLemmas.{plane_accepted, no_error}
use Rattle.mx_quorums.proofs.quorums.Quorums.plane.Goals as goal

-- the check accepts
is_ok : (c : goal.After-checked) → IsOk c.checked.result
is_ok c =
    let is = c.in-Some.ensures in
    let marks = c.plane_rows.result in
    let same = subst (λ (ds : List ℕ). (i j : ℕ) → IsMember marks i j ↔ ((i < c.args.n) × IsShifted c.args.n ds i j)) is.1 c.plane_rows.ensures in
    plane_accepted c.args.n marks is.0 same c.checked.result c.checked.ensures

pub returns-clause-ok : goal.returns-clause-ok
returns-clause-ok c = ((λ h. c.in-Some.ensures.0), (λ size. is_ok c))

pub returns-clause-no_plane : goal.returns-clause-no_plane
returns-clause-no_plane c = no_error _ c.checked.result (is_ok c)

pub returns-in_default-clause-no_plane : goal.returns-in_default-clause-no_plane
returns-in_default-clause-no_plane c = refl

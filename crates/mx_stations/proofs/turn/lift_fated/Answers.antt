use Rattle.std.proofs.Common.{sym, ◌∙◌, subst, refl}
use Rattle.mx_stations.specs.Slides.{KeepsHand, taking}
use Rattle.mx_stations.proofs.Crossing.{holds_none, keeps_fated, lifts_fated}
use Rattle.mx_stations.proofs.turn.lift_fated.Goals as goal

pub lift-parcel-requires-clause-holding : goal.lift-parcel-requires-clause-holding
lift-parcel-requires-clause-holding g c =
    let t = c.requires.taken in
    (t.1, (taking _ c.args.link.now.from t.1 t.0, t.3, t.2, refl))

pub release-requires-clause-link : goal.release-requires-clause-link
release-requires-clause-link g c = (c.lift-parcel.ensures.same.0 ∙ c.requires.link.0, c.requires.link.1)

pub release-requires-clause-holding : goal.release-requires-clause-holding
release-requires-clause-holding g c =
    let t = c.requires.taken in let l = c.lift-parcel.ensures in
    holds_none _ _ _ t.0 t.1 _ _ _ t.3 l.parcel l.view t.2

pub release-requires-clause-hand : goal.release-requires-clause-hand
release-requires-clause-hand g c =
    let t = c.requires.taken in let l = c.lift-parcel.ensures in
    subst (λ h. KeepsHand c.lift-parcel.new.seat.me.0 h) (sym c.hand_of.ensures) (keeps_fated _ _ c.args.link.now.to t.0 t.1 _ _ _ t.3 l.parcel l.view c.ask-fate.result)

pub returns-clause-same : goal.returns-clause-same
returns-clause-same g c =
    let l = c.lift-parcel.ensures.same in let r = c.release.ensures.same in
    (r.0 ∙ l.0, r.1 ∙ l.1)

pub returns-clause-fated : goal.returns-clause-fated
returns-clause-fated g c =
    let l = c.lift-parcel.ensures in
    λ e p has. lifts_fated _ _ c.args.link.now.to e p _ _ _ has l.parcel l.view c.ask-fate.result _ _ c.hand_of.ensures c.release.ensures.view

use Rattle.std.proofs.Common.{Bool, ap, inl, inr, not, refl, subst, sym}
use Rattle.std.proofs.lemmas.Result.{IfErr-weaker, on_ok_weaker}
use Rattle.mx_stamps.proofs.Choices.{bool_cases}
use Rattle.mx_stations.specs.Turns.{Station}
use Rattle.mx_jobs.specs.Sections.{Reaches}
use Rattle.mx_jobs.proofs.Able.{inside_able, left_able, same_able}
use Rattle.mx_jobs.proofs.Advancing.{fails_on, left_at_last, reaches_on, still_there}
use Rattle.mx_jobs.proofs.Rounding.{no_act, serves_leaving}
use Rattle.mx_jobs.proofs.worker.act.Goals as goal

pub returns-clause-reaches : goal.returns-clause-reaches
returns-clause-reaches g c = λ first from so_far.
    let core = g.C.Exclusion.core in
    on_ok_weaker c.go_on.result
    (λ more. reaches_on g.J.Job.terms core _ first _ _ from _ _ (subst (λ (p : Bool). Reaches g.J.Job.terms core p first from c.args.job.now c.args.station.now) c.if-stance.false so_far) more)
    c.go_on.ensures.reaches

pub returns-then-stance-clause-reaches : goal.returns-then-stance-clause-reaches
returns-then-stance-clause-reaches g c = λ first from so_far.
    let core = g.C.Exclusion.core in
    let before = subst (λ (p : Bool). Reaches g.J.Job.terms core p first from c.args.job.now c.args.station.now) c.if-stance.true so_far in
    let done = c.try_leave-has_left.ensures in
    elim (bool_cases c.try_leave-has_left.result) [
      | inl t ↦ subst (λ (b : Bool). Reaches g.J.Job.terms core (not b) first from c.args.job.now c.try_leave-has_left.new.station) (sym t) (left_at_last g.J.Job.terms core first _ from _ _ before (done.left t))
      | inr f ↦ subst (λ (b : Bool). Reaches g.J.Job.terms core (not b) first from c.args.job.now c.try_leave-has_left.new.station) (sym f) (still_there g.J.Job.terms core _ first _ from _ _ (done.kept f) before)
    ]

pub returns-then-stance-clause-serves : goal.returns-then-stance-clause-serves
returns-then-stance-clause-serves g c =
    let core = g.C.Exclusion.core in
    let done = c.try_leave-has_left.ensures in
    serves_leaving core _ _ _ (no_act core _ _ refl) (elim (bool_cases c.try_leave-has_left.result) [
      | inl t ↦ inr (done.left t).2
      | inr f ↦ inl (done.kept f)
    ])

pub returns-then-stance-clause-able : goal.returns-then-stance-clause-able
returns-then-stance-clause-able g c = λ first from so_far.
    let core = g.C.Exclusion.core in
    let phases = g.met.C.Exclusion.phases in
    let before = subst (λ (p : Bool). Reaches g.J.Job.terms core p first from c.args.job.now c.args.station.now) c.if-stance.true so_far in
    let done = c.try_leave-has_left.ensures in
    elim (bool_cases c.try_leave-has_left.result) [
      | inl t ↦ λ busy. left_able core phases _ c.args.station.now c.try_leave-has_left.new.station before.rest.inside (done.left t).2
      | inr f ↦ λ busy. same_able core phases c.args.station.now c.try_leave-has_left.new.station (ap (λ (s : Station core). s.me.member.core) (done.kept f)) (inside_able core phases _ c.args.station.now before.rest.inside)
    ]

pub returns-clause-able : goal.returns-clause-able
returns-clause-able g c = λ first from so_far. c.go_on.ensures.able

pub returns-clause-fails : goal.returns-clause-fails
returns-clause-fails g c = λ first from so_far.
    let core = g.C.Exclusion.core in
    let before = subst (λ (p : Bool). Reaches g.J.Job.terms core p first from c.args.job.now c.args.station.now) c.if-stance.false so_far in
    IfErr-weaker c.go_on.result _ _ (λ why did. fails_on g.J.Job.terms core why first _ _ from _ _ before did.0 did.1) c.go_on.ensures.fails

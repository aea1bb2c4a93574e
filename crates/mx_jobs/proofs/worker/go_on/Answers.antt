use Rattle.std.proofs.Common.{Bool, IfSome, refl, subst, sym}
use Rattle.mx_jobs.specs.declared.tries.JobFault.{JobFault}
use Rattle.mx_jobs.specs.Sections.{CannotGoOn, Reaches, Rests}
use Rattle.mx_jobs.proofs.Advancing.{settled, stands}
use Rattle.mx_jobs.proofs.Members.{rests_here}
use Rattle.mx_jobs.proofs.Rounding.{err_then, no_act, serves_acting}
use Rattle.mx_jobs.proofs.worker.go_on.Goals as goal

pub next_section-requires : goal.next_section-requires
next_section-requires g c = (
  search (c.requires-raw),
  (
    c.as_slice.ensures.fits,
    (subst (g.J.Job.terms.asks_for c.args.job.now) (sym c.as_slice.ensures.value) (subst (λ o. IfSome o (λ rs. g.J.Job.terms.asks_for c.args.job.now rs.items)) c.in-Some.is c.asks-asked.ensures.some), (c.requires.ready, c.requires.left)),
  ),
)

pub returns-in-None-clause-reaches : goal.returns-in-None-clause-reaches
returns-in-None-clause-reaches g c =
    let core = g.C.Exclusion.core in
    subst (λ (p : Bool). Reaches g.J.Job.terms core p c.args.job.now c.args.station.now c.args.job.now c.args.station.now) (sym c.requires.left)
    (settled g.J.Job.terms core _ _ _ _ (stands g.J.Job.terms core _ _ _ _ refl (rests_here core _ _ refl)))

pub returns-in-None-clause-serves : goal.returns-in-None-clause-serves
returns-in-None-clause-serves g c = serves_acting g.C.Exclusion.core _ _ (no_act g.C.Exclusion.core _ _ refl)

pub returns-in_err-next_section-in-Some-clause-fails : goal.returns-in_err-next_section-in-Some-clause-fails
returns-in_err-next_section-in-Some-clause-fails g c =
    let core = g.C.Exclusion.core in
    err_then (λ (w : JobFault). Rests core c.args.station.now c.next_section.new.station × CannotGoOn g.J.Job.terms core w c.args.job.now c.next_section.new.job c.next_section.new.station)
    c.from_residual.result c.in_err-next_section-in-Some.field-0.0 c.from_residual.ensures.1 c.in_err-next_section-in-Some.ensures.fails

pub returns-then-not-is_due-clause-reaches : goal.returns-then-not-is_due-clause-reaches
returns-then-not-is_due-clause-reaches g c =
    let core = g.C.Exclusion.core in
    subst (λ (p : Bool). Reaches g.J.Job.terms core p c.args.job.now c.args.station.now c.args.job.now c.args.station.now) (sym c.requires.left)
    (settled g.J.Job.terms core _ _ _ _ (stands g.J.Job.terms core _ _ _ _ refl (rests_here core _ _ refl)))

pub returns-then-not-is_due-clause-serves : goal.returns-then-not-is_due-clause-serves
returns-then-not-is_due-clause-serves g c = serves_acting g.C.Exclusion.core _ _ (no_act g.C.Exclusion.core _ _ refl)

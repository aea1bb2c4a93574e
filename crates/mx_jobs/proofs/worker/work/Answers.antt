use Rattle.std.proofs.Common.{◌≡◌, ◌+◌, ℕ, Bool, arith, refl, subst}
use Rattle.mx_jobs.specs.declared.tries.JobFault.{JobFault}
use Rattle.mx_jobs.specs.Rounds.{BusyRounds, Rounds}
use Rattle.mx_jobs.specs.Sections.{Fails, Reaches}
use Rattle.mx_jobs.proofs.Advancing.{reached, settled, stands}
use Rattle.mx_jobs.proofs.Members.{rests_here}
use Rattle.mx_jobs.proofs.Rounding.{busy_more, rounds_all}
use Rattle.mx_jobs.proofs.Telling.{same_why}
use Rattle.mx_jobs.proofs.worker.work.Goals as goal

pub new-requires : goal.new-requires
new-requires g c = omega arith

pub is_inside-requires : goal.is_inside-requires
is_inside-requires g c = search (c.requires-raw)

pub loop-turn-init : goal.loop-turn-init
loop-turn-init g c =
    let core = g.C.Exclusion.core in
    (settled g.J.Job.terms core _ _ _ _ (stands g.J.Job.terms core _ _ _ _ refl (rests_here core _ _ refl)), refl, c.requires.ready)

pub loop-turn-preserved : goal.loop-turn-preserved
loop-turn-preserved g c = (
  c.in-Ok.ensures.reaches _ _ c.loop-turn.invariant.0,
  busy_more g.C.Exclusion.core _ _ c.in-Ok.idle c.loop-turn._turn _ _ _ (rounds_all g.C.Exclusion.core _ _ c.loop-turn._turn _ _ c.loop-turn.invariant.1) (c.in-Ok.ensures.round _ _ c.loop-turn.invariant.0)
      (λ idle. (c.in-Ok.ensures.finished idle).1),
  c.take_turn.ensures.ready,
)

pub returns-then-done-clause-done : goal.returns-then-done-clause-done
returns-then-done-clause-done g c = λ e.
    let core = g.C.Exclusion.core in
    reached g.J.Job.terms core _ _ _ _
    (subst (λ (p : Bool). Reaches g.J.Job.terms core p c.args.job.now c.args.station.now c.take_turn.new.job c.take_turn.new.station) (c.in-Ok.ensures.finished c.if-idle.true).0 (c.in-Ok.ensures.reaches _ _ c.loop-turn.invariant.0))

pub returns-then-done-clause-finished : goal.returns-then-done-clause-finished
returns-then-done-clause-finished g c = λ e. (c.in-Ok.ensures.finished c.if-idle.true).1

pub returns-then-done-clause-works : goal.returns-then-done-clause-works
returns-then-done-clause-works g c =
    let low = c.loop-turn-test.true in record {
      made = c.loop-turn._turn + 1;
      most = omega (arith, low);
      rounds =
          let core = g.C.Exclusion.core in
          rounds_all core _ _ (c.loop-turn._turn + 1) _ _
          (busy_more core _ _ c.in-Ok.idle c.loop-turn._turn _ _ _ (rounds_all core _ _ c.loop-turn._turn _ _ c.loop-turn.invariant.1) (c.in-Ok.ensures.round _ _ c.loop-turn.invariant.0) (λ idle. (c.in-Ok.ensures.finished idle).1));
    }

pub returns-clause-works : goal.returns-clause-works
returns-clause-works g c =
    let over = c.loop-turn-test.false in
    let most = c.loop-turn.auto._turn-end in
    let all : c.loop-turn._turn ≡ c.args.options.turns = omega (arith, over, most) in
    let core = g.C.Exclusion.core in
    subst (λ (n : ℕ). Rounds core c.args.options.settle_every n c.args.station.now c.loop-turn.station) all (rounds_all core _ _ c.loop-turn._turn _ _ c.loop-turn.invariant.1)

pub returns-clause-idles : goal.returns-clause-idles
returns-clause-idles g c = λ e.
    let over = c.loop-turn-test.false in
    let most = c.loop-turn.auto._turn-end in
    let all : c.loop-turn._turn ≡ c.args.options.turns = omega (arith, over, most) in
    subst (λ (n : ℕ). BusyRounds g.C.Exclusion.core (g.J.Job.terms.finished c.loop-turn.job) c.args.options.settle_every n c.args.station.now c.loop-turn.station) all c.loop-turn.invariant.1

pub returns-in-Err-clause-broken : goal.returns-in-Err-clause-broken
returns-in-Err-clause-broken g c = λ why e.
    subst (λ (w : JobFault). Fails g.J.Job.terms g.C.Exclusion.core w c.args.job.now c.args.station.now c.take_turn.new.job c.take_turn.new.station) (same_why _ _ e)
    (c.in-Err.ensures.fails _ _ c.loop-turn.invariant.0)

pub returns-in-Err-clause-works : goal.returns-in-Err-clause-works
returns-in-Err-clause-works g c =
    let low = c.loop-turn-test.true in record {
      made = c.loop-turn._turn;
      fewer = omega (arith, low);
      last = c.loop-turn.station;
      rounds = rounds_all g.C.Exclusion.core _ _ c.loop-turn._turn _ _ c.loop-turn.invariant.1;
      acts = c.in-Err.ensures.broken;
    }

pub returns-in-Some-clause-works : goal.returns-in-Some-clause-works
returns-in-Some-clause-works g c =
    let core = g.C.Exclusion.core in
    let low = c.loop-turn-test.true in record {
      made = c.loop-turn._turn + 1;
      most = omega (arith, low);
      rounds =
          rounds_all core _ _ (c.loop-turn._turn + 1) _ _
          (busy_more core _ _ c.in-Ok.idle c.loop-turn._turn _ _ _ (rounds_all core _ _ c.loop-turn._turn _ _ c.loop-turn.invariant.1) (c.in-Ok.ensures.round _ _ c.loop-turn.invariant.0) (λ idle. (c.in-Ok.ensures.finished idle).1));
    }

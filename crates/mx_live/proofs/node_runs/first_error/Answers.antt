use Rattle.std.proofs.Common.{◌≡◌, refl, subst, sym, take}
use Rattle.std.proofs.lemmas.List.{take_all}
use Rattle.std.proofs.lemmas.List.Elements.{All-more, All-same}
use Rattle.std.proofs.lemmas.Option.{slice_get_read}
use Rattle.mx_stations.specs.declared.worker.Worked.{Worked}
use Rattle.mx_stations.specs.declared.worker.Worked.TheVariants.{Done}
use Rattle.mx_live.specs.declared.live_error.LiveError.TheVariants.{TurnsSpent, GateShut}
use Rattle.mx_live.specs.LiveErrors.{IsWhy}
use Rattle.mx_live.proofs.node_runs.first_error.Goals as goal

pub returns-in-NotYet-clause-some : goal.returns-in-NotYet-clause-some
returns-in-NotYet-clause-some g c =
    let k = c.loop-one.one-index in
    record {
      place = k;
      one = c.one-item.result;
      there = slice_get_read c.args.left.now _ k c.one-item.result refl c.loop-one-test.true c.one-item.is;
      before = c.loop-one.invariant;
      why = subst (λ (w : Worked). IsWhy w TurnsSpent) (sym c.in-NotYet.is) refl;
    }

pub returns-in-GateShut-clause-some : goal.returns-in-GateShut-clause-some
returns-in-GateShut-clause-some g c =
    let k = c.loop-one.one-index in
    record {
      place = k;
      one = c.one-item.result;
      there = slice_get_read c.args.left.now _ k c.one-item.result refl c.loop-one-test.true c.one-item.is;
      before = c.loop-one.invariant;
      why = subst (λ (w : Worked). IsWhy w GateShut) (sym c.in-GateShut.is) refl;
    }

pub loop-one-preserved : goal.loop-one-preserved
loop-one-preserved g c =
    All-more (λ (one : g.row.S.Denot × Worked). one.1 ≡ Done) c.args.left.now c.loop-one.one-index c.one-item.result c.loop-one-test.true c.loop-one.invariant
    (subst (λ (one : g.row.S.Denot × Worked). one.1 ≡ Done) c.one-item.is c.in-Done.is)

pub returns-clause-none : goal.returns-clause-none
returns-clause-none g c =
    let k = c.loop-one.one-index in
    All-same (λ (one : g.row.S.Denot × Worked). one.1 ≡ Done) c.args.left.now (take k c.args.left.now) (sym (take_all k c.args.left.now c.loop-one-test.false)) c.loop-one.invariant

use Rattle.std.proofs.Common.{false, rules, sym, subst}
use Rattle.mx_stations.specs.Turns.{HoldsUnknown}
use Rattle.mx_stations.proofs.Going.{goes_fated, goes_had, goes_on, hand_empty, stays}
use Rattle.mx_stations.proofs.Posts.{on_err}
use Rattle.mx_stations.proofs.Turning.{dealt}
use Rattle.mx_stations.proofs.station.Station.take_fated.Goals as goal

pub returns-in_default-clause-goes : goal.returns-in_default-clause-goes
returns-in_default-clause-goes g c = stays g.C.Exclusion.core _ _ c.in_default.ensures.fated.1

pub returns-in_err-deliver-clause-goes : goal.returns-in_err-deliver-clause-goes
returns-in_err-deliver-clause-goes g c =
    let core = g.C.Exclusion.core in
    goes_on core _ _ _ (goes_fated core c.args.from c.in-Some.fate _ _ c.in-Some.ensures.fated) (stays core _ _ c.in_err-deliver.ensures.memory)

pub returns-in_err-deliver-clause-kept : goal.returns-in_err-deliver-clause-kept
returns-in_err-deliver-clause-kept g c =
    let e = c.in_err-deliver.ensures in
    on_err c.from_residual.result _ (subst (λ s. HoldsUnknown g.C.Exclusion.core s) (sym e.memory) e.held)

pub returns-in_err-deliver-2-clause-goes : goal.returns-in_err-deliver-2-clause-goes
returns-in_err-deliver-2-clause-goes g c =
    let core = g.C.Exclusion.core in
    goes_on core _ _ _ (goes_fated core c.args.from c.in-Some.fate _ _ c.in-Some.ensures.fated)
    (goes_on core _ _ _ (goes_had core c.is_twice.result _ _ c.in_ok-deliver.field-0 c.in_ok-deliver.ensures.delivered) (stays core _ _ c.in_err-deliver-2.ensures.memory))

pub returns-in_err-deliver-2-clause-kept : goal.returns-in_err-deliver-2-clause-kept
returns-in_err-deliver-2-clause-kept g c =
    let e = c.in_err-deliver-2.ensures in
    on_err c.from_residual-in_err-deliver-2.result _ (subst (λ s. HoldsUnknown g.C.Exclusion.core s) (sym e.memory) e.held)

pub returns : goal.returns
returns g c =
    let core = g.C.Exclusion.core in let first = c.in_ok-deliver.ensures.delivered in let last = c.in_ok-deliver-2.ensures.delivered in
    record {
      taken = dealt core c.args.from c.in-Some.fate _ _ _ _ c.is_twice.result c.in_ok-deliver.field-0 c.in_ok-deliver-2.field-0 c.in-Some.ensures.fated c.is_twice.ensures first last;
      goes = goes_on core _ _ _ (goes_fated core c.args.from c.in-Some.fate _ _ c.in-Some.ensures.fated)
          (goes_on core _ _ _ (goes_had core c.is_twice.result _ _ c.in_ok-deliver.field-0 first) (goes_had core false _ _ c.in_ok-deliver-2.field-0 last));
      empty = hand_empty core _ _ c.in_ok-deliver-2.field-0 last;
      kept = tt;
    }

pub fetch_fated-requires : goal.fetch_fated-requires
fetch_fated-requires g c = (search rules, (c.requires.within, (c.requires.empty, tt)))

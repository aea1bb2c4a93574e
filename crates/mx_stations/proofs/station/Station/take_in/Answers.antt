use Rattle.std.proofs.Common.{rules, sym, ap, ◌∙◌, inl, subst, ◌<◌}
use Rattle.mx_letters.specs.declared.fates.Fate.{Fate}
use Rattle.mx_stations.specs.Turns.{IsFated}
use Rattle.mx_stations.proofs.Crossing.{none_there, took}
use Rattle.mx_stations.proofs.Posts.{match_false, match_true, no_none, on_err}
use Rattle.mx_stations.proofs.station.Station.take_in.Goals as goal

pub returns-in_err-deliver-clause-memory : goal.returns-in_err-deliver-clause-memory
returns-in_err-deliver-clause-memory g c = let d = c.in_err-deliver.ensures in on_err c.from_residual.result _ (inl (no_none _ d.held.2, d.memory))

pub returns-then-branch-clause-taken : goal.returns-then-branch-clause-taken
returns-then-branch-clause-taken g c = inl (match_true _ c.in_ok-deliver.field-0 c.in_ok-deliver.ensures.delivered c.if-branch.true)

pub fetch_fated-requires : goal.fetch_fated-requires
fetch_fated-requires g c =
    let still = match_false _ c.in_ok-deliver.field-0 c.in_ok-deliver.ensures.delivered c.if-branch.false in
    (search rules, (subst (λ s. c.args.from < s.nodes) (sym still.1) c.requires, (ap (λ s. s.me.hand) still.1 ∙ still.0, search rules)))

pub returns-in_default-clause-taken : goal.returns-in_default-clause-taken
returns-in_default-clause-taken g c =
    let still = match_false _ c.in_ok-deliver.field-0 c.in_ok-deliver.ensures.delivered c.if-branch.false in
    none_there g.C.Exclusion.core _ _ _ _ still c.in_default.ensures.fated

pub returns-clause-taken : goal.returns-clause-taken
returns-clause-taken g c =
    let still = match_false _ c.in_ok-deliver.field-0 c.in_ok-deliver.ensures.delivered c.if-branch.false in
    took g.C.Exclusion.core _ _ _ _ _ c.in_ok-deliver-2.field-0 still (subst (λ (f : Fate). IsFated c.args.from f c.deliver.new.self c.fetch_fated.new.self) c.in-Some.ensures.asked c.in-Some.ensures.fated) c.in_ok-deliver-2.ensures.delivered

use Rattle.std.proofs.Common.{rules, sym, ap, le-leb, leb-true, length, subst, ◌≤◌}
use Rattle.mx_stations.proofs.worker.has_sections.Goals as goal

pub returns : goal.returns
returns g c =
    let e = ap length c.receipts.ensures in (
      (λ t. subst (λ n. c.args.sections ≤ n) e (leb-true _ _ t)),
      (λ low. le-leb _ _ (subst (λ n. c.args.sections ≤ n) (sym e) low)),
    )

pub receipts-requires : goal.receipts-requires
receipts-requires g c = search rules

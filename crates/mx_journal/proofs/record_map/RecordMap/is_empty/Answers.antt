use Rattle.std.proofs.Common.{◌≡◌, ◌↔◌, [], IsTrue, length, vec_len, subst, arith}
use Rattle.mx_journal.specs.Records.{Ascending}
use Rattle.mx_journal.proofs.Flat.{ascending_flat, empty_runs}
use Rattle.mx_journal.proofs.record_map.RecordMap.is_empty.Goals as goal

pub returns-clause-value : goal.returns-clause-value
returns-clause-value c =
    let runs = c.self.inside.runs in
    subst (λ l. IsTrue c.is_empty.result ↔ (l ≡ [])) c.self.view_is
    (empty_runs runs.items (vec_len runs) c.is_empty.result c.self.invariant (let q : vec_len runs ≡ length runs.items = omega (arith, runs.ok) in q) c.is_empty.ensures)

pub returns-clause-ordered : goal.returns-clause-ordered
returns-clause-ordered c = subst (λ l. Ascending 1 l) c.self.view_is (ascending_flat 1 c.self.inside.runs.items c.self.invariant)

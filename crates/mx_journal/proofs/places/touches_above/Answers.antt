use Rattle.std.proofs.Common.{ℕ, ◌≡◌, ◌-◌, ◌+◌, ◌<◌, ◌↔◌, [], IsTrue, get_or, nat_eq, ◌∙◌, ap, arith}
use Rattle.std.proofs.lemmas.Bool.Decides.{nat_tests}
use Rattle.mx_journal.specs.Runs.{first_number}
use Rattle.mx_journal.proofs.PutRuns.{read_there}
use Rattle.mx_journal.proofs.places.touches_above.Goals as goal

is_next : (n first start : ℕ) → n < first → first ≡ start → IsTrue (nat_eq (first - n) 1) ↔ (start ≡ n + 1)
is_next n first start low same = (λ t. grind (arith, nat_tests, t), λ e. grind (arith, nat_tests, e))

pub returns-then-number-first : goal.returns-then-number-first
returns-then-number-first c =
    let runs = c.args.runs.now in
    let next = is_next c.args.number c.first-first.result (first_number (get_or runs c.args.at [])) c.if-number-first.true (c.first-first.ensures ∙ ap first_number (read_there runs c.args.at c.index-runs-at.result c.if-at-runs.false c.index-runs-at.is)) in
    (λ t. (c.if-at-runs.false, next.0 t), λ h. next.1 h.1)

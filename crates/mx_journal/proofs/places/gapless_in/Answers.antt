use Rattle.std.proofs.Common.{◌≤◌, ◌+◌, suc, sym, ◌∙◌, ap, arith}
use Rattle.mx_journal.specs.Gapless.{first_missing}
use Rattle.mx_journal.specs.Runs.{first_number}
use Rattle.mx_journal.proofs.Found.{above_past, missing_at_once, missing_behind}
use Rattle.mx_journal.proofs.places.gapless_in.Goals.{else-number-first-via-then-number-first+else-first-number-gt1, else-number-first-via-else-number-first}
use Rattle.mx_journal.proofs.places.gapless_in.Goals as goal

pub returns-then-at-runs : goal.returns-then-at-runs
returns-then-at-runs c =
    sym (ap (λ l. first_missing (c.args.number + 1) l) (above_past c.args.number 1 c.args.runs.now c.requires (omega (arith, c.place_of-at.ensures.value, c.if-at-runs.true))))

pub returns-then-first-number-gt1 : goal.returns-then-first-number-gt1
returns-then-first-number-gt1 c =
    missing_at_once c.args.number c.args.runs.now c.place_of-at.result c.index-runs-at.result c.requires c.place_of-at.ensures.value c.if-at-runs.false c.index-runs-at.is
    (omega (arith, c.first-first.ensures, c.if-first-number-gt1.true))

pub returns-else-number-first : goal.returns-else-number-first
returns-else-number-first c =
    let low : first_number c.index-runs-at.result ≤ suc c.args.number = elim c.else-number-first.branch [
      | else-number-first-via-then-number-first+else-first-number-gt1 w ↦ omega (arith, c.first-first.ensures, w.if-first-number-gt1.false)
      | else-number-first-via-else-number-first w ↦ omega (arith, c.first-first.ensures, w.if-number-first.false)
    ] in
    ap (λ n. n + 1) c.last.ensures
    ∙ missing_behind c.args.number c.args.runs.now c.place_of-at.result c.index-runs-at.result c.requires c.place_of-at.ensures.value c.if-at-runs.false c.index-runs-at.is low

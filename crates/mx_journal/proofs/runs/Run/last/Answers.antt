use Rattle.std.proofs.Common.{◌-◌, ◌∙◌, List, refl, ap, arith}
use Rattle.mx_journal.specs.declared.records.Record.{Record}
use Rattle.mx_journal.specs.Runs.{last_number}
use Rattle.mx_journal.proofs.Flat.{last_is}
use Rattle.mx_journal.proofs.runs.Run.last.Goals as goal

pub returns-in-Some : goal.returns-in-Some
returns-in-Some c =
    let records = c.self.inside.records in
    let full = c.in-Some.ensures.variant in
    last_is records.items (records.len - 1) c.in-Some.entry.now (let same = records.ok.0 in omega (arith, full.0 refl)) c.in-Some.ensures.lookup
    ∙ ap (λ (xs : List Record). last_number xs) c.self.view_is

use Rattle.std.proofs.Common.{◌∙◌, List, get_or, ap}
use Rattle.mx_journal.specs.declared.records.Write.{Write}
use Rattle.mx_journal.specs.Bases.{after_section, unwritten}
use Rattle.mx_journal.specs.Drafted.{last_value}
use Rattle.mx_journal.proofs.Bases.{with_section_is}
use Rattle.mx_journal.proofs.cells.take_section.Goals as goal

pub returns : goal.returns
returns c =
    let entry = c.args.entry.now in
    with_section_is entry c.args.cells.now c.write_all.new.cells c.write_all.array_long
    (λ register l. c.write_all.ensures register l
    ∙ ap (λ (ws : List Write). after_section entry.number (last_value register ws) (get_or c.args.cells.now register unwritten)) c.as_slice.ensures.value)

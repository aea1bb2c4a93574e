use Rattle.std.proofs.Common.{rules}
use Rattle.mx_play.proofs.SessionLineLemmas.{reads_line, reads_long}
use Rattle.mx_play.proofs.line_sources.GivenLinesLines.next.Goals as goal

pub returns-then-first-gt-MAX_LINE-clause-reads : goal.returns-then-first-gt-MAX_LINE-clause-reads
returns-then-first-gt-MAX_LINE-clause-reads c =
    reads_long c.args.self.now.rest.now c.split_line.result.0.now c.split_line.result.1.now c.clear.new.self.items (search rules) c.split_line.ensures.line c.split_line.ensures.rest (search rules)

pub returns-clause-reads : goal.returns-clause-reads
returns-clause-reads c =
    reads_line c.args.self.now.rest.now c.split_line.result.0.now c.split_line.result.1.now c.clear.new.self.items c.extend_from_slice.new.self.items (search rules) c.split_line.ensures.line c.split_line.ensures.rest (search rules) c.clear.ensures.items c.in_ok-extend_from_slice.ensures.items

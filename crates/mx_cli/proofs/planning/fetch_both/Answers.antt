use Rattle.std.proofs.Common.{◌∙◌, sym}
use Rattle.mx_cli.specs.Words.{names_of}
use Rattle.mx_cli.proofs.ReadLemmas.{dashes_asked, dashes_read, names_asked, names_read}
use Rattle.mx_cli.proofs.planning.fetch_both.Goals as goal

pub returns-then-are_dashes-clause-read : goal.returns-then-are_dashes-clause-read
returns-then-are_dashes-clause-read g c =
    dashes_read c.args.needs (g.S.Source.told c.args.source.now) (names_of c.args.names.now) c.fetch_one.result (sym c.are_dashes.ensures ∙ c.if-are_dashes.true) c.fetch_one.ensures.read

pub returns-else-are_dashes-clause-read : goal.returns-else-are_dashes-clause-read
returns-else-are_dashes-clause-read g c =
    names_read c.args.needs (g.S.Source.told c.args.source.now) (names_of c.args.names.now) c.fetch_two.result (sym c.are_dashes.ensures ∙ c.if-are_dashes.false) c.fetch_two.ensures.read

pub returns-then-are_dashes-clause-asks : goal.returns-then-are_dashes-clause-asks
returns-then-are_dashes-clause-asks g c =
    dashes_asked (names_of c.args.names.now) (g.S.Source.asked c.args.source.now) (g.S.Source.asked c.fetch_one.new.source) c.fetch_one.result
    (sym c.are_dashes.ensures ∙ c.if-are_dashes.true) c.fetch_one.ensures.asks

pub returns-else-are_dashes-clause-asks : goal.returns-else-are_dashes-clause-asks
returns-else-are_dashes-clause-asks g c =
    names_asked (names_of c.args.names.now) (g.S.Source.asked c.args.source.now) (g.S.Source.asked c.fetch_two.new.source) c.fetch_two.result
    (sym c.are_dashes.ensures ∙ c.if-are_dashes.false) c.fetch_two.ensures.asks

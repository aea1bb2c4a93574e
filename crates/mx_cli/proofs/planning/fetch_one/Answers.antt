use Rattle.mx_cli.proofs.ReadLemmas.{one_read}
use Rattle.mx_cli.proofs.planning.fetch_one.Goals as goal

pub returns-clause-read : goal.returns-clause-read
returns-clause-read g c =
    one_read c.args.needs (g.S.Source.told c.args.source.now c.args.name.now) c.in_ok-one.one c.as_slice.result.now c.both_in.result c.in_ok-one.ensures.told c.as_slice.ensures.value c.both_in.ensures.read

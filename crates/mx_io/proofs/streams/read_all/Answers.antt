use Rattle.std.proofs.Common.{rules}
use Rattle.mx_io.proofs.ReadLemmas.{none_cut}
use Rattle.mx_io.specs.declared.streams.TheConstants.{MAX_BYTES}
use Rattle.mx_io.proofs.streams.read_all.Goals as goal

pub returns-in-Ok-2-clause-all : goal.returns-in-Ok-2-clause-all
returns-in-Ok-2-clause-all g c =
    none_cut (g.R.Read.remaining c.args.reader) c.read_to_end.new.buf.items c.take.result.limit MAX_BYTES (search rules) (search rules) (search rules)

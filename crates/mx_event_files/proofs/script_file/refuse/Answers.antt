use Rattle.mx_event_files.proofs.StopLemmas.{refused_stops}
use Rattle.mx_event_files.proofs.script_file.refuse.Goals as goal

pub returns-in-Ok-refused : goal.returns-in-Ok-refused
returns-in-Ok-refused g c = refused_stops c.args.number c.args.failure c.in-Ok.line c.stop_with.result c.in-Ok.ensures c.stop_with.ensures

use Rattle.mx_cli.specs.Printing.{sight}
use Rattle.mx_shown_scripts.proofs.ShownLemmas.{not_text_prints}
use Rattle.mx_shown_scripts.proofs.replay_script.show_bytes.Goals as goal

pub returns-in-Err : goal.returns-in-Err
returns-in-Err g c = record { prints = not_text_prints c.args.plan.now c.args.view.now c.args.bytes.now (sight g.O.Output c.args.out.now) c.in-Err.stop c.in-Err.ensures.err }

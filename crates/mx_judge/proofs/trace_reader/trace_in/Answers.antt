use Rattle.mx_judge.specs.Traces.{trace_at}
use Rattle.mx_judge.proofs.JudgeLemmas.{fault_read}
use Rattle.mx_judge.proofs.trace_reader.trace_in.Goals as goal

pub returns-in-Err : goal.returns-in-Err
returns-in-Err c = fault_read (trace_at c.args.plan.now c.args.text.now) c.in-Err.fault c.stop_at.result c.in-Err.ensures c.stop_at.ensures.line c.stop_at.ensures.memory

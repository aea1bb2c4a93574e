use Rattle.mx_draw.specs.Walk.{at_first}
use Rattle.mx_draw.proofs.ReadLemmas.{reads_if}
use Rattle.mx_draw.proofs.RunLemmas.{plays_if}
use Rattle.mx_draw.proofs.random_run.run.Goals as goal

pub returns-clause-ran : goal.returns-clause-ran
returns-clause-ran g c = rw (← c.nodes.ensures.value, ← c.registers.ensures.value) c.run_over.ensures

pub returns-clause-plays : goal.returns-clause-plays
returns-clause-plays g c =
    let run = c.args.drawn.now in
    rw (← c.nodes.ensures.value, ← c.registers.ensures.value)
    (plays_if g.C.Exclusion.core c.nodes.result c.registers.result run.conditions run.steps (at_first run.seed) c.args.cluster.now c.run_over.new.cluster c.run_over.result
    c.nodes.ensures.low c.registers.ensures.low c.run_over.ensures)

pub returns-clause-reads : goal.returns-clause-reads
returns-clause-reads g c =
    let run = c.args.drawn.now in
    reads_if g.C.Exclusion.core c.nodes.result c.registers.result run.conditions run.steps (at_first run.seed) c.args.cluster.now c.run_over.new.cluster c.run_over.result c.run_over.ensures

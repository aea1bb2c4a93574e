use Rattle.std.proofs.Common.{◌≡◌, ◌≤◌, ◌+◌, length}
use Rattle.mx_judge.specs.Listed.{listed, nothing}
use Rattle.mx_judge.proofs.LineLemmas.{from_lines}
use Rattle.mx_judge.proofs.trace_reader.read_lines.Given as goal

abbrev pub invariant-lines : goal.invariant-lines
invariant-lines l = record {
  same : from_lines l.plan nothing 1 l.fn.text ≡ from_lines l.plan (listed l.trace) l.number l.rest;
  few : l.number + length l.rest ≤ 1 + length l.fn.text;
}

abbrev pub decreases-lines : goal.decreases-lines
decreases-lines l = length l.rest

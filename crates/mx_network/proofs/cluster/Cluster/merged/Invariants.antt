use Rattle.std.proofs.Common.{suc, take}
use Rattle.mx_journal.specs.Records.{Ascending}
use Rattle.mx_member.specs.Journals.{IsJournalOf}
use Rattle.mx_network.specs.Merged.{IsAboveAll, IsBelowEach}
use Rattle.mx_trace.specs.Trace.{journal_of}
use Rattle.mx_network.proofs.cluster.Cluster.merged.Given as goal

abbrev pub invariant-loop-node : goal.invariant-loop-node
invariant-loop-node g l = record {
  sections : IsJournalOf (journal_of l.fn.self.trace) l.all;
  ordered : Ascending (suc l.all.base.upto) l.all.records;
  all : IsAboveAll l.fn.self.members (take l.node-index l.nodes) l.all;
  least : IsBelowEach l.fn.self.members (take l.node-index l.nodes) l.all;
}

use Rattle.mx_member.specs.Journals.{IsJournalOf}
use Rattle.mx_member.specs.Member.{MemberState}
use Rattle.mx_trace.specs.Trace.{ShowsInOrder, journal_of}
use Rattle.mx_network.proofs.Finding.{found, if_found}
use Rattle.mx_network.proofs.Headline.{of_sections, shows_in_order}
use Rattle.mx_network.proofs.cluster.Cluster.member.Goals as goal

pub returns-clause-value : goal.returns-clause-value
returns-clause-value g c = rw (← c.self.view_is)
    (found c.deref.result.now c.self.inside.members.items c.get.result c.args.node c.get-2.result c.deref.ensures.value c.get.ensures.value c.get-2.ensures.lookup.0 c.get-2.ensures.lookup.1)

pub returns-clause-journal : goal.returns-clause-journal
returns-clause-journal g c = rw (← c.self.view_is)
    (if_found (λ (m : MemberState g.row.C.Denot). IsJournalOf (journal_of c.self.inside.trace.items) m.journal) c.self.inside.members.items c.args.node c.get-2.result
    (found c.deref.result.now c.self.inside.members.items c.get.result c.args.node c.get-2.result c.deref.ensures.value c.get.ensures.value c.get-2.ensures.lookup.0 c.get-2.ensures.lookup.1)
    (of_sections g.C.Exclusion.core g.C.Exclusion.Good _ c.self.invariant.1 c.args.node))

pub returns-clause-in_order : goal.returns-clause-in_order
returns-clause-in_order g c = rw (← c.self.view_is)
    (if_found (λ (m : MemberState g.row.C.Denot). ShowsInOrder c.self.inside.trace.items m.journal) c.self.inside.members.items c.args.node c.get-2.result
    (found c.deref.result.now c.self.inside.members.items c.get.result c.args.node c.get-2.result c.deref.ensures.value c.get.ensures.value c.get-2.ensures.lookup.0 c.get-2.ensures.lookup.1)
    (shows_in_order g.C.Exclusion.core g.C.Exclusion.Good _ c.self.invariant.1 c.args.node))

use Rattle.std.proofs.Common.{arith, Result, Ok, Err, ℕ, suc, ◌≡◌, List, [], ◌+◌, get_or, take, subst, sym, ap, ◌∙◌}
use Rattle.std.proofs.lemmas.List.{take_all}
use Rattle.std.proofs.lemmas.Result.{IfOk-from_err}
use Rattle.mx_journal.specs.Records.{Ascending}
use Rattle.mx_journal.specs.Settled.{IsWithin, JournalState}
use Rattle.mx_member.specs.Journals.{IsJournalOf}
use Rattle.mx_member.proofs.OfSections.{unsettled_of, whole_registers}
use Rattle.mx_member.proofs.SectionLists.{journal_ascends}
use Rattle.mx_member.proofs.SectionWrites.{covered_shows}
use Rattle.mx_merge.specs.declared.join.MergeFault.TheVariants.{Conflict}
use Rattle.mx_network.specs.Merged.{IsAboveAll, IsBelowEach}
use Rattle.mx_trace.specs.Trace.{journal_of, sections}
use Rattle.mx_network.specs.Step.{ClusterState}
use Rattle.mx_network.proofs.Finding.{none_at, some_at}
use Rattle.mx_network.proofs.Merging.{least_more, least_same, mergeable, merged_more, merged_same, merged_whole, merged_within, no_conflict}
use Rattle.mx_network.proofs.Seen.{seen_kept}
use Rattle.mx_network.proofs.cluster.Cluster.merged.Goals as goal
use Rattle.mx_network.proofs.cluster.Cluster.merged.Goals.{in-Some+in_ok-merge, in_default}

never : {A E : Type 0} (x : A) (f : E) → ◌≡◌ {A = Result A E} (Ok x) (Err f) → ⊥
never x f e = cc

pub loop-node-init : goal.loop-node-init
loop-node-init g c =
    let made = sym c.new-all.ensures in record {
      sections = subst (λ (j : JournalState). IsJournalOf (journal_of c.args.self.now.trace) j) made (unsettled_of (journal_of c.args.self.now.trace) [] (journal_ascends (sections c.args.self.now.trace)) (λ x h. absurd h));
      ordered = subst (λ (j : JournalState). Ascending (suc j.base.upto) j.records) made tt;
      all = λ i m h. absurd h;
      least = λ other empty above. subst (λ (j : JournalState). IsWithin j other) made empty;
    }

pub returns-in_err-merge-clause-conflict : goal.returns-in_err-merge-clause-conflict
returns-in_err-merge-clause-conflict g c = λ n.
    let kept = seen_kept _ _ c.self.view_is c.self.invariant.1 in
    let members = ap (λ (x : ClusterState g.row.C.Denot g.row.C-Msg.Denot). x.members) c.self.view_is in
    let at = some_at c.deref.result.now c.args.self.now.members c.get.result c.in-Some.member.now (c.deref.ensures.value ∙ members) c.in-Some.ensures.lookup.0 c.in-Some.ensures.lookup.1 in
    let agree = mergeable g.C.Exclusion.core g.C.Exclusion.Good c.args.self.now kept c.loop-node.all c.journal.result.now c.get.result c.in-Some.member.now c.loop-node.invariant.sections at c.journal.ensures in
    no_conflict c.in_err-merge.field-0.0 c.from_residual.result n (c.in_err-merge.ensures.agreed.1 agree) c.from_residual.ensures.1

pub loop-node-preserved : goal.loop-node-preserved
loop-node-preserved g c =
    let kept = seen_kept _ _ c.self.view_is c.self.invariant.1 in
    let members = ap (λ (x : ClusterState g.row.C.Denot g.row.C-Msg.Denot). x.members) c.self.view_is in
    let here : c.get.result ≡ get_or c.args.nodes.now c.loop-node.node-index c.get.result =
    subst (λ (n : ℕ). n ≡ get_or c.args.nodes.now c.loop-node.node-index n) (sym c.get.ensures.value) c.node-item.is in
    elim c.match-get.branch [
      | in-Some+in_ok-merge w ↦ (
          let at = some_at c.deref.result.now c.args.self.now.members c.get.result w.in-Some.member.now (c.deref.ensures.value ∙ members) w.in-Some.ensures.lookup.0 w.in-Some.ensures.lookup.1 in
          let new = w.in_ok-merge.ensures in
          let old = c.loop-node.all in
          let other = w.journal.result.now in
          let same = w.journal.ensures in record {
            sections = subst (λ (j : JournalState). IsJournalOf (journal_of c.args.self.now.trace) j) (sym w.all-is)
                (merged_within g.C.Exclusion.core g.C.Exclusion.Good c.args.self.now kept old w.merge.new.journal other c.get.result w.in-Some.member.now c.loop-node.invariant.sections at same new.ok.0);
            ordered = subst (λ (j : JournalState). Ascending (suc j.base.upto) j.records) (sym w.all-is) new.ordered;
            all = subst (λ (j : JournalState). IsAboveAll c.args.self.now.members (take (c.loop-node.node-index + 1) c.args.nodes.now) j) (sym w.all-is)
                (merged_more c.args.self.now.members c.args.nodes.now c.loop-node.node-index c.get.result w.in-Some.member.now old w.merge.new.journal other c.loop-node.invariant.all at same new.join c.loop-node-test.true here);
            least = subst (λ (j : JournalState). IsBelowEach c.args.self.now.members (take (c.loop-node.node-index + 1) c.args.nodes.now) j) (sym w.all-is)
                (least_more c.args.self.now.members c.args.nodes.now c.loop-node.node-index c.get.result w.in-Some.member.now old w.merge.new.journal other c.loop-node.invariant.least at same new.join c.loop-node-test.true here);
          }
          )
      | in_default w ↦ record {
        sections = subst (λ (j : JournalState). IsJournalOf (journal_of c.args.self.now.trace) j) (sym w.all-is) c.loop-node.invariant.sections;
        ordered = subst (λ (j : JournalState). Ascending (suc j.base.upto) j.records) (sym w.all-is) c.loop-node.invariant.ordered;
        all = subst (λ (j : JournalState). IsAboveAll c.args.self.now.members (take (c.loop-node.node-index + 1) c.args.nodes.now) j) (sym w.all-is)
            (merged_same c.args.self.now.members c.args.nodes.now c.loop-node.node-index c.get.result c.loop-node.all c.loop-node.invariant.all
            (none_at c.deref.result.now c.args.self.now.members c.get.result (c.deref.ensures.value ∙ members) w.in_default.ensures.lookup.0) c.loop-node-test.true here);
        least = subst (λ (j : JournalState). IsBelowEach c.args.self.now.members (take (c.loop-node.node-index + 1) c.args.nodes.now) j) (sym w.all-is)
            (least_same c.args.self.now.members c.args.nodes.now c.loop-node.node-index c.get.result c.loop-node.all c.loop-node.invariant.least c.loop-node-test.true here);
      }
    ]

pub returns-clause-all : goal.returns-clause-all
returns-clause-all g c =
    subst (λ (l : List ℕ). IsAboveAll c.args.self.now.members l c.loop-node.all) (take_all c.loop-node.node-index c.args.nodes.now c.loop-node-test.false) c.loop-node.invariant.all

pub returns-clause-least : goal.returns-clause-least
returns-clause-least g c =
    subst (λ (l : List ℕ). IsBelowEach c.args.self.now.members l c.loop-node.all) (take_all c.loop-node.node-index c.args.nodes.now c.loop-node-test.false) c.loop-node.invariant.least

pub returns-clause-in_order : goal.returns-clause-in_order
returns-clause-in_order g c k count few all top =
    covered_shows k count (sections c.args.self.now.trace) c.loop-node.all few c.loop-node.invariant.ordered c.loop-node.invariant.sections all top

pub returns-clause-whole : goal.returns-clause-whole
returns-clause-whole g c every =
    let kept = seen_kept _ _ c.self.view_is c.self.invariant.1 in
    merged_whole g.C.Exclusion.core g.C.Exclusion.Good c.args.self.now kept c.args.nodes.now c.loop-node.all c.loop-node.invariant.ordered c.loop-node.invariant.sections (returns-clause-all g c) every

pub returns-clause-shown : goal.returns-clause-shown
returns-clause-shown g c every count few =
    whole_registers count (journal_of c.args.self.now.trace) c.loop-node.all few (journal_ascends (sections c.args.self.now.trace)) (returns-clause-whole g c every)

pub bounds-nodes-node-index : goal.bounds-nodes-node-index
bounds-nodes-node-index g c = c.loop-node-test.true

pub returns-in_err-merge-clause-all : goal.returns-in_err-merge-clause-all
returns-in_err-merge-clause-all g c = IfOk-from_err _ _ c.from_residual.ensures.0

pub returns-in_err-merge-clause-least : goal.returns-in_err-merge-clause-least
returns-in_err-merge-clause-least g c = IfOk-from_err _ _ c.from_residual.ensures.0

pub returns-in_err-merge-clause-sections : goal.returns-in_err-merge-clause-sections
returns-in_err-merge-clause-sections g c = IfOk-from_err _ _ c.from_residual.ensures.0

pub returns-in_err-merge-clause-whole : goal.returns-in_err-merge-clause-whole
returns-in_err-merge-clause-whole g c = λ every. IfOk-from_err _ _ c.from_residual.ensures.0

pub returns-in_err-merge-clause-shown : goal.returns-in_err-merge-clause-shown
returns-in_err-merge-clause-shown g c = λ every. IfOk-from_err _ _ c.from_residual.ensures.0

pub returns-in_err-merge-clause-in_order : goal.returns-in_err-merge-clause-in_order
returns-in_err-merge-clause-in_order g c = IfOk-from_err _ _ c.from_residual.ensures.0

pub loop-node-smaller : goal.loop-node-smaller
loop-node-smaller g c = (let t = c.loop-node-test.true in omega arith)

pub returns-clause-sections : goal.returns-clause-sections
returns-clause-sections g c = c.loop-node.invariant.sections

pub returns-clause-conflict : goal.returns-clause-conflict
returns-clause-conflict g c = λ n e. never _ (Conflict n) e

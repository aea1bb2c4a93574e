use Rattle.std.proofs.Common.{suc, ◌≡◌, inl, inr, Result, Ok, Err, IsErrAnd, sym, ap, subst}
use Rattle.mx_journal.specs.Records.{Ascending}
use Rattle.mx_journal.specs.Settled.{JournalState}
use Rattle.mx_journal.proofs.Settled.{from_one}
use Rattle.mx_merge.specs.declared.join.MergeFault.{MergeFault}
use Rattle.mx_merge.specs.declared.join.MergeFault.TheVariants.{Conflict, Memory}
use Rattle.mx_merge.specs.Join.{IsFirstDifference, IsLeastJournal}
use Rattle.mx_merge.proofs.Differences.{no_difference, one_difference}
use Rattle.mx_merge.proofs.Joins.{journal_join_ascends, journal_join_is_least, within_agrees}
use Rattle.mx_merge.proofs.join.merge.Goals as goal

-- a refused growth is answered as such
is_memory : {X : Type 0} (r : Result X MergeFault) → IsErrAnd r (λ fault. fault ≡ Memory) → r ≡ Err Memory
is_memory (Ok x) h = absurd h
is_memory (Err fault) h = ap (λ (f : MergeFault). Err f) h

pub returns-in-Some-clause-conflict : goal.returns-in-Some-clause-conflict
returns-in-Some-clause-conflict c = λ n.
    let a = c.args.journal.now in
    let b = c.args.other.now in
    let first : IsFirstDifference c.in-Some.number a b = c.in-Some.ensures.some in (
      λ e. let same : c.in-Some.number ≡ n = cc in subst (λ k. IsFirstDifference k a b) same first,
      λ h. ap (λ k. Err (Conflict k)) (one_difference c.in-Some.number n a b first h),
    )

pub returns-in-Some-clause-agreed : goal.returns-in-Some-clause-agreed
returns-in-Some-clause-agreed c =
    let a = c.args.journal.now in
    let b = c.args.other.now in
    let order = c.first_difference.ensures in (
      λ h. elim h [ inl e ↦ let bad : ⊥ = cc in absurd bad | inr e ↦ let bad : ⊥ = cc in absurd bad ],
      λ h. absurd (no_difference c.in-Some.number a b (from_one a.base.upto a.records order.here) (from_one b.base.upto b.records order.there) h c.in-Some.ensures.some),
    )

pub returns-in-Some-clause-contained : goal.returns-in-Some-clause-contained
returns-in-Some-clause-contained c = λ contained.
    let a = c.args.journal.now in
    let b = c.args.other.now in
    let order = c.first_difference.ensures in
    absurd (no_difference c.in-Some.number a b (from_one a.base.upto a.records order.here) (from_one b.base.upto b.records order.there) (within_agrees a b order.here contained) c.in-Some.ensures.some)

pub returns-in_err-join-clause-conflict : goal.returns-in_err-join-clause-conflict
returns-in_err-join-clause-conflict c = λ n.
    let a = c.args.journal.now in
    let b = c.args.other.now in
    let order = c.first_difference.ensures in
    let memory = is_memory c.from_residual.result c.from_residual.ensures.1 in (
      λ e. let bad : ⊥ = cc in absurd bad,
      λ h. absurd (no_difference n a b (from_one a.base.upto a.records order.here) (from_one b.base.upto b.records order.there) c.in_default.ensures.none h),
    )

pub returns-clause-conflict : goal.returns-clause-conflict
returns-clause-conflict c = λ n.
    let a = c.args.journal.now in
    let b = c.args.other.now in
    let order = c.first_difference.ensures in (
      λ e. let bad : ⊥ = cc in absurd bad,
      λ h. absurd (no_difference n a b (from_one a.base.upto a.records order.here) (from_one b.base.upto b.records order.there) c.in_default.ensures.none h),
    )

pub returns-clause-join : goal.returns-clause-join
returns-clause-join c =
    let a = c.args.journal.now in
    let b = c.args.other.now in
    subst (λ j. IsLeastJournal a b j) (sym c.in_ok-join.ensures.ok.0) (journal_join_is_least a b (from_one b.base.upto b.records c.first_difference.ensures.there) c.in_default.ensures.none)

pub returns-clause-ordered : goal.returns-clause-ordered
returns-clause-ordered c =
    let a = c.args.journal.now in
    let b = c.args.other.now in
    let order = c.first_difference.ensures in
    subst (λ (j : JournalState). Ascending (suc j.base.upto) j.records) (sym c.in_ok-join.ensures.ok.0) (journal_join_ascends a b order.here (from_one b.base.upto b.records order.there))

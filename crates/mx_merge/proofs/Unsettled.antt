-- Merging journals that have settled nothing: the join of their maps of records.
use Rattle.std.proofs.Common.{suc, ◌≡◌, sym, ◌∙◌, ap, arith}
use Rattle.mx_journal.specs.Agreement.{AreAgreeing}
use Rattle.mx_journal.specs.Bases.{BaseState, origin}
use Rattle.mx_journal.specs.Records.{Ascending}
use Rattle.mx_journal.specs.Settled.{DoAgree, IsWithin, JournalState, joined, unsettled}
use Rattle.mx_journal.proofs.Maps.{ascending_above}
use Rattle.mx_merge.specs.Join.{IsLeastJournal, IsLeastUpperBound}
use Rattle.mx_merge.proofs.Joins.{with_base_case}

-- they agree where their records do
pub agree_unsettled : (a b : JournalState) → a.base ≡ origin → b.base ≡ origin → AreAgreeing a.records b.records → DoAgree a b
agree_unsettled a b here there agree = record { records = agree; bases = λ _. here ∙ sym there }

-- their join has settled nothing
pub base_unsettled : (a b new : JournalState) → a.base ≡ origin → b.base ≡ origin → new ≡ joined b a → new.base ≡ origin
base_unsettled a b new here there made =
    let low = ap (λ (s : BaseState). s.upto) there in
    ap (λ (j : JournalState). j.base) made
    ∙ with_base_case (λ j. j.base ≡ origin) b.base _ (λ higher. absurd (omega arith)) (λ _. here)

-- and it is the least upper bound of their records
pub least_unsettled : (a b new : JournalState) → a.base ≡ origin → b.base ≡ origin → new.base ≡ origin → Ascending 1 a.records → Ascending (suc b.base.upto) b.records → Ascending (suc new.base.upto) new.records → IsLeastJournal a b new → IsLeastUpperBound a.records b.records new.records
least_unsettled a b new here there made oa ob on join =
    let mine = ap (λ (s : BaseState). s.upto) here in
    let theirs = ap (λ (s : BaseState). s.upto) there in
    let both = ap (λ (s : BaseState). s.upto) made in
    record {
      left = λ x h. join.left.records x h (let low = ascending_above 1 a.records oa x h in omega arith);
      right = λ x h. join.right.records x h (let low = ascending_above (suc b.base.upto) b.records ob x h in omega arith);
      least = λ m low high x h.
          let first : IsWithin a (unsettled m) = record { upto = omega arith; base = λ _. here; records = λ y k _. low y k } in
          let second : IsWithin b (unsettled m) = record { upto = omega arith; base = λ _. there; records = λ y k _. high y k } in
          (join.least (unsettled m) first second).records x h (let low = ascending_above (suc new.base.upto) new.records on x h in omega arith);
    }

-- What a journal answers are records of its own.
use Rattle.std.proofs.Common.{ℕ, inl, inr, List, [], ◌∷◌, take}
use Rattle.mx_stamps.specs.Lists.{IsIn}
use Rattle.mx_stamps.proofs.Lists.{in_first}
use Rattle.mx_stamps.proofs.Choices.{cond_case}
use Rattle.mx_journal.specs.declared.records.Record.{Record}
use Rattle.mx_journal.specs.declared.ranges.Range.{Range}
use Rattle.mx_journal.specs.Agreement.{IsSubmap}
use Rattle.mx_merge.specs.Missing.{in_ranges, lies_in}

pub in_ranges_known : (ranges : List Range) (journal : List Record) → IsSubmap (in_ranges ranges journal) journal
in_ranges_known ranges [] x h = absurd h
in_ranges_known ranges (y ∷ ys) x was =
    cond_case (λ l. IsIn x l → IsIn x (y ∷ ys)) (lies_in ranges y.number) (y ∷ in_ranges ranges ys) (in_ranges ranges ys)
    (λ _ h. elim h [ inl e ↦ inl e | inr m ↦ inr (in_ranges_known ranges ys x m) ])
    (λ _ h. inr (in_ranges_known ranges ys x h)) was

pub answered_known : (count : ℕ) (ranges : List Range) (journal : List Record) → IsSubmap (take count (in_ranges ranges journal)) journal
answered_known count ranges journal x h = in_ranges_known ranges journal x (in_first count (in_ranges ranges journal) x h)

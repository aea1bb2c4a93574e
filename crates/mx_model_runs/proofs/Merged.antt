-- The run with events of every kind is one, and the join of its journals.
use Rattle.std.proofs.Common.{◌≡◌, inl, inr, refl, ap, arith}
use Rattle.mx_journal.specs.declared.records.Record.{Record}
use Rattle.mx_journal.specs.Settled.{DoAgree}
use Rattle.mx_merge.specs.Join.{IsLeastJournal}
use Rattle.mx_merge.proofs.Joins.{journal_join_is_least}
use Rattle.mx_ricart.specs.Step.{IsCount, ricart_core}
use Rattle.mx_model_runs.specs.Journals.{Merges, entry, joint_journal, joint_registers, journals_trace, ones_journal, zeros_journal}
use Rattle.mx_model_runs.proofs.Stages.{fourth_stage, whole_run}

-- equal records bear the same number
same_number : (x y : Record) → x ≡ y → x.number ≡ y.number
same_number x y e = ap (λ (r : Record). r.number) e

agree : DoAgree zeros_journal ones_journal
agree = record {
  records = λ x y h k e. elim h [
    | inl p ↦ let n = same_number x (entry 4 0 6) p in elim k [
      | inl q ↦ let m = same_number y (entry 2 0 9) q in absurd (omega (arith, n, m, e))
      | inr (inl q) ↦ let m = same_number y (entry 3 1 5) q in absurd (omega (arith, n, m, e))
      | inr (inr bad) ↦ absurd bad
    ]
    | inr bad ↦ absurd bad
  ];
  bases = λ e. absurd (omega (arith, e));
}

join : IsLeastJournal zeros_journal ones_journal joint_journal
join = journal_join_is_least zeros_journal ones_journal (omega arith, (omega arith, tt)) agree

pub journals_merged : Merges ricart_core IsCount 2 journals_trace zeros_journal ones_journal joint_journal joint_registers
journals_merged = record {
  happens = record { valid = (omega arith, omega arith); after = fourth_stage; run = whole_run; told = refl };
  of_zero = refl;
  of_one = refl;
  agree = agree;
  join = join;
  shown = refl;
}

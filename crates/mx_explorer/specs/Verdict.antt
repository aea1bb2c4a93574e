-- Sound traces, and where a trace is first broken.
use Rattle.std.specs.Prelude.{ℕ, suc, ◌≡◌, ◌↔◌, List, [], ◌∷◌, take}
use Rattle.mx_registers.specs.Registers.{applied}
use Rattle.mx_trace.specs.Sections.{Mark, Came, Got, Wrote, Went, Woke, Section, after_mark, writes_in}
use Rattle.mx_trace.specs.Serial.{IsInNewest}
use Rattle.mx_trace.specs.declared.outcome.Entry.{Entry}
use Rattle.mx_trace.specs.Trace.{IsExclusive, IsNumbered, marks}
use Rattle.mx_explorer.specs.declared.verdict.Clause.{Clause}
use Rattle.mx_explorer.specs.declared.verdict.Clause.TheVariants.{Overlap, Number, Read}
use Rattle.mx_explorer.specs.declared.verdict.Verdict.{Verdict}
use Rattle.mx_explorer.specs.declared.verdict.Verdict.TheVariants.{Sound, Broken}

-- in these marks, which follow these sections, each value is read by the node inside the newest
-- section, and is what all writes so far, in order of entry, leave in the register
abbrev pub ReadsFit : List Section → List Mark → Type 0
ReadsFit ss [] = Unit {0}
ReadsFit ss (Came i n ∷ ms) = ReadsFit (after_mark ss (Came i n)) ms
ReadsFit ss (Got i register value ∷ ms) =
    IsInNewest i ss × (value ≡ applied register (writes_in ss) 0)
    × ReadsFit (after_mark ss (Got i register value)) ms
ReadsFit ss (Wrote i register value ∷ ms) = ReadsFit (after_mark ss (Wrote i register value)) ms
ReadsFit ss (Went i receipt ∷ ms) = ReadsFit (after_mark ss (Went i receipt)) ms
ReadsFit ss (Woke i ∷ ms) = ReadsFit (after_mark ss (Woke i)) ms

-- entries and exits alternate, the n-th section entered has the number n, and each value is read by
-- the node inside, and is what the writes before it leave in the register
abbrev pub IsSoundTrace : List Entry → Type 0
IsSoundTrace trace = IsExclusive trace × IsNumbered trace × ReadsFit [] (marks trace)

-- the trace breaks this clause, and none of those before it (the order is overlap, number, read)
abbrev pub Breaks : Clause → List Entry → Type 0
Breaks Overlap trace = ¬ IsExclusive trace
Breaks Number trace = IsExclusive trace × ¬ IsNumbered trace
Breaks Read trace = IsExclusive trace × IsNumbered trace × ¬ ReadsFit [] (marks trace)

-- the items before index k are a sound trace, and with the item at k they break the clause
abbrev pub IsFirstBroken : List Entry → ℕ → Clause → Type 0
IsFirstBroken trace k clause = IsSoundTrace (take k trace) × Breaks clause (take (suc k) trace)

-- the verdict on a trace: sound exactly if the trace is; otherwise the first item that breaks a
-- clause, and the clause
abbrev pub IsVerdictOf : List Entry → Verdict → Type 0
IsVerdictOf trace verdict =
    ((verdict ≡ Sound) ↔ IsSoundTrace trace)
    × ((k : ℕ) (clause : Clause) → (verdict ≡ Broken k clause) ↔ IsFirstBroken trace k clause)

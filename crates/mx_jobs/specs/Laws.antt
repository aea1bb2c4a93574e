use Rattle.std.specs.Prelude.{◌≡◌, ◌<◌, ℕ, suc, List, [], ◌∷◌, get_or, length, map}
use Rattle.std.proofs.Math.ListN.{set}
use Rattle.mx_journal.specs.declared.records.Write.{Write}
use Rattle.mx_journal.specs.Settled.{JournalState}
use Rattle.mx_registers.specs.declared.contents.Content.{Content}
use Rattle.mx_registers.specs.Based.{registers_in}
use Rattle.mx_jobs.specs.Terms.{Terms}

-- each of these registers is below `count`, the number of registers
abbrev pub AreThere : ℕ → List ℕ → Type 0
AreThere count [] = Unit {0}
AreThere count (r ∷ rs) = (r < count) × AreThere count rs

-- the values of these registers, if `contents` lists the values of all registers
abbrev pub held_in : List ℕ → List ℕ → List ℕ
held_in contents registers = map (λ r. get_or contents r 0) registers

-- the values of all registers after these writes, one after another
abbrev pub after_writes : List Write → List ℕ → List ℕ
after_writes [] contents = contents
after_writes (w ∷ ws) contents = after_writes ws (set contents w.register w.value)

-- the values in the contents of registers, without the sections that wrote them
abbrev pub values_in : List Content → List ℕ
values_in contents = map (λ (c : Content). c.value) contents

-- the values of the first `count` registers after the sections of a journal
abbrev pub contents_of : ℕ → JournalState → List ℕ
contents_of count journal = values_in (registers_in count journal)

module _ {J : Type 0} (terms : Terms J) where
  -- The section of this number keeps the law: if the law held before it, and the registers that the
  -- job asked for had these values, then the law holds after these writes.
  abbrev pub KeepsLaw : J → ℕ → List ℕ → List Write → Type 0
  KeepsLaw job number values writes =
      (before : ℕ) (contents asked : List ℕ) → number ≡ suc before → terms.asks_for job asked
      → AreThere (length contents) asked
      → AreThere (length contents) (map (λ (w : Write). w.register) writes)
      → values ≡ held_in contents asked → terms.holds before contents
      → terms.holds number (after_writes writes contents)

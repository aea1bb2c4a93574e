use Rattle.std.specs.Prelude.{ℕ, ◌≡◌, ◌≢◌, ◌≤◌, ◌⊎◌, List, [], ◌∷◌, Option, Some, None, get_or, replicate}
use Rattle.mx_stamps.specs.declared.limits.TheConstants.{MAX_REGISTERS}
use Rattle.mx_stamps.specs.Lists.{IsIn, each_below}
use Rattle.mx_journal.specs.declared.records.Record.{Record}
use Rattle.mx_journal.specs.declared.cells.Cell.{Cell}
use Rattle.mx_journal.specs.Drafted.{last_value}

-- a base: the registers after sections 1 to `upto`
pub record BaseState : Type 0 where
  pub upto : ℕ
  pub cells : List Cell

abbrev pub unwritten : Cell
unwritten = record { value = 0; number = 0 }

-- the base of no sections: no section has written a register
abbrev pub origin : BaseState
origin = record { upto = 0; cells = replicate MAX_REGISTERS unwritten }

-- one of the sections 1 to k wrote the cell, or none did and it has the value 0
abbrev pub IsCellOf : ℕ → Cell → Type 0
IsCellOf k cell = (cell.number ≤ k) × ((1 ≤ cell.number) ⊎ (cell.value ≡ 0))

abbrev pub AreCellsOf : ℕ → List Cell → Type 0
AreCellsOf k cells = (cell : Cell) → IsIn cell cells → IsCellOf k cell

-- a register after section n; the value is that of the section's last write to the register, if it
-- has one
abbrev pub after_section : ℕ → Option ℕ → Cell → Cell
after_section n None cell = cell
after_section n (Some value) cell = record { value = value; number = n }

-- the registers after one more section, whose record is `entry`
abbrev pub with_section : Record → List Cell → List Cell
with_section entry cells =
    each_below
    (λ register.
    after_section entry.number (last_value register entry.writes.items)
    (get_or cells register unwritten))
    MAX_REGISTERS

abbrev pub with_sections : List Record → List Cell → List Cell
with_sections [] cells = cells
with_sections (x ∷ xs) cells = with_sections xs (with_section x cells)

-- two bases of the same sections that differ
abbrev pub AreOpposed : BaseState → BaseState → Type 0
AreOpposed a b = (a.upto ≡ b.upto) × (a ≢ b)

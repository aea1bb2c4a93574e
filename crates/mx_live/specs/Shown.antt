use Rattle.std.specs.Prelude.{ℕ, suc, ◌-◌, ◌++◌, codes, decimal}
use Rattle.mx_journal.specs.Gapless.{first_missing}
use Rattle.mx_journal.specs.Settled.{JournalState}
use Rattle.mx_plan.specs.Text.{Text, line_feed}
use Rattle.mx_plan.specs.Fields.{Fields}
use Rattle.mx_format.specs.Lines.{texts_from}
use Rattle.mx_format.specs.NodeTexts.{register_in}

-- a line with a name, a text after the name, and a number
abbrev pub number_line : Text → Text → ℕ → Text
number_line name sign number = name ++ sign ++ decimal number ++ line_feed

abbrev pub count_line : Text → ℕ → Text
count_line name count = number_line name (codes " ") count

abbrev pub value_line : Text → ℕ → Text
value_line name value = number_line name (codes "=") value

-- a line for each register, with its value in the journal
abbrev pub value_lines : Fields → JournalState → Text
value_lines p journal =
    texts_from (λ register name. value_line name (register_in register journal).value) 0 p.registers

-- the lines with the number of receipts, the number up to which the journal has no gap, and the
-- value of each register
abbrev pub live_text : Fields → ℕ → JournalState → Text
live_text p receipts journal =
    count_line (codes "receipts") receipts
    ++ count_line (codes "gapless") (first_missing (suc journal.base.upto) journal.records - 1)
    ++ value_lines p journal

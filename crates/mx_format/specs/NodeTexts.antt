-- The lines of nodes, also as objects of JSON: the phase of each, and what its journal has.
use Rattle.std.specs.Prelude.{ℕ, ◌-◌, ◌==◌, List, [], ◌++◌, Bool, false, true, codes, decimal, length, if◌then◌else◌}
use Rattle.mx_journal.specs.Settled.{JournalState}
use Rattle.mx_registers.specs.declared.contents.Content.{Content}
use Rattle.mx_registers.specs.Based.{cell_in}
use Rattle.mx_registers.specs.Registers.{after_records}
use Rattle.mx_knowledge.specs.Facts.{Known}
use Rattle.mx_nodelaws.specs.declared.phase.Phase.{Phase}
use Rattle.mx_nodelaws.specs.declared.phase.Phase.TheVariants.{Idle, Waiting, Inside}
use Rattle.mx_nodelaws.specs.Core.{Core}
use Rattle.mx_member.specs.Member.{MemberState, first_gap}
use Rattle.mx_plan.specs.Text.{Text, line_feed}
use Rattle.mx_plan.specs.Fields.{Fields}
use Rattle.mx_format.specs.EventTexts.{name_of}
use Rattle.mx_format.specs.FactTexts.{knows_json}
use Rattle.mx_format.specs.Lines.{texts_from}
use Rattle.mx_format.specs.Members.{node_start, number_member, word_member}

abbrev pub phase_text : Phase → Text
phase_text Idle = codes "idle"
phase_text Waiting = codes "waiting"
phase_text (Inside n) = codes "inside " ++ decimal n

abbrev pub value_text : Text → ℕ → Text
value_text name value = codes ", " ++ name ++ codes "=" ++ decimal value

-- the comma before the k-th member of an object; nothing before the first
abbrev pub comma_at : ℕ → Text
comma_at k = if k == 0 then [] else codes ","

abbrev pub value_json : ℕ → Text → ℕ → Text
value_json k name value = comma_at k ++ codes "\"" ++ name ++ codes "\":" ++ decimal value

-- the name and the value of register k, in a line or as JSON
abbrev pub value_by : Bool → ℕ → Text → ℕ → Text
value_by is_json k name value = if is_json then value_json k name value else value_text name value

-- the content of a register in a journal: its content in the base, after the records above the base
abbrev pub register_in : ℕ → JournalState → Content
register_in register journal =
    after_records register journal.records (cell_in register journal.base)

-- the value of each register in a journal
abbrev pub values_by : Bool → Fields → JournalState → Text
values_by is_json p journal =
    texts_from (λ k name. value_by is_json k name (register_in k journal).value) 0 p.registers

-- how many records a journal has above its base, up to which number none is missing, and the
-- value of each register
abbrev pub journal_text : Fields → JournalState → Text
journal_text p journal =
    codes ", records " ++ decimal (length journal.records) ++ codes ", gapless "
    ++ decimal (first_gap journal - 1) ++ values_by false p journal

-- the phase of node i, the last section that it entered, and its journal
abbrev pub member_line : {H S M : Type 0} → Core H S M → Fields → ℕ → MemberState S → Text
member_line core p i m =
    name_of p i ++ codes ": " ++ phase_text (core.phase m.core) ++ codes ", mine "
    ++ decimal (core.mine m.core) ++ journal_text p m.journal ++ line_feed

abbrev pub node_lines : {H S M : Type 0} → Core H S M → Fields → List (MemberState S) → Text
node_lines core p members = texts_from (member_line core p) 0 members

-- ---- as JSON

abbrev pub phase_json : Phase → Text
phase_json Idle = word_member (codes "phase") (codes "idle")
phase_json Waiting = word_member (codes "phase") (codes "waiting")
phase_json (Inside n) =
    word_member (codes "phase") (codes "inside") ++ number_member (codes "number") n

-- the start of the object of node i: its name, its phase, and the last section that it entered
abbrev pub standing_json : {H S M : Type 0} → Core H S M → Fields → ℕ → S → Text
standing_json core p i s =
    node_start p i ++ phase_json (core.phase s) ++ number_member (codes "mine") (core.mine s)

-- how many records a journal has above its base, and up to which number none is missing
abbrev pub counts_json : JournalState → Text
counts_json journal =
    number_member (codes "records") (length journal.records)
    ++ number_member (codes "gapless") (first_gap journal - 1)

abbrev pub registers_json : Fields → JournalState → Text
registers_json p journal =
    codes ",\"registers\":{" ++ values_by true p journal ++ codes "}"

abbrev pub journal_json : Fields → JournalState → Text
journal_json p journal = counts_json journal ++ registers_json p journal

-- the line of node i: an object
abbrev pub member_json : {H S M : Type 0} → Core H S M → (S → List Known) → Fields → ℕ
    → MemberState S → Text
member_json core knows p i m =
    standing_json core p i m.core ++ journal_json p m.journal ++ knows_json p (knows m.core)
    ++ codes "}\n"

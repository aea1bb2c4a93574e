-- The lines of the registers, one after another.
use Rattle.std.proofs.Common.{◌≡◌, ◌∙◌, ◌<◌, ◌+◌, ◌++◌, ℕ, Option, ap, drop, length, unwrap_or, []}
use Rattle.mx_journal.specs.Settled.{JournalState}
use Rattle.mx_plan.specs.Text.{Text}
use Rattle.mx_plan.specs.Fields.{Fields}
use Rattle.mx_format.specs.EventTexts.{register_name_of}
use Rattle.mx_format.specs.Lines.{texts_from}
use Rattle.mx_format.specs.NodeTexts.{register_in}
use Rattle.mx_format.proofs.NodeLemmas.{is_at}
use Rattle.mx_format.proofs.Places.{place_more}
use Rattle.mx_live.specs.Shown.{value_line}

-- the line of one more register
pub value_more : (p : Fields) (journal : JournalState) (k : ℕ) (name : Text) (value : ℕ) (t t' : Text) → k < length p.registers → name ≡ register_name_of p k
    → value ≡ (register_in k journal).value → t' ≡ t ++ value_line name value
    → t ++ texts_from (λ register x. value_line x (register_in register journal).value) k (drop k p.registers)
    ≡ t' ++ texts_from (λ register x. value_line x (register_in register journal).value) (k + 1) (drop (k + 1) p.registers)
value_more p journal k name value t t' lt named is e =
    let there = is_at p.registers k lt in
    let name_is : name ≡ there.0 = named ∙ ap (λ (o : Option Text). unwrap_or o []) there.1 in
    place_more (λ register x. value_line x (register_in register journal).value) p.registers k there.0 t t' there.1
    (e ∙ ap (λ (x : Text). t ++ value_line x value) name_is ∙ ap (λ (v : ℕ). t ++ value_line there.0 v) is)

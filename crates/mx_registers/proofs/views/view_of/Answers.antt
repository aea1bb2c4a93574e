use Rattle.std.proofs.Common.{◌≡◌, ◌∙◌, List, slice_get, take, sym, ap, arith}
use Rattle.std.proofs.lemmas.List.{take_all}
use Rattle.mx_stamps.proofs.Lists.{take_here}
use Rattle.mx_registers.specs.declared.contents.Content.{Content}
use Rattle.mx_registers.specs.Registers.{registers_of, with_taken}
use Rattle.mx_registers.proofs.Taking.{map_registers, same_registers, taken_more, view_held}
use Rattle.mx_registers.proofs.views.view_of.Goals as goal

pub loop-entry-preserved : goal.loop-entry-preserved
loop-entry-preserved c =
    let done = take c.loop-entry.entry-index c.args.records.now in
    let entry = c.entry-item.result in
    c.take.ensures.value
    ∙ ap (λ v. with_taken entry v) c.loop-entry.invariant
    ∙ taken_more c.args.count done entry
    ∙ ap (λ xs. registers_of c.args.count xs) (sym (take_here c.args.records.now c.loop-entry.entry-index entry c.loop-entry-test.true c.entry-item.is))

value : (c : goal.After-loop-entry) → c.loop-entry.shown ≡ registers_of c.args.count c.args.records.now
value c =
    c.loop-entry.invariant ∙ ap (λ xs. registers_of c.args.count xs) (take_all c.loop-entry.entry-index c.args.records.now (omega (arith, c.loop-entry-test.false)))

pub returns-clause-held : goal.returns-clause-held
returns-clause-held c = λ register content e. view_held c.args.count c.args.records.now register content (ap (λ (v : List Content). slice_get v register) (sym (value c)) ∙ e)

pub returns-clause-same : goal.returns-clause-same
returns-clause-same c = λ others agreed same. value c ∙ same_registers c.args.count c.args.records.now others agreed same.0 same.1

pub returns-clause-map : goal.returns-clause-map
returns-clause-map c = λ agreed. value c ∙ map_registers c.args.count c.args.records.now agreed

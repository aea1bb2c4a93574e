use Rattle.std.proofs.Common.{◌≡◌, ◌∙◌, List, length, get_or, ap, arith}
use Rattle.std.specs.List.{refill}
use Rattle.mx_journal.specs.declared.records.Write.{Write}
use Rattle.mx_journal.specs.Drafted.{last_value}
use Rattle.mx_registers.specs.declared.contents.Content.{Content}
use Rattle.mx_registers.specs.Based.{cell_in}
use Rattle.mx_registers.specs.Registers.{after_write, blank, with_taken}
use Rattle.mx_registers.proofs.Taking.{rewritten, taken_is, taken_more, taken_more_from, taken_with_record}
use Rattle.mx_registers.proofs.registers.View.take.Goals as goal

taken : (c : goal.After-self-1) → refill (length c.self.inside.contents.items) c.self.inside.contents.items c.write_all.new.contents ≡ with_taken c.args.entry.now c.args.self.now
taken c =
    let old = c.self.inside.contents.items in
    let new = c.write_all.new.contents in
    let entry = c.args.entry.now in
    let lent : c.as_mut_slice.result.now ≡ old = c.as_mut_slice.ensures.value in
    let size : length new ≡ length old = c.write_all.auto.contents ∙ ap (λ (l : List Content). length l) lent in
    rewritten old new size
    ∙ taken_is entry old new size
    (λ register l.
    c.write_all.ensures register (omega (arith, l, ap (λ (l : List Content). length l) lent))
    ∙ ap (λ (l : List Content). after_write entry.number (last_value register c.as_slice.result.now) (get_or l register blank)) lent
    ∙ ap (λ (ws : List Write). after_write entry.number (last_value register ws) (get_or old register blank)) c.as_slice.ensures.value)
    ∙ ap (λ contents. with_taken entry contents) c.self.view_is

pub returns-clause-value : goal.returns-clause-value
returns-clause-value c = taken c

pub returns-clause-more : goal.returns-clause-more
returns-clause-more c = λ count records e.
    taken c ∙ ap (λ v. with_taken c.args.entry.now v) e ∙ taken_more count records c.args.entry.now

pub returns-clause-map : goal.returns-clause-map
returns-clause-map c = λ count records a agrees e.
    taken c ∙ ap (λ v. with_taken c.args.entry.now v) e ∙ taken_with_record count records c.args.entry.now a agrees

pub returns-clause-from : goal.returns-clause-from
returns-clause-from c = λ base count records e.
    taken c ∙ ap (λ v. with_taken c.args.entry.now v) e ∙ taken_more_from (λ register. cell_in register base) count records c.args.entry.now

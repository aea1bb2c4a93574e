use Rattle.std.proofs.Common.{◌≡◌, ◌∙◌, List, length, ap, arith}
use Rattle.mx_journal.specs.declared.records.Record.{Record}
use Rattle.mx_journal.specs.Records.{above}
use Rattle.mx_journal.specs.Runs.{flatten}
use Rattle.mx_journal.proofs.Going.{above_shorter}
use Rattle.mx_journal.proofs.record_map.RecordMap.drop_up_to.Goals as goal

pub overflow_sub-result : goal.overflow_sub-result
overflow_sub-result c =
    let left : c.len_of.result ≡ length (above c.args.number (flatten c.self.inside.runs.items)) =
    c.len_of.ensures ∙ ap (λ l. length (flatten l)) c.deref-2.ensures.value ∙ ap (λ (l : List Record). length l) c.cut_up_to.ensures.records in
    let whole : c.len_of-before.result ≡ length (flatten c.self.inside.runs.items) = c.len_of-before.ensures ∙ ap (λ l. length (flatten l)) c.deref.ensures.value in
    omega (arith, left, whole, above_shorter c.args.number (flatten c.self.inside.runs.items))

pub returns-clause-count : goal.returns-clause-count
returns-clause-count c =
    let left : c.len_of.result ≡ length (flatten c.cut_up_to.new.runs.items) = c.len_of.ensures ∙ ap (λ l. length (flatten l)) c.deref-2.ensures.value in
    let whole : c.len_of-before.result ≡ length c.args.self.now = c.len_of-before.ensures ∙ ap (λ l. length (flatten l)) c.deref.ensures.value ∙ ap (λ (l : List Record). length l) c.self.view_is in
    omega (arith, left, whole, ap (λ (l : List Record). length l) c.cut_up_to.ensures.records, ap (λ (l : List Record). length l) c.self.view_is, above_shorter c.args.number (flatten c.self.inside.runs.items))

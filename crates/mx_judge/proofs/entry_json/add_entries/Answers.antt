use Rattle.std.proofs.Common.{◌∙◌, ◌++◌, List, ap, refl, string_bytes, sym}
use Rattle.mx_trace.specs.declared.outcome.Entry.{Entry}
use Rattle.mx_format.specs.Lines.{texts_from}
use Rattle.mx_format.proofs.Places.{item_more, place_end}
use Rattle.mx_judge.specs.EntryJson.{sending_json}
use Rattle.mx_judge.specs.Listed.{listed}
use Rattle.mx_judge.proofs.entry_json.add_entries.Goals as goal

pub loop-index-preserved : goal.loop-index-preserved
loop-index-preserved c =
    c.loop-index.invariant
    ∙ item_more (sending_json c.args.plan.now (listed c.args.trace.now)) c.as_slice-entries.result.now c.loop-index.index c.loop-index.index c.index-entries-index.result (string_bytes c.loop-index.text) (string_bytes c.add_sending.new.text)
    c.loop-index-test.true c.index-entries-index.is refl c.in_ok-add_sending.ensures

pub returns : goal.returns
returns c =
    let f = sending_json c.args.plan.now (listed c.args.trace.now) in
    sym (c.loop-index.invariant ∙ place_end f c.as_slice-entries.result.now c.loop-index.index (string_bytes c.loop-index.text) c.loop-index-test.false)
    ∙ ap (λ (entries : List Entry). string_bytes c.args.text.now ++ texts_from f 0 entries) c.as_slice-entries.ensures.value

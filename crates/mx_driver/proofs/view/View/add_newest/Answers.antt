use Rattle.std.proofs.Common.{◌≡◌, ◌∙◌, ◌++◌, OnOk, ap, drop, string_bytes, subst}
use Rattle.mx_trace.specs.declared.outcome.Entry.{Entry}
use Rattle.mx_format.specs.Lines.{texts_from}
use Rattle.mx_driver.specs.Shown.{shown_entry, shown_owner, shown_parcel, where_shown}
use Rattle.mx_driver.proofs.ShownLemmas.{three_written}
use Rattle.mx_driver.proofs.view.View.add_newest.Goals as goal

pub returns : goal.returns
returns g c = λ front entry trace.
    let p = c.args.plan.now in
    let view = c.args.self.now in
    let cluster = c.args.cluster.now in
    let n = c.args.before in
    let t = string_bytes c.args.text.now in
    let t2 = string_bytes c.add_parcels.new.text in
    let t3 = string_bytes c.add_owner.new.text in
    let owner = λ (x : Entry). where_shown view.has_state (shown_owner p view g.C.Exclusion.core g.C.Knowledge.knows cluster x) in
    let is = c.newest-entry.ensures front entry (c.trace.ensures.value ∙ trace) in
    three_written t (string_bytes c.add_event.new.text) t2 t3 (shown_entry p view cluster.sent c.args.index entry)
    (texts_from (shown_parcel p view g.C.Msg.Letter.parts) n (drop n cluster.sent)) (owner entry) c.add_owner.result
    (c.in_ok-add_event.ensures ∙ ap (λ (x : Entry). t ++ shown_entry p view cluster.sent c.args.index x) is) c.in_ok-add_parcels.ensures
    (subst (λ (x : Entry). OnOk c.add_owner.result (t3 ≡ t2 ++ owner x)) is c.add_owner.ensures)

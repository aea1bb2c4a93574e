use Rattle.std.proofs.Common.{◌≡◌, ◌∙◌, ◌++◌, ap, length, OnOk, rules, string_bytes, subst, sym}
use Rattle.mx_network.specs.Step.{ClusterState}
use Rattle.mx_plan.specs.Text.{Text}
use Rattle.mx_shown_scripts.specs.ShownScripts.{event_shown, with_line}
use Rattle.mx_scripts.specs.States.{Brings}
use Rattle.mx_shown_scripts.proofs.ResultLemmas.{from_ok, if_any}
use Rattle.mx_shown_scripts.proofs.shown_script.Showing.do_and_add.Goals as goal

pub add_event-requires : goal.add_event-requires
add_event-requires g c =
    let brings = from_ok (Brings g.C.Exclusion.core c.args.state.now c.args.happening.now.event c.apply.new.self) c.apply.result (sym c.is_err.ensures.value ∙ c.if-is_err.false) c.apply.ensures.ok in
    (search rules, (c.args.state.now, brings, c.sent-before.ensures ∙ ap (λ (x : ClusterState g.row.C.Denot g.row.C-Msg.Denot). length x.sent) c.cluster.ensures))

pub returns-clause-brings : goal.returns-clause-brings
returns-clause-brings g c =
    let Happened = Brings g.C.Exclusion.core c.args.state.now c.args.happening.now.event c.apply.new.self in
    if_any Happened c.add_with_line.result (from_ok Happened c.apply.result (sym c.is_err.ensures.value ∙ c.if-is_err.false) c.apply.ensures.ok)

pub returns-clause-text : goal.returns-clause-text
returns-clause-text g c =
    let view = c.args.self.now.view.now in
    let h = c.args.happening.now in
    let old = c.args.state.now in
    let shown : Text = event_shown g.C.Exclusion.core g.C.Msg.Letter.parts c.args.self.now.plan.now view g.C.Knowledge.knows h.event old c.apply.new.self in
    let brings = from_ok (Brings g.C.Exclusion.core old h.event c.apply.new.self) c.apply.result (sym c.is_err.ensures.value ∙ c.if-is_err.false) c.apply.ensures.ok in
    let sent = c.sent-before.ensures ∙ ap (λ (x : ClusterState g.row.C.Denot g.row.C-Msg.Denot). length x.sent) c.cluster.ensures in
    let is : c.as_str.result.now ≡ shown = c.as_str.ensures.value ∙ c.in_ok-add_event.ensures old brings sent ∙ ap (λ (l : Text). l ++ shown) c.new-shown.ensures.bytes in
    subst (λ (l : Text). OnOk c.add_with_line.result (string_bytes c.add_with_line.new.text ≡ string_bytes c.args.text.now ++ with_line view.is_json h.line l)) is c.add_with_line.ensures

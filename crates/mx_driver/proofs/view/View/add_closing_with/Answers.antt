use Rattle.std.proofs.Common.{string_bytes}
use Rattle.mx_format.specs.Lines.{texts_from}
use Rattle.mx_driver.specs.Shown.{shown_member, shown_waiters}
use Rattle.mx_driver.proofs.ShownLemmas.{with_verdict}
use Rattle.mx_driver.proofs.view.View.add_closing_with.Goals as goal

pub returns-clause-sound : goal.returns-clause-sound
returns-clause-sound g c = c.judge-verdict.ensures.serial c.trace.ensures.serial

pub returns-clause-text : goal.returns-clause-text
returns-clause-text g c =
    let core = g.C.Exclusion.core in
    let knows = g.C.Knowledge.knows in
    let p = c.args.plan.now in
    let view = c.args.self.now in
    let cluster = c.args.cluster.now in
    with_verdict view.is_json (string_bytes c.args.text.now) (string_bytes c.add_nodes.new.text) (string_bytes c.add_waiters.new.text) (string_bytes c.add_verdict.new.text)
    (texts_from (shown_member p view core knows) 0 cluster.members) (shown_waiters p view core knows c.args.waiters.now) c.judge-verdict.result
    (c.judge-verdict.ensures.serial c.trace.ensures.serial) c.in_ok-add_nodes.ensures c.in_ok-add_waiters.ensures c.in_ok-add_verdict.ensures

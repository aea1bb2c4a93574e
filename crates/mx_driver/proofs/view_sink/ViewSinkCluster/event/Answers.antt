use Rattle.std.proofs.Common.{string_bytes}
use Rattle.mx_driver.proofs.ShownLemmas.{newest_shown}
use Rattle.mx_driver.proofs.view_sink.ViewSinkCluster.event.Goals as goal

pub returns-clause-text : goal.returns-clause-text
returns-clause-text g c = λ old entry trace before.
    newest_shown g.C.Exclusion.core g.C.Msg.Letter.parts c.args.plan.now c.args.self.now g.C.Knowledge.knows c.args.index c.args.before old c.args.cluster.now entry
    c.add_newest.result (string_bytes c.args.text.now) (string_bytes c.add_newest.new.text) c.if-self.false trace before (c.add_newest.ensures old.trace entry trace)

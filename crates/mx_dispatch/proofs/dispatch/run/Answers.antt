use Rattle.std.proofs.Common.{inr}
use Rattle.mx_cli.specs.Table.{mx_app}
use Rattle.mx_cli.specs.Words.{texts_of}
use Rattle.mx_cli.specs.Requests.{request_asked, request_in}
use Rattle.mx_cli.specs.Reports.{seen}
use Rattle.mx_cli.proofs.RefusedLemmas.{faultless, refused}
use Rattle.mx_dispatch.proofs.RequestLemmas.{short_does_with, short_stops, unread}
use Rattle.mx_dispatch.proofs.dispatch.run.Goals as goal

pub returns-in-Err : goal.returns-in-Err
unfolding request_asked
returns-in-Err g c =
    let told = g.S.Source.told c.args.source.now in
    let lines = g.L.Lines.rest c.args.lines.now in
    let t = g.O.Output.takes_all c.args.out.now in
    let u = g.E.Output.takes_all c.args.err.now in
    let old = seen g.O.Output g.E.Output c.args.out.now c.args.err.now in
    let new = seen g.O.Output g.E.Output c.refuse.new.out c.refuse.new.err in
    record {
      does = refused mx_app request_in (texts_of c.args.words.now) c.in-Err.e c.in-Err.ensures c.refuse.ensures.memory _
          (λ memory. short_does_with told t u old new c.refuse.result memory lines (g.W.Store.stored c.args.store.now));
      asks = refused mx_app request_in (texts_of c.args.words.now) c.in-Err.e c.in-Err.ensures c.refuse.ensures.memory _
          (λ memory request. unread request (g.S.Source.asked c.args.source.now));
      answers = c.refuse.ensures.answers mx_app (texts_of c.args.words.now) c.in-Err.ensures;
      other = λ asks. let m = faultless mx_app request_in (texts_of c.args.words.now) c.in-Err.e c.in-Err.ensures c.refuse.ensures.memory asks.0 in (m.1, inr (m.0, m.2));
      stops = refused mx_app request_in (texts_of c.args.words.now) c.in-Err.e c.in-Err.ensures c.refuse.ensures.memory _
          (λ memory. short_stops told t u old new c.refuse.result memory lines (g.L.Lines.readable c.args.lines.now));
    }

use Rattle.std.proofs.Common.{inr}
use Rattle.mx_cli.specs.Table.{mx_app}
use Rattle.mx_cli.specs.Words.{texts_of}
use Rattle.mx_cli.specs.Requests.{request_asked, request_in}
use Rattle.mx_cli.specs.Reports.{seen}
use Rattle.mx_cli.proofs.RefusedLemmas.{faultless, refused}
use Rattle.mx_dispatch.proofs.RequestLemmas.{short_does, unread}
use Rattle.mx_dispatch.proofs.dispatch.command.Goals as goal

pub returns-in-Err : goal.returns-in-Err
unfolding request_asked
returns-in-Err g c = record {
  does = refused mx_app request_in (texts_of c.args.words.now) c.in-Err.e c.in-Err.ensures c.refuse.ensures.memory _
      (short_does (g.S.Source.told c.args.source.now) (g.O.Output.takes_all c.args.out.now) (g.E.Output.takes_all c.args.err.now) (seen g.O.Output g.E.Output c.args.out.now c.args.err.now) (seen g.O.Output g.E.Output c.refuse.new.out c.refuse.new.err)
      c.refuse.result);
  asks = refused mx_app request_in (texts_of c.args.words.now) c.in-Err.e c.in-Err.ensures c.refuse.ensures.memory _
      (λ memory request. unread request (g.S.Source.asked c.args.source.now));
  answers = c.refuse.ensures.answers mx_app (texts_of c.args.words.now) c.in-Err.ensures;
  other = λ asks. let m = faultless mx_app request_in (texts_of c.args.words.now) c.in-Err.e c.in-Err.ensures c.refuse.ensures.memory asks.0 in (m.1, inr (m.0, m.2));
}

use Rattle.mx_cli.proofs.WordLemmas.{asks}
use Rattle.mx_cli.specs.Table.{mx_app}
use Rattle.mx_cli.specs.Requests.{request_asked, request_in, request_of}
use Rattle.mx_cli.specs.Words.{texts_of}
use Rattle.mx_cli.proofs.reader.parse.Goals as goal

pub returns : goal.returns
unfolding request_asked
returns c =
    let found = c.in_ok-matches.ensures mx_app c.in_ok-whole_line.ensures.app in
    asks request_of mx_app (texts_of c.args.words.now) request_in c.in_ok-matches.matches c.from_matches.result found c.from_matches.ensures

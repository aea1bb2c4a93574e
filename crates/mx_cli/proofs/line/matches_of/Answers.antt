use Rattle.std.proofs.lemmas.Result.{IfOk-weaker}
use Rattle.clap.specs.Words.{app_of}
use Rattle.mx_cli.specs.Words.{texts_of}
use Rattle.mx_cli.proofs.WordLemmas.{parsed}
use Rattle.mx_cli.proofs.line.matches_of.Goals as goal

pub returns : goal.returns
returns c = λ app is.
    let parse = c.try_get_matches_from in
    let found = IfOk-weaker parse.result _ _ (λ m h. (h c.requires.plain).1) parse.ensures.matches in
    parsed (app_of c.args.line) (texts_of c.args.words.now) parse.result (parse.ensures.kinds c.requires.free) found app is

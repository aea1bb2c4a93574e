use Rattle.std.proofs.Common.{◌≡◌, ◌∙◌, inl, inr, subst}
use Rattle.clap.specs.Words.{kind_of}
use Rattle.clap.specs.declared.error.kind.ErrorKind.TheVariants.{OutOfMemory}
use Rattle.mx_cli.specs.Words.{IsHelpKind}
use Rattle.mx_cli.proofs.OutputLemmas.{Keeps-refl}
use Rattle.mx_cli.proofs.RefusedLemmas.{help_is_shown, wrong_is_not_shown}
use Rattle.mx_cli.proofs.report.refuse.Goals as goal

pub returns-in-DisplayHelp-clause-answers : goal.returns-in-DisplayHelp-clause-answers
returns-in-DisplayHelp-clause-answers g c line words kinds =
    let shown = subst IsHelpKind c.kind.ensures c.in-DisplayHelp.is in
    (λ asks. c.show.ensures, λ wrong. absurd (wrong_is_not_shown c.args.e.now line words kinds wrong shown))

pub returns-in_default : goal.returns-in_default
returns-in_default g c =
    let enough : kind_of c.args.e.now ≡ OutOfMemory → ⊥ = λ out. c.in_default.not-OutOfMemory (c.kind.ensures ∙ out) in
    record {
      memory = λ out. absurd (enough out);
      answers = λ line words kinds. (
        λ asks. elim (help_is_shown c.args.e.now line words kinds asks enough) [
          | inl help ↦ absurd (c.in_default.not-DisplayHelp (c.kind.ensures ∙ help))
          | inr version ↦ absurd (c.in_default.not-DisplayVersion (c.kind.ensures ∙ version))
        ],
        λ wrong. (Keeps-refl (g.O.Output.written c.args.out.now), c.report_usage.ensures),
      );
    }

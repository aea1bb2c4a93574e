-- What is told of words that a command line refuses.
use Rattle.std.proofs.Common.{◌≡◌, ◌∙◌, List, [], Option, Some, None, IfSome, IsSome, inl, inr, refl, subst, sym}
use Rattle.clap.specs.Words.{App, Row, Text, kind_of}
use Rattle.clap.specs.Faults.{fault_of}
use Rattle.clap.specs.Kinds.{HasKind, IsAmong, Kinds}
use Rattle.clap.specs.declared.error.Error.{Error}
use Rattle.clap.specs.declared.error.kind.ErrorKind.{ErrorKind}
use Rattle.clap.specs.declared.error.kind.ErrorKind.TheVariants.{DisplayHelp, DisplayVersion, OutOfMemory}
use Rattle.mx_cli.specs.Words.{AreWrong, AskHelp, IsHelpKind, asked_of}
use Rattle.mx_cli.proofs.WordLemmas.{none_asked}

memory_is_not_shown : (k : ErrorKind) → k ≡ OutOfMemory → IsHelpKind k → ⊥
memory_is_not_shown k out (inl help) = let bad : DisplayHelp ≡ OutOfMemory = sym help ∙ out in cc
memory_is_not_shown k out (inr version) = let bad : DisplayVersion ≡ OutOfMemory = sym version ∙ out in cc

module _ (e : Error) (line : App) (words : List Text) (kinds : HasKind (fault_of line words) e) where
  -- words that ask for help are shown it, where memory suffices
  pub help_is_shown : AskHelp line words → (kind_of e ≡ OutOfMemory → ⊥) → IsHelpKind (kind_of e)
  help_is_shown asks enough = elim kinds [ inl out ↦ absurd (enough out) | inr among ↦ asks.each (kind_of e) among ]

  -- wrong words are shown no help
  pub wrong_is_not_shown : AreWrong line words → IsHelpKind (kind_of e) → ⊥
  wrong_is_not_shown wrong shown = elim kinds [
    | inl out ↦ memory_is_not_shown (kind_of e) out shown
    | inr among ↦ wrong.each (kind_of e) among shown
  ]

-- ---- words that ask for something are refused only where memory runs out

module _ {X M : Type 0} (line : App) (read : Option (Text × List Row) → Option X) (words : List Text) (e : Error) (kinds : HasKind (fault_of line words) e)
    (memory : kind_of e ≡ OutOfMemory → M) where
  -- whatever they ask for
  pub runs_out : IsSome (asked_of line read words) → M
  runs_out asks = elim kinds [ inl out ↦ memory out | inr among ↦ absurd (none_asked line read words (kind_of e) among asks) ]

  asked_refused : (P : X → Type 0) (o : Option X) → o ≡ asked_of line read words → (M → (x : X) → P x) → IfSome o P
  asked_refused P None is h = tt
  asked_refused P (Some x) is h = h (runs_out (subst IsSome is refl)) x

  -- what is promised of what they ask for
  pub refused : (P : X → Type 0) → (M → (x : X) → P x) → IfSome (asked_of line read words) P
  refused P h = asked_refused P (asked_of line read words) refl h

  -- and so are words without a fault
  pub faultless : fault_of line words ≡ [] → M
  faultless none = elim kinds [ inl out ↦ memory out | inr among ↦ absurd (subst (λ (ks : Kinds). IsAmong (kind_of e) ks) none among) ]

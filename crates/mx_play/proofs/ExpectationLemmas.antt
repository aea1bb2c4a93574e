-- What a line with `expect` says of the text that was read of it, and of the trace of a session.
use Rattle.std.proofs.Common.{◌≡◌, ◌≢◌, ◌⊎◌, List, [], Option, Some, None, Result, Ok, Err, IfOk, inl, inr, refl, subst}
use Rattle.std.specs.Str.{IsUtf8}
use Rattle.mx_plan.specs.Text.{Text}
use Rattle.mx_io.specs.Stored.{Stored, Stores}
use Rattle.mx_trace.specs.declared.outcome.Entry.{Entry}
use Rattle.mx_scripts.specs.Expectations.{IsMet, IsNotMet}
use Rattle.mx_scripts.specs.declared.line_failure.LineFailure.{LineFailure}
use Rattle.mx_scripts.specs.declared.line_failure.LineFailure.TheVariants as failure
use Rattle.mx_play.specs.Executions.{CanRefuseOutcome, DoesOr, HasExpected, IsAsExpected, Saved, ShowsOnly}
use Rattle.mx_play.specs.Sessions.{SessionState}
use Rattle.mx_play.specs.declared.input_fault.InputFault.{InputFault}
use Rattle.mx_play.proofs.StoreLemmas.{Stores-nil}

module _ (text line : Text) (found trace : List Entry) where
  -- the outcome is the expected one
  pub met_as : (IsUtf8 line → text ≡ line) → found ≡ trace → IsMet text found → IsUtf8 line → IsMet line trace
  met_as same is met utf8 = subst (λ (t : Text). IsMet t trace) (same utf8) (subst (λ (l : List Entry). IsMet text l) is met)

  -- it is another one, or there is none
  pub not_met_as : (why : LineFailure) → why ≢ failure.Memory → (IsUtf8 line → text ≡ line) → found ≡ trace → (why ≡ failure.Memory) ⊎ IsNotMet text found why → IsUtf8 line → IsNotMet line trace why
  not_met_as why other same is (inl out) utf8 = absurd (other out)
  not_met_as why other same is (inr x) utf8 = subst (λ (t : Text). IsNotMet t trace why) (same utf8) (subst (λ (l : List Entry). IsNotMet text l why) is x)

-- what a line with `expect` comes to
pub executed_expect : {S M E : Type 0} (r : Result (Option InputFault) E) (line : Text) (a : SessionState S M) (text : Text) (s : Stored) → text ≡ [] → IfOk r (λ fault. HasExpected line a fault)
    → IfOk r (λ fault. (saved : Saved) × Stores s s saved × DoesOr (IsAsExpected line a × ShowsOnly [] a a text × (saved ≡ [])) (λ why. CanRefuseOutcome line a why × (saved ≡ [])) fault a a text)
executed_expect (Ok None) line a text s empty x = ([], Stores-nil s, (x, record { same = refl; printed = empty }, refl))
executed_expect (Ok (Some fault)) line a text s empty x = ([], Stores-nil s, ((x, refl), record { same = refl; printed = empty }))
executed_expect (Err e) line a text s empty x = tt

-- what holds anyway holds if a call succeeds
pub whatever : {T E : Type 0} {P : Type 0} (r : Result T E) → P → IfOk r (λ t. P)
whatever (Ok t) x = x
whatever (Err e) x = tt

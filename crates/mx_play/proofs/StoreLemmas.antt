-- What a store is given in turn, and what commands save.
use Rattle.std.proofs.Common.{◌≡◌, ◌∙◌, ◌⊎◌, inl, inr, List, [], ◌∷◌, ◌++◌, Result, Ok, Err, Option, Some, None, IfOk, ap, refl, sym, subst, append_assoc, append-nil}
use Rattle.std.specs.Str.{IsUtf8}
use Rattle.mx_nodelaws.specs.Core.{Core}
use Rattle.mx_knowledge.specs.Facts.{Known}
use Rattle.mx_lines.specs.declared.commands.SessionCommand.{SessionCommand}
use Rattle.mx_lines.specs.declared.commands.SessionCommand.TheVariants.{End, Nothing}
use Rattle.mx_plan.specs.Text.{Text}
use Rattle.mx_plan.specs.Fields.{Fields}
use Rattle.mx_io.specs.Stored.{Stored, Stores}
use Rattle.mx_play.specs.Commands.{IsSecondWord}
use Rattle.mx_play.specs.Executions.{CanRefuseSave, DoesOr, HasExecuted, HasSaved, Saved, ShowsOnly}
use Rattle.mx_play.specs.Printed.{saved_line}
use Rattle.mx_play.specs.Sessions.{SessionState}
use Rattle.mx_play.specs.SessionScripts.{session_script}
use Rattle.mx_play.specs.declared.input_fault.InputFault.{InputFault}
use Rattle.mx_play.specs.declared.session.DoneLine.{DoneLine}

pub Stores-nil : (s : Stored) → Stores s s []
Stores-nil None = tt
Stores-nil (Some x) = sym (append-nil x)

pub Stores-trans : (a b c : Stored) (xs ys : Saved) → Stores a b xs → Stores b c ys → Stores a c (xs ++ ys)
Stores-trans None b c xs ys p q = tt
Stores-trans (Some x) None c xs ys p q = absurd p
Stores-trans (Some x) (Some y) None xs ys p q = absurd q
Stores-trans (Some x) (Some y) (Some z) xs ys p q = q ∙ ap (λ (l : Saved). l ++ ys) p ∙ append_assoc x xs ys

-- a command that cannot save saves nothing, whether it is done or refused
pub saves_none : {S M : Type 0} (D : Type 0) (F : InputFault → Type 0) (fault : Option InputFault) (a b : SessionState S M) (text : Text) → DoesOr D F fault a b text
    → DoesOr (D × ◌≡◌ {A = Saved} [] []) (λ why. F why × ◌≡◌ {A = Saved} [] []) fault a b text
saves_none D F None a b text x = (x, refl)
saves_none D F (Some fault) a b text x = ((x.0, refl), x.1)

-- the same of a call that may fail, where the store is as before
pub stores_none : {S M E : Type 0} (r : Result (Option InputFault) E) (D : Type 0) (F : InputFault → Type 0) (s : Stored) (a b : SessionState S M) (text : Text) → IfOk r (λ fault. DoesOr D F fault a b text)
    → IfOk r (λ fault. (saved : Saved) × Stores s s saved × DoesOr (D × (saved ≡ [])) (λ why. F why × (saved ≡ [])) fault a b text)
stores_none (Ok fault) D F s a b text x = ([], Stores-nil s, saves_none D F fault a b text x)
stores_none (Err e) D F s a b text x = tt

-- what a line with `save` comes to
pub executed_save : {S M E : Type 0} (r : Result (Option InputFault) E) (p : Fields) (a : SessionState S M) (lines : List DoneLine) (from word old new : Text) (s t : Stored) → lines ≡ a.lines → (IsUtf8 from → IsSecondWord from word) → old ≡ []
    → IfOk r (λ fault. (saved : Saved) × Stores s t saved × HasSaved fault p lines word saved old new)
    → IfOk r (λ fault. (saved : Saved) × Stores s t saved
    × DoesOr ((word : Text) × (IsUtf8 from → IsSecondWord from word) × ShowsOnly (saved_line word) a a new × (saved ≡ (word, session_script p a.lines) ∷ [])) (λ why. CanRefuseSave why × (saved ≡ [])) fault a a new)
executed_save (Ok None) p a lines from word old new s t same is empty x = (
  x.0,
  x.1,
  (word, is, record { same = refl; printed = x.2.1 ∙ ap (λ (l : Text). l ++ saved_line word) empty }, x.2.0 ∙ ap (λ (l : List DoneLine). (word, session_script p l) ∷ []) same),
)
executed_save (Ok (Some fault)) p a lines from word old new s t same is empty x = (x.0, x.1, ((x.2.0, x.2.1), record { same = refl; printed = x.2.2 ∙ empty }))
executed_save (Err e) p a lines from word old new s t same is empty x = tt

module _ {H S M : Type 0} (core : Core H S M) (letter_text : Fields → M → Text) (knows : S → List Known) (p : Fields) (shape : H) (from : Text) (a : SessionState S M) (text : Text) (empty : text ≡ []) (s : Stored) where
  abbrev DoesNothing : SessionCommand → Type 0
  DoesNothing command = (saved : Saved) × Stores s s saved × HasExecuted core letter_text knows p shape None command from a a text saved

  -- what an empty line comes to, and one that ends the session
  pub executed_nothing : (command : SessionCommand) → (command ≡ End) ⊎ (command ≡ Nothing) → DoesNothing command
  executed_nothing command (inl is) = subst DoesNothing (sym is) ([], Stores-nil s, (record { same = refl; printed = empty }, refl))
  executed_nothing command (inr is) = subst DoesNothing (sym is) ([], Stores-nil s, (record { same = refl; printed = empty }, refl))

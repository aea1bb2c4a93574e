-- What the lines of a script do, one thing after another, and what is shown of it.
use Rattle.std.proofs.Common.{◌≡◌, ◌∙◌, ◌++◌, ℕ, List, [], ◌∷◌, Option, Some, None, true, false, ap, ap₂, append_assoc, refl, sym}
use Rattle.std.specs.Prelude.{is_some}
use Rattle.mx_stamps.proofs.Lists.{append_nil}
use Rattle.mx_knowledge.specs.Facts.{Known}
use Rattle.mx_nodelaws.specs.Core.{Core}
use Rattle.mx_plan.specs.Text.{Text}
use Rattle.mx_plan.specs.Fields.{Fields}
use Rattle.mx_format.specs.Parts.{Parts}
use Rattle.mx_driver.specs.declared.view.View.{View}
use Rattle.mx_shown_scripts.specs.Happenings.{AddsOne, Does, Reaches}
use Rattle.mx_scripts.specs.Lines.{DoesText, IsNotDone}
use Rattle.mx_event_files.specs.Scripts.{of_line}
use Rattle.mx_scripts.specs.Failures.{IsRefused}
use Rattle.mx_shown_scripts.specs.ShownScripts.{ShowsAll, happening_text}
use Rattle.mx_scripts.specs.States.{RunState}
use Rattle.mx_scripts.specs.Told.{IsTold}
use Rattle.mx_event_files.proofs.ScriptLemmas.{Chain, all_chain}
use Rattle.mx_event_files.specs.declared.happening.Happening.{Happening}
use Rattle.mx_shown_scripts.specs.declared.happenings.LineRecorder.{LineRecorder}
use Rattle.mx_scripts.specs.declared.line_failure.LineFailure.{LineFailure}
use Rattle.mx_scripts.specs.declared.line_failure.RefusedLine.{RefusedLine}
use Rattle.mx_scripts.specs.declared.state.SessionEvent.{SessionEvent}

not_true : false ≡ true → ⊥
not_true e = cc

-- ---- what is listed

module _ {H S M : Type 0} (core : Core H S M) where
  -- a recorder has listed what it was told
  pub told_listed : (es : List SessionEvent) (old new : RunState S M) (recorder last : LineRecorder) → IsTold core (λ k e _ _ next. AddsOne k e next) es old new recorder last
      → (last.happened.items ≡ recorder.happened.items ++ of_line recorder.number es) × (last.number ≡ recorder.number)
  told_listed [] old new recorder last x = (
    ap (λ (k : LineRecorder). k.happened.items) x.1 ∙ sym (append_nil recorder.happened.items),
    ap (λ (k : LineRecorder). k.number) x.1,
  )
  told_listed (e ∷ es) old new recorder last x =
      let next : LineRecorder = x.1 in
      let one = x.4 in
      let rest = told_listed es x.0 new next last x.5 in
      let first : List Happening = of_line recorder.number (e ∷ []) in (
        rest.0 ∙ ap₂ (λ (l : List Happening) (n : ℕ). l ++ of_line n es) one.listed one.number ∙ append_assoc recorder.happened.items first (of_line recorder.number es),
        rest.1 ∙ one.number,
      )

  module _ (p : Fields) where
    -- a line that is done, or (below) refused
    pub line_done : (number : ℕ) (text : Text) (old new : RunState S M) (before after : List Happening) (o : Option RefusedLine) → is_some o ≡ false → Does core p number text old new before after o
        → (es : List SessionEvent) × DoesText core p text old es new × (after ≡ before ++ of_line number es)
    line_done number text old new before after None is x = x
    line_done number text old new before after (Some refused) is x = absurd (not_true (sym is))

    pub line_refused : (number : ℕ) (text : Text) (old new : RunState S M) (before after : List Happening) (o : Option RefusedLine) → is_some o ≡ true → Does core p number text old new before after o
        → (refused : RefusedLine) × (why : LineFailure) × (o ≡ Some refused) × IsNotDone core p text old why × IsRefused number why refused × (after ≡ before)
    line_refused number text old new before after None is x = absurd (not_true is)
    line_refused number text old new before after (Some refused) is x = (refused, x.0, refl, x.1, x.2, x.3)

-- ---- what is shown

module _ {H S M : Type 0} (core : Core H S M) (parts : M → Parts) (p : Fields) (view : View) (knows : S → List Known) where
  abbrev Shows : RunState S M → List Happening → RunState S M → Type 0
  Shows old hs new = (texts : List Text) × ShowsAll core parts p view knows old hs new texts

  chain_shown : (nodes registers : ℕ) (hs : List Happening) (old new : RunState S M) → Chain core nodes registers old hs new → Shows old hs new
  chain_shown nodes registers [] old new x = ([], (x, refl))
  chain_shown nodes registers (h ∷ hs) old new x =
      let rest = chain_shown nodes registers hs x.0 new x.4 in
      (happening_text core parts p view knows h old x.0 ∷ rest.0, (x.0, rest.0, x.2, x.3, refl, rest.1))

  -- what the lines of a script did can be shown
  pub reached_shown : (texts : List Text) (hs : List Happening) (o : Option RefusedLine) (old last : RunState S M) → Reaches core p texts old hs o last → Shows old hs last
  reached_shown texts hs None old last x = chain_shown _ _ hs old last (all_chain core p 0 texts hs old last x)
  reached_shown texts hs (Some refused) old last x = chain_shown _ _ hs old last (all_chain core p 0 _ hs old last x.2.does)

-- What is printed of a trace that is drawn.
use Rattle.std.proofs.Common.{◌≡◌, ◌∙◌, ℕ, Option, None, Some, Result, Ok, Err, ap, false, subst, sym}
use Rattle.std.specs.Prelude.{MatchResult, option_map}
use Rattle.mx_plan.specs.Text.{Text}
use Rattle.mx_plan.specs.Fields.{Fields}
use Rattle.mx_cli.specs.Printing.{Report}
use Rattle.mx_cli.specs.Requests.{Part}
use Rattle.mx_driver.specs.Viewed.{node_in}
use Rattle.mx_explorer.specs.declared.verdict.Clause.{Clause}
use Rattle.mx_explorer.specs.declared.verdict.Verdict.{Verdict}
use Rattle.mx_explorer.specs.declared.verdict.Verdict.TheVariants.{Broken}
use Rattle.mx_judge.specs.Faults.{IsFaultReport}
use Rattle.mx_judge.specs.Listed.{ReadTrace, place_of}
use Rattle.mx_judge.specs.Reasons.{reason_at, reason_for}
use Rattle.mx_judge.specs.Traces.{place_word, trace_at}
use Rattle.mx_picture.specs.Marks.{EventMark, marked_by, why_text}
use Rattle.mx_picture.specs.Pictures.{IsUnknown, part_on}
use Rattle.mx_picture.specs.TracePictures.{IsTraceDrawn, IsTracePictured, IsTracePicturedBy, IsTraceShown}
use Rattle.mx_picture.specs.declared.part.ShownPart.{ShownPart as Shown}
use Rattle.mx_picture.proofs.PictureLemmas.{with_part}

-- what holds of the value of a result, or of its error
module _ {T E : Type 0} (P : T → Type 0) (Q : E → Type 0) (x : Result T E) where
  pub match_ok : (t : T) → x ≡ Ok t → P t → MatchResult x P Q
  match_ok t is h = subst (λ (y : Result T E). MatchResult y P Q) (sym is) h

  pub match_err : (e : E) → x ≡ Err e → Q e → MatchResult x P Q
  match_err e is h = subst (λ (y : Result T E). MatchResult y P Q) (sym is) h

module _ (p : Fields) (text : Text) where
  -- a report on the trace that was read
  pub drawn_read : (word : Text) (t : ReadTrace) → trace_at p text ≡ Ok t → word ≡ place_word text → (r : Report) → IsTraceShown p word t r → IsTraceDrawn p text r
  drawn_read word t read same r h =
      match_ok (λ (t : ReadTrace). IsTraceShown p (place_word text) t r) (λ fault. IsFaultReport fault r) (trace_at p text) t read (subst (λ (w : Text). IsTraceShown p w t r) same h)

  module _ (part : Part) where
    -- part of a trace is drawn
    pub known : (shown : Shown) → option_map (part_on part false) (node_in p part.node) ≡ Some shown → (r : Report) → IsTraceDrawn p text r → IsTracePictured part p text r
    known shown is r h = with_part (λ n. IsTracePicturedBy n p text r) part false shown (λ node. h) (node_in p part.node) is

    -- the plan lacks the named node
    pub unknown : (r : Report) → node_in p part.node ≡ None → IsUnknown r → IsTracePictured part p text r
    unknown r none is = subst (λ (n : Option (Option ℕ)). IsTracePicturedBy n p text r) (sym none) is

-- the mark of a broken trace, from the parts of its text
pub marked_is : (p : Fields) (word : Text) (t : ReadTrace) (k : ℕ) (clause : Clause) (verdict : Verdict) (why : Text) (place : ℕ) (reason : Text) → verdict ≡ Broken k clause
    → why ≡ why_text clause word place reason → place ≡ place_of t k → reason ≡ reason_for p t.entries verdict → Some (record { index = k; why = why }) ≡ marked_by p word t verdict
marked_is p word t k clause verdict why place reason broken is there given =
    let mark : Text → Option EventMark = λ s. Some (record { index = k; why = s }) in
    let known : reason ≡ reason_at p t.entries k clause = subst (λ (v : Verdict). reason ≡ reason_for p t.entries v) broken given in
    let whole = is ∙ ap (λ (n : ℕ). why_text clause word n reason) there ∙ ap (λ (s : Text). why_text clause word (place_of t k) s) known in
    subst (λ (v : Verdict). mark why ≡ marked_by p word t v) (sym broken) (ap mark whole)

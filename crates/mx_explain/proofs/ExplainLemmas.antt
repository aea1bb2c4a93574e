-- How what is explained ends, and what is printed of it.
use Rattle.std.proofs.Common.{◌≡◌, ℕ, Bool, true, false, Option, Some, None, Result, Ok, Err, IfSome, ap, append-nil, inl, inr, refl, subst, sym}
use Rattle.std.specs.Prelude.{◌↔◌, is_ok, string_bytes, ⊤}
use Rattle.std.specs.Io.KnownBytes.{Appends, Keeps}
use Rattle.mx_plan.specs.Text.{Text}
use Rattle.mx_plan.specs.Fields.{Fields}
use Rattle.mx_plan.specs.declared.needs.Needs.TheVariants.{All}
use Rattle.mx_io.specs.Outputs.{Held, refused_by}
use Rattle.mx_io.specs.Told.{Telling}
use Rattle.mx_io.specs.declared.output.OutputFault.{OutputFault}
use Rattle.mx_io.specs.declared.output.OutputFault.TheVariants as output_fault
use Rattle.mx_cli.specs.Frames.{IsReportOf, end_for, report_for}
use Rattle.mx_cli.specs.Printing.{Course, End, Prints, Report, ShowsOne, Sight, comes_to, course_of, has_fault, has_line, has_status, is_refused, is_short, null_output, refused_on, stop_of}
use Rattle.mx_cli.specs.Reading.{IsPlanTold}
use Rattle.mx_cli.specs.declared.stop.Stop.{Stop}
use Rattle.mx_cli.specs.declared.stop.Stop.TheVariants as stop
use Rattle.mx_cli.proofs.FrameLemmas.{prints_as}
use Rattle.mx_explain.specs.Explained.{IsExplanation, IsTextReport, IsToldOf, is_told, told_as}
use Rattle.mx_explain.specs.Reports.{AreShown, last_line, nothing_at_fault}

-- ---- files that print nothing

same_end : (e : End) → end_for false e ≡ e
same_end (has_status status) = refl
same_end (has_fault fault) = refl
same_end (has_line line) = refl

-- the report names no text that is not JSON: a replay is not told which it is, and each script is
same_report : (b : Bool) (p : Fields) (text : Text) (r : Report) → IsTextReport b p text r → r ≡ report_for b r
same_report false p text r h = ap (λ (e : End). let q : Report = record { texts = r.texts; end = e } in q) (sym (same_end r.end))
same_report true p text r (inl h) = subst (λ (q : Report). q ≡ report_for true q) (sym h.2) refl
same_report true p text r (inr h) = subst (λ (q : Report). q ≡ report_for true q) (sym h.2) refl

module _ (b : Bool) (plan text : Option Telling) where
  -- they were read
  pub text_runs : (p : Fields) (bytes : Text) (res : Result ℕ Stop) → IsPlanTold plan p → IfSome text (λ telling. telling ≡ Some bytes) → Prints (IsTextReport b p bytes) null_output null_output res
      → Prints (IsReportOf (IsTextReport b) All b plan text) null_output null_output res
  text_runs p bytes res read fetched h =
      prints_as (IsTextReport b p bytes) (IsReportOf (IsTextReport b) All b plan text) (λ r is. inr (p, bytes, r, read, fetched, is, same_report b p bytes r is)) null_output null_output res h

-- ---- an explanation

is_false : (b : Bool) → (b ≡ true → ⊥) → b ≡ false
is_false true h = absurd (h refl)
is_false false h = refl

module _ (P : Report → Type 0) where
  of_course : (course : Course) (a b : Held) → ShowsOne P true a b course → (told : Report) → IsToldOf course told → IsExplanation P told
  of_course (comes_to end) a b (inl early) told h = absurd early.0
  of_course (comes_to end) a b (inr shown) told h = (shown.0, shown.1, subst (λ (e : End). IsToldOf (comes_to e) told) (sym shown.2.0) h)
  of_course is_refused a b shown told h = absurd h
  of_course is_short a b shown told h = absurd h

  -- an explanation of a run of one of these reports
  pub is_explanation : (ended : Result ℕ Stop) → Prints P null_output null_output ended → (told : Report) → IsToldOf (course_of ended) told → IsExplanation P told
  is_explanation ended ran told h = of_course (course_of ended) None None ran.shows told h

module _ (o n : Sight) where
  -- a text that an output did not take
  pub not_put : (P : Report → Type 0) (f : OutputFault) → (o.takes_all ≡ true → f ≡ output_fault.Memory) → Keeps o.held n.held → n.refused ≡ refused_by {T = ⊤} (Err f) o.refused → n.takes_all ≡ o.takes_all
      → Prints P o n (Err (stop_of f))
  not_put P output_fault.Refused takes keeps refused stays = record {
    shows = inl (is_false o.takes_all (λ e. let bad : output_fault.Refused ≡ output_fault.Memory = takes e in cc), keeps);
    refused = refused;
    stays = stays;
  }
  not_put P output_fault.Memory takes keeps refused stays = record { shows = inl (tt, keeps); refused = refused; stays = stays }

  module _ (text : Text) (shown : AreShown text) (put : Appends o.held n.held text) (refused : n.refused ≡ o.refused) (stays : n.takes_all ≡ o.takes_all) where
    -- a text that an output took, about a run that came to its end
    told_end : (P : Report → Type 0) (ended : Result ℕ Stop) (end : End) → course_of ended ≡ comes_to end → P (told_as text end) → Prints P o n ended
    told_end P ended end is h =
        record {
          shows = subst (λ (course : Course). ShowsOne P o.takes_all o.held n.held course) (sym is) (inr (told_as text end, h, (refl, subst (λ (t : Text). Appends o.held n.held t) (sym (append-nil text)) put)));
          refused = subst (λ (course : Course). n.refused ≡ refused_on course o.refused) (sym is) refused;
          stays = stays;
        }

    pub prints_told : (ended : Result ℕ Stop) → is_told (course_of ended) ≡ true → (last_line text ≡ nothing_at_fault) ↔ (is_ok ended ≡ true) → Prints (IsToldOf (course_of ended)) o n ended
    prints_told (Ok status) told last = told_end _ (Ok status) (has_status status) refl (text, shown, last.1 refl, refl)
    prints_told (Err (stop.Fault fault)) told last = told_end _ (Err (stop.Fault fault)) (has_fault fault) refl (text, shown, λ q. absurd (let bad : false ≡ true = last.0 q in cc), refl)
    prints_told (Err (stop.Line line)) told last = told_end _ (Err (stop.Line line)) (has_line (string_bytes line)) refl (text, shown, λ q. absurd (let bad : false ≡ true = last.0 q in cc), refl)
    prints_told (Err stop.Writer) told last = absurd (let bad : false ≡ true = told in cc)
    prints_told (Err stop.Memory) told last = absurd (let bad : false ≡ true = told in cc)

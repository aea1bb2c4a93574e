-- The status of a run that was closed.
use Rattle.std.proofs.Common.{◌≡◌, ◌∙◌, refl, sym, false, inl, inr, ℕ, Bool, IfOk, Result, Ok, Err}
use Rattle.mx_plan.specs.Text.{Text}
use Rattle.mx_cli.specs.Frames.{Closes, ClosesAs, IsRunStatus}
use Rattle.mx_cli.specs.Printing.{End, comes_to, course_of, has_fault, has_line, has_status, is_refused, is_short}
use Rattle.mx_cli.specs.Reports.{Seen}
use Rattle.mx_cli.specs.declared.stop.Stop.{Stop}
use Rattle.mx_cli.specs.declared.stop.Stop.TheVariants as stop

pub not_five : (status : ℕ) → status ≡ 5 → status ≡ 0 → ⊥
not_five status five zero = cc

not_one : (status : ℕ) → status ≡ 1 → status ≡ 0 → ⊥
not_one status one zero = cc

module _ (names : Text × Text) (t u : Bool) (old new : Seen) (status : ℕ) where
  -- an end that is no status of the run's own is not closed with status 0
  fault_told : (fault : End) → ClosesAs names t u (comes_to fault) old new status → ((s : ℕ) → fault ≡ has_status s → ⊥) → status ≡ 0 → ⊥
  fault_told (has_status own) h other zero = other own refl
  fault_told (has_fault fault) (inl well) other zero = not_one status well.status_is zero
  fault_told (has_line line) (inl well) other zero = not_one status well.status_is zero
  fault_told end (inr (inl memory)) other zero = not_five status memory.0 zero
  fault_told end (inr (inr (inl refuses))) other zero = not_one status refuses.0 zero
  fault_told end (inr (inr (inr refuses))) other zero = not_one status refuses.0 zero

  refused_told : Closes names t u is_refused old new status → status ≡ 0 → ⊥
  refused_told h zero = not_one status h.1.0 zero

  short_told : Closes names t u is_short old new status → status ≡ 0 → ⊥
  short_told (keeps, inl memory) zero = not_five status memory.0 zero
  short_told (keeps, inr refuses) zero = not_one status refuses.0 zero

  -- a run that is closed with status 0 has done what it had to do
  pub closed_done : {D : Type 0} (ended : Result ℕ Stop) → IfOk ended (λ _. D) → Closes names t u (course_of ended) old new status → status ≡ 0 → D
  closed_done (Ok own) done h zero = done
  closed_done (Err (stop.Fault fault)) done h zero = absurd (fault_told (has_fault fault) h.1 (λ s e. cc) zero)
  closed_done (Err (stop.Line line)) done h zero = absurd (fault_told (has_line _) h.1 (λ s e. cc) zero)
  closed_done (Err stop.Writer) done h zero = absurd (refused_told h zero)
  closed_done (Err stop.Memory) done h zero = absurd (short_told h zero)

  own_passed : (own : ℕ) → ClosesAs names t u (comes_to (has_status own)) old new status → status ≡ 0 → new.kept_back ≡ false
  own_passed own (inl well) zero = well.passed
  own_passed own (inr (inl memory)) zero = absurd (not_five status memory.0 zero)
  own_passed own (inr (inr (inl refuses))) zero = absurd (not_one status refuses.0 zero)
  own_passed own (inr (inr (inr refuses))) zero = absurd (not_one status refuses.0 zero)

  -- and all that it printed was passed on
  pub closed_passed : (ended : Result ℕ Stop) → Closes names t u (course_of ended) old new status → status ≡ 0 → new.kept_back ≡ false
  closed_passed (Ok own) h zero = own_passed own h.1 zero
  closed_passed (Err (stop.Fault fault)) h zero = absurd (fault_told (has_fault fault) h.1 (λ s e. cc) zero)
  closed_passed (Err (stop.Line line)) h zero = absurd (fault_told (has_line _) h.1 (λ s e. cc) zero)
  closed_passed (Err stop.Writer) h zero = absurd (refused_told h zero)
  closed_passed (Err stop.Memory) h zero = absurd (short_told h zero)

  fault_status : (end : End) → ClosesAs names t u (comes_to end) old new status → ((own : ℕ) → end ≡ has_status own → own ≡ 0) → IsRunStatus status
  fault_status (has_status own) (inl well) plain = inl (well.status_is ∙ plain own refl)
  fault_status (has_fault fault) (inl well) plain = inr (inl well.status_is)
  fault_status (has_line line) (inl well) plain = inr (inl well.status_is)
  fault_status end (inr (inl memory)) plain = inr (inr memory.0)
  fault_status end (inr (inr (inl refuses))) plain = inr (inl refuses.0)
  fault_status end (inr (inr (inr refuses))) plain = inr (inl refuses.0)

  -- the status of a run that has no status of its own but 0
  pub closed_status : (ended : Result ℕ Stop) → IfOk ended (λ own. own ≡ 0) → Closes names t u (course_of ended) old new status → IsRunStatus status
  closed_status (Ok own) zero h = fault_status (has_status own) h.1 (λ s e. let same : own ≡ s = cc in sym same ∙ zero)
  closed_status (Err (stop.Fault fault)) zero h = fault_status (has_fault fault) h.1 (λ s e. absurd (cc))
  closed_status (Err (stop.Line line)) zero h = fault_status (has_line _) h.1 (λ s e. absurd (cc))
  closed_status (Err stop.Writer) zero h = inr (inl h.1.0)
  closed_status (Err stop.Memory) zero (keeps, inl memory) = inr (inr memory.0)
  closed_status (Err stop.Memory) zero (keeps, inr refuses) = inr (inl refuses.0)

-- What standard error gets of the lines of a session.
use Rattle.std.proofs.Common.{◌≡◌, ◌∙◌, ℕ, Bool, List, [], ◌∷◌, ◌++◌, Result, Ok, Err, Some, None, OnOk, refl, sym, ap, ap₂, append_assoc, inl, inr}
use Rattle.std.specs.Io.KnownBytes.{Appends, Keeps}
use Rattle.mx_stamps.proofs.Lists.{append_nil}
use Rattle.mx_plan.specs.Text.{Text}
use Rattle.mx_io.specs.Outputs.{Held}
use Rattle.mx_cli.specs.Frames.{Closes, ClosesAs}
use Rattle.mx_cli.specs.Printing.{comes_to, course_of, has_status}
use Rattle.mx_cli.specs.Reports.{Seen}
use Rattle.mx_cli.specs.declared.stop.Stop.{Stop}
use Rattle.mx_cli.proofs.ClosedLemmas.{closed_done, not_five}
use Rattle.mx_cli.proofs.OutputLemmas.{Appends-keeps, Appends-nil}
use Rattle.mx_play.specs.Printed.{AreAsides, GetsAsides, GetsReport, IsReported, aside, asides}
use Rattle.mx_play.specs.declared.input_fault.InputFault.{InputFault}

-- ---- prompts

asides_append : (xs ys : List Bool) → asides (xs ++ ys) ≡ asides xs ++ asides ys
asides_append [] ys = refl
asides_append (x ∷ xs) ys = ap (λ (l : Text). aside x ++ l) (asides_append xs ys) ∙ sym (append_assoc (aside x) (asides xs) (asides ys))

pub are_asides : (s t : Text) → AreAsides s → AreAsides t → AreAsides (s ++ t)
are_asides s t x y = (x.0 ++ y.0, ap₂ (λ (a b : Text). a ++ b) x.1 y.1 ∙ sym (asides_append x.0 y.0))

pub gets_none : (a : Held) → GetsAsides a a
gets_none a = ([], ([], refl), Appends-nil a)

pub gets_one : (which : Bool) (a b : Held) → Appends a b (aside which) → GetsAsides a b
gets_one which a b x = (aside which, (which ∷ [], sym (append_nil (aside which))), x)

pub gets_on_ok : {T E : Type 0} (r : Result T E) (which : Bool) (a b : Held) → OnOk r (Appends a b (aside which)) → OnOk r (GetsAsides a b)
gets_on_ok (Ok t) which a b x = gets_one which a b x
gets_on_ok (Err e) which a b x = tt

pub keeps_on_ok : {T E : Type 0} (r : Result T E) (which : Bool) (a b c : Held) → Appends a b (aside which) → Keeps b c → OnOk r (GetsAsides a c)
keeps_on_ok (Ok t) which a b c x y = gets_one which a c (Appends-keeps a b c (aside which) x y)
keeps_on_ok (Err e) which a b c x y = tt

-- ---- the line of a fault

pub reports_line : (k : ℕ) (fault : InputFault) (line : Text) (a b c : Held) → IsReported k (Some fault) line → Appends a b line → Keeps b c → GetsReport k (Some fault) a c
reports_line k fault line a b c is x y = (line, is, Appends-keeps a b c line x y)

pub reports_none : (k : ℕ) (a : Held) → GetsReport k None a a
reports_none k a = ([], refl, Appends-nil a)

-- ---- the end of a run

not_one : (status : ℕ) → status ≡ 1 → status ≡ 0 → ⊥
not_one status one zero = cc

module _ (names : Text × Text) (t u : Bool) (old new : Seen) (status : ℕ) where
  own_told : (own : ℕ) → ClosesAs names t u (comes_to (has_status own)) old new status → status ≡ 0 → Appends old.err new.err []
  own_told own (inl well) zero = well.line
  own_told own (inr (inl memory)) zero = absurd (not_five status memory.0 zero)
  own_told own (inr (inr (inl refuses))) zero = absurd (not_one status refuses.0 zero)
  own_told own (inr (inr (inr refuses))) zero = absurd (not_one status refuses.0 zero)

  -- a run that is closed with status 0 gets no line of a fault
  pub closed_told : (ended : Result ℕ Stop) → Closes names t u (course_of ended) old new status → status ≡ 0 → Appends old.err new.err []
  closed_told (Ok own) h zero = own_told own h.1 zero
  closed_told (Err stop) h zero =
      let none : ⊥ = closed_done names t u old new status (Err stop) tt h zero in
      absurd none

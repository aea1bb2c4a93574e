-- A plan that was read with the text that comes with it.
use Rattle.std.proofs.Common.{◌≡◌, ◌&&◌, inl, ℕ, true, false, List, [], ◌∷◌, Option, Some, None, Result, Ok, Err, Vec, IfSome, ap, option_map, subst}
use Rattle.std.specs.Prelude.{IsErrAnd}
use Rattle.std.specs.declared.alloc.Global.{Global}
use Rattle.mx_plan.specs.Text.{Text}
use Rattle.mx_plan.specs.declared.needs.Needs.{Needs}
use Rattle.mx_cli.specs.declared.faults.Named.TheVariants.{Plan}
use Rattle.mx_cli.specs.declared.planning.PlanAndText.{PlanAndText}
use Rattle.mx_cli.specs.declared.stop.Stop.{Stop}
use Rattle.mx_cli.specs.Asked.{AsksBoth, AsksInTurn}
use Rattle.mx_cli.specs.Reading.{Fetches, ReadsBoth, is_dash, line_of, plan_told, rest_of, text_told}
use Rattle.mx_io.specs.Told.{Asks, Telling}

-- what the exit of a `?` returns
pub err_is : {T E : Type 0} (r : Result T E) (s : E) → IsErrAnd r (λ e. e ≡ s) → r ≡ Err s
err_is (Ok t) s h = absurd h
err_is (Err e) s h = ap Err h

-- one text is both
one_both : (needs : Needs) (o : Option Telling) (one : Vec ℕ Global) (result : Result PlanAndText Stop) → IfSome o (λ telling. Fetches Plan telling (Ok one))
    → ReadsBoth needs (Some (line_of (Some one.items))) (Some (rest_of (Some one.items))) result → ReadsBoth needs (option_map line_of o) (option_map rest_of o) result
one_both needs None one (Ok both) fetched h = (tt, tt)
one_both needs None one (Err end) fetched h = inl tt
one_both needs (Some None) one result fetched h = absurd fetched
one_both needs (Some (Some bytes)) one result fetched h = subst (λ (l : List ℕ). ReadsBoth needs (Some (line_of (Some l))) (Some (rest_of (Some l))) result) fetched h

pub one_read : (needs : Needs) (o : Option Telling) (one : Vec ℕ Global) (bytes : List ℕ) (result : Result PlanAndText Stop) → IfSome o (λ telling. Fetches Plan telling (Ok one)) → bytes ≡ one.items
    → ReadsBoth needs (Some (line_of (Some bytes))) (Some (rest_of (Some bytes))) result → ReadsBoth needs (option_map line_of o) (option_map rest_of o) result
one_read needs o one bytes result fetched is h =
    one_both needs o one result fetched (subst (λ (l : List ℕ). ReadsBoth needs (Some (line_of (Some l))) (Some (rest_of (Some l))) result) is h)

module _ (needs : Needs) (told : Text → Option Telling) (names : Text × Text) (result : Result PlanAndText Stop) where
  -- by whether both names are standard input
  pub dashes_read : (is_dash names.0 && is_dash names.1) ≡ true → ReadsBoth needs (option_map line_of (told names.0)) (option_map rest_of (told names.0)) result
      → ReadsBoth needs (plan_told told names) (text_told told names) result
  dashes_read both h = rw both h

  pub names_read : (is_dash names.0 && is_dash names.1) ≡ false → ReadsBoth needs (told names.0) (told names.1) result
      → ReadsBoth needs (plan_told told names) (text_told told names) result
  names_read other h = rw other h

-- ---- the names that were asked for

module _ (names : Text × Text) (old new : Option (List Text)) (result : Result PlanAndText Stop) where
  pub dashes_asked : (is_dash names.0 && is_dash names.1) ≡ true → Asks old new (names.0 ∷ []) → AsksBoth names old new result
  dashes_asked both h = rw both h

  pub names_asked : (is_dash names.0 && is_dash names.1) ≡ false → AsksInTurn names old new result → AsksBoth names old new result
  names_asked other h = rw other h

-- What a recorder is told of the events of a script.
use Rattle.std.proofs.Common.{◌≡◌, ◌++◌, List, [], ◌∷◌, inl, inr, subst}
use Rattle.mx_nodelaws.specs.Core.{Core}
use Rattle.mx_scripts.specs.States.{IsNotApplied, RunState}
use Rattle.mx_scripts.specs.Told.{IsTold, IsToldUnlessMemory}
use Rattle.mx_scripts.specs.declared.line_failure.LineFailure.{LineFailure}
use Rattle.mx_scripts.specs.declared.state.SessionEvent.{SessionEvent}
use Rattle.mx_scripts.specs.declared.state.SessionEvent.TheVariants.{Happens, IsLost, LinksChange}

module _ {K H S M : Type 0} (core : Core H S M) (noted : K → SessionEvent → RunState S M → RunState S M → K → Type 0) where
  -- more events are told after the first
  pub told_append : (es fs : List SessionEvent) (old mid new : RunState S M) (first next last : K) → IsTold core noted es old mid first next → IsTold core noted fs mid new next last
      → IsTold core noted (es ++ fs) old new first last
  told_append [] fs old mid new first next last x y =
      subst (λ (s : RunState S M). IsTold core noted fs s new first last) x.0 (subst (λ (k : K). IsTold core noted fs mid new k last) x.1 y)
  told_append (e ∷ es) fs old mid new first next last x y = (x.0, x.1, x.2, x.3, x.4, told_append es fs x.0 mid new x.1 next last x.5 y)

  -- an event that does not happen is not told
  pub untold : (e : SessionEvent) (old new : RunState S M) (first last : K) (why : LineFailure) → IsNotApplied core old e new why → last ≡ first → IsToldUnlessMemory core noted old new first last why
  untold (Happens e) old new first last why x same = elim x [
    | inl memory ↦ inl memory
    | inr refused ↦ inr ([], (refused.0, same))
  ]
  untold (IsLost k) old new first last why x same = elim x [
    | inl memory ↦ inl memory
    | inr refused ↦ absurd refused
  ]
  untold (LinksChange change) old new first last why x same = elim x [
    | inl memory ↦ inl memory
    | inr refused ↦ absurd refused
  ]

  -- a part that was told, after another one
  pub told_on : (es : List SessionEvent) (old mid new : RunState S M) (first next last : K) (why : LineFailure) → IsTold core noted es old mid first next → IsToldUnlessMemory core noted mid new next last why
      → IsToldUnlessMemory core noted old new first last why
  told_on es old mid new first next last why x y = elim y [
    | inl memory ↦ inl memory
    | inr rest ↦ inr (es ++ rest.0, told_append es rest.0 old mid new first next last x rest.1)
  ]

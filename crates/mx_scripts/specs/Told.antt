-- What a recorder is told of the events of a script.
use Rattle.std.specs.Prelude.{ℕ, ◌≡◌, ◌⊎◌, List, [], ◌∷◌, length}
use Rattle.mx_nodelaws.specs.Core.{Core}
use Rattle.mx_scripts.specs.States.{Brings, IsAllowed, RunState}
use Rattle.mx_scripts.specs.declared.line_failure.LineFailure.{LineFailure}
use Rattle.mx_scripts.specs.declared.line_failure.LineFailure.TheVariants as failure
use Rattle.mx_scripts.specs.declared.state.SessionEvent.{SessionEvent}

-- the event led to this state, and sent the parcels from the number `before` on
abbrev pub IsBroughtTo : {H S M : Type 0} → Core H S M → SessionEvent → ℕ → RunState S M → Type 0
IsBroughtTo {H} {S} {M} core event before new =
    (old : RunState S M) × Brings core old event new × (before ≡ length old.cluster.sent)

module _ {K H S M : Type 0} (core : Core H S M)
    (noted : K → SessionEvent → RunState S M → RunState S M → K → Type 0) where
  -- these events happen in turn, each in a state that allows it, and lead from one state to another.
  -- A recorder is told of each once, in order, and so becomes `last`
  abbrev pub IsTold : List SessionEvent → RunState S M → RunState S M → K → K → Type 0
  IsTold [] old new recorder last = (new ≡ old) × (last ≡ recorder)
  IsTold (e ∷ es) old new recorder last =
      (mid : RunState S M) × (next : K) × IsAllowed old e × Brings core old e mid
      × noted recorder e old mid next × IsTold es mid new next last

  -- the recorder was told of each event between the two states, unless memory ran out
  abbrev pub IsToldUnlessMemory : RunState S M → RunState S M → K → K → LineFailure → Type 0
  IsToldUnlessMemory old new recorder last why =
      (why ≡ failure.Memory) ⊎ ((es : List SessionEvent) × IsTold es old new recorder last)

-- The acts of a member, their results, and when they are possible.
use Rattle.std.specs.Prelude.{ℕ, ◌<◌, ◌≡◌, ◌↔◌, ◌++◌, IfOk, List, [], OnErr, Result, Err}
use Rattle.mx_stamps.specs.Lists.{IsIn}
use Rattle.mx_nodelaws.specs.World.{Done, answering, quietly, sent_by}
use Rattle.mx_nodelaws.specs.Core.{Core}
use Rattle.mx_member.specs.declared.acts.Act.{Act}
use Rattle.mx_member.specs.declared.acts.Act.TheVariants as act
use Rattle.mx_member.specs.declared.acts.Answer.{Answer}
use Rattle.mx_member.specs.declared.acts.Answer.TheVariants as answer
use Rattle.mx_member.specs.declared.parcel.Parcel.{Parcel}
use Rattle.mx_member.specs.Member.{BringsUnknown, MemberState}
use Rattle.mx_member.specs.Steps.{IsTakeable, LacksItsRecord, ask_of, enter_of, read_of, write_of, leave_of, cancel_of, settle_of, tick_of, want_of, take_of, restart_of}

abbrev pub act_of : {H S M : Type 0} → Core H S M → Act M → MemberState S →
    Done (MemberState S) Answer (Parcel M)
act_of core act.Ask m = answering (ask_of core m) (answer.Asked (ask_of core m).answer)
act_of core act.Enter m =
    answering (quietly (enter_of core m)) (answer.Entered (enter_of core m).answer)
act_of core (act.Read register) m =
    answering (quietly (read_of core register m)) (answer.Read (read_of core register m).answer)
act_of core (act.Write register value) m =
    answering (quietly (write_of core register value m))
    (answer.Written (write_of core register value m).answer)
act_of core act.Leave m = answering (leave_of core m) (answer.Left (leave_of core m).answer)
act_of core act.Cancel m = answering (cancel_of core m) (answer.Cancelled (cancel_of core m).answer)
act_of core (act.Settle k) m =
    answering (quietly (settle_of k m)) (answer.Settled (settle_of k m).answer)
act_of core act.Tick m = answering (tick_of core m) answer.Ticked
act_of core (act.Want to) m = answering (want_of core to m) answer.Wanted
act_of core (act.Deliver from parcel) m = answering (take_of core from parcel m) answer.Delivered
act_of core act.Restart m =
    record { state = restart_of core m; answer = answer.Woken; letters = [] }

abbrev pub IsDoable : {S M : Type 0} → Act M → MemberState S → Type 0
IsDoable (act.Deliver from parcel) m = IsTakeable from parcel m
IsDoable _ m = Unit {0}

-- the act may need memory: the node leaves a section that its journal does not cover, or a
-- delivered parcel has a record of such a section
abbrev pub NeedsMemory : {H S M : Type 0} → Core H S M → Act M → MemberState S → Type 0
NeedsMemory core act.Leave m = LacksItsRecord core m
NeedsMemory core (act.Deliver from parcel) m = BringsUnknown parcel m.journal
NeedsMemory core _ m = ⊥

abbrev pub IsRefusal : Answer → Type 0
IsRefusal (answer.Asked (Err fault)) = Unit {0}
IsRefusal (answer.Entered (Err fault)) = Unit {0}
IsRefusal (answer.Read (Err fault)) = Unit {0}
IsRefusal (answer.Written (Err fault)) = Unit {0}
IsRefusal (answer.Left (Err fault)) = Unit {0}
IsRefusal (answer.Cancelled (Err fault)) = Unit {0}
IsRefusal (answer.Settled (Err fault)) = Unit {0}
IsRefusal _ = ⊥

-- if the act returns a result, the member, the result and the parcels are those of the act; if
-- not, it may need memory, the member is unchanged, and nothing is sent
pub record IsPerformed {H S M F : Type 0} (core : Core H S M) (a : Act M) (old new : MemberState S)
    (out : List (ℕ × Parcel M)) (r : Result Answer F) : Type 0 where
  pub state : IfOk r (λ answer. new ≡ (act_of core a old).state)
  pub answer : IfOk r (λ answer. answer ≡ (act_of core a old).answer)
  pub letters : IfOk r (λ answer. out ≡ (act_of core a old).letters)
  pub memory : OnErr r (NeedsMemory core a old)
  pub err : OnErr r (new ≡ old)
  pub quiet : OnErr r (out ≡ [])

-- node i may do this act, in a cluster with this number of nodes and these parcels sent: a
-- delivered parcel was sent to node i, and a want goes to one of the nodes
abbrev pub Arrives : {M : Type 0} → ℕ → List (ℕ × ℕ × Parcel M) → ℕ → Act M → Type 0
Arrives nodes sent i (act.Want to) = to < nodes
Arrives nodes sent i (act.Deliver from parcel) = IsIn (from, i, parcel) sent
Arrives nodes sent i _ = Unit {0}

-- `grown` has exactly what was sent before and what node i sends now, in any order
abbrev pub Grows : {P : Type 0} → List (ℕ × ℕ × P) → ℕ → List (ℕ × P) → List (ℕ × ℕ × P) → Type 0
Grows {P} sent i letters grown = (x : ℕ × ℕ × P) → IsIn x (sent ++ sent_by i letters) ↔ IsIn x grown

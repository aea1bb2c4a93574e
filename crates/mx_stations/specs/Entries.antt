use Rattle.std.specs.Prelude.{ℕ, List, Option}
use Rattle.mx_journal.specs.declared.receipts.Receipt.{Receipt}
use Rattle.mx_member.specs.declared.parcel.Parcel.{Parcel}
use Rattle.mx_member.specs.Member.{MemberState}
use Rattle.mx_member.specs.Running.{Owned}

-- what the node is moving: nothing, a parcel into this slot, which it has claimed (`Writing`), or a
-- parcel out of this slot, which it has taken (`Reading`)
pub data Stage : Type 0 where
  Idle : Stage
  Writing : ℕ → Stage
  Reading : ℕ → Stage

-- What a seat knows about one node. A parcel is in `sent` with its addressee, in `hand` with its
-- sender, and in `placed` and `taken` with the slot.
pub record Entry (T P : Type 0) : Type 0 where
  pub node : ℕ
  pub member : T
  pub receipts : List Receipt
  pub sent : List (ℕ × P)
  pub hand : Option (ℕ × P)
  pub stage : Stage
  pub placed : List (ℕ × P)
  pub taken : List (ℕ × P)

abbrev pub Node : Type 0 → Type 0 → Type 0
Node S M = Entry (MemberState S) (Parcel M)

abbrev pub owned_of : {S M : Type 0} → Node S M → Owned S
owned_of e = record { member = e.member; receipts = e.receipts }

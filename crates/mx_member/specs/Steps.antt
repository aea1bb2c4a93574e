use Rattle.std.specs.Prelude.{ℕ, ◌≡◌, ◌<◌, ◌++◌, ◌⊎◌, Bool, List, [], ◌∷◌, Result, Ok, Err, length, max, min, nat_lt, nat_le, take, unwrap_or, if◌then◌else◌}
use Rattle.std.specs.List.{list_any}
use Rattle.mx_stamps.specs.declared.stamp.Stamp.{Stamp}
use Rattle.mx_nodelaws.specs.World.{Done, Quiet}
use Rattle.mx_nodelaws.specs.Core.{Core}
use Rattle.mx_nodelaws.specs.declared.phase.Phase.{Phase}
use Rattle.mx_nodelaws.specs.declared.phase.Phase.TheVariants.{Idle, Waiting, Inside}
use Rattle.mx_nodelaws.specs.declared.faults.AskFault.{AskFault}
use Rattle.mx_nodelaws.specs.declared.faults.CancelFault.{CancelFault}
use Rattle.mx_nodelaws.specs.declared.faults.EnterFault.{EnterFault}
use Rattle.mx_nodelaws.specs.declared.faults.LeaveFault.{LeaveFault}
use Rattle.mx_nodelaws.specs.declared.faults.LeaveFault.TheVariants as leave
use Rattle.mx_journal.specs.declared.ranges.Range.{Range}
use Rattle.mx_journal.specs.declared.records.Record.{Record}
use Rattle.mx_journal.specs.declared.receipts.Receipt.{Receipt}
use Rattle.mx_journal.specs.declared.settlement.SettleFault.{SettleFault}
use Rattle.mx_journal.specs.declared.settlement.SettleFault.TheVariants as settle
use Rattle.mx_journal.specs.Agreement.{IsConsistent, IsFirstConflict}
use Rattle.mx_journal.specs.Bases.{AreOpposed}
use Rattle.mx_journal.specs.Drafted.{last_value, with_read, with_write, receipt_of, record_of, fresh}
use Rattle.mx_journal.specs.Records.{IsNumbered, IsThere, below}
use Rattle.mx_journal.specs.Settled.{Covers, JournalState, beyond, settled, unsettled, with_base, with_list}
use Rattle.mx_merge.specs.Missing.{gaps_in, in_ranges}
use Rattle.mx_registers.specs.declared.contents.Content.{Content}
use Rattle.mx_registers.specs.Based.{cell_in}
use Rattle.mx_registers.specs.Registers.{after_records}
use Rattle.mx_member.specs.declared.parcel.Parcel.{Parcel}
use Rattle.mx_member.specs.declared.parcel.Parcel.TheVariants.{Guard, Want, Base, Records}
use Rattle.mx_member.specs.declared.faults.ReadFault.{ReadFault}
use Rattle.mx_member.specs.declared.faults.ReadFault.TheVariants as read
use Rattle.mx_member.specs.declared.faults.WriteFault.{WriteFault}
use Rattle.mx_member.specs.declared.faults.WriteFault.TheVariants as write
use Rattle.mx_member.specs.Member.{MemberState, first_gap, with_core, with_draft, with_journal, guarded}

-- a step of the core; draft and journal are unchanged
abbrev pub core_step : {S A M : Type 0} → MemberState S → Done S A M →
    Done (MemberState S) A (Parcel M)
core_step m done =
    record { state = with_core done.state m; answer = done.answer; letters = guarded done.letters }

abbrev pub refusing : {S A F : Type 0} → MemberState S → F → Quiet (MemberState S) (Result A F)
refusing m fault = record { state = m; answer = Err fault }

-- the member after an enter with this result: if the node entered, the draft is empty
abbrev pub entered : {S : Type 0} → Result ℕ EnterFault → MemberState S → MemberState S
entered (Ok n) m = with_draft fresh m
entered (Err fault) m = m

-- the contents of a register after the sections below n, if the journal's base is below n
abbrev pub register_below : ℕ → ℕ → JournalState → Content
register_below register n journal =
    after_records register (below n journal.records) (cell_in register journal.base)

-- the value of a register inside section n: that of the draft's last write to the register, or
-- otherwise the register's value after the sections below n
abbrev pub shown_inside : {S : Type 0} → ℕ → ℕ → MemberState S → ℕ
shown_inside register n m =
    unwrap_or (last_value register m.draft.writes) (register_below register n m.journal).value

-- the fault of a read inside a section that the base covers: Full if the draft has eight reads, and
-- otherwise Settled
abbrev pub settled_fault : ℕ → ℕ → ReadFault
settled_fault reads upto = if nat_le 8 reads then read.Full else read.Settled upto

-- a read inside section n: the journal must cover all sections below n, and its base must not cover
-- n
abbrev pub read_inside : {S : Type 0} → ℕ → ℕ → MemberState S →
    Quiet (MemberState S) (Result ℕ ReadFault)
read_inside register n m =
    if nat_le m.setting.registers register then refusing m read.NoRegister
    else (if nat_lt (first_gap m.journal) n then refusing m (read.Gap (first_gap m.journal))
    else (if nat_le 8 (length m.draft.reads) then refusing m read.Full
    else (if nat_le n m.journal.base.upto then refusing m (read.Settled m.journal.base.upto)
    else record {
      state = with_draft (with_read register (shown_inside register n m) m.draft) m;
      answer = Ok (shown_inside register n m);
    })))

abbrev pub write_inside : {S : Type 0} → ℕ → ℕ → MemberState S →
    Quiet (MemberState S) (Result (Unit {0}) WriteFault)
write_inside register value m =
    if nat_le m.setting.registers register then refusing m write.NoRegister
    else (if nat_le 8 (length m.draft.writes) then refusing m write.Full
    else record { state = with_draft (with_write register value m.draft) m; answer = Ok tt })

abbrev pub want_to : {M : Type 0} → ℕ → List Range → List (ℕ × Parcel M)
want_to i [] = []
want_to i (r ∷ rs) = (i, Want (record { items = r ∷ rs })) ∷ []

abbrev pub records_to : {M : Type 0} → ℕ → List Record → List (ℕ × Parcel M)
records_to i [] = []
records_to i (r ∷ rs) = (i, Records (record { items = r ∷ rs })) ∷ []

-- whether the range contains one of the numbers 1 to k
abbrev pub reaches : ℕ → Range → Bool
reaches k range = nat_le (max range.first 1) (min range.last k)

-- a parcel with the base to node i, if the base covers a number in the ranges
abbrev pub base_to : {M : Type 0} → ℕ → List Range → JournalState → List (ℕ × Parcel M)
base_to i ranges journal =
    if list_any (reaches journal.base.upto) ranges then (i, Base journal.base) ∷ [] else []

-- the reply to a want of node i: the base, if it covers a number in the ranges, and then up to four
-- records with numbers in the ranges
abbrev pub answers_to : {M : Type 0} → ℕ → List Range → JournalState → List (ℕ × Parcel M)
answers_to i ranges journal =
    base_to i ranges journal ++ records_to i (take 4 (in_ranges ranges journal.records))

-- the records can be put into the journal: none has the number 0, and those above the base agree
-- with the journal and with one another
abbrev pub ArePuttable : List Record → JournalState → Type 0
ArePuttable records journal =
    IsNumbered records × IsConsistent (journal.records ++ beyond journal.base.upto records)

-- the journal can take the contents of the parcel
abbrev pub IsAcceptable : {M : Type 0} → Parcel M → JournalState → Type 0
IsAcceptable (Guard letter) journal = Unit {0}
IsAcceptable (Want ranges) journal = Unit {0}
IsAcceptable (Base base) journal = journal.base.upto ≡ base.upto → journal.base ≡ base
IsAcceptable (Records records) journal = ArePuttable records.items journal

-- the journal cannot take the contents of the parcel, and n says why: n is the `upto` of a base
-- that differs from the journal's base of the same sections; 0 if a record has the number 0;
-- otherwise the least number that two differing records share
abbrev pub IsDisputed : {M : Type 0} → ℕ → Parcel M → JournalState → Type 0
IsDisputed n (Guard letter) journal = ⊥
IsDisputed n (Want ranges) journal = ⊥
IsDisputed n (Base base) journal = (n ≡ base.upto) × AreOpposed journal.base base
IsDisputed n (Records records) journal =
    ((n ≡ 0) × IsThere 0 records.items)
    ⊎ (IsNumbered records.items
    × IsFirstConflict n (journal.records ++ beyond journal.base.upto records.items))

-- the member can take this parcel from this sender: the sender is a node of the cluster, and the
-- journal can take the contents
abbrev pub IsTakeable : {S M : Type 0} → ℕ → Parcel M → MemberState S → Type 0
IsTakeable from parcel m = (from < m.setting.nodes) × IsAcceptable parcel m.journal

-- settle: the registers after sections 1 to k replace the records of these sections. It is refused
-- if the base covers more sections than these, or if the journal lacks one of these
abbrev pub settle_of : {S : Type 0} → ℕ → MemberState S →
    Quiet (MemberState S) (Result (Unit {0}) SettleFault)
settle_of k m =
    if nat_lt k m.journal.base.upto then refusing m (settle.Below m.journal.base.upto)
    else (if nat_le (first_gap m.journal) k then refusing m (settle.Gap (first_gap m.journal))
    else record { state = with_journal (settled k m.journal) m; answer = Ok tt })

module _ {H S M : Type 0} (core : Core H S M) where
  abbrev pub ask_of : MemberState S → Done (MemberState S) (Result Stamp AskFault) (Parcel M)
  ask_of m = core_step m (core.ask m.core)

  abbrev pub tick_of : MemberState S → Done (MemberState S) (Unit {0}) (Parcel M)
  tick_of m = core_step m (core.tick m.core)

  abbrev pub cancel_of : MemberState S →
      Done (MemberState S) (Result (Unit {0}) CancelFault) (Parcel M)
  cancel_of m = core_step m (core.cancel m.core)

  abbrev pub enter_of : MemberState S → Quiet (MemberState S) (Result ℕ EnterFault)
  enter_of m =
      record {
        state = entered (core.enter m.core).answer (with_core (core.enter m.core).state m);
        answer = (core.enter m.core).answer;
      }

  abbrev pub read_at : ℕ → MemberState S → Phase → Quiet (MemberState S) (Result ℕ ReadFault)
  read_at register m Idle = refusing m read.NotInside
  read_at register m Waiting = refusing m read.NotInside
  read_at register m (Inside n) = read_inside register n m

  abbrev pub read_of : ℕ → MemberState S → Quiet (MemberState S) (Result ℕ ReadFault)
  read_of register m = read_at register m (core.phase m.core)

  abbrev pub write_at : ℕ → ℕ → MemberState S → Phase →
      Quiet (MemberState S) (Result (Unit {0}) WriteFault)
  write_at register value m Idle = refusing m write.NotInside
  write_at register value m Waiting = refusing m write.NotInside
  write_at register value m (Inside n) = write_inside register value m

  abbrev pub write_of : ℕ → ℕ → MemberState S → Quiet (MemberState S) (Result (Unit {0}) WriteFault)
  write_of register value m = write_at register value m (core.phase m.core)

  -- the node leaves section n: the result is the receipt of the draft, and its record joins the
  -- journal, unless the journal covers n already
  abbrev pub left : ℕ → MemberState S → Done (MemberState S) (Result Receipt LeaveFault) (Parcel M)
  left n m = record {
    state = record {
      setting = m.setting;
      core = (core.leave m.core).state;
      journal = with_list (record_of (receipt_of n m.setting.me m.draft) ∷ []) m.journal;
      draft = fresh;
    };
    answer = Ok (receipt_of n m.setting.me m.draft);
    letters = guarded (core.leave m.core).letters;
  }

  -- the member is inside, and its journal does not cover the section
  abbrev pub LacksItsRecord : MemberState S → Type 0
  LacksItsRecord m = (n : ℕ) × (core.phase m.core ≡ Inside n) × (Covers n m.journal → ⊥)

  abbrev pub leave_at : MemberState S → Phase →
      Done (MemberState S) (Result Receipt LeaveFault) (Parcel M)
  leave_at m Idle = record { state = m; answer = Err leave.NotInside; letters = [] }
  leave_at m Waiting = record { state = m; answer = Err leave.NotInside; letters = [] }
  leave_at m (Inside n) = left n m

  abbrev pub leave_of : MemberState S → Done (MemberState S) (Result Receipt LeaveFault) (Parcel M)
  leave_of m = leave_at m (core.phase m.core)

  -- the node asks node `to` for the sections that the journal lacks, in at most eight ranges
  abbrev pub want_of : ℕ → MemberState S → Done (MemberState S) (Unit {0}) (Parcel M)
  want_of to m =
      record {
        state = m;
        answer = tt;
        letters = want_to to (take 8 (gaps_in m.setting.limit m.journal));
      }

  -- the member takes a parcel: a letter goes to the core; a want gets a reply (answers_to); a base
  -- or records join the journal
  abbrev pub take_of : ℕ → Parcel M → MemberState S → Done (MemberState S) (Unit {0}) (Parcel M)
  take_of from (Guard letter) m = core_step m (core.deliver from letter m.core)
  take_of from (Want ranges) m =
      record { state = m; answer = tt; letters = answers_to from ranges.items m.journal }
  take_of from (Base base) m =
      record { state = with_journal (with_base base m.journal) m; answer = tt; letters = [] }
  take_of from (Records records) m =
      record {
        state = with_journal (with_list records.items m.journal) m;
        answer = tt;
        letters = [];
      }

  -- a node restarts: core and journal are unchanged, and the draft is emptied
  abbrev pub restart_of : MemberState S → MemberState S
  restart_of m = with_draft fresh m

  abbrev pub start_of : H → ℕ → ℕ → ℕ → ℕ → MemberState S
  start_of shape me origin limit registers = record {
    setting = record { me = me; nodes = core.count shape; limit = limit; registers = registers };
    core = core.start shape me origin limit;
    journal = unsettled [];
    draft = fresh;
  }

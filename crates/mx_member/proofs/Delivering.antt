-- What the answer to a delivery says of what the parcel brings.
use Rattle.std.proofs.Common.{ℕ, ◌<◌, ◌≤◌, ◌≡◌, ◌↔◌, ◌++◌, ◌⊎◌, inl, inr, List, Result, Ok, Err, IsOk, refl, sym, ◌∙◌, ap, subst, arith}
use Rattle.mx_journal.specs.declared.ranges.Range.{Range}
use Rattle.mx_journal.specs.declared.records.Record.{Record}
use Rattle.mx_journal.specs.declared.puts.PutFault.{PutFault}
use Rattle.mx_journal.specs.declared.puts.PutFault.TheVariants as put
use Rattle.arrayvec.specs.ArrayVec.{ArrayVec}
use Rattle.mx_journal.specs.declared.settlement.BaseFault.{BaseFault}
use Rattle.mx_journal.specs.declared.settlement.BaseFault.TheVariants as base
use Rattle.mx_journal.specs.Agreement.{IsConsistent, IsFirstConflict}
use Rattle.mx_journal.specs.Bases.{AreOpposed, BaseState}
use Rattle.mx_journal.specs.Records.{IsNumbered, IsThere}
use Rattle.mx_journal.specs.Settled.{BringsUncovered, JournalState, beyond}
use Rattle.mx_journal.proofs.Answering.{not_consistent, not_numbered, one_first}
use Rattle.mx_member.specs.declared.faults.DeliverFault.{DeliverFault}
use Rattle.mx_member.specs.declared.faults.DeliverFault.TheVariants as deliver
use Rattle.mx_member.specs.declared.parcel.Parcel.{Parcel}
use Rattle.mx_member.specs.declared.parcel.Parcel.TheVariants.{Guard, Want, Base, Records}
use Rattle.mx_member.specs.Faults.{base_fault_of, fault_of}
use Rattle.mx_member.specs.Member.{BringsUnknown, MemberState}
use Rattle.mx_member.specs.Steps.{IsAcceptable, IsDisputed}

-- the answer names the conflict that there is, and is otherwise that the parcel is taken
abbrev pub Tells : {M : Type 0} → Result (Unit {0}) DeliverFault → ℕ → ℕ → Parcel M → JournalState → Type 0
Tells r nodes from parcel journal =
    ((n : ℕ) → (r ≡ Err (deliver.Conflict n)) ↔ ((from < nodes) × IsDisputed n parcel journal))
    × ((IsOk r ⊎ (r ≡ Err deliver.Memory)) ↔ ((from < nodes) × IsAcceptable parcel journal))

-- the same of the whole member, and of the parcel in hand
pub told : {S M : Type 0} (r : Result (Unit {0}) DeliverFault) (from : ℕ) (kind parcel : Parcel M) (fields m : MemberState S) → fields ≡ m → parcel ≡ kind → Tells r fields.setting.nodes from kind fields.journal → Tells r m.setting.nodes from parcel m.journal
told {S} {M} r from kind parcel fields m same is h =
    subst (λ (x : MemberState S). Tells r x.setting.nodes from parcel x.journal) same
    (subst (λ (p : Parcel M). Tells r fields.setting.nodes from p fields.journal) (sym is) h)

-- what can be taken is not disputed
not_disputed : {M : Type 0} (n : ℕ) (parcel : Parcel M) (journal : JournalState) → IsAcceptable parcel journal → IsDisputed n parcel journal → ⊥
not_disputed n (Guard letter) journal p h = h
not_disputed n (Want ranges) journal p h = h
not_disputed n (Base base) journal p h = h.1.1 (p h.1.0)
not_disputed n (Records records) journal p (inl h) = not_numbered records.items h.1 p.0
not_disputed n (Records records) journal p (inr h) = not_consistent n (journal.records ++ beyond journal.base.upto records.items) h.1 p.1

ok_tells : (M : Type 0) (nodes from : ℕ) (parcel : Parcel M) (journal : JournalState) → from < nodes → IsAcceptable parcel journal → Tells (Ok tt) nodes from parcel journal
ok_tells M nodes from parcel journal l p =
    ((λ n. ((λ e. absurd (let bad : ⊥ = cc in bad)), (λ h. absurd (not_disputed n parcel journal p h.1)))), ((λ _. (l, p)), (λ _. inl refl)))

-- letters and wants always can, and a base and records where the journal says so
pub letter_tells : (M : Type 0) (nodes from : ℕ) (letter : M) (journal : JournalState) → from < nodes → Tells (Ok tt) nodes from (Guard letter) journal
letter_tells M nodes from letter journal l = ok_tells M nodes from (Guard letter) journal l tt

pub want_tells : (M : Type 0) (nodes from : ℕ) (ranges : ArrayVec Range) (journal : JournalState) → from < nodes → Tells {M = M} (Ok tt) nodes from (Want ranges) journal
want_tells M nodes from ranges journal l = ok_tells M nodes from (Want ranges) journal l tt

pub based_tells : (M : Type 0) (nodes from : ℕ) (other : BaseState) (journal : JournalState) → from < nodes → (journal.base.upto ≡ other.upto → journal.base ≡ other) → Tells {M = M} (Ok tt) nodes from (Base other) journal
based_tells M nodes from other journal l p = ok_tells M nodes from (Base other) journal l p

pub put_tells : (M : Type 0) (nodes from : ℕ) (records : ArrayVec Record) (journal : JournalState) → from < nodes → IsNumbered records.items × IsConsistent (journal.records ++ beyond journal.base.upto records.items) → Tells {M = M} (Ok tt) nodes from (Records records) journal
put_tells M nodes from records journal l p = ok_tells M nodes from (Records records) journal l p

abbrev refused : PutFault → Result ℕ PutFault
refused fault = Err fault

abbrev answered : DeliverFault → Result (Unit {0}) DeliverFault
answered fault = Err fault

-- a conflict does not mean that memory ran out
conflict_apart : (k : ℕ) → IsOk (answered (deliver.Conflict k)) ⊎ (answered (deliver.Conflict k) ≡ Err deliver.Memory) → ⊥
conflict_apart k (inl e) = let bad : ⊥ = cc in bad
conflict_apart k (inr e) = let bad : ⊥ = cc in bad

-- a refusal of records by the journal, as the member tells it
pub fault_tells : (M : Type 0) (fault : PutFault) (nodes from : ℕ) (records : ArrayVec Record) (journal : JournalState) → from < nodes →
    ((refused fault ≡ Err put.ZeroNumber) ↔ IsThere 0 records.items) →
    ((n : ℕ) → (refused fault ≡ Err (put.Conflict n)) ↔ (IsNumbered records.items × IsFirstConflict n (journal.records ++ beyond journal.base.upto records.items))) →
    ((IsOk (refused fault) ⊎ (refused fault ≡ Err put.Memory)) ↔ (IsNumbered records.items × IsConsistent (journal.records ++ beyond journal.base.upto records.items))) →
    Tells {M = M} (Err (fault_of fault)) nodes from (Records records) journal
fault_tells M put.ZeroNumber nodes from records journal l zero conflict agreed =
    let there : IsThere 0 records.items = zero.0 refl in (
      (λ n. (
        (λ e. (l, inl ((let q : n ≡ 0 = cc in q), there))),
        λ h. elim h.1 [
          | inl z ↦ ap (λ k. Err (deliver.Conflict k)) (sym z.0)
          | inr w ↦ absurd (not_numbered records.items there w.0)
        ],
      )),
      (
        (λ h. absurd (conflict_apart 0 h)),
        λ h. absurd (not_numbered records.items there h.1.0),
      ),
    )
fault_tells M put.Memory nodes from records journal l zero conflict agreed =
    let p = agreed.0 (inr refl) in (
      (λ n. ((λ e. absurd (let bad : ⊥ = cc in bad)), λ h. absurd (not_disputed {M = M} n (Records records) journal p h.1))),
      (
        (λ _. (l, p)),
        λ _. inr refl,
      ),
    )
fault_tells M (put.Conflict k) nodes from records journal l zero conflict agreed =
    let w = (conflict k).0 refl in
    let all : List Record = journal.records ++ beyond journal.base.upto records.items in (
      (λ n. (
        (λ e. (l, inr (w.0, subst (λ i. IsFirstConflict i all) (let q : k ≡ n = cc in q) w.1))),
        λ h. elim h.1 [
          | inl z ↦ absurd (not_numbered records.items z.1 w.0)
          | inr v ↦ ap (λ i. Err (deliver.Conflict i)) (one_first k n all w.1 v.1)
        ],
      )),
      (
        (λ h. absurd (conflict_apart k h)),
        λ h. absurd (not_consistent k all w.1 h.1.1),
      ),
    )

-- the same of records that were told as a list
pub fault_told : (M : Type 0) (fault : PutFault) (nodes from : ℕ) (records : ArrayVec Record) (list : List Record) (journal : JournalState) → list ≡ records.items → from < nodes →
    ((refused fault ≡ Err put.ZeroNumber) ↔ IsThere 0 list) →
    ((n : ℕ) → (refused fault ≡ Err (put.Conflict n)) ↔ (IsNumbered list × IsFirstConflict n (journal.records ++ beyond journal.base.upto list))) →
    ((IsOk (refused fault) ⊎ (refused fault ≡ Err put.Memory)) ↔ (IsNumbered list × IsConsistent (journal.records ++ beyond journal.base.upto list))) →
    Tells {M = M} (Err (fault_of fault)) nodes from (Records records) journal
fault_told M fault nodes from records list journal e l zero conflict agreed =
    fault_tells M fault nodes from records journal l
    (subst (λ q. (refused fault ≡ Err put.ZeroNumber) ↔ IsThere 0 q) e zero)
    (λ n. subst (λ q. (refused fault ≡ Err (put.Conflict n)) ↔ (IsNumbered q × IsFirstConflict n (journal.records ++ beyond journal.base.upto q))) e (conflict n))
    (subst (λ q. (IsOk (refused fault) ⊎ (refused fault ≡ Err put.Memory)) ↔ (IsNumbered q × IsConsistent (journal.records ++ beyond journal.base.upto q))) e agreed)

abbrev based : BaseFault → Result (Unit {0}) BaseFault
based fault = Err fault

-- a refusal of a base
pub base_tells : (M : Type 0) (fault : BaseFault) (nodes from : ℕ) (other : BaseState) (journal : JournalState) → from < nodes →
    ((n : ℕ) → (based fault ≡ Err (base.Conflict n)) ↔ ((n ≡ other.upto) × AreOpposed journal.base other)) →
    Tells {M = M} (Err (base_fault_of fault)) nodes from (Base other) journal
base_tells M (base.Conflict k) nodes from other journal l conflict =
    let w = (conflict k).0 refl in (
      (λ n. (
        (λ e. (l, ((let q : n ≡ k = cc in q) ∙ w.0, w.1))),
        λ h. ap (λ i. Err (deliver.Conflict i)) (w.0 ∙ sym h.1.0),
      )),
      (
        (λ h. absurd (conflict_apart k h)),
        λ h. absurd (w.1.1 (h.1 w.1.0)),
      ),
    )

pub stranger_tells : {M : Type 0} (nodes from : ℕ) (parcel : Parcel M) (journal : JournalState) → nodes ≤ from → (IsOk (answered deliver.Stranger) ⊎ (answered deliver.Stranger ≡ Err deliver.Memory)) ↔ ((from < nodes) × IsAcceptable parcel journal)
stranger_tells nodes from parcel journal l = (
  (λ h. elim h [
    | inl e ↦ absurd (let bad : ⊥ = cc in bad)
    | inr e ↦ absurd (let bad : ⊥ = cc in bad)
  ]),
  λ h. absurd (let k = h.0 in omega arith),
)

-- a refusal of the journal is never that the sender is a stranger
pub fault_known : (fault : PutFault) → answered (fault_of fault) ≡ Err deliver.Stranger → ⊥
fault_known put.ZeroNumber e = let bad : ⊥ = cc in bad
fault_known (put.Conflict n) e = let bad : ⊥ = cc in bad
fault_known put.Memory e = let bad : ⊥ = cc in bad

-- and it is that memory ran out only where that is the journal's
pub memory_known : (fault : PutFault) → answered (fault_of fault) ≡ Err deliver.Memory → refused fault ≡ Err put.Memory
memory_known put.ZeroNumber e = let bad : ⊥ = cc in absurd bad
memory_known (put.Conflict n) e = let bad : ⊥ = cc in absurd bad
memory_known put.Memory e = refl

-- which the records of a parcel bring about
pub brings_unknown : {S M : Type 0} (records : ArrayVec Record) (list : List Record) (parcel : Parcel M) (fields m : MemberState S) → fields ≡ m → parcel ≡ Records records → list ≡ records.items → BringsUncovered list fields.journal → BringsUnknown parcel m.journal
brings_unknown {S} {M} records list parcel fields m same is items w =
    subst (λ (x : MemberState S). BringsUnknown parcel x.journal) same
    (subst (λ (p : Parcel M). BringsUnknown p fields.journal) (sym is) (subst (λ l. BringsUncovered l fields.journal) items w))

pub base_fault_known : (fault : BaseFault) → answered (base_fault_of fault) ≡ Err deliver.Stranger → ⊥
base_fault_known (base.Conflict n) e = let bad : ⊥ = cc in bad

-- a refusal of a base is the same whatever would have been answered else
pub same_refusal : (A B P : Type 0) (f g : BaseFault) → ◌≡◌ {A = Result A BaseFault} (Err f) (Err g) ↔ P → ◌≡◌ {A = Result B BaseFault} (Err f) (Err g) ↔ P
same_refusal A B P f g h = (
  (λ e. h.0 (ap (λ (x : BaseFault). Err x) (let q : f ≡ g = cc in q))),
  (λ p. let e = h.1 p in ap (λ (x : BaseFault). Err x) (let q : f ≡ g = cc in q)),
)

use Rattle.std.proofs.Common.{ℕ, ◌≡◌, ◌≤◌, ◌<◌, ◌↔◌, ◌∙◌, ◌++◌, Result, Ok, Err, inl, refl, sym, ap, subst, arith}
use Rattle.mx_journal.specs.Agreement.{IsConsistent}
use Rattle.mx_journal.specs.Bases.{BaseState}
use Rattle.mx_journal.specs.Records.{IsNumbered}
use Rattle.mx_journal.specs.Settled.{JournalState, beyond}
use Rattle.mx_registers.specs.Based.{registers_from}
use Rattle.mx_member.specs.declared.faults.DeliverFault.{DeliverFault}
use Rattle.mx_member.specs.declared.faults.DeliverFault.TheVariants.{Conflict, Memory, Stranger}
use Rattle.mx_member.specs.declared.parcel.Parcel.{Parcel}
use Rattle.mx_member.specs.declared.parcel.Parcel.TheVariants.{Guard, Want, Base, Records}
use Rattle.mx_member.specs.Faults.{base_fault_of, fault_of}
use Rattle.mx_member.specs.Member.{IsViewOf, MemberState}
use Rattle.mx_member.specs.Steps.{IsDisputed}
use Rattle.mx_member.proofs.Refusing.{is_err, no_ok, where_err}
use Rattle.mx_member.proofs.Delivering.{Tells, base_fault_known, base_tells, based_tells, brings_unknown, fault_known, fault_told, letter_tells, memory_known, put_tells, stranger_tells, told, want_tells}
use Rattle.mx_member.proofs.Keeping.{shown_all}
use Rattle.mx_member.proofs.member.Member.receive.Goals as goal

-- what an answer says of strangers, and of memory
abbrev taken : Result (Unit {0}) DeliverFault
taken = Ok tt

abbrev refused : DeliverFault → Result (Unit {0}) DeliverFault
refused fault = Err fault

taken_known : (nodes from : ℕ) → from < nodes → (taken ≡ Err Stranger) ↔ (nodes ≤ from)
taken_known nodes from l = ((λ e. absurd (let bad : ⊥ = cc in bad)), λ h. absurd (omega arith))

taken_remembers : {P : Type 0} → taken ≡ Err Memory → P
taken_remembers e = absurd (let bad : ⊥ = cc in bad)

-- who is no stranger, by the number that the test reads, and by the member that a contract sees
heard : (from told nodes : ℕ) → told ≡ from → told < nodes → from < nodes
heard from told nodes same l = subst (λ n. n < nodes) same l

known : {S : Type 0} (from told : ℕ) (fields m : MemberState S) → fields ≡ m → told ≡ from → told < fields.setting.nodes → from < m.setting.nodes
known from told fields m is same l = subst (λ m. from < m.setting.nodes) is (subst (λ n. n < fields.setting.nodes) same l)

no_stranger : {P : Type 0} (nodes from : ℕ) → from < nodes → nodes ≤ from → P
no_stranger nodes from l h = absurd (omega arith)

stranger_known : (nodes from : ℕ) → nodes ≤ from → (refused Stranger ≡ Err Stranger) ↔ (nodes ≤ from)
stranger_known nodes from l = ((λ _. l), (λ _. refl))

stranger_disputes : {M : Type 0} (n nodes from : ℕ) (parcel : Parcel M) (journal : JournalState) → nodes ≤ from → (refused Stranger ≡ Err (Conflict n)) ↔ ((from < nodes) × IsDisputed n parcel journal)
stranger_disputes n nodes from parcel journal l = ((λ e. absurd (let bad : ⊥ = cc in bad)), λ h. absurd (let k = h.0 in omega arith))

stranger_remembers : {P : Type 0} → refused Stranger ≡ Err Memory → P
stranger_remembers e = absurd (let bad : ⊥ = cc in bad)

pub returns-then-get-self-clause-stranger : goal.returns-then-get-self-clause-stranger
returns-then-get-self-clause-stranger g c =
    let nodes : c.self.inside.nodes ≡ c.args.self.now.setting.nodes = ap (λ m. m.setting.nodes) c.self.view_is in
    stranger_known c.args.self.now.setting.nodes c.args.from (omega (arith, nodes))

pub returns-then-get-self-clause-conflict : goal.returns-then-get-self-clause-conflict
returns-then-get-self-clause-conflict g c = λ n.
    let nodes : c.self.inside.nodes ≡ c.args.self.now.setting.nodes = ap (λ m. m.setting.nodes) c.self.view_is in
    stranger_disputes n c.args.self.now.setting.nodes c.args.from c.args.parcel.now c.args.self.now.journal (omega (arith, nodes))

pub returns-then-get-self-clause-memory : goal.returns-then-get-self-clause-memory
returns-then-get-self-clause-memory g c = λ e. stranger_remembers e

pub take_base-requires-clause-least : goal.take_base-requires-clause-least
take_base-requires-clause-least g c = c.self.invariant.1

pub take_base-requires-clause-most : goal.take_base-requires-clause-most
take_base-requires-clause-most g c = c.self.invariant.2

pub returns-in-Guard-clause-stranger : goal.returns-in-Guard-clause-stranger
returns-in-Guard-clause-stranger g c =
    taken_known c.args.self.now.setting.nodes c.args.from (known c.args.from c.get.result _ c.args.self.now c.self.view_is c.get.ensures.value c.if-get-self.false)

pub returns-in-Guard-clause-memory : goal.returns-in-Guard-clause-memory
returns-in-Guard-clause-memory g c = λ e. taken_remembers e

pub returns-in-Want-clause-stranger : goal.returns-in-Want-clause-stranger
returns-in-Want-clause-stranger g c =
    taken_known c.args.self.now.setting.nodes c.args.from (known c.args.from c.get.result _ c.args.self.now c.self.view_is c.get.ensures.value c.if-get-self.false)

pub returns-in-Want-clause-memory : goal.returns-in-Want-clause-memory
returns-in-Want-clause-memory g c = λ e. taken_remembers e

pub returns-in_ok-take_base-in-Base-clause-stranger : goal.returns-in_ok-take_base-in-Base-clause-stranger
returns-in_ok-take_base-in-Base-clause-stranger g c =
    taken_known c.args.self.now.setting.nodes c.args.from (known c.args.from c.get.result _ c.args.self.now c.self.view_is c.get.ensures.value c.if-get-self.false)

pub returns-in_ok-take_base-in-Base-clause-memory : goal.returns-in_ok-take_base-in-Base-clause-memory
returns-in_ok-take_base-in-Base-clause-memory g c = λ e. taken_remembers e

pub returns-in_ok-put_all-in-Records-clause-stranger : goal.returns-in_ok-put_all-in-Records-clause-stranger
returns-in_ok-put_all-in-Records-clause-stranger g c =
    taken_known c.args.self.now.setting.nodes c.args.from (known c.args.from c.get.result _ c.args.self.now c.self.view_is c.get.ensures.value c.if-get-self.false)

pub returns-in_ok-put_all-in-Records-clause-memory : goal.returns-in_ok-put_all-in-Records-clause-memory
returns-in_ok-put_all-in-Records-clause-memory g c = λ e. taken_remembers e

pub returns-in_err-take_base-in-Base-clause-stranger : goal.returns-in_err-take_base-in-Base-clause-stranger
returns-in_err-take_base-in-Base-clause-stranger g c =
    let is = is_err c.from_residual.result (base_fault_of c.in_err-take_base-in-Base.field-0.0) c.from_residual.ensures.1 in
    ((λ e. absurd (base_fault_known c.in_err-take_base-in-Base.field-0.0 (sym is ∙ e))), no_stranger c.args.self.now.setting.nodes c.args.from (known c.args.from c.get.result _ c.args.self.now c.self.view_is c.get.ensures.value c.if-get-self.false))

pub returns-in_err-put_all-in-Records-clause-memory : goal.returns-in_err-put_all-in-Records-clause-memory
returns-in_err-put_all-in-Records-clause-memory g c = λ e.
    let fault = c.in_err-put_all-in-Records.field-0.0 in
    let is = is_err c.from_residual-in_err-put_all-in-Records.result (fault_of fault) c.from_residual-in_err-put_all-in-Records.ensures.1 in
    brings_unknown c.in-Records.records c.as_slice-list.result.now c.args.parcel.now _ c.args.self.now c.self.view_is c.in-Records.is c.as_slice-list.ensures.value
    (c.in_err-put_all-in-Records.ensures.memory (memory_known fault (sym is ∙ e)))

pub returns-in_err-take_base-in-Base-clause-state : goal.returns-in_err-take_base-in-Base-clause-state
returns-in_err-take_base-in-Base-clause-state g c = no_ok _ c.from_residual.result (base_fault_of c.in_err-take_base-in-Base.field-0.0) (is_err c.from_residual.result (base_fault_of c.in_err-take_base-in-Base.field-0.0) c.from_residual.ensures.1)

pub returns-in_err-take_base-in-Base-clause-letters : goal.returns-in_err-take_base-in-Base-clause-letters
returns-in_err-take_base-in-Base-clause-letters g c = no_ok _ c.from_residual.result (base_fault_of c.in_err-take_base-in-Base.field-0.0) (is_err c.from_residual.result (base_fault_of c.in_err-take_base-in-Base.field-0.0) c.from_residual.ensures.1)

pub returns-in_err-take_base-in-Base-clause-quiet : goal.returns-in_err-take_base-in-Base-clause-quiet
returns-in_err-take_base-in-Base-clause-quiet g c = where_err c.from_residual.result c.requires

pub returns-in_err-put_all-in-Records-clause-state : goal.returns-in_err-put_all-in-Records-clause-state
returns-in_err-put_all-in-Records-clause-state g c = no_ok _ c.from_residual-in_err-put_all-in-Records.result (fault_of c.in_err-put_all-in-Records.field-0.0) (is_err c.from_residual-in_err-put_all-in-Records.result (fault_of c.in_err-put_all-in-Records.field-0.0) c.from_residual-in_err-put_all-in-Records.ensures.1)

pub returns-in_err-put_all-in-Records-clause-letters : goal.returns-in_err-put_all-in-Records-clause-letters
returns-in_err-put_all-in-Records-clause-letters g c = no_ok _ c.from_residual-in_err-put_all-in-Records.result (fault_of c.in_err-put_all-in-Records.field-0.0) (is_err c.from_residual-in_err-put_all-in-Records.result (fault_of c.in_err-put_all-in-Records.field-0.0) c.from_residual-in_err-put_all-in-Records.ensures.1)

pub returns-in_err-put_all-in-Records-clause-quiet : goal.returns-in_err-put_all-in-Records-clause-quiet
returns-in_err-put_all-in-Records-clause-quiet g c = where_err c.from_residual-in_err-put_all-in-Records.result c.requires

pub returns-then-get-self-clause-taken : goal.returns-then-get-self-clause-taken
returns-then-get-self-clause-taken g c =
    let nodes : c.self.inside.nodes ≡ c.args.self.now.setting.nodes = ap (λ m. m.setting.nodes) c.self.view_is in
    stranger_tells c.args.self.now.setting.nodes c.args.from c.args.parcel.now c.args.self.now.journal (omega (arith, nodes))

pub returns-in_err-put_all-in-Records-clause-stranger : goal.returns-in_err-put_all-in-Records-clause-stranger
returns-in_err-put_all-in-Records-clause-stranger g c =
    let is = is_err c.from_residual-in_err-put_all-in-Records.result (fault_of c.in_err-put_all-in-Records.field-0.0) c.from_residual-in_err-put_all-in-Records.ensures.1 in
    ((λ e. absurd (fault_known c.in_err-put_all-in-Records.field-0.0 (sym is ∙ e))), no_stranger c.args.self.now.setting.nodes c.args.from (known c.args.from c.get.result _ c.args.self.now c.self.view_is c.get.ensures.value c.if-get-self.false))

pub returns-in-Guard-clause-conflict : goal.returns-in-Guard-clause-conflict
returns-in-Guard-clause-conflict g c =
    (told _ c.args.from (Guard c.in-Guard.letter) c.args.parcel.now _ c.args.self.now c.self.view_is c.in-Guard.is (letter_tells _ c.self.inside.nodes c.args.from c.in-Guard.letter c.self.inside.journal (heard c.args.from c.get.result c.self.inside.nodes c.get.ensures.value c.if-get-self.false))).0

pub returns-in-Guard-clause-taken : goal.returns-in-Guard-clause-taken
returns-in-Guard-clause-taken g c =
    (told _ c.args.from (Guard c.in-Guard.letter) c.args.parcel.now _ c.args.self.now c.self.view_is c.in-Guard.is (letter_tells _ c.self.inside.nodes c.args.from c.in-Guard.letter c.self.inside.journal (heard c.args.from c.get.result c.self.inside.nodes c.get.ensures.value c.if-get-self.false))).1

pub returns-in-Want-clause-conflict : goal.returns-in-Want-clause-conflict
returns-in-Want-clause-conflict g c =
    (told _ c.args.from (Want c.in-Want.ranges) c.args.parcel.now _ c.args.self.now c.self.view_is c.in-Want.is (want_tells g.row.C-Msg.Denot c.self.inside.nodes c.args.from c.in-Want.ranges c.self.inside.journal (heard c.args.from c.get.result c.self.inside.nodes c.get.ensures.value c.if-get-self.false))).0

pub returns-in-Want-clause-taken : goal.returns-in-Want-clause-taken
returns-in-Want-clause-taken g c =
    (told _ c.args.from (Want c.in-Want.ranges) c.args.parcel.now _ c.args.self.now c.self.view_is c.in-Want.is (want_tells g.row.C-Msg.Denot c.self.inside.nodes c.args.from c.in-Want.ranges c.self.inside.journal (heard c.args.from c.get.result c.self.inside.nodes c.get.ensures.value c.if-get-self.false))).1

pub returns-in_err-take_base-in-Base-clause-conflict : goal.returns-in_err-take_base-in-Base-clause-conflict
returns-in_err-take_base-in-Base-clause-conflict g c =
    let is = is_err c.from_residual.result (base_fault_of c.in_err-take_base-in-Base.field-0.0) c.from_residual.ensures.1 in
    (told _ c.args.from (Base c.in-Base.base) c.args.parcel.now _ c.args.self.now c.self.view_is c.in-Base.is
    (subst (λ r. Tells {M = g.row.C-Msg.Denot} r c.self.inside.nodes c.args.from (Base c.in-Base.base) c.self.inside.journal) (sym is)
    (base_tells g.row.C-Msg.Denot c.in_err-take_base-in-Base.field-0.0 c.self.inside.nodes c.args.from c.in-Base.base c.self.inside.journal (heard c.args.from c.get.result c.self.inside.nodes c.get.ensures.value c.if-get-self.false) c.in_err-take_base-in-Base.ensures.conflict))).0

pub returns-in_err-take_base-in-Base-clause-taken : goal.returns-in_err-take_base-in-Base-clause-taken
returns-in_err-take_base-in-Base-clause-taken g c =
    let is = is_err c.from_residual.result (base_fault_of c.in_err-take_base-in-Base.field-0.0) c.from_residual.ensures.1 in
    (told _ c.args.from (Base c.in-Base.base) c.args.parcel.now _ c.args.self.now c.self.view_is c.in-Base.is
    (subst (λ r. Tells {M = g.row.C-Msg.Denot} r c.self.inside.nodes c.args.from (Base c.in-Base.base) c.self.inside.journal) (sym is)
    (base_tells g.row.C-Msg.Denot c.in_err-take_base-in-Base.field-0.0 c.self.inside.nodes c.args.from c.in-Base.base c.self.inside.journal (heard c.args.from c.get.result c.self.inside.nodes c.get.ensures.value c.if-get-self.false) c.in_err-take_base-in-Base.ensures.conflict))).1

pub returns-in_ok-take_base-in-Base-clause-conflict : goal.returns-in_ok-take_base-in-Base-clause-conflict
returns-in_ok-take_base-in-Base-clause-conflict g c =
    (told _ c.args.from (Base c.in-Base.base) c.args.parcel.now _ c.args.self.now c.self.view_is c.in-Base.is
    (based_tells g.row.C-Msg.Denot c.self.inside.nodes c.args.from c.in-Base.base c.self.inside.journal (heard c.args.from c.get.result c.self.inside.nodes c.get.ensures.value c.if-get-self.false) (c.in_ok-take_base-in-Base.ensures.agreed.0 refl))).0

pub returns-in_ok-take_base-in-Base-clause-taken : goal.returns-in_ok-take_base-in-Base-clause-taken
returns-in_ok-take_base-in-Base-clause-taken g c =
    (told _ c.args.from (Base c.in-Base.base) c.args.parcel.now _ c.args.self.now c.self.view_is c.in-Base.is
    (based_tells g.row.C-Msg.Denot c.self.inside.nodes c.args.from c.in-Base.base c.self.inside.journal (heard c.args.from c.get.result c.self.inside.nodes c.get.ensures.value c.if-get-self.false) (c.in_ok-take_base-in-Base.ensures.agreed.0 refl))).1

pub returns-in_err-put_all-in-Records-clause-conflict : goal.returns-in_err-put_all-in-Records-clause-conflict
returns-in_err-put_all-in-Records-clause-conflict g c =
    let e = c.in_err-put_all-in-Records.ensures in
    let is = is_err c.from_residual-in_err-put_all-in-Records.result (fault_of c.in_err-put_all-in-Records.field-0.0) c.from_residual-in_err-put_all-in-Records.ensures.1 in
    (told _ c.args.from (Records c.in-Records.records) c.args.parcel.now _ c.args.self.now c.self.view_is c.in-Records.is
    (subst (λ r. Tells {M = g.row.C-Msg.Denot} r c.self.inside.nodes c.args.from (Records c.in-Records.records) c.self.inside.journal) (sym is)
    (fault_told g.row.C-Msg.Denot c.in_err-put_all-in-Records.field-0.0 c.self.inside.nodes c.args.from c.in-Records.records c.as_slice-list.result.now c.self.inside.journal c.as_slice-list.ensures.value (heard c.args.from c.get.result c.self.inside.nodes c.get.ensures.value c.if-get-self.false) e.zero e.conflict e.agreed))).0

pub returns-in_err-put_all-in-Records-clause-taken : goal.returns-in_err-put_all-in-Records-clause-taken
returns-in_err-put_all-in-Records-clause-taken g c =
    let e = c.in_err-put_all-in-Records.ensures in
    let is = is_err c.from_residual-in_err-put_all-in-Records.result (fault_of c.in_err-put_all-in-Records.field-0.0) c.from_residual-in_err-put_all-in-Records.ensures.1 in
    (told _ c.args.from (Records c.in-Records.records) c.args.parcel.now _ c.args.self.now c.self.view_is c.in-Records.is
    (subst (λ r. Tells {M = g.row.C-Msg.Denot} r c.self.inside.nodes c.args.from (Records c.in-Records.records) c.self.inside.journal) (sym is)
    (fault_told g.row.C-Msg.Denot c.in_err-put_all-in-Records.field-0.0 c.self.inside.nodes c.args.from c.in-Records.records c.as_slice-list.result.now c.self.inside.journal c.as_slice-list.ensures.value (heard c.args.from c.get.result c.self.inside.nodes c.get.ensures.value c.if-get-self.false) e.zero e.conflict e.agreed))).1

pub returns-in_ok-put_all-in-Records-clause-conflict : goal.returns-in_ok-put_all-in-Records-clause-conflict
returns-in_ok-put_all-in-Records-clause-conflict g c =
    let journal = c.self.inside.journal in
    (told _ c.args.from (Records c.in-Records.records) c.args.parcel.now _ c.args.self.now c.self.view_is c.in-Records.is
    (put_tells g.row.C-Msg.Denot c.self.inside.nodes c.args.from c.in-Records.records journal (heard c.args.from c.get.result c.self.inside.nodes c.get.ensures.value c.if-get-self.false)
    (subst (λ l. IsNumbered l × IsConsistent (journal.records ++ beyond journal.base.upto l)) c.as_slice-list.ensures.value (c.in_ok-put_all-in-Records.ensures.agreed.0 (inl refl))))).0

pub returns-in_ok-put_all-in-Records-clause-taken : goal.returns-in_ok-put_all-in-Records-clause-taken
returns-in_ok-put_all-in-Records-clause-taken g c =
    let journal = c.self.inside.journal in
    (told _ c.args.from (Records c.in-Records.records) c.args.parcel.now _ c.args.self.now c.self.view_is c.in-Records.is
    (put_tells g.row.C-Msg.Denot c.self.inside.nodes c.args.from c.in-Records.records journal (heard c.args.from c.get.result c.self.inside.nodes c.get.ensures.value c.if-get-self.false)
    (subst (λ l. IsNumbered l × IsConsistent (journal.records ++ beyond journal.base.upto l)) c.as_slice-list.ensures.value (c.in_ok-put_all-in-Records.ensures.agreed.0 (inl refl))))).1

pub invariant_of-self-in-Records : goal.invariant_of-self-in-Records
invariant_of-self-in-Records g c =
    let was = c.self.invariant in
    let journal = c.self.inside.journal in
    let list = c.as_slice-list.result.now in
    let after = c.in_ok-put_all-in-Records.ensures.ok.0 in
    let upto = c.upto.ensures.value ∙ ap (λ (b : BaseState). b.upto) c.base.ensures ∙ ap (λ (j : JournalState). j.base.upto) after in (
      was.0,
      was.1,
      was.2,
      was.3,
      was.4,
      subst (λ (j : JournalState). IsViewOf c.self.inside.registers j c.take_all.new.shown) (sym after)
          (shown_all c.self.inside.registers journal list c.self.inside.shown c.take_all.new.shown c.is_empty.ensures.ordered (c.in_ok-put_all-in-Records.ensures.agreed.0 (inl refl)).1 was.5
          (λ is. subst (λ u. c.take_all.new.shown ≡ registers_from journal.base c.self.inside.registers (journal.records ++ beyond u list)) upto (c.take_all.ensures journal.base c.self.inside.registers journal.records is))),
    )

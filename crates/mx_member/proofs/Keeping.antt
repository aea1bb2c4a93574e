-- What putting records, and settling, leaves in the journal and in its view.
use Rattle.std.proofs.Common.{ℕ, suc, ◌<◌, ◌≤◌, ◌≡◌, ◌↔◌, ◌⊎◌, ◌++◌, inl, inr, List, [], ◌∷◌, Option, Some, None, Result, Ok, Err, refl, sym, ◌∙◌, ap, subst, arith}
use Rattle.mx_stamps.proofs.Choices.{dec_le}
use Rattle.mx_stamps.proofs.Lists.{in_left, in_right}
use Rattle.mx_journal.specs.declared.records.Record.{Record}
use Rattle.mx_journal.specs.declared.puts.Put.{Put}
use Rattle.mx_journal.specs.declared.puts.Put.TheVariants.{New, Same}
use Rattle.mx_journal.specs.declared.puts.PutFault.{PutFault}
use Rattle.mx_journal.specs.declared.puts.PutFault.TheVariants.{ZeroNumber, Conflict, Memory}
use Rattle.mx_journal.specs.Agreement.{IsConsistent, IsOther}
use Rattle.mx_journal.specs.Records.{Ascending, record_at, with_records}
use Rattle.mx_journal.specs.Settled.{Covers, IsSettled, JournalState, beyond, with_entry, with_list}
use Rattle.mx_journal.proofs.Beyond.{beyond_all, beyond_same, in_beyond}
use Rattle.mx_journal.proofs.Maps.{found_in, none_in, with_record_there}
use Rattle.mx_registers.specs.declared.contents.Content.{Content}
use Rattle.mx_registers.specs.Based.{registers_from}
use Rattle.mx_registers.specs.Registers.{with_taken}
use Rattle.mx_member.specs.Member.{IsViewOf}
use Rattle.mx_member.proofs.AnyOrder.{registers_joined, registers_taken}

abbrev pub put_err : PutFault → Result Put PutFault
put_err fault = Err fault

-- a record whose number is settled is passed over, another joins the records
passed_over : (entry : Record) (journal : JournalState) → entry.number ≤ journal.base.upto → with_list (entry ∷ []) journal ≡ journal
passed_over entry journal l =
    ap (λ list. let j : JournalState = record { base = journal.base; records = with_records list journal.records } in j) (beyond_same journal.base.upto [] entry l)

pub joins : (entry : Record) (journal : JournalState) → journal.base.upto < entry.number → with_list (entry ∷ []) journal ≡ with_entry entry journal
joins entry journal l =
    ap (λ list. let j : JournalState = record { base = journal.base; records = with_records list journal.records } in j)
    (beyond_all journal.base.upto (entry ∷ []) (λ x h. elim h [ inl e ↦ subst (λ (z : Record). journal.base.upto < z.number) (sym e) l | inr bad ↦ absurd bad ]))

-- where some record of its number is there it changes nothing
there : (entry x : Record) (journal : JournalState) → Ascending (suc journal.base.upto) journal.records → record_at entry.number journal.records ≡ Some x → with_list (entry ∷ []) journal ≡ journal
there entry x journal a e =
    let f = found_in entry.number journal.records x e in
    elim (dec_le entry.number journal.base.upto) [
      | inl l ↦ passed_over entry journal l
      | inr l ↦ joins entry journal l
          ∙ ap (λ xs. let j : JournalState = record { base = journal.base; records = xs } in j) (with_record_there (suc journal.base.upto) entry journal.records a x f.0 f.1)
    ]

other_there : (entry : Record) (journal : JournalState) (o : Option Record) → Ascending (suc journal.base.upto) journal.records → record_at entry.number journal.records ≡ o → IsOther entry o → with_list (entry ∷ []) journal ≡ journal
other_there entry journal None a e other = absurd other
other_there entry journal (Some x) a e other = there entry x journal a e

-- unless memory was refused the journal covers this number, by the new record where it did not before
pub kept : (journal new : JournalState) (entry : Record) (result : Result Put PutFault) → Ascending (suc journal.base.upto) journal.records → 0 < entry.number →
    ((result ≡ Err ZeroNumber) ↔ (entry.number ≡ 0)) →
    ((n : ℕ) → (result ≡ Err (Conflict n)) ↔ ((n ≡ entry.number) × IsOther entry (record_at n journal.records))) →
    ((result ≡ Ok Same) ↔ (IsSettled entry.number journal ⊎ (record_at entry.number journal.records ≡ Some entry))) →
    ((result ≡ Ok New) → new ≡ with_entry entry journal) →
    (((result ≡ Ok New) ⊎ (result ≡ Err Memory)) ↔ ((journal.base.upto < entry.number) × (record_at entry.number journal.records ≡ None))) →
    ((result ≡ Ok New) ⊎ (new ≡ journal)) →
    ((result ≡ Err Memory) → ⊥) → new ≡ with_list (entry ∷ []) journal
kept journal new entry (Ok New) a l zero conflict same made fresh old refused = made refl ∙ sym (joins entry journal (fresh.0 (inl refl)).0)
kept journal new entry (Ok Same) a l zero conflict same made fresh old refused = elim old [
  | inl bad ↦ absurd (let q : ⊥ = cc in q)
  | inr e ↦ e ∙ sym (elim (same.0 refl) [
    | inl s ↦ passed_over entry journal s.1
    | inr f ↦ there entry entry journal a f
  ])
]
kept journal new entry (Err ZeroNumber) a l zero conflict same made fresh old refused = absurd (let z = zero.0 refl in omega arith)
kept journal new entry (Err (Conflict n)) a l zero conflict same made fresh old refused = elim old [
  | inl bad ↦ absurd (let q : ⊥ = cc in q)
  | inr e ↦ (
      let o = (conflict n).0 refl in
      e ∙ sym (other_there entry journal (record_at entry.number journal.records) a refl (subst (λ m. IsOther entry (record_at m journal.records)) o.0 o.1)))
]
kept journal new entry (Err Memory) a l zero conflict same made fresh old refused = absurd (refused refl)

-- where the record is new, the journal did not cover its number
pub uncovered : (entry : Record) (journal : JournalState) → journal.base.upto < entry.number → record_at entry.number journal.records ≡ None → Covers entry.number journal → ⊥
uncovered entry journal l none (inl s) = absurd (let high = s.1 in omega arith)
uncovered entry journal l none (inr t) = none_in entry.number journal.records none t.0 t.1 t.2

-- the view of a journal that takes a record whose number was free is the view of the journal with it
pub shown_with : (count : ℕ) (journal : JournalState) (cells : List Content) (entry : Record) → Ascending (suc journal.base.upto) journal.records → record_at entry.number journal.records ≡ None → IsViewOf count journal cells → IsViewOf count (with_entry entry journal) (with_taken entry cells)
unfolding IsViewOf
shown_with count journal cells entry a free is =
    ap (λ xs. with_taken entry xs) is
    ∙ registers_taken journal.base count (suc journal.base.upto) journal.records entry a (λ x h e. absurd (none_in entry.number journal.records free x h e))

-- the same for the records of a list that are above the base and agree with the journal
pub shown_all : (count : ℕ) (journal : JournalState) (list : List Record) (old new : List Content) → Ascending (suc journal.base.upto) journal.records → IsConsistent (journal.records ++ beyond journal.base.upto list) → IsViewOf count journal old →
    (old ≡ registers_from journal.base count journal.records → new ≡ registers_from journal.base count (journal.records ++ beyond journal.base.upto list)) → IsViewOf count (with_list list journal) new
unfolding IsViewOf
shown_all count journal list old new a agreed is taken =
    let more = beyond journal.base.upto list in
    taken is
    ∙ registers_joined journal.base count (suc journal.base.upto) journal.records more a
    (λ x h. let w = (in_beyond journal.base.upto list x h).1 in omega arith) agreed
    (λ x h. in_left x journal.records more h) (λ x h. in_right x journal.records more h)

abbrev pub put_ok : Put → Result Put PutFault
put_ok put = Ok put

-- what is put or in conflict was not refused memory
pub ok_apart : (x : Put) → Ok x ≡ Err Memory → ⊥
ok_apart x e = let bad : ⊥ = cc in bad

pub conflict_apart : (n : ℕ) → put_err (Conflict n) ≡ Err Memory → ⊥
conflict_apart n e = let bad : ⊥ = cc in bad

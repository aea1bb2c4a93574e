-- What the answers of a journal rule out.
use Rattle.std.proofs.Common.{ℕ, Bool, true, false, ◌≡◌, inl, inr, List, Option, Some, None, Result, Ok, Err, IsErrAnd, OnErr, OnOk, sym, ◌∙◌, ap, refl, subst, arith}
use Rattle.std.specs.Prelude.{IfOk, IsErr, IsOk, ◌↔◌, ◌⊎◌, ◌≢◌, ◌≤◌}
use Rattle.mx_stamps.proofs.Lists.{none_is_no_some}
use Rattle.mx_stamps.proofs.Choices.{compared}
use Rattle.mx_journal.specs.declared.records.Record.{Record}
use Rattle.mx_journal.specs.declared.puts.PutFault.{PutFault}
use Rattle.mx_journal.specs.declared.puts.PutFault.TheVariants.{Conflict, Memory, ZeroNumber}
use Rattle.mx_journal.specs.declared.puts.Put.{Put}
use Rattle.mx_journal.specs.declared.puts.Put.TheVariants.{New, Same}
use Rattle.mx_journal.specs.Records.{Ascending, IsNumbered, IsThere, record_at, with_record}
use Rattle.mx_journal.specs.Agreement.{IsConsistent, IsFirstConflict, IsOther}
use Rattle.mx_journal.proofs.Maps.{ascending_above, none_found}

-- a journal has no record numbered 0
pub zero_none : (n : ℕ) (xs : List Record) → Ascending 1 xs → n ≡ 0 → record_at n xs ≡ None
zero_none n xs a e = none_found n xs (λ x h q. absurd (let l = ascending_above 1 xs a x h in omega arith))

-- where nothing is found, no other record is
pub no_other : (r : Record) (o : Option Record) → o ≡ None → IsOther r o → ⊥
no_other r None e h = h
no_other r (Some x) e h = none_is_no_some x (sym e)

-- a list with the number 0 is not numbered from 1
pub not_numbered : (xs : List Record) → IsThere 0 xs → IsNumbered xs → ⊥
not_numbered xs w n = let l = n w.0 w.1 in let e = w.2 in absurd (omega arith)

-- records with a conflict are not consistent
pub not_consistent : (n : ℕ) (xs : List Record) → IsFirstConflict n xs → IsConsistent xs → ⊥
not_consistent n xs h c = let w = h.0 in w.6 (c w.0 w.1 w.2 w.3 (w.4 ∙ sym w.5))

-- there is one first conflict
pub one_first : (m n : ℕ) (xs : List Record) → IsFirstConflict m xs → IsFirstConflict n xs → m ≡ n
one_first m n xs h t = elim (compared m n) [
  | inl l ↦ absurd (let w = h.0 in w.6 (t.1 w.0 w.1 w.2 w.3 (w.4 ∙ sym w.5) (let e = w.4 in omega arith)))
  | inr (inl e) ↦ e
  | inr (inr l) ↦ absurd (let w = t.0 in w.6 (h.1 w.0 w.1 w.2 w.3 (w.4 ∙ sym w.5) (let e = w.4 in omega arith)))
]

-- a refused growth is answered as such
pub is_memory : {X : Type 0} (r : Result X PutFault) → IsErrAnd r (λ fault. fault ≡ Memory) → r ≡ Err Memory
is_memory (Ok x) h = absurd h
is_memory (Err fault) h = ap (λ (f : PutFault). Err f) h

-- what follows from what holds at a success, or at a failure
pub on_ok : {X E : Type 0} {P Q : Type 0} (r : Result X E) → OnOk r P → (P → Q) → OnOk r Q
on_ok (Ok x) p f = f p
on_ok (Err e) p f = tt

pub on_err : {X E : Type 0} {P Q R : Type 0} (r : Result X E) → OnErr r P → OnErr r Q → (P → Q → R) → OnErr r R
on_err (Ok x) p q f = tt
on_err (Err e) p q f = f p q

-- a conflict names one number
one_conflict : (m n : ℕ) (result : Result ℕ PutFault) → result ≡ Err (Conflict m) → result ≡ Err (Conflict n) → m ≡ n
one_conflict m n result d e = cc

-- a failure returns no value, and what holds anyway holds at a failure
pub no_value : {X E : Type 0} (r : Result X E) (P : X → Type 0) → IsErr r → IfOk r P
no_value (Ok x) P e = absurd (let f = e in cc)
no_value (Err fault) P e = tt

pub at_failure : {X E P : Type 0} (r : Result X E) → P → OnErr r P
at_failure (Ok x) p = tt
at_failure (Err fault) p = p

-- what an answer to a list of records says of it, where `all` are those records and ours
pub record Verdict (result : Result ℕ PutFault) (list all : List Record) : Type 0 where
  pub zero : (result ≡ Err ZeroNumber) ↔ IsThere 0 list
  pub conflict : (n : ℕ) → (result ≡ Err (Conflict n)) ↔ (IsNumbered list × IsFirstConflict n all)
  pub agreed : (IsOk result ⊎ (result ≡ Err Memory)) ↔ (IsNumbered list × IsConsistent all)

pub zero_verdict : (result : Result ℕ PutFault) (list all : List Record) → result ≡ Err ZeroNumber → IsThere 0 list → Verdict result list all
zero_verdict (Ok k) list all is there = absurd (let e = is in cc)
zero_verdict (Err fault) list all is there = record {
  zero = (λ _. there, λ _. is);
  conflict = λ n. (λ e. absurd (cc (is, e)), λ h. absurd (not_numbered list there h.0));
  agreed = (λ h. elim h [ inl e ↦ absurd (let f = e in cc) | inr e ↦ absurd (cc (is, e)) ], λ h. absurd (not_numbered list there h.0));
}

pub conflict_verdict : (n : ℕ) (result : Result ℕ PutFault) (list all : List Record) → result ≡ Err (Conflict n) → IsNumbered list → IsFirstConflict n all → Verdict result list all
conflict_verdict n (Ok k) list all is numbered first = absurd (let e = is in cc)
conflict_verdict n (Err fault) list all is numbered first = record {
  zero = (λ e. absurd (cc (is, e)), λ w. absurd (not_numbered list w numbered));
  conflict = λ m. (
    λ e. (numbered, subst (λ k. IsFirstConflict k all) (one_conflict n m (Err fault) is e) first),
    λ h. is ∙ ap (λ k. Err (Conflict k)) (one_first n m all first h.1),
  );
  agreed = (λ h. elim h [ inl e ↦ absurd (let f = e in cc) | inr e ↦ absurd (cc (is, e)) ], λ h. absurd (not_consistent n all first h.1));
}

pub memory_verdict : (result : Result ℕ PutFault) (list all : List Record) → result ≡ Err Memory → IsNumbered list → IsConsistent all → Verdict result list all
memory_verdict result list all is numbered consistent = record {
  zero = (λ e. absurd (cc (is, e)), λ w. absurd (not_numbered list w numbered));
  conflict = λ n. (λ e. absurd (cc (is, e)), λ h. absurd (not_consistent n all h.1 consistent));
  agreed = (λ _. (numbered, consistent), λ _. inr is);
}

pub ok_verdict : (k : ℕ) (list all : List Record) → IsNumbered list → IsConsistent all → Verdict (Ok k) list all
ok_verdict k list all numbered consistent = record {
  zero = (λ e. absurd (let f = e in cc), λ w. absurd (not_numbered list w numbered));
  conflict = λ n. (λ e. absurd (let f = e in cc), λ h. absurd (not_consistent n all h.1 consistent));
  agreed = (λ _. (numbered, consistent), λ _. inl refl);
}

-- a failure is no success
pub no_success : {X E : Type 0} (r : Result X E) (P : Type 0) → IsErr r → OnOk r P
no_success (Ok x) P e = absurd (let f = e in cc)
no_success (Err fault) P e = tt

pub on_failure : {X E P Q : Type 0} (r : Result X E) → OnErr r P → (P → Q) → OnErr r Q
on_failure (Ok x) p f = tt
on_failure (Err fault) p f = f p

-- no test is both true and false
pub not_true : (b : Bool) → b ≡ true → b ≡ false → ⊥
not_true b t f = cc

-- what an answer to one record says of it, where `found` is what bears its number already
pub record PutVerdict (result : Result Put PutFault) (entry : Record) (before after : List Record) : Type 0 where
  pub zero : (result ≡ Err ZeroNumber) ↔ (entry.number ≡ 0)
  pub conflict : (n : ℕ) → (result ≡ Err (Conflict n)) ↔ ((n ≡ entry.number) × IsOther entry (record_at n before))
  pub same : (result ≡ Ok Same) ↔ (record_at entry.number before ≡ Some entry)
  pub new : (result ≡ Ok New) → after ≡ with_record entry before
  pub fresh : ((result ≡ Ok New) ⊎ (result ≡ Err Memory)) ↔ ((1 ≤ entry.number) × (record_at entry.number before ≡ None))
  pub kept : (result ≡ Ok New) ⊎ (after ≡ before)

some_no_none : (x : Record) (o : Option Record) → o ≡ Some x → o ≡ None → ⊥
some_no_none x o e n = none_is_no_some x (sym n ∙ e)

no_other_at : (entry : Record) (n : ℕ) (before : List Record) → record_at entry.number before ≡ None → n ≡ entry.number → IsOther entry (record_at n before) → ⊥
no_other_at entry n before none same other = no_other entry (record_at n before) (ap (λ k. record_at k before) same ∙ none) other

-- a record numbered 0 is refused
pub zero_put : (result : Result Put PutFault) (entry : Record) (before after : List Record) → result ≡ Err ZeroNumber → entry.number ≡ 0 → record_at entry.number before ≡ None → after ≡ before → PutVerdict result entry before after
zero_put result entry before after is zero none kept = record {
  zero = (λ _. zero, λ _. is);
  conflict = λ n. (λ e. absurd (cc (is, e)), λ h. absurd (no_other_at entry n before none h.0 h.1));
  same = (λ e. absurd (cc (is, e)), λ h. absurd (some_no_none entry (record_at entry.number before) h none));
  new = λ e. absurd (cc (is, e));
  fresh = (λ h. elim h [ inl e ↦ absurd (cc (is, e)) | inr e ↦ absurd (cc (is, e)) ], λ h. absurd (let low = h.0 in omega arith));
  kept = inr kept;
}

-- so is one whose number another bears
pub conflict_put : (result : Result Put PutFault) (entry there : Record) (before after : List Record) → result ≡ Err (Conflict entry.number) → entry.number ≢ 0 → record_at entry.number before ≡ Some there → there ≢ entry → after ≡ before → PutVerdict result entry before after
conflict_put result entry there before after is some found differs kept = record {
  zero = (λ e. absurd (cc (is, e)), λ e. absurd (some e));
  conflict = λ n. (
    λ e. (let same : n ≡ entry.number = cc (is, e) in (same, subst (λ o. IsOther entry o) (sym (ap (λ k. record_at k before) same ∙ found)) differs)),
    λ h. is ∙ ap (λ k. Err (Conflict k)) (sym h.0),
  );
  same = (λ e. absurd (cc (is, e)), λ h. absurd (differs (let both : Some there ≡ Some entry = sym found ∙ h in cc)));
  new = λ e. absurd (cc (is, e));
  fresh = (λ h. elim h [ inl e ↦ absurd (cc (is, e)) | inr e ↦ absurd (cc (is, e)) ], λ h. absurd (some_no_none there (record_at entry.number before) found h.1));
  kept = inr kept;
}

-- a record that is there already is the same
pub same_put : (result : Result Put PutFault) (entry there : Record) (before after : List Record) → result ≡ Ok Same → entry.number ≢ 0 → record_at entry.number before ≡ Some there → there ≡ entry → after ≡ before → PutVerdict result entry before after
same_put result entry there before after is some found equal kept = record {
  zero = (λ e. absurd (cc (is, e)), λ e. absurd (some e));
  conflict = λ n. (
    λ e. absurd (cc (is, e)),
    λ h. absurd (subst (λ o. IsOther entry o) (ap (λ k. record_at k before) h.0 ∙ found) h.1 equal),
  );
  same = (λ _. found ∙ ap (λ x. Some x) equal, λ _. is);
  new = λ e. absurd (cc (is, e));
  fresh = (λ h. elim h [ inl e ↦ absurd (cc (is, e)) | inr e ↦ absurd (cc (is, e)) ], λ h. absurd (some_no_none there (record_at entry.number before) found h.1));
  kept = inr kept;
}

-- where memory runs out nothing changes
pub memory_put : (result : Result Put PutFault) (entry : Record) (before after : List Record) → result ≡ Err Memory → entry.number ≢ 0 → record_at entry.number before ≡ None → after ≡ before → PutVerdict result entry before after
memory_put result entry before after is some none kept = record {
  zero = (λ e. absurd (cc (is, e)), λ e. absurd (some e));
  conflict = λ n. (λ e. absurd (cc (is, e)), λ h. absurd (no_other_at entry n before none h.0 h.1));
  same = (λ e. absurd (cc (is, e)), λ h. absurd (some_no_none entry (record_at entry.number before) h none));
  new = λ e. absurd (cc (is, e));
  fresh = (λ _. (omega (arith, some), none), λ _. inr is);
  kept = inr kept;
}

-- a new record is taken in
pub new_put : (result : Result Put PutFault) (entry : Record) (before after : List Record) → result ≡ Ok New → entry.number ≢ 0 → record_at entry.number before ≡ None → after ≡ with_record entry before → PutVerdict result entry before after
new_put result entry before after is some none done = record {
  zero = (λ e. absurd (cc (is, e)), λ e. absurd (some e));
  conflict = λ n. (λ e. absurd (cc (is, e)), λ h. absurd (no_other_at entry n before none h.0 h.1));
  same = (λ e. absurd (cc (is, e)), λ h. absurd (some_no_none entry (record_at entry.number before) h none));
  new = λ _. done;
  fresh = (λ _. (omega (arith, some), none), λ _. inl is);
  kept = inl is;
}

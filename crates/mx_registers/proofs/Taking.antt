-- Views: lists of registers, and how they take records.
use Rattle.std.proofs.Common.{ℕ, suc, ◌<◌, ◌≡◌, zero, inl, inr, List, [], ◌∷◌, ◌++◌, Some, length, get_or, slice_get, take, refl, sym, ◌∙◌, ap, subst, arith}
use Rattle.std.proofs.lemmas.Option.{get_or_from_slice_get}
use Rattle.std.specs.List.{refill}
use Rattle.std.proofs.lemmas.List.{drop_all, ext_get_or, take_all}
use Rattle.mx_stamps.specs.Lists.{each_below}
use Rattle.mx_stamps.proofs.Lists.{append_nil, get_each_below, has_each_below, in_append, in_left, in_right, length_each_below}
use Rattle.mx_journal.specs.declared.records.Record.{Record}
use Rattle.mx_journal.specs.Agreement.{AgreesWith, IsConsistent, IsSubmap}
use Rattle.mx_journal.specs.Records.{Ascending, with_record, with_records}
use Rattle.mx_journal.proofs.Maps.{ascending_same, consistent_across, consistent_among, in_with_records, with_records_have, with_records_keep}
use Rattle.mx_registers.specs.declared.contents.Content.{Content}
use Rattle.mx_registers.specs.Registers.{IsHeld, after_record, after_records, blank, register_of, registers_of, with_taken}
use Rattle.mx_registers.proofs.Held.{held, same_register}

-- functions that agree below n make one list
pub each_below_same : {X : Type 0} (f g : ℕ → X) (n : ℕ) → ((i : ℕ) → i < n → f i ≡ g i) → each_below f n ≡ each_below g n
each_below_same f g zero h = refl
each_below_same f g (suc n) h =
    ap (λ l. l ++ f n ∷ []) (each_below_same f g n (λ i l. h i (omega arith))) ∙ ap (λ x. each_below g n ++ x ∷ []) (h n (omega arith))

get_or_each_below : {X : Type 0} (f : ℕ → X) (n i : ℕ) (d : X) → i < n → get_or (each_below f n) i d ≡ f i
get_or_each_below f n i d l = get_or_from_slice_get (each_below f n) i (f i) d (has_each_below f n i l)

-- contents that are each what the record leaves are the view that took it
pub taken_is : (entry : Record) (old new : List Content) → length new ≡ length old → ((register : ℕ) → register < length old → get_or new register blank ≡ after_record register entry (get_or old register blank)) → new ≡ with_taken entry old
taken_is entry old new size each =
    let f : ℕ → Content = λ register. after_record register entry (get_or old register blank) in
    ext_get_or blank new (with_taken entry old) (size ∙ sym (length_each_below f (length old)))
    (λ i l. each i (omega (arith, l, size)) ∙ sym (get_or_each_below f (length old) i blank (omega (arith, l, size))))

pub after_records_more : (register : ℕ) (xs : List Record) (x : Record) (content : Content) → after_records register (xs ++ x ∷ []) content ≡ after_record register x (after_records register xs content)
after_records_more register [] x content = refl
after_records_more register (y ∷ xs) x content = after_records_more register xs x (after_record register y content)

-- the register of one record more
pub register_more : (register : ℕ) (xs : List Record) (x : Record) → register_of register (xs ++ x ∷ []) ≡ after_record register x (register_of register xs)
register_more register xs x = after_records_more register xs x blank

-- the view of some records that takes one more is the view of these, whatever it began with
pub taken_more_from : (start : ℕ → Content) (count : ℕ) (xs : List Record) (x : Record) → with_taken x (each_below (λ i. after_records i xs (start i)) count) ≡ each_below (λ i. after_records i (xs ++ x ∷ []) (start i)) count
taken_more_from start count xs x =
    let f : ℕ → Content = λ register. after_records register xs (start register) in
    let contents = each_below f count in
    ap (λ n. each_below (λ register. after_record register x (get_or contents register blank)) n) (length_each_below f count)
    ∙ each_below_same (λ register. after_record register x (get_or contents register blank)) (λ register. after_records register (xs ++ x ∷ []) (start register)) count
    (λ i l. ap (λ c. after_record i x c) (get_or_each_below f count i blank l) ∙ sym (after_records_more i xs x (start i)))

pub taken_more : (count : ℕ) (xs : List Record) (x : Record) → with_taken x (registers_of count xs) ≡ registers_of count (xs ++ x ∷ [])
taken_more count xs x = taken_more_from (λ _. blank) count xs x

-- each register of a view is the last write to it
pub view_held : (count : ℕ) (xs : List Record) (register : ℕ) (content : Content) → slice_get (registers_of count xs) register ≡ Some content → IsHeld register xs content
view_held count xs register content e =
    let r = get_each_below (λ i. register_of i xs) count register content e in
    subst (λ c. IsHeld register xs c) (sym r.1) (held register xs)

-- order and repetition of agreeing records do not matter
pub same_registers : (count : ℕ) (xs ys : List Record) → IsConsistent xs → IsSubmap xs ys → IsSubmap ys xs → registers_of count xs ≡ registers_of count ys
same_registers count xs ys c s t =
    each_below_same (λ i. register_of i xs) (λ i. register_of i ys) count (λ i _. same_register i xs ys c s t)

-- the registers of a journal and of records that agree with it are those of the journal with them
pub joined_registers : (count : ℕ) (xs rs : List Record) → IsConsistent (xs ++ rs) → registers_of count (xs ++ rs) ≡ registers_of count (with_records rs xs)
joined_registers count xs rs c =
    same_registers count (xs ++ rs) (with_records rs xs) c
    (λ x k. elim (in_append x xs rs k) [
      | inl h ↦ with_records_keep rs xs x h
      | inr h ↦ with_records_have rs xs (consistent_across xs rs c) (consistent_among xs rs c) x h
    ])
    (λ x k. elim (in_with_records rs xs x k) [ inl h ↦ in_left x xs rs h | inr h ↦ in_right x xs rs h ])

-- the registers of agreeing records are those of the map that they make
pub map_registers : (count : ℕ) (xs : List Record) → IsConsistent xs → registers_of count xs ≡ registers_of count (with_records xs [])
map_registers count xs c = joined_registers count [] xs c

-- a list that is written whole
pub rewritten : (xs ws : List Content) → length ws ≡ length xs → refill (length xs) xs ws ≡ ws
rewritten xs ws e =
    ap (λ l. take (length xs) (ws ++ l)) (drop_all (length ws) xs (omega (arith, e)))
    ∙ ap (λ l. take (length xs) l) (append_nil ws)
    ∙ take_all (length xs) ws (omega (arith, e))

-- a journal with one more record, with which none conflicts
agreed_with : (k : ℕ) (xs : List Record) (x : Record) → Ascending k xs → AgreesWith x xs → IsConsistent (xs ++ x ∷ [])
agreed_with k xs x a agrees y z p q e = elim (in_append y xs (x ∷ []) p) [
  | inl h ↦ elim (in_append z xs (x ∷ []) q) [
    | inl t ↦ ascending_same k xs a y z h t e
    | inr (inl s) ↦ agrees y h (e ∙ ap (λ (w : Record). w.number) s) ∙ sym s
    | inr (inr bad) ↦ absurd bad
  ]
  | inr (inl r) ↦ elim (in_append z xs (x ∷ []) q) [
    | inl t ↦ r ∙ sym (agrees z t (sym e ∙ ap (λ (w : Record). w.number) r))
    | inr (inl s) ↦ r ∙ sym s
    | inr (inr bad) ↦ absurd bad
  ]
  | inr (inr bad) ↦ absurd bad
]

-- the view of a journal that takes a record is the view of the journal with it
pub taken_with_record : (count : ℕ) (xs : List Record) (x : Record) → Ascending 1 xs → AgreesWith x xs → with_taken x (registers_of count xs) ≡ registers_of count (with_record x xs)
taken_with_record count xs x a agrees = taken_more count xs x ∙ joined_registers count xs (x ∷ []) (agreed_with 1 xs x a agrees)

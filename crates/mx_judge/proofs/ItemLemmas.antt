-- Entries of items, one after another.
use Rattle.std.proofs.Common.{◌≡◌, ◌∙◌, ◌⊎◌, ℕ, ◌+◌, ◌<◌, ◌≤◌, List, ◌∷◌, length, map, drop, get_or, ap, inl, inr, refl, subst, sym, add-one, drop-cons, Option, Some, None, false, Result, Ok, Err}
use Rattle.std.proofs.lemmas.List.{drop_all}
use Rattle.std.specs.List.{list_all}
use Rattle.serde_json.specs.Data.{Data}
use Rattle.mx_plan.specs.Text.{Text}
use Rattle.mx_plan.specs.Fields.{Fields}
use Rattle.mx_plan.specs.Values.{value_of}
use Rattle.mx_judge.specs.Entries.{item_of}
use Rattle.mx_judge.specs.Listed.{ReadTrace}
use Rattle.mx_judge.specs.Members.{AnswersItem}
use Rattle.mx_judge.specs.declared.entry_reader.Item.{Item}
use Rattle.mx_judge.specs.Traces.{GivesTrace, RefusesItem, entries_from, go_on, is_blank, is_marked, line_item, with_item}
use Rattle.mx_judge.specs.declared.faults.ItemFault.{ItemFault}
use Rattle.mx_judge.specs.declared.faults.ItemFault.TheVariants as item
use Rattle.mx_judge.specs.declared.faults.TraceFault.{TraceFault}
use Rattle.mx_judge.specs.declared.faults.TraceFault.TheVariants.{Memory}

-- a line that is not blank, read as JSON or not
pub line_read : (p : Fields) (line : Text) (d : Data) → list_all is_blank line ≡ false → is_marked line ≡ false → value_of line ≡ Some d → (names : List Text) → item_of p d names ≡ line_item p line names
unfolding line_item
line_read p line d full plain is names = rw (full, plain, is) refl

pub line_unread : (p : Fields) (line : Text) (fault : ItemFault) → list_all is_blank line ≡ false → is_marked line ≡ false
    → (fault ≡ item.Memory) ⊎ ((fault ≡ item.NotJson) × (value_of line ≡ None)) → (names : List Text) → AnswersItem (line_item p line names) (Err fault)
unfolding line_item
line_unread p line fault full plain (inl memory) names = inr (ap Err memory)
line_unread p line fault full plain (inr none) names = inl (rw (full, plain, none.1) (ap Err none.0))

module _ {X A : Type 0} (view : X → A) (item : A → List Text → Result (Option Item) ItemFault) (name : ℕ → ItemFault → TraceFault) (xs : List X) where
  -- this trace, and the entries of the items from the k-th on
  abbrev pub rest : ReadTrace → ℕ → Result ReadTrace TraceFault
  rest t k = entries_from name t (k + 1) (map item (map view (drop k xs)))

  rest_one : (t : ReadTrace) (k : ℕ) (d : X) → k < length xs
      → rest t k ≡ go_on name (k + 1) (with_item (k + 1) t (item (view (get_or xs k d)) t.names)) (λ more. rest more (k + 1))
  unfolding entries_from
  rest_one t k d h =
      ap (λ l. entries_from name t (k + 1) (map item (map view l))) (drop-cons xs k d h ∙ ap (λ n. get_or xs k d ∷ drop n xs) (sym (add-one k)))

  pub rest_ok : (t more : ReadTrace) (k : ℕ) (d : X) → k < length xs
      → with_item (k + 1) t (item (view (get_or xs k d)) t.names) ≡ Ok more → rest t k ≡ rest more (k + 1)
  rest_ok t more k d h is =
      rest_one t k d h ∙ ap (λ r. go_on name (k + 1) r (λ l. rest l (k + 1))) is

  pub rest_err : (t : ReadTrace) (k : ℕ) (d : X) (fault : ItemFault) → k < length xs
      → with_item (k + 1) t (item (view (get_or xs k d)) t.names) ≡ Err fault → rest t k ≡ Err (name (k + 1) fault)
  rest_err t k d fault h is =
      rest_one t k d h ∙ ap (λ r. go_on name (k + 1) r (λ l. rest l (k + 1))) is

  pub rest_end : (t : ReadTrace) (k : ℕ) → length xs ≤ k → rest t k ≡ Ok t
  unfolding entries_from
  rest_end t k h = ap (λ l. entries_from name t (k + 1) (map item (map view l))) (drop_all k xs h)

-- a fault of an item is that of the trace, unless memory ran out
pub gives_refused : (name : ℕ → ItemFault → TraceFault) (k : ℕ) (wanted : Result ReadTrace TraceFault) (found : Result ReadTrace ItemFault) (fault : ItemFault)
    → name k item.Memory ≡ Memory → ((e : ItemFault) → found ≡ Err e → wanted ≡ Err (name k e)) → RefusesItem found fault → GivesTrace wanted (Err (name k fault))
gives_refused name k wanted found fault memory named (inl is) = inl (named fault is)
gives_refused name k wanted found fault memory named (inr is) = inr (ap (name k) is ∙ memory)

-- ---- an item that is read, unless memory runs out

no_memory : (k : ℕ) (t more : ReadTrace) (read : Result (Option Item) ItemFault) → read ≡ Err item.Memory → with_item k t read ≡ Ok more → ⊥
no_memory k t more read is added =
    let refused : with_item k t read ≡ Err item.Memory = ap (with_item k t) is in cc

pub added : (k : ℕ) (t more : ReadTrace) (read wanted : Result (Option Item) ItemFault) → AnswersItem wanted read → with_item k t read ≡ Ok more → with_item k t wanted ≡ Ok more
added k t more read wanted (inl is) h = subst (λ (r : Result (Option Item) ItemFault). with_item k t r ≡ Ok more) is h
added k t more read wanted (inr is) h = absurd (no_memory k t more read is h)

pub refused : (k : ℕ) (t : ReadTrace) (read wanted : Result (Option Item) ItemFault) (fault : ItemFault) → AnswersItem wanted read → RefusesItem (with_item k t read) fault → RefusesItem (with_item k t wanted) fault
refused k t read wanted fault (inl is) h = subst (λ (r : Result (Option Item) ItemFault). RefusesItem (with_item k t r) fault) is h
refused k t read wanted fault (inr is) (inr h) = inr h
refused k t read wanted fault (inr is) (inl h) =
    let out : with_item k t read ≡ Err item.Memory = ap (with_item k t) is in
    inr (let e = sym h ∙ out in cc)

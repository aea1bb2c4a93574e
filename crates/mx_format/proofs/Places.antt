-- Texts of a list, one after another.
use Rattle.std.proofs.Common.{◌≡◌, ◌∙◌, ℕ, zero, suc, add-one, ◌+◌, ◌<◌, ◌≤◌, List, [], ◌∷◌, ◌++◌, length, drop, get_or, slice_get, ap, refl, subst, sym, append_assoc, Some, Result, Ok, Err, OnOk, drop-cons}
use Rattle.std.specs.Bool.{⊤}
use Rattle.std.specs.List.{enumerate_from}
use Rattle.std.proofs.lemmas.List.{drop_all}
use Rattle.std.proofs.lemmas.Option.{same_Some, slice_get-get_or}
use Rattle.mx_stamps.proofs.Lists.{append_nil, none_is_no_some}
use Rattle.mx_plan.specs.Text.{Text}
use Rattle.mx_format.specs.Lines.{each_text, joined, texts_from}

drop_get : {X : Type 0} (xs : List X) (k : ℕ) (x : X) → slice_get xs k ≡ Some x → drop k xs ≡ x ∷ drop (suc k) xs
drop_get [] k x h = absurd (none_is_no_some x h)
drop_get (y ∷ ys) zero x h = ap (λ z. z ∷ ys) (same_Some y x h)
drop_get (y ∷ ys) (suc k) x h = drop_get ys k x h

-- one more of a list
pub each_more : {X : Type 0} (f : X → Text) (xs : List X) (k : ℕ) (d : X) (t t' : Text) → k < length xs
    → t' ≡ t ++ f (get_or xs k d) → t ++ each_text f (drop k xs) ≡ t' ++ each_text f (drop (k + 1) xs)
each_more f xs k d t t' lt e =
    ap (λ l. t ++ each_text f l) (drop-cons xs k d lt ∙ ap (λ n. get_or xs k d ∷ drop n xs) (sym (add-one k)))
    ∙ sym (append_assoc t (f (get_or xs k d)) (each_text f (drop (k + 1) xs)))
    ∙ ap (λ l. l ++ each_text f (drop (k + 1) xs)) (sym e)

-- one more of a list whose texts tell the place
pub place_more : {X : Type 0} (f : ℕ → X → Text) (xs : List X) (k : ℕ) (x : X) (t t' : Text) → slice_get xs k ≡ Some x
    → t' ≡ t ++ f k x → t ++ texts_from f k (drop k xs) ≡ t' ++ texts_from f (k + 1) (drop (k + 1) xs)
place_more f xs k x t t' h e =
    ap (λ l. t ++ texts_from f k l) (drop_get xs k x h ∙ ap (λ n. x ∷ drop n xs) (sym (add-one k)))
    ∙ sym (append_assoc t (f k x) (texts_from f (k + 1) (drop (k + 1) xs)))
    ∙ ap (λ l. l ++ texts_from f (k + 1) (drop (k + 1) xs)) (sym e)

pub place_end : {X : Type 0} (f : ℕ → X → Text) (xs : List X) (k : ℕ) (t : Text) → length xs ≤ k → t ++ texts_from f k (drop k xs) ≡ t
place_end f xs k t le = ap (λ l. t ++ texts_from f k l) (drop_all k xs le) ∙ append_nil t

-- one more item n of a list whose texts tell the place
pub item_more : {X : Type 0} (f : ℕ → X → Text) (xs : List X) (k n : ℕ) (x : X) (t t' : Text) → k < length xs → x ≡ get_or xs k x → n ≡ k
    → t' ≡ t ++ f n x → t ++ texts_from f k (drop k xs) ≡ t' ++ texts_from f (k + 1) (drop (k + 1) xs)
item_more {X} f xs k n x t t' lt is same e =
    place_more f xs k x t t' (slice_get-get_or xs k x lt ∙ ap (λ (y : X). Some y) (sym is)) (e ∙ ap (λ (m : ℕ). t ++ f m x) same)

-- texts that tell the place, of items that come with their places
all_numbered : {X : Type 0} (f : ℕ → X → Text) (k : ℕ) (xs : List X) → texts_from f k xs ≡ each_text (λ x. f x.0 x.1) (enumerate_from k xs)
all_numbered f k [] = refl
all_numbered f k (x ∷ xs) = ap (λ l. f k x ++ l) (all_numbered f (k + 1) xs)

pub numbered : {X : Type 0} (f : ℕ → X → Text) (k : ℕ) (xs : List X) (left : List (ℕ × X)) (t : Text) → left ≡ enumerate_from k xs
    → t ++ texts_from f k xs ≡ t ++ each_text (λ x. f x.0 x.1) left
numbered {X} f k xs left t is =
    ap (λ (l : Text). t ++ l) (all_numbered f k xs) ∙ ap (λ (l : List (ℕ × X)). t ++ each_text (λ x. f x.0 x.1) l) (sym is)

-- the first of the items that are left
pub first_written : {X : Type 0} (f : X → Text) (xs ys : List X) (x : X) (t t' : Text) → xs ≡ x ∷ ys → t' ≡ t ++ f x → t ++ each_text f xs ≡ t' ++ each_text f ys
first_written f xs ys x t t' is e =
    ap (λ l. t ++ each_text f l) is ∙ sym (append_assoc t (f x) (each_text f ys)) ∙ ap (λ l. l ++ each_text f ys) (sym e)

-- none is left
pub all_written : {X : Type 0} (f : X → Text) (xs : List X) (t : Text) → xs ≡ [] → t ++ each_text f xs ≡ t
all_written f xs t none = ap (λ l. t ++ each_text f l) none ∙ append_nil t

-- the first of the items, and then the others, with a text between them
pub joined_whole : {X E : Type 0} (between : Text) (f : X → Text) (r : Result ⊤ E) (xs : List X) (x : X) (rest : List X) (t t1 t2 : Text) → xs ≡ x ∷ rest → t1 ≡ t ++ f x
    → OnOk r (t2 ≡ t1 ++ each_text (λ y. between ++ f y) rest) → OnOk r (t2 ≡ t ++ joined between f xs)
joined_whole {X} between f (Ok u) xs x rest t t1 t2 is one more =
    let others : Text = each_text (λ y. between ++ f y) rest in
    subst (λ (l : List X). t2 ≡ t ++ joined between f l) (sym is) (more ∙ ap (λ (l : Text). l ++ others) one ∙ append_assoc t (f x) others)
joined_whole between f (Err e) xs x rest t t1 t2 is one more = tt

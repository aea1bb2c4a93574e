-- What a look at a place of a list finds.
use Rattle.std.proofs.Common.{ℕ, ◌≡◌, true, false, List, Option, Some, None, MatchOption, IfSome, is_some, nat_lt, slice_get, get_or, length, sym, subst}
use Rattle.std.specs.Borrow.{Bor}
use Rattle.mx_journal.proofs.Choices.{lt_false, lt_true}
use Rattle.mx_network.proofs.Happening.{at_place, past}

-- a place past the end, and one that is there
pub none_at : {X : Type 0} (xs ys : List X) (k : ℕ) → xs ≡ ys → false ≡ nat_lt k (length xs) → slice_get ys k ≡ None
none_at {X} xs ys k same out = subst (λ (l : List X). slice_get l k ≡ None) same (past xs k (lt_false k (length xs) (sym out)))

pub some_at : {X : Type 0} (xs ys : List X) (k : ℕ) (x : X) → xs ≡ ys → true ≡ nat_lt k (length xs) → x ≡ get_or xs k x → slice_get ys k ≡ Some x
some_at {X} xs ys k x same within is = subst (λ (l : List X). slice_get l k ≡ Some x) same (at_place xs k x (lt_true k (length xs) (sym within)) is)

found_there : {X : Type 0} (xs ys : List X) (k : ℕ) (o : Option (Bor X)) → xs ≡ ys → is_some o ≡ nat_lt k (length xs) → IfSome o (λ b. b.now ≡ get_or xs k b.now) → MatchOption o (slice_get ys k ≡ None) (λ b. slice_get ys k ≡ Some b.now)
found_there xs ys k None same within is = none_at xs ys k same within
found_there xs ys k (Some b) same within is = some_at xs ys k b.now same within is

pub found : {X : Type 0} (xs ys : List X) (k n : ℕ) (o : Option (Bor X)) → xs ≡ ys → k ≡ n → is_some o ≡ nat_lt k (length xs) → IfSome o (λ b. b.now ≡ get_or xs k b.now) → MatchOption o (slice_get ys n ≡ None) (λ b. slice_get ys n ≡ Some b.now)
found {X} xs ys k n o same place within is =
    subst (λ (i : ℕ). MatchOption o (slice_get ys i ≡ None) (λ (b : Bor X). slice_get ys i ≡ Some b.now)) place (found_there xs ys k o same within is)

-- what holds of whatever stands there holds of what was found
pub if_found : {X : Type 0} (P : X → Type 0) (ys : List X) (n : ℕ) (o : Option (Bor X)) → MatchOption o (slice_get ys n ≡ None) (λ b. slice_get ys n ≡ Some b.now) → ((x : X) → slice_get ys n ≡ Some x → P x) → IfSome o (λ b. P b.now)
if_found P ys n None found each = tt
if_found P ys n (Some b) found each = each b.now found

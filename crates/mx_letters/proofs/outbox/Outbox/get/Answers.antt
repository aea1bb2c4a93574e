use Rattle.std.proofs.Common.{◌≡◌, ℕ, List, length, get_or, slice_get, nat_lt, Bor, Option, None, Some, MatchOption, IfSome, is_some, refl, arith}
use Rattle.std.proofs.lemmas.Bool.Decides.{nat_tests}
use Rattle.std.proofs.lemmas.Option.{slice_get_past, slice_get_read}
use Rattle.mx_letters.proofs.outbox.Outbox.get.Goals as goal

-- what `get` of a slice returns, as the element at `k`, if there is one
got : {X : Type 0} (xs now : List X) (k : ℕ) (r : Option (Bor X)) → is_some r ≡ nat_lt k (length xs) → IfSome r (λ x. x.now ≡ get_or xs k x.now) → xs ≡ now → MatchOption r (slice_get now k ≡ None) (λ x. slice_get now k ≡ Some x.now)
got xs now k None s v e = rw (← e) (slice_get_past xs k (grind (arith, nat_tests)))
got xs now k (Some x) s v e = rw (← e) (slice_get_read xs (length xs) k x.now refl (grind (arith, nat_tests)) v)

pub returns : goal.returns
returns g c = got _ _ _ _ c.get.ensures.lookup.0 c.get.ensures.lookup.1 (cc)

-- Results.
use Rattle.std.proofs.Common.{◌≡◌, Result, Ok, Err, OnOk, IfOk, ap, false, true}
use Rattle.std.specs.Result.{is_err}

not_false : true ≡ false → ⊥
not_false e = cc

-- a result without an error has what is known of such results
pub from_ok : {T E : Type 0} (P : Type 0) (r : Result T E) → is_err r ≡ false → OnOk r P → P
from_ok P (Ok t) is x = x
from_ok P (Err e) is x = absurd (not_false is)

pub if_any : {T E : Type 0} (P : Type 0) (r : Result T E) → P → OnOk r P
if_any P (Ok t) x = x
if_any P (Err e) x = tt

-- a value with which something holds
pub on_some : {T E A : Type 0} (P : A → Type 0) (a : A) (r : Result T E) → OnOk r (P a) → OnOk r ((x : A) × P x)
on_some P a (Ok t) x = (a, x)
on_some P a (Err e) x = tt

pub if_ok_ap : {T E A B : Type 0} (part : T → A) (f : A → B) (a : A) (r : Result T E) → IfOk r (λ t. part t ≡ a) → IfOk r (λ t. f (part t) ≡ f a)
if_ok_ap part f a (Ok t) is = ap f is
if_ok_ap part f a (Err e) is = tt

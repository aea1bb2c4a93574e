use Rattle.std.proofs.Common.{◌≡◌, Result, Ok, Err, OnOk, is_ok}
use Rattle.mx_journal.proofs.draft.Draft.read.Goals as goal

both_ok : {X E F P Q : Type 0} (r : Result X E) (s : Result X F) → is_ok s ≡ is_ok r → OnOk r P → (P → Q) → OnOk s Q
both_ok (Ok x) (Ok y) e p f = f p
both_ok (Ok x) (Err g) e p f = tt
both_ok (Err g) (Ok y) e p f = let bad : ⊥ = cc in absurd bad
both_ok (Err g) (Err h) e p f = tt

pub returns-clause-ok : goal.returns-clause-ok
returns-clause-ok c = both_ok c.try_push.result c.map_err.result c.map_err.ensures.variant c.try_push.ensures.ok (λ e. rw (e, ← c.self.view_is, c.len-after.ensures.value))

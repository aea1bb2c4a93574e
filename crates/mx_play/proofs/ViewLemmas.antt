-- Lines that are not shown.
use Rattle.std.proofs.Common.{◌≡◌, ◌∙◌, ◌++◌, Bool, false, [], Result, Ok, Err, OnOk, if◌then◌else◌, ap, append_assoc, subst, sym}
use Rattle.std.specs.Bool.{⊤}
use Rattle.std.specs.declared.alloc.AllocError.{AllocError}
use Rattle.mx_stamps.proofs.Lists.{append_nil}
use Rattle.mx_plan.specs.Text.{Text}

pub not_shown : (b : Bool) (line text : Text) → b ≡ false → text ≡ text ++ (if b then line else [])
not_shown b line text is = subst (λ (q : Bool). text ≡ text ++ (if q then line else [])) (sym is) (sym (append_nil text))

-- three texts, one after another
three_shown : (r : Result ⊤ AllocError) (t t1 t2 t3 a b c : Text) → t1 ≡ t ++ a → t2 ≡ t1 ++ b → OnOk r (t3 ≡ t2 ++ c) → OnOk r (t3 ≡ t ++ ((a ++ b) ++ c))
three_shown (Ok u) t t1 t2 t3 a b c first second third =
    third ∙ ap (λ (l : Text). l ++ c) (second ∙ ap (λ (l : Text). l ++ b) first ∙ append_assoc t a b) ∙ append_assoc t (a ++ b) c
three_shown (Err e) t t1 t2 t3 a b c first second third = tt

-- four texts
pub four_shown : (r : Result ⊤ AllocError) (t t1 t2 t3 t4 a b c d : Text) → t1 ≡ t ++ a → t2 ≡ t1 ++ b → t3 ≡ t2 ++ c → OnOk r (t4 ≡ t3 ++ d) → OnOk r (t4 ≡ t ++ (((a ++ b) ++ c) ++ d))
four_shown r t t1 t2 t3 t4 a b c d first second = three_shown r t t2 t3 t4 (a ++ b) c d (second ∙ ap (λ (l : Text). l ++ b) first ∙ append_assoc t a b)

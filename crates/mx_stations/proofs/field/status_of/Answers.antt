use Rattle.std.proofs.Common.{◌≡◌, ◌⊎◌, inl, inr, ℕ, ◌+◌, ◌*◌, sym, ap, ◌∙◌, arith}
use Rattle.mx_nodelaws.specs.declared.phase.Phase.{Phase}
use Rattle.mx_nodelaws.specs.declared.phase.Phase.TheVariants.{Idle, Waiting, Inside}
use Rattle.mx_stations.specs.Running.{status}
use Rattle.mx_stations.proofs.field.status_of.Goals as goal

odd_word : (p q : Phase) (number mine shown : ℕ) → q ≡ p → q ≡ Inside number → shown ≡ mine → 2 * shown + 1 ≡ status p mine
odd_word p q number mine shown same is shown_is =
    ap (λ (k : ℕ). 2 * k + 1) shown_is ∙ ap (λ (r : Phase). status r mine) (sym is ∙ same)

even_word : (p q : Phase) (mine shown : ℕ) → q ≡ p → (q ≡ Idle) ⊎ (q ≡ Waiting) → shown ≡ mine → 2 * shown ≡ status p mine
even_word p q mine shown same (inl is) shown_is =
    ap (λ (k : ℕ). 2 * k) shown_is ∙ ap (λ (r : Phase). status r mine) (sym is ∙ same)
even_word p q mine shown same (inr is) shown_is =
    ap (λ (k : ℕ). 2 * k) shown_is ∙ ap (λ (r : Phase). status r mine) (sym is ∙ same)

pub overflow_mul-result : goal.overflow_mul-result
overflow_mul-result g c = let n : ℕ = c.mine-mine.result in let h = c.mine-mine.ensures.high in omega (arith, h)

pub overflow_add-result : goal.overflow_add-result
overflow_add-result g c = let n : ℕ = c.mine-mine.result in let h = c.mine-mine.ensures.high in omega (arith, h)

pub overflow_mul-result-in-Idle : goal.overflow_mul-result-in-Idle
overflow_mul-result-in-Idle g c = let n : ℕ = c.mine-mine.result in let h = c.mine-mine.ensures.high in omega (arith, h)

pub returns-in-Inside : goal.returns-in-Inside
returns-in-Inside g c =
    let core = g.C.Exclusion.core in let m = c.args.member.now.core in
    odd_word (core.phase m) c.phase.result c.in-Inside.field-0 (core.mine m) c.mine-mine.result c.phase.ensures.value c.in-Inside.is c.mine-mine.ensures.value

pub returns-in-Idle : goal.returns-in-Idle
returns-in-Idle g c =
    let core = g.C.Exclusion.core in let m = c.args.member.now.core in
    even_word (core.phase m) c.phase.result (core.mine m) c.mine-mine.result c.phase.ensures.value c.in-Idle.is c.mine-mine.ensures.value

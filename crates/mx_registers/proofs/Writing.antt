-- The writes of one section, one after the other.
use Rattle.std.proofs.Common.{ℕ, ◌≡◌, Some, None, nat_le, refl, sym, ◌∙◌, arith}
use Rattle.std.proofs.lemmas.Bool.Decides.{nat_tests}
use Rattle.mx_stamps.proofs.Choices.{cond_case, cond_true}
use Rattle.mx_journal.proofs.Written.{SecondCounts}
use Rattle.mx_registers.specs.declared.contents.Content.{Content}
use Rattle.mx_registers.specs.Registers.{after_write, number_by}

-- of two writes of one section the second counts
pub write_twice : (n : ℕ) → SecondCounts (after_write n)
write_twice n v None content = refl
write_twice n v (Some u) content =
    let kept : Content = record { value = u; by = Some n } in
    let last : Content = record { value = v; by = Some n } in
    cond_case (λ c. after_write n (Some v) c ≡ after_write n (Some v) content) (nat_le (number_by content.by) n) kept content
    (λ t. cond_true (nat_le n n) last kept (grind (arith, nat_tests)) ∙ sym (cond_true (nat_le (number_by content.by) n) last content t))
    (λ _. refl)

-- What the tests of the step table mean.
use Rattle.std.proofs.Common.{ℕ, ◌<◌, ◌≡◌, ◌≢◌, inl, inr, Bool, true, not, ◌↔◌, IsTrue, nat_eq, nat_lt, sym, ◌∙◌}
use Rattle.mx_stamps.proofs.Lists.{dec_eq}
use Rattle.mx_stamps.proofs.Choices.{lt_true, eq_false, eq_is, eq_not, not_true, and_true, or_left, or_right, or_false}
use Rattle.mx_nodelaws.proofs.Tests.{each_passes, all_pass}
use Rattle.mx_ricart.specs.Node.{Node}
use Rattle.mx_ricart.specs.Step.{is_other, has_reply, HasAllReplies, is_replied, has_all_replies}

pub other_is : (s : Node) (j : ℕ) → is_other s j ≡ true → (j < s.count) × (j ≢ s.me)
other_is s j e =
    let p = and_true (nat_lt j s.count) (not (nat_eq j s.me)) e in
    (lt_true j s.count p.0, eq_false j s.me (not_true (nat_eq j s.me) p.1))

-- the permission holds if and only if its test does

pub all_replies : (s : Node) → has_all_replies s ≡ true → HasAllReplies s
all_replies s all j lt ne = or_false (nat_eq j s.me) (has_reply s j)
    (each_passes (is_replied s) s.count all j lt) (eq_not j s.me ne)

replies_all : (s : Node) → HasAllReplies s → has_all_replies s ≡ true
replies_all s all = all_pass (is_replied s) s.count (λ j lt. elim (dec_eq j s.me) [
  | inl e ↦ or_left (nat_eq j s.me) (has_reply s j) (eq_is j s.me e)
  | inr ne ↦ or_right (nat_eq j s.me) (has_reply s j) (all j lt ne)
])

pub permission_is : (s : Node) (all : Bool) → all ≡ has_all_replies s → IsTrue all ↔ HasAllReplies s
permission_is s all e = (λ h. all_replies s (sym e ∙ h), λ h. e ∙ replies_all s h)

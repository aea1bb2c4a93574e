-- Drawn events, and that they name nodes and registers that are there.
use Rattle.std.proofs.Common.{ℕ, zero, suc, ◌≡◌, ◌≤◌, ◌<◌, ◌%◌, arith, Bool, true, false, if◌then◌else◌, nat_lt}
use Rattle.std.proofs.Math.Nat.{mod-lt}
use Rattle.std.proofs.lemmas.Bool.Decides.{nat_tests}
use Rattle.rand_pcg.specs.Lcg.{Lcg}
use Rattle.mx_events.specs.declared.event.Event.{Event}
use Rattle.mx_events.specs.declared.event.Event.TheVariants.{Leave, Deliver, Cancel}
use Rattle.mx_events.specs.Arguments.{AreEventsWithin, IsWithin}
use Rattle.mx_events.proofs.WithinLemmas.{more_within, none_within}
use Rattle.mx_explorer.specs.Drawn.{after_drawn, after_words, drawn, drawn_list, event_by, word}

-- which numbers leave, which deliver, and which cancel
module _ (n nodes registers : ℕ) (g : Lcg) where
  pub leaves : 6 ≤ n → n < 8 → event_by n nodes registers g ≡ Leave (word g % nodes)
  leaves more less = grind (arith, nat_tests)

  pub delivers : 11 ≤ n → n < 14 → event_by n nodes registers g ≡ Deliver (word g)
  delivers more less = grind (arith, nat_tests)

  pub cancels : 15 ≤ n → event_by n nodes registers g ≡ Cancel (word g % nodes)
  cancels more = grind (arith, nat_tests)

module _ (nodes registers : ℕ) (g : Lcg) (n : 0 < nodes) (r : 0 < registers) where
  either : (b : Bool) (x y : Event) → IsWithin nodes registers x → IsWithin nodes registers y → IsWithin nodes registers (if b then x else y)
  either true x y first second = first
  either false x y first second = second

  node : word g % nodes < nodes
  node = mod-lt (word g) n

  register : word (after_words 1 g) % registers < registers
  register = mod-lt (word (after_words 1 g)) r

  pub event_is_within : (k : ℕ) → IsWithin nodes registers (event_by k nodes registers g)
  event_is_within k =
      either (nat_lt k 2) _ _ (node, tt)
      (either (nat_lt k 4) _ _ (node, tt)
      (either (nat_lt k 5) _ _ (node, (register, tt))
      (either (nat_lt k 6) _ _ (node, (register, (tt, tt)))
      (either (nat_lt k 8) _ _ (node, tt)
      (either (nat_lt k 9) _ _ (node, tt)
      (either (nat_lt k 10) _ _ (node, (mod-lt (word (after_words 1 g)) n, tt))
      (either (nat_lt k 11) _ _ (node, tt)
      (either (nat_lt k 14) _ _ (tt, tt)
      (either (nat_lt k 15) _ _ (node, (tt, tt)) (node, tt))))))))))

pub all_within : (steps nodes registers : ℕ) (g : Lcg) → 0 < nodes → 0 < registers → AreEventsWithin nodes registers (drawn_list steps nodes registers g)
all_within zero nodes registers g n r = none_within nodes registers
all_within (suc steps) nodes registers g n r =
    more_within nodes registers (drawn nodes registers g) (drawn_list steps nodes registers (after_drawn (drawn nodes registers g) g))
    (event_is_within nodes registers (after_words 1 g) n r (word g % 16)) (all_within steps nodes registers (after_drawn (drawn nodes registers g) g) n r)

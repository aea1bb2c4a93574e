-- Worlds of which each node and each letter is as it should be: at the start, after a step, and with the
-- same letters in another order.
use Rattle.std.proofs.Common.{ℕ, ◌<◌, ◌↔◌, inl, inr, List, [], sym, subst}
use Rattle.mx_stamps.specs.Lists.{IsIn, each_below}
use Rattle.mx_stamps.proofs.Lists.{get_each_below, has_each_below}
use Rattle.mx_nodelaws.specs.World.{World, Done, IsNode, WasSent, IsEachOk, after}
use Rattle.mx_nodelaws.proofs.Frame.{node_cases, sent_before}

module _ {S M : Type 0} (NodeOk : World S M → ℕ → S → Type 0) (LetterOk : World S M → ℕ → ℕ → M → Type 0) where
  abbrev at_rest : (ℕ → S) → ℕ → World S M
  at_rest start count = record { nodes = each_below start count; sent = [] }

  pub each_at_start : (start : ℕ → S) (count : ℕ) → ((i : ℕ) → i < count → IsNode (at_rest start count) i (start i) → NodeOk (at_rest start count) i (start i)) → IsEachOk NodeOk LetterOk (at_rest start count)
  each_at_start start count node = record {
    nodes = λ i s at. let r = get_each_below start count i s at in subst (λ x. NodeOk (at_rest start count) i x) (sym r.1) (node i r.0 (has_each_below start count i r.0));
    letters = λ a b m sent. absurd sent;
  }

  pub each_after_step : {A : Type 0} (w : World S M) (i : ℕ) (s : S) (done : Done S A M) → IsNode w i s → IsEachOk NodeOk LetterOk w
      → ((j : ℕ) (t : S) → IsNode w j t → NodeOk w j t → NodeOk (after w i done) j t) → ((a b : ℕ) (m : M) → WasSent w a b m → LetterOk w a b m → LetterOk (after w i done) a b m)
      → NodeOk (after w i done) i done.state → ((b : ℕ) (m : M) → IsIn (b, m) done.letters → LetterOk (after w i done) i b m) → IsEachOk NodeOk LetterOk (after w i done)
  each_after_step w i s done at each others olds node letters = record {
    nodes = λ j t tat. elim (node_cases w i s done at j t tat) [
      | inl p ↦ subst (λ x. NodeOk (after w i done) x t) (sym p.0) (subst (λ x. NodeOk (after w i done) i x) (sym p.1) node)
      | inr p ↦ others j t p.1 (each.nodes j t p.1)
    ];
    letters = λ a b m sent. elim (sent_before w i s done at a b m sent) [
      | inl old ↦ olds a b m old (each.letters a b m old)
      | inr new ↦ subst (λ x. LetterOk (after w i done) x b m) (sym new.0) (letters b m new.1)
    ];
  }

  pub each_again : (w : World S M) (sent : List (ℕ × ℕ × M)) → ((x : ℕ × ℕ × M) → IsIn x w.sent ↔ IsIn x sent)
      → ((i : ℕ) (s : S) → NodeOk w i s → NodeOk (record { nodes = w.nodes; sent = sent }) i s) → ((a b : ℕ) (m : M) → LetterOk w a b m → LetterOk (record { nodes = w.nodes; sent = sent }) a b m)
      → IsEachOk NodeOk LetterOk w → IsEachOk NodeOk LetterOk (record { nodes = w.nodes; sent = sent })
  each_again w sent same nodes letters each = record {
    nodes = λ i s at. nodes i s (each.nodes i s at);
    letters = λ a b m was. letters a b m (each.letters a b m ((same (a, b, m)).1 was));
  }

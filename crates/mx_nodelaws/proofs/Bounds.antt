-- Numbers that are u64 values, and names that are nodes: states, letters, steps, the world at rest.
use Rattle.std.proofs.Common.{ℕ, ◌<◌, ◌≡◌, ◌↔◌, inl, inr, List, [], ◌∷◌, ◌++◌, Option, Some, None, get_or, replicate, slice_set, length, sym, ◌∙◌, subst, arith}
use Rattle.std.proofs.lemmas.Option.{same_Some, slice_get_within}
use Rattle.mx_stamps.specs.Lists.{IsIn, each_below}
use Rattle.mx_stamps.proofs.Lists.{in_append, get_after, get_each_below, get_or_after, get_or_replicate, length_each_below, length_set, none_is_no_some}
use Rattle.mx_nodelaws.specs.World.{World, Done, IsNode, after, sent_by}
use Rattle.mx_nodelaws.specs.Bounds.{AreBounded, IsBoundedDone, IsBoundedWorld}
use Rattle.mx_nodelaws.proofs.Worlds.{in_sent_by}

-- what holds of each value that a state may hold
module _ {X : Type 0} (P : X → Type 0) where
  pub none_held : (x : X) → None ≡ Some x → P x
  none_held x e = absurd (none_is_no_some x e)

  pub one_held : (v x : X) → P v → Some v ≡ Some x → P x
  one_held v x ok e = subst P (same_Some v x e) ok

  -- at each place of a list
  pub none_at : (k j : ℕ) (x : X) → get_or (replicate k None) j None ≡ Some x → P x
  none_at k j x e = none_held x (sym (get_or_replicate k j None) ∙ e)

  pub put_at : (xs : List (Option X)) (b : ℕ) (o : Option X) → ((x : X) → o ≡ Some x → P x) → ((j : ℕ) (x : X) → get_or xs j None ≡ Some x → P x) → (j : ℕ) (x : X) → get_or (slice_set xs b o) j None ≡ Some x → P x
  put_at xs b o new old j x e = elim (get_or_after xs b j o None (Some x) e) [ inl p ↦ new x p.1 | inr was ↦ old j x was ]

  pub set_at : (xs : List X) (b : ℕ) (v d : X) → P v → ((j : ℕ) (x : X) → get_or xs j d ≡ x → P x) → (j : ℕ) (x : X) → get_or (slice_set xs b v) j d ≡ x → P x
  set_at xs b v d new old j x e = elim (get_or_after xs b j v d x e) [ inl p ↦ subst P p.1 new | inr was ↦ old j x was ]

module _ {M : Type 0} (Letter : ℕ → M → Type 0) (n : ℕ) where
  pub nil : AreBounded Letter n []
  nil b m none = absurd none

  pub one : (b : ℕ) (m : M) → b < n → Letter n m → AreBounded Letter n ((b, m) ∷ [])
  one b m lt ok c k (inl e) = subst (λ (x : ℕ × M). (x.0 < n) × Letter n x.1) (sym e) (lt, ok)
  one b m lt ok c k (inr none) = absurd none

  pub both : (xs ys : List (ℕ × M)) → AreBounded Letter n xs → AreBounded Letter n ys → AreBounded Letter n (xs ++ ys)
  both xs ys p q b m sent = elim (in_append (b, m) xs ys sent) [ inl x ↦ p b m x | inr y ↦ q b m y ]

module _ {S M : Type 0} (Node : ℕ → S → Type 0) (Letter : ℕ → M → Type 0) where
  -- a world after a bounded step
  pub bounded_after : {A : Type 0} (w : World S M) (i : ℕ) (s : S) (done : Done S A M) → IsBoundedWorld Node Letter w → IsNode w i s → IsBoundedDone Node Letter (length w.nodes) done → IsBoundedWorld Node Letter (after w i done)
  bounded_after w i s done bounded at ok =
      let e : length w.nodes ≡ length (slice_set w.nodes i done.state) = sym (length_set w.nodes i done.state) in record {
        nodes = λ j t tat. subst (λ n. Node n t) e (elim (get_after w.nodes i j s done.state t at tat) [
          | inl p ↦ subst (λ x. Node (length w.nodes) x) (sym p.1) ok.state
          | inr p ↦ bounded.nodes j t p.1
        ]);
        letters = λ a b m sent. subst (λ n. (a < n) × (b < n) × Letter n m) e (elim (in_append (a, b, m) w.sent (sent_by i done.letters) sent) [
          | inl old ↦ bounded.letters a b m old
          | inr new ↦ let r = in_sent_by i a b m done.letters new in let q = ok.letters b m r.1 in let lt = slice_get_within w.nodes i s at in (omega (arith, r.0), q.0, q.1)
        ]);
      }

  -- the world at rest
  pub bounded_start : (start : ℕ → S) (count : ℕ) → ((i : ℕ) → i < count → Node count (start i)) → IsBoundedWorld Node Letter (record { nodes = each_below start count; sent = [] })
  bounded_start start count bounded =
      let e : length (each_below start count) ≡ count = length_each_below start count in record {
        nodes = λ i s at. let r = get_each_below start count i s at in subst (λ n. Node n s) (sym e) (subst (λ x. Node count x) (sym r.1) (bounded i r.0));
        letters = λ a b m sent. absurd sent;
      }

  -- this depends on which letters were sent, and not on how often or in which order
  pub bounded_by : (w : World S M) (sent : List (ℕ × ℕ × M)) → ((x : ℕ × ℕ × M) → IsIn x w.sent ↔ IsIn x sent) → IsBoundedWorld Node Letter w → IsBoundedWorld Node Letter (record { nodes = w.nodes; sent = sent })
  bounded_by w sent same bounded = record { nodes = bounded.nodes; letters = λ a b m h. bounded.letters a b m ((same (a, b, m)).1 h) }

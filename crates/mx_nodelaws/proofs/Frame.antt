-- What a step of one node leaves as it was: the other nodes, the letters sent, what was reached.
use Rattle.std.proofs.Common.{ℕ, ◌<◌, ◌≤◌, ◌≡◌, ◌≢◌, ◌⊎◌, inl, inr, max, length, sym, ◌∙◌, ap, subst, arith}
use Rattle.std.proofs.lemmas.Option.{same_Some}
use Rattle.mx_stamps.specs.Lists.{IsIn}
use Rattle.mx_stamps.proofs.Choices.{dec_le}
use Rattle.mx_stamps.proofs.Lists.{dec_eq, get_after, get_set_same, get_set_other, in_left, in_append, length_set}
use Rattle.mx_nodelaws.specs.World.{World, Done, IsNode, WasSent, after, sent_by}
use Rattle.mx_nodelaws.specs.Raised.{IsReachedBy, HasComeTo}
use Rattle.mx_nodelaws.proofs.Worlds.{in_sent_by}

module _ {S M : Type 0} (w : World S M) (i : ℕ) (s : S) (at : IsNode w i s) where
  -- node i is s, also where i goes by another name

  pub at_as : (j : ℕ) → j ≡ i → IsNode w j s
  at_as j e = subst (λ x. IsNode w x s) (sym e) at

  pub was : (j : ℕ) (t : S) → j ≡ i → IsNode w j t → t ≡ s
  was j t e tat = same_Some t s (sym tat ∙ at_as j e)

module _ {S A M : Type 0} (w : World S M) (i : ℕ) (s : S) (done : Done S A M) (at : IsNode w i s) where
  -- node i after the step

  pub itself : IsNode (after w i done) i done.state
  itself = get_set_same w.nodes i s done.state at

  pub is_new : (j : ℕ) (t : S) → j ≡ i → IsNode (after w i done) j t → t ≡ done.state
  is_new j t e tat = same_Some t done.state (sym (subst (λ x. IsNode (after w i done) x t) e tat) ∙ itself)

  -- another node after the step
  pub is_old : (j : ℕ) (t : S) → j ≢ i → IsNode (after w i done) j t → IsNode w j t
  is_old j t ne tat = sym (get_set_other w.nodes i j done.state ne) ∙ tat

  pub node_cases : (j : ℕ) (t : S) → IsNode (after w i done) j t → ((j ≡ i) × (t ≡ done.state)) ⊎ ((j ≢ i) × IsNode w j t)
  node_cases j t tat = get_after w.nodes i j s done.state t at tat

  -- what holds of a node in its state, where the step keeps it
  pub each_after : (P : S → Type 0) (j : ℕ) → ((t : S) → IsNode w j t → P t) → (j ≡ i → P s → P done.state) → (t : S) → IsNode (after w i done) j t → P t
  each_after P j before keeps t tat = elim (node_cases j t tat) [
    | inl p ↦ subst P (sym p.1) (keeps p.0 (before s (at_as w i s at j p.0)))
    | inr p ↦ before t p.1
  ]

  -- each node is still there
  pub node_after : (j : ℕ) (t : S) → IsNode w j t → (u : S) × IsNode (after w i done) j u
  node_after j t tat = elim (dec_eq j i) [
    | inl e ↦ (done.state, subst (λ x. IsNode (after w i done) x done.state) (sym e) itself)
    | inr ne ↦ (t, get_set_other w.nodes i j done.state ne ∙ tat)
  ]

  pub here_after : (j : ℕ) → j < length w.nodes → j < length (after w i done).nodes
  here_after j lt = subst (λ n. j < n) (sym (length_set w.nodes i done.state)) lt

  -- letters

  pub sent_after : (a b : ℕ) (m : M) → WasSent w a b m → WasSent (after w i done) a b m
  sent_after a b m sent = in_left (a, b, m) w.sent (sent_by i done.letters) sent

  -- a letter was sent before, or by this step
  pub sent_before : (a b : ℕ) (m : M) → WasSent (after w i done) a b m → WasSent w a b m ⊎ ((a ≡ i) × IsIn (b, m) done.letters)
  sent_before a b m sent = elim (in_append (a, b, m) w.sent (sent_by i done.letters) sent) [
    | inl old ↦ inl old
    | inr new ↦ inr (in_sent_by i a b m done.letters new)
  ]

  -- a number that the step does not lower

  pub still_reached : (number : S → ℕ) → number s ≤ number done.state → (n : ℕ) → IsReachedBy number w n → IsReachedBy number (after w i done) n
  still_reached number up n (j, t, tat, le) = elim (dec_eq j i) [
    | inl e ↦ let same : number t ≡ number s = ap number (was w i s at j t e tat) in (i, done.state, itself, omega arith)
    | inr ne ↦ (j, t, get_set_other w.nodes i j done.state ne ∙ tat, le)
  ]

  pub still_come : (number : S → ℕ) → number s ≤ number done.state → (j n : ℕ) → HasComeTo number w j n → HasComeTo number (after w i done) j n
  still_come number up j n h = each_after (λ t. n ≤ number t) j h (λ e le. omega arith)

-- the greater of two numbers that were reached
pub reached_max : {S M : Type 0} (number : S → ℕ) (w : World S M) (a b : ℕ) → IsReachedBy number w a → IsReachedBy number w b → IsReachedBy number w (max a b)
reached_max number w a b p q = elim (dec_le a b) [
  | inl le ↦ let e : b ≡ max a b = omega arith in subst (λ x. IsReachedBy number w x) e q
  | inr lt ↦ let e : a ≡ max a b = omega arith in subst (λ x. IsReachedBy number w x) e p
]

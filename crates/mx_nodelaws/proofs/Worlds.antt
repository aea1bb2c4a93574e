-- Lemmas on worlds: which letters a step adds, and what two steps of one node make together.
use Rattle.std.proofs.Common.{ℕ, zero, suc, ◌<◌, ◌+◌, ◌≡◌, inl, inr, List, [], ◌∷◌, ◌++◌, Option, Some, None, slice_set, length, get_or, take, refl, sym, ◌∙◌, ap, subst, arith}
use Rattle.std.proofs.lemmas.List.{take_more}
use Rattle.mx_stamps.specs.Lists.{IsIn}
use Rattle.mx_stamps.proofs.Lists.{in_append, set_itself, set_set, append_nil, append_append}
use Rattle.mx_nodelaws.specs.World.{World, Done, after, sent_by, IsNode, letter_to, addressed}

pub sent_by-append : {M : Type 0} (i : ℕ) (ps qs : List (ℕ × M)) → sent_by i (ps ++ qs) ≡ sent_by i ps ++ sent_by i qs
sent_by-append i [] qs = refl
sent_by-append i (p ∷ ps) qs = ap (λ r. (i, p.0, p.1) ∷ r) (sent_by-append i ps qs)

-- one letter more
pub sent_by-more : {M : Type 0} (i : ℕ) (ps : List (ℕ × M)) (k : ℕ) (p : ℕ × M) → k < length ps → p ≡ get_or ps k p → sent_by i (take (k + 1) ps) ≡ sent_by i (take k ps) ++ (i, p.0, p.1) ∷ []
sent_by-more i ps k p lt e =
    rw (take_more ps k p lt, sent_by-append i (take k ps) (get_or ps k p ∷ [])) (ap (λ q. sent_by i (take k ps) ++ (i, q.0, q.1) ∷ []) (sym e))

-- whose letter it is
pub in_sent_by : {M : Type 0} (i a b : ℕ) (m : M) (ps : List (ℕ × M)) → IsIn (a, b, m) (sent_by i ps) → (a ≡ i) × IsIn (b, m) ps
in_sent_by i a b m [] h = absurd h
in_sent_by i a b m (p ∷ ps) (inl e) = (ap (λ t. t.0) e, inl (ap (λ t. (t.1, t.2)) e))
in_sent_by i a b m (p ∷ ps) (inr h) = let r = in_sent_by i a b m ps h in (r.0, inr r.1)

pub in_letter_to : {M : Type 0} (n : ℕ) (o : Option M) (b : ℕ) (m : M) → IsIn (b, m) (letter_to n o) → (b ≡ n) × (o ≡ Some m)
in_letter_to n None b m h = absurd h
in_letter_to n (Some x) b m (inl e) = (ap (λ t. t.0) e, ap Some (sym (ap (λ t. t.1) e)))
in_letter_to n (Some x) b m (inr h) = absurd h

pub in_addressed : {M : Type 0} (f : ℕ → Option M) (n b : ℕ) (m : M) → IsIn (b, m) (addressed f n) → (b < n) × (f b ≡ Some m)
in_addressed f zero b m h = absurd h
in_addressed f (suc n) b m h = elim (in_append (b, m) (addressed f n) (letter_to n (f n)) h) [
  | inl a ↦ let r = in_addressed f n b m a in (omega (arith, r.0), r.1)
  | inr l ↦ let r = in_letter_to n (f n) b m l in (omega (arith, r.0), subst (λ k. f k ≡ Some m) (sym r.0) r.1)
]

-- a step that changes nothing and sends nothing leaves the world as it is
pub after_nothing : {S A M : Type 0} (w : World S M) (i : ℕ) (s : S) (answer : A) → IsNode w i s → after w i (record { state = s; answer = answer; letters = [] }) ≡ w
after_nothing w i s answer at =
    subst (λ ns. record { nodes = ns; sent = w.sent ++ [] } ≡ w) (sym (set_itself w.nodes i s at))
    (subst (λ ls. record { nodes = w.nodes; sent = ls } ≡ w) (sym (append_nil w.sent)) refl)

-- so it keeps what holds of the world
pub nothing_kept : {S A M : Type 0} (Safe : World S M → Type 0) (w : World S M) (i : ℕ) (s : S) (answer : A) → Safe w → IsNode w i s → Safe (after w i (record { state = s; answer = answer; letters = [] }))
nothing_kept Safe w i s answer safe at = subst Safe (sym (after_nothing w i s answer at)) safe

-- two steps of one node, one after the other, are one step with the letters of both
pub after_twice : {S A B M : Type 0} (w : World S M) (i : ℕ) (first : Done S A M) (second : Done S B M) → after (after w i first) i second ≡ after w i (record { state = second.state; answer = second.answer; letters = first.letters ++ second.letters })
after_twice w i first second =
    ap (λ ns. record { nodes = ns; sent = (w.sent ++ sent_by i first.letters) ++ sent_by i second.letters }) (set_set w.nodes i first.state second.state)
    ∙ ap (λ ls. record { nodes = slice_set w.nodes i second.state; sent = ls }) (append_append w.sent (sent_by i first.letters) (sent_by i second.letters) ∙ ap (λ ls. w.sent ++ ls) (sym (sent_by-append i first.letters second.letters)))

-- Worlds of an algorithm: the states of the nodes, and all letters ever sent. And the steps of
-- nodes.
use Rattle.std.specs.Prelude.{ℕ, zero, suc, ◌≤◌, ◌≡◌, List, length, [], ◌∷◌, ◌++◌, Option, Some, None, slice_get, slice_set}
use Rattle.mx_stamps.specs.Lists.{IsIn}

-- a step of a node: the next state, the result, and the letters sent, in order, each with its
-- addressee
pub record Done (S A M : Type 0) : Type 0 where
  pub state : S
  pub answer : A
  pub letters : List (ℕ × M)

-- a step that sends nothing: the next state and the result
pub record Quiet (S A : Type 0) : Type 0 where
  pub state : S
  pub answer : A

abbrev pub quietly : {S A M : Type 0} → Quiet S A → Done S A M
quietly step = record { state = step.state; answer = step.answer; letters = [] }

-- the same step with another result
abbrev pub answering : {S A B M : Type 0} → Done S A M → B → Done S B M
answering done b = record { state = done.state; answer = b; letters = done.letters }

-- a step to this state that sends these letters
abbrev pub sending : {S M : Type 0} → S → List (ℕ × M) → Done S (Unit {0}) M
sending s letters = record { state = s; answer = tt; letters = letters }

-- a step to this state that sends nothing
abbrev pub becoming : {S M : Type 0} → S → Done S (Unit {0}) M
becoming s = sending s []

-- two steps of a node, one after the other, as one step; the result is that of the first
abbrev pub and_then : {S A M : Type 0} → Done S A M → (S → Done S (Unit {0}) M) → Done S A M
and_then first second = record {
  state = (second first.state).state;
  answer = first.answer;
  letters = first.letters ++ (second first.state).letters;
}

-- the state of each node, in order, and each letter ever sent, with its sender and its addressee
pub record World (S M : Type 0) : Type 0 where
  pub nodes : List S
  pub sent : List (ℕ × ℕ × M)

-- node i is in state s
abbrev pub IsNode : {S M : Type 0} → World S M → ℕ → S → Type 0
IsNode w i s = slice_get w.nodes i ≡ Some s

-- this letter was sent by node a to node b
abbrev pub WasSent : {S M : Type 0} → World S M → ℕ → ℕ → M → Type 0
WasSent w a b m = IsIn (a, b, m) w.sent

-- the letters of a step of node i, with node i as their sender
abbrev pub sent_by : {M : Type 0} → ℕ → List (ℕ × M) → List (ℕ × ℕ × M)
sent_by i [] = []
sent_by i (p ∷ ps) = (i, p.0, p.1) ∷ sent_by i ps

-- the world after this step of node i: the node has the next state, and its letters join those sent
abbrev pub after : {S A M : Type 0} → World S M → ℕ → Done S A M → World S M
after w i done = record {
  nodes = slice_set w.nodes i done.state;
  sent = w.sent ++ sent_by i done.letters;
}

-- the letter, if there is one, to node n
abbrev pub letter_to : {M : Type 0} → ℕ → Option M → List (ℕ × M)
letter_to n None = []
letter_to n (Some m) = (n, m) ∷ []

-- a letter to each node below n for which f has one, in ascending order of addressee
abbrev pub addressed : {M : Type 0} → (ℕ → Option M) → ℕ → List (ℕ × M)
addressed f zero = []
addressed f (suc n) = addressed f n ++ letter_to n (f n)

-- `out` has the letters of `f` to the nodes below n, in ascending order of addressee: at most n
abbrev pub AreSentBelow : {M : Type 0} → (ℕ → Option M) → ℕ → List (ℕ × M) → Type 0
AreSentBelow f n out = (out ≡ addressed f n) × (length out ≤ n)

-- each node's state has the property NodeOk, and each letter ever sent has the property LetterOk
pub record IsEachOk {S M : Type 0} (NodeOk : World S M → ℕ → S → Type 0)
    (LetterOk : World S M → ℕ → ℕ → M → Type 0) (w : World S M) : Type 0 where
  pub nodes : (i : ℕ) (s : S) → IsNode w i s → NodeOk w i s
  pub letters : (a b : ℕ) (m : M) → WasSent w a b m → LetterOk w a b m

-- What the tests of the step table mean.
use Rattle.std.proofs.Common.{ℕ, ◌<◌, ◌≡◌, ◌≢◌, ◌⊎◌, inl, inr, true, false, not, ◌&&◌, Some, List, [], ◌∷◌, ◌++◌, nat_eq, nat_lt, refl, sym, ◌∙◌, subst}
use Rattle.mx_stamps.proofs.Lists.{none_is_no_some}
use Rattle.mx_stamps.proofs.Choices.{lt_true, eq_true, eq_false, eq_is, not_true, and_true, or_left, or_right, or_cases, cond_case}
use Rattle.mx_stamps.specs.Numbers.{last_number}
use Rattle.mx_nodelaws.specs.Phases.{is_inside}
use Rattle.mx_raymond.specs.Queue.{is_queued, is_empty, head_of, rest_of, joined, without}
use Rattle.mx_raymond.specs.Node.{Node}
use Rattle.mx_raymond.specs.Step.{is_holder, is_named, has_permission, can_pass, must_request}

-- the queue

-- a name in a queue that one more name has joined was in the queue, or is that name
pub queued_pushed : (queue : List ℕ) (name node : ℕ) → is_queued (queue ++ name ∷ []) node ≡ true
    → (is_queued queue node ≡ true) ⊎ (node ≡ name)
queued_pushed [] name node h = elim (or_cases (nat_eq node name) false h) [
  | inl e ↦ inr (eq_true node name e)
  | inr bad ↦ inl bad
]
queued_pushed (first ∷ rest) name node h =
    elim (or_cases (nat_eq node first) (is_queued (rest ++ name ∷ []) node) h) [
      | inl e ↦ inl (or_left (nat_eq node first) (is_queued rest node) e)
      | inr r ↦ elim (queued_pushed rest name node r) [
        | inl old ↦
            inl (or_right (nat_eq node first) (is_queued rest node) old)
        | inr e ↦ inr e
      ]
    ]

pub queued_joined : (queue : List ℕ) (name node : ℕ) → is_queued (joined queue name) node ≡ true
    → (is_queued queue node ≡ true) ⊎ (node ≡ name)
queued_joined queue name node =
    cond_case (λ q. is_queued q node ≡ true → (is_queued queue node ≡ true) ⊎ (node ≡ name))
    (is_queued queue name) queue (queue ++ name ∷ [])
    (λ _ h. inl h) (λ _ h. queued_pushed queue name node h)

-- a name in a queue without one name was in the queue, and is not that name
pub queued_without : (queue : List ℕ) (name node : ℕ) → is_queued (without queue name) node ≡ true
    → (is_queued queue node ≡ true) × (node ≢ name)
queued_without [] name node h = let bad : ⊥ = cc in absurd bad
queued_without (first ∷ rest) name node h =
    cond_case (λ q. is_queued q node ≡ true → (is_queued (first ∷ rest) node ≡ true)
    × (node ≢ name)) (not (nat_eq first name)) (first ∷ without rest name) (without rest name)
    (λ other k. elim (or_cases (nat_eq node first) (is_queued (without rest name) node) k) [
      | inl e ↦ (
        or_left (nat_eq node first) (is_queued rest node) e,
        λ f. eq_false first name (not_true (nat_eq first name) other)
            (sym (eq_true node first e) ∙ f),
      )
      | inr r ↦ let p = queued_without rest name node r in
          (or_right (nat_eq node first) (is_queued rest node) p.0, p.1)
    ])
    (λ _ k. let p = queued_without rest name node k in
    (or_right (nat_eq node first) (is_queued rest node) p.0, p.1))
    h

-- a name after the head is in the queue
pub queued_behind : (queue : List ℕ) (node : ℕ) → is_queued (rest_of queue) node ≡ true
    → is_queued queue node ≡ true
queued_behind [] node h = h
queued_behind (first ∷ rest) node h = or_right (nat_eq node first) (is_queued rest node) h

-- the head is in the queue
pub queued_head : (queue : List ℕ) (node : ℕ) → head_of queue ≡ Some node → is_queued queue node
    ≡ true
queued_head [] node h = absurd (none_is_no_some node h)
queued_head (first ∷ rest) node h = or_left (nat_eq node first) (is_queued rest node)
    (let e : first ≡ node = cc in subst (λ x. nat_eq node x ≡ true) (sym e) (eq_is node node refl))

-- the permission and the right to pass the privilege on

pub permission_holds : (s : Node) → has_permission s ≡ true → s.holder ≡ s.me
permission_holds s h =
    eq_true s.holder s.me (and_true (is_holder s) (is_named (head_of s.queue) s.me) h).0

pub record MayPass (s : Node) (next : ℕ) : Type 0 where
  pub holder : s.holder ≡ s.me
  pub outside : is_inside s.phase ≡ false
  pub other : next ≢ s.me
  pub hop : s.hop < last_number

pub may_pass : (s : Node) (next : ℕ) → can_pass s next ≡ true → MayPass s next
may_pass s next h =
    let a = and_true (is_holder s) (not (is_inside s.phase)
    && (not (nat_eq next s.me) && nat_lt s.hop last_number)) h in
    let b = and_true (not (is_inside s.phase))
    (not (nat_eq next s.me) && nat_lt s.hop last_number) a.1 in
    let c = and_true (not (nat_eq next s.me)) (nat_lt s.hop last_number) b.1 in
    record {
      holder = eq_true s.holder s.me a.0;
      outside = not_true (is_inside s.phase) b.0;
      other = eq_false next s.me (not_true (nat_eq next s.me) c.0);
      hop = lt_true s.hop last_number c.1;
    }

pub may_request : (s : Node) → must_request s ≡ true → s.sent < last_number
may_request s h =
    let a = and_true (not (is_holder s))
    (not (is_empty s.queue) && (not s.has_asked && nat_lt s.sent last_number)) h in
    let b = and_true (not (is_empty s.queue)) (not s.has_asked && nat_lt s.sent last_number) a.1 in
    lt_true s.sent last_number (and_true (not s.has_asked) (nat_lt s.sent last_number) b.1).1

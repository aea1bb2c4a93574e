use Rattle.std.proofs.Common.{◌≡◌, ◌∙◌, ◌<◌, ◌≤◌, ◌%◌, ℕ, Bool, List, ap, arith, rules, sym}
use Rattle.rand_pcg.specs.Lcg.{Lcg}
use Rattle.mx_draw.specs.Walk.{Step, acted, byte_of, is_delivery, is_empty, next_step, own_step, repeated, state_of, taken_up, with_words}
use Rattle.mx_draw.proofs.StepLemmas.{is_there, next_acts, next_repeats, next_takes}
use Rattle.mx_draw.proofs.stepper.Stepper.walk_on.Given.{Over}
use Rattle.mx_draw.proofs.stepper.Stepper.walk_on.Goals as goal
use Rattle.mx_draw.proofs.stepper.Stepper.walk_on.Goals.{After-is_delivery}

pub act-requires : goal.act-requires
act-requires g c = omega arith

pub byte_of-requires : goal.byte_of-requires
byte_of-requires g c = omega arith

pub is_delivery-requires : goal.is_delivery-requires
is_delivery-requires g c = omega arith

pub repeat-requires : goal.repeat-requires
repeat-requires g c = omega arith

repeats : (g : Over) (c : goal.After-repeat g) → next_step g.C.Exclusion.core c.args.conditions.now c.args.cluster.now c.args.nodes c.args.registers (state_of c.args.self.now)
    ≡ repeated g.C.Exclusion.core c.args.conditions.now c.args.cluster.now.sent (with_words c.next_word-word.new.self (state_of c.args.self.now))
repeats g c =
    let lt : byte_of c.next_word-word.result < c.args.conditions.now.repeat = omega (arith, c.byte_of.ensures, c.if-byte_of-conditions.true) in
    next_repeats g.C.Exclusion.core c.args.conditions.now c.args.cluster.now c.args.nodes c.args.registers c.next_word-word.result c.next_word-word.new.self (state_of c.args.self.now) c.next_word-word.ensures lt

pub returns-then-byte_of-conditions-clause-event : goal.returns-then-byte_of-conditions-clause-event
returns-then-byte_of-conditions-clause-event g c = c.repeat.ensures.event ∙ sym (ap (λ (s : Step). s.event) (repeats g c))

pub returns-then-byte_of-conditions-clause-after : goal.returns-then-byte_of-conditions-clause-after
returns-then-byte_of-conditions-clause-after g c = c.repeat.ensures.after ∙ sym (ap (λ (s : Step). s.after) (repeats g c))

calm : (g : Over) (c : After-is_delivery g) → c.is_empty-is_calm.result ≡ is_empty c.args.self.now.flying.items
calm g c = c.is_empty-is_calm.ensures ∙ ap (λ (l : List ℕ). is_empty l) c.as_slice.ensures.value

-- whether the step takes up a parcel
delivers : (g : Over) (c : After-is_delivery g) → is_delivery (c.next_word-word.result % 64) (is_empty c.args.self.now.flying.items) ≡ c.is_delivery.result
delivers g c = ap (λ (b : Bool). is_delivery (c.next_word-word.result % 64) b) (sym (calm g c)) ∙ sym c.is_delivery.ensures

pub take_up-requires : goal.take_up-requires
take_up-requires g c =
    (search rules, is_there (c.next_word-word.result % 64) (is_empty c.args.self.now.flying.items) (delivers g (goal.at.take_up-requires g c).After-is_delivery ∙ c.if-is_delivery.true))

takes : (g : Over) (c : goal.After-take_up g) → next_step g.C.Exclusion.core c.args.conditions.now c.args.cluster.now c.args.nodes c.args.registers (state_of c.args.self.now)
    ≡ taken_up g.C.Exclusion.core c.args.conditions.now c.args.cluster.now.sent (with_words c.next_word-word.new.self (state_of c.args.self.now))
takes g c =
    let le : c.args.conditions.now.repeat ≤ byte_of c.next_word-word.result = omega (arith, c.byte_of.ensures, c.if-byte_of-conditions.false) in
    let there = delivers g (goal.at.returns-then-is_delivery-clause-event g c).After-is_delivery ∙ c.if-is_delivery.true in
    next_takes g.C.Exclusion.core c.args.conditions.now c.args.cluster.now c.args.nodes c.args.registers c.next_word-word.result c.next_word-word.new.self (state_of c.args.self.now) c.next_word-word.ensures le there

pub returns-then-is_delivery-clause-event : goal.returns-then-is_delivery-clause-event
returns-then-is_delivery-clause-event g c = c.take_up.ensures.event ∙ sym (ap (λ (s : Step). s.event) (takes g c))

pub returns-then-is_delivery-clause-after : goal.returns-then-is_delivery-clause-after
returns-then-is_delivery-clause-after g c = c.take_up.ensures.after ∙ sym (ap (λ (s : Step). s.after) (takes g c))

acts : (g : Over) (c : goal.After-act g) → next_step g.C.Exclusion.core c.args.conditions.now c.args.cluster.now c.args.nodes c.args.registers (state_of c.args.self.now)
    ≡ own_step g.C.Exclusion.core c.args.conditions.now (acted g.C.Exclusion.core c.args.cluster.now.members c.args.nodes c.args.registers (is_empty c.args.self.now.flying.items) (c.next_word-word.result % 64) c.next_word-word.new.self)
    (with_words c.next_word-word.new.self (state_of c.args.self.now))
acts g c =
    let le : c.args.conditions.now.repeat ≤ byte_of c.next_word-word.result = omega (arith, c.byte_of.ensures, c.if-byte_of-conditions.false) in
    let there = delivers g (goal.at.returns-clause-event g c).After-is_delivery ∙ c.if-is_delivery.false in
    next_acts g.C.Exclusion.core c.args.conditions.now c.args.cluster.now c.args.nodes c.args.registers c.next_word-word.result c.next_word-word.new.self (state_of c.args.self.now) c.next_word-word.ensures le there

pub returns-clause-event : goal.returns-clause-event
returns-clause-event g c =
    c.act.ensures.event ∙ ap (λ (b : Bool). (acted g.C.Exclusion.core c.args.cluster.now.members c.args.nodes c.args.registers b (c.next_word-word.result % 64) c.next_word-word.new.self).0)
    (calm g (goal.at.returns-clause-event g c).After-is_delivery) ∙ sym (ap (λ (s : Step). s.event) (acts g c))

pub returns-clause-after : goal.returns-clause-after
returns-clause-after g c =
    ap (λ (x : Lcg). with_words x (state_of c.args.self.now)) (c.act.ensures.next ∙ ap (λ (b : Bool). (acted g.C.Exclusion.core c.args.cluster.now.members c.args.nodes c.args.registers b (c.next_word-word.result % 64) c.next_word-word.new.self).1)
    (calm g (goal.at.returns-clause-after g c).After-is_delivery)) ∙ sym (ap (λ (s : Step). s.after) (acts g c))

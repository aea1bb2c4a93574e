use Rattle.std.proofs.Common.{◌≡◌, ◌∙◌, ◌<◌, ◌≤◌, ◌%◌, ℕ, List, ap, arith, length, sym}
use Rattle.std.specs.Prelude.{slice_index_or}
use Rattle.mx_draw.specs.Walk.{Step, byte_of, chosen, state_of, taken_up}
use Rattle.mx_draw.proofs.StepLemmas.{is_landed, is_lost, lands, takes_up, with_flying}
use Rattle.mx_draw.proofs.stepper.Stepper.take_up.Given.{Over}
use Rattle.mx_draw.proofs.stepper.Stepper.take_up.Goals as goal
use Rattle.mx_draw.proofs.stepper.Stepper.take_up.Goals.{After-byte_of}

up : (g : Over) (c : After-byte_of g) → taken_up g.C.Exclusion.core c.args.conditions.now c.args.cluster.now.sent (state_of c.args.self.now)
    ≡ lands g.C.Exclusion.core c.args.conditions.now c.args.cluster.now (state_of c.args.self.now) c.chosen-number.result (c.next_word.result, c.next_word.new.self)
up g c =
    let items = c.args.self.now.flying.items in
    takes_up g.C.Exclusion.core c.args.conditions.now c.args.cluster.now (state_of c.args.self.now) c.next_word-word.result c.next_word.result c.chosen-number.result c.next_word-word.new.self
    c.next_word.new.self c.next_word-word.ensures c.next_word.ensures
    (c.chosen-number.ensures
    ∙ ap (λ (k : ℕ). chosen g.C.Exclusion.core c.args.conditions.now c.args.cluster.now.sent items k)
    (c.drawn_of-drawn.ensures ∙ ap (λ (l : List ℕ). slice_index_or l (c.next_word-word.result % length l) 0) c.as_slice.ensures.value))

pub returns-then-byte_of-conditions-clause-event : goal.returns-then-byte_of-conditions-clause-event
returns-then-byte_of-conditions-clause-event g c =
    let lt : byte_of c.next_word.result < c.args.conditions.now.loss = omega (arith, c.byte_of.ensures, c.if-byte_of-conditions.true) in
    is_lost g.C.Exclusion.core c.args.conditions.now c.args.cluster.now (state_of c.args.self.now) c.chosen-number.result (c.next_word.result, c.next_word.new.self) lt
    ∙ sym (ap (λ (s : Step). s.event) (up g (goal.at.returns-then-byte_of-conditions-clause-event g c).After-byte_of))

pub returns-else-byte_of-conditions-clause-event : goal.returns-else-byte_of-conditions-clause-event
returns-else-byte_of-conditions-clause-event g c =
    let le : c.args.conditions.now.loss ≤ byte_of c.next_word.result = omega (arith, c.byte_of.ensures, c.if-byte_of-conditions.false) in
    is_landed g.C.Exclusion.core c.args.conditions.now c.args.cluster.now (state_of c.args.self.now) c.chosen-number.result (c.next_word.result, c.next_word.new.self) le
    ∙ sym (ap (λ (s : Step). s.event) (up g (goal.at.returns-else-byte_of-conditions-clause-event g c).After-byte_of))

pub returns-then-byte_of-conditions-clause-after : goal.returns-then-byte_of-conditions-clause-after
returns-then-byte_of-conditions-clause-after g c =
    ap (λ (flying : List ℕ). with_flying c.next_word.new.self flying c.args.self.now.seen) c.take.ensures
    ∙ sym (ap (λ (s : Step). s.after) (up g (goal.at.returns-then-byte_of-conditions-clause-after g c).After-byte_of))

pub returns-else-byte_of-conditions-clause-after : goal.returns-else-byte_of-conditions-clause-after
returns-else-byte_of-conditions-clause-after g c =
    ap (λ (flying : List ℕ). with_flying c.next_word.new.self flying c.args.self.now.seen) c.take.ensures
    ∙ sym (ap (λ (s : Step). s.after) (up g (goal.at.returns-else-byte_of-conditions-clause-after g c).After-byte_of))

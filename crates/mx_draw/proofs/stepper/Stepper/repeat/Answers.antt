use Rattle.std.proofs.Common.{◌≡◌, ◌∙◌, ◌-◌, ◌%◌, ℕ, ap, sym}
use Rattle.mx_draw.specs.Walk.{Step, chosen, repeated, state_of}
use Rattle.mx_draw.proofs.StepLemmas.{delivers, repeats_nothing, repeats_one}
use Rattle.mx_draw.proofs.stepper.Stepper.repeat.Given.{Over}
use Rattle.mx_draw.proofs.stepper.Stepper.repeat.Goals as goal

pub returns-then-seen-eq0-clause-event : goal.returns-then-seen-eq0-clause-event
returns-then-seen-eq0-clause-event g c =
    sym (ap (λ (s : Step). s.event) (repeats_nothing g.C.Exclusion.core c.args.conditions.now c.args.cluster.now (state_of c.args.self.now) c.if-seen-eq0.true))

pub returns-then-seen-eq0-clause-after : goal.returns-then-seen-eq0-clause-after
returns-then-seen-eq0-clause-after g c =
    sym (ap (λ (s : Step). s.after) (repeats_nothing g.C.Exclusion.core c.args.conditions.now c.args.cluster.now (state_of c.args.self.now) c.if-seen-eq0.true))

is : (g : Over) (c : goal.After-chosen-number g) → repeated g.C.Exclusion.core c.args.conditions.now c.args.cluster.now.sent (state_of c.args.self.now)
    ≡ delivers c.chosen-number.result c.next_word.new.self (state_of c.args.self.now)
is g c =
    let w = state_of c.args.self.now in
    let core = g.C.Exclusion.core in
    let sent = c.args.cluster.now.sent in
    repeats_one core c.args.conditions.now c.args.cluster.now w c.next_word.result c.chosen-number.result c.next_word.new.self c.next_word.ensures c.if-seen-eq0.false
    (c.chosen-number.ensures
    ∙ ap (λ (v : ℕ). chosen core c.args.conditions.now sent w.flying (w.seen - 1 - v % c.min.result)) c.from.ensures
    ∙ ap (λ (m : ℕ). chosen core c.args.conditions.now sent w.flying (w.seen - 1 - c.next_word.result % m)) c.min.ensures)

pub returns-clause-event : goal.returns-clause-event
returns-clause-event g c = sym (ap (λ (s : Step). s.event) (is g c))

pub returns-clause-after : goal.returns-clause-after
returns-clause-after g c = sym (ap (λ (s : Step). s.after) (is g c))

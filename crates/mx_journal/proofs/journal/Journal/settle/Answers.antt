use Rattle.std.proofs.Common.{ℕ, suc, ◌≡◌, ◌≤◌, ◌+◌, ◌∙◌, Err, refl, sym, ap, subst, arith}
use Rattle.mx_journal.specs.declared.settlement.SettleFault.TheVariants.{Gap}
use Rattle.mx_journal.specs.Bases.{BaseState}
use Rattle.mx_journal.specs.Gapless.{first_missing}
use Rattle.mx_journal.specs.Records.{Ascending, above}
use Rattle.mx_journal.specs.Settled.{Covers, IsCovered, IsFirstGap, JournalState, settled}
use Rattle.mx_journal.proofs.Going.{ascending_rest_above}
use Rattle.mx_journal.proofs.Settled.{covered_before, gap_after, gapless_value, not_covered, one_gap, settled_same}
use Rattle.mx_journal.proofs.journal.Journal.settle.Goals as goal

-- what is known once the first gap was looked for
record Known (known upto : ℕ) (journal : JournalState) : Type 0 where
  all : IsCovered known journal
  gone : Covers (known + 1) journal → ⊥
  order : Ascending (suc journal.base.upto) journal.records
  low : journal.base.upto ≤ upto

known_of : (known own upto : ℕ) (inside now : JournalState) → inside ≡ now → Ascending (suc inside.base.upto) inside.records → own ≡ inside.base.upto → own ≤ upto → known + 1 ≡ first_missing (own + 1) (above own inside.records) → Known known upto now
known_of known own upto inside now same order e l value =
    let first = gapless_value known inside.base.upto inside.records order (value ∙ ap (λ k. first_missing (k + 1) (above k inside.records)) e) in
    subst (λ j. Known known upto j) same record {
      all = covered_before known inside first;
      gone = not_covered known inside order first;
      order = order;
      low = omega arith;
    }

pub returns-then-known-upto-clause-gap : goal.returns-then-known-upto-clause-gap
returns-then-known-upto-clause-gap c = λ n.
    let known = c.gapless_after-known.result in
    let now = c.args.self.now in
    let k = known_of known c.upto-own.result c.args.upto (record { base = c.self.inside.base; records = c.self.inside.records }) now c.self.view_is c.self.invariant c.upto-own.ensures.value c.if-upto-own.false c.gapless_after-known.ensures in (
      λ e. let same : known + 1 ≡ n = cc in (k.low, omega (arith, same, c.if-known-upto.true), subst (λ m. IsFirstGap m now) same (gap_after known now k.all k.gone)),
      λ h. ap (λ m. Err (Gap m)) (sym (one_gap known n now k.all k.gone h.2)),
    )

pub returns-then-known-upto-clause-gapless : goal.returns-then-known-upto-clause-gapless
returns-then-known-upto-clause-gapless c =
    let known = c.gapless_after-known.result in
    let k = known_of known c.upto-own.result c.args.upto (record { base = c.self.inside.base; records = c.self.inside.records }) c.args.self.now c.self.view_is c.self.invariant c.upto-own.ensures.value c.if-upto-own.false c.gapless_after-known.ensures in
    (λ t. let bad : ⊥ = cc in absurd bad, λ h. absurd (k.gone (h.1 (known + 1) (omega arith) (omega (arith, c.if-known-upto.true)))))

pub invariant_of-self : goal.invariant_of-self
invariant_of-self c =
    let upto = c.args.upto in
    subst (λ (b : BaseState). Ascending (suc b.upto) c.drop_up_to.new.self) (sym c.settled_base-self-inside.ensures)
    (subst (λ l. Ascending (suc upto) l) (sym c.drop_up_to.ensures.value) (ascending_rest_above upto (suc c.self.inside.base.upto) c.self.inside.records c.self.invariant))

pub returns-clause-gap : goal.returns-clause-gap
returns-clause-gap c = λ n.
    let known = c.gapless_after-known.result in
    let k = known_of known c.upto-own.result c.args.upto (record { base = c.self.inside.base; records = c.self.inside.records }) c.args.self.now c.self.view_is c.self.invariant c.upto-own.ensures.value c.if-upto-own.false c.gapless_after-known.ensures in (
      λ e. let bad : ⊥ = cc in absurd bad,
      λ h. absurd (let gap = h.2 in gap.gone (k.all n gap.low (omega (arith, h.1, c.if-known-upto.false)))),
    )

pub returns-clause-gapless : goal.returns-clause-gapless
returns-clause-gapless c =
    let known = c.gapless_after-known.result in
    let k = known_of known c.upto-own.result c.args.upto (record { base = c.self.inside.base; records = c.self.inside.records }) c.args.self.now c.self.view_is c.self.invariant c.upto-own.ensures.value c.if-upto-own.false c.gapless_after-known.ensures in
    (λ _. (k.low, λ n low l. k.all n low (omega (arith, l, c.if-known-upto.false))), λ _. refl)

pub returns-clause-same : goal.returns-clause-same
returns-clause-same c = λ e.
    let now = c.args.self.now in
    let order : Ascending (suc now.base.upto) now.records = subst (λ (j : JournalState). Ascending (suc j.base.upto) j.records) c.self.view_is c.self.invariant in
    let new : JournalState = record { base = c.settled_base-self-inside.result; records = c.drop_up_to.new.self } in
    subst (λ (j : JournalState). new ≡ settled c.args.upto j) c.self.view_is
    (ap (λ b. let j : JournalState = record { base = b; records = c.drop_up_to.new.self } in j) c.settled_base-self-inside.ensures
    ∙ ap (λ l. let j : JournalState = record { base = (settled c.args.upto (record { base = c.self.inside.base; records = c.self.inside.records })).base; records = l } in j) c.drop_up_to.ensures.value)
    ∙ ap (λ k. settled k now) e ∙ settled_same now order

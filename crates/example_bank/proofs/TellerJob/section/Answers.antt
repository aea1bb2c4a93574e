use Rattle.std.proofs.Common.{◌≡◌, ◌∙◌, ◌+◌, ◌*◌, ◌∷◌, [], List, ℕ, inl, inr, length, min, slice_index, sum, ap, arith, subst}
use Rattle.std.proofs.Math.ListN.{set}
use Rattle.mx_stamps.proofs.Lists.{dec_eq}
use Rattle.mx_jobs.specs.Laws.{AreThere, held_in}
use Rattle.mx_jobs.proofs.Sums.{transfer}
use Rattle.example_bank.proofs.TellerJob.section.Goals as goal

pub returns-clause-keeps : goal.returns-clause-keeps
returns-clause-keeps c = λ before contents asked next asks reads writes values law.
    let me = c.args.self.now in let new = c.balances-from.result in
    let there = subst (AreThere (length contents)) asks reads in
    let two = transfer contents me.from me.to new.0 new.1 me.apart there.0 there.1.0 in
    let found : c.args.values.now ≡ held_in contents (me.from ∷ me.to ∷ []) = values ∙ ap (held_in contents) asks in
    let all : sum (set (set contents me.from new.0) me.to new.1) ≡ 800 * min c.args.number 1 = elim (dec_eq c.args.number 1) [
      | inl first ↦ let paid = c.balances-from.ensures.first first in omega (arith, two.0, two.1)
      | inr later ↦ let same = c.balances-from.ensures.later later ∙ ap (λ (vs : List ℕ). slice_index vs 0 + slice_index vs 1) found in omega (arith, two.0, two.1)
    ] in
    simp (c.push-2.ensures.items, c.push.ensures.items, c.new-writes.ensures) all

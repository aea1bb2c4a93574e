use Rattle.std.proofs.Common.{nat_lt, ◌≡◌, ◌+◌, ◌++◌, ◌≤◌, ◌∷◌, [], length, take, sym, ◌∙◌, ap, arith}
use Rattle.std.proofs.lemmas.Bool.Decides.{nat_tests}
use Rattle.std.proofs.lemmas.List.{take_all, take-append-le}
use Rattle.mx_stamps.proofs.Lists.{append_nil}
use Rattle.mx_stamps.proofs.Choices.{lt_not, cond_false}
use Rattle.mx_merge.specs.Missing.{gap_after}
use Rattle.mx_merge.proofs.gaps.add_gap.Goals.{else-not-is_full-via-then-not-is_full+else-before-last, else-not-is_full-via-else-not-is_full}
use Rattle.mx_merge.proofs.gaps.add_gap.Goals as goal

pub returns-else-not-is_full : goal.returns-else-not-is_full
returns-else-not-is_full c =
    let gaps = c.args.gaps.now.items in
    let gap = gap_after c.args.before c.args.last in
    let room : length gaps ≤ 8 = grind (arith, nat_tests, c.is_full.ensures.fits) in
    elim c.else-not-is_full.branch [
      | else-not-is_full-via-then-not-is_full+else-before-last w ↦
          let none : gap ≡ [] = cond_false (nat_lt c.args.before c.args.last) (record { first = c.args.before + 1; last = c.args.last } ∷ []) [] (lt_not c.args.before c.args.last w.if-before-last.false) in
          sym (take_all 8 gaps room) ∙ ap (λ l. take 8 l) (sym (append_nil gaps)) ∙ ap (λ l. take 8 (gaps ++ l)) (sym none)
      | else-not-is_full-via-else-not-is_full w ↦
          let many : 8 ≤ length gaps = grind (arith, nat_tests, c.is_full.ensures.value, w.if-not-is_full.false) in
          sym (take_all 8 gaps room) ∙ sym (take-append-le 8 gaps gap many)
    ]

use Rattle.std.proofs.Common.{◌≡◌, ◌≤◌, length, ◌∙◌, ap, subst, arith}
use Rattle.mx_journal.specs.Records.{above, top_of}
use Rattle.mx_journal.specs.Runs.{IsJoinedUpTo, flatten}
use Rattle.mx_journal.proofs.Flat.{ascending_flat}
use Rattle.mx_journal.proofs.Going.{above_all}
use Rattle.mx_journal.proofs.Joining.{joined_is, none_past}
use Rattle.mx_journal.proofs.joins.join_copies.Goals as goal

pub returns-clause-ok : goal.returns-clause-ok
returns-clause-ok c =
    let xs = flatten c.args.runs.now.items in
    let ys = flatten c.args.other.now in
    let js = flatten c.in_ok-joined.joined.items in
    let to = c.max-to.result in
    let same : flatten c.deref.result.now ≡ xs = ap flatten c.deref.ensures.value in
    let again : flatten c.deref-2.result.now ≡ xs = ap flatten c.deref-2.ensures.value in
    let here : c.top_in.result ≡ top_of xs = c.top_in.ensures ∙ ap top_of same in
    let low : top_of xs ≤ to = omega (arith, c.max-to.ensures) in
    let high : top_of ys ≤ to = omega (arith, c.max-to.ensures, c.top_in-2.ensures) in
    let past : length (above to (flatten c.deref-2.result.now)) ≡ 0 = ap (λ l. length (above to l)) again ∙ ap length (none_past to xs low) in
    let whole : length (above c.args.from (flatten c.deref-2.result.now)) ≡ length xs = ap (λ l. length (above c.args.from l)) again ∙ ap length (above_all c.args.from xs c.requires.behind) in
    record {
      records = joined_is c.args.from to xs ys js c.requires.behind (ascending_flat 1 c.args.other.now c.requires.theirs) (ascending_flat 1 c.in_ok-joined.joined.items c.in_ok-joined.ensures.runs)
          c.requires.agreeing low high (subst (λ l. IsJoinedUpTo c.args.from to l ys js) again c.in_ok-joined.ensures.records);
      runs = c.in_ok-joined.ensures.runs;
      count = omega (arith, c.in_ok-joined.ensures.count);
    }

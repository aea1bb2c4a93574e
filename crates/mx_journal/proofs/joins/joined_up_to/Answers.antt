use Rattle.std.proofs.Common.{◌≡◌, ◌≤◌, ◌<◌, ◌+◌, ◌⊎◌, length, inl, inr, sym, ◌∙◌, ap, subst, arith}
use Rattle.mx_stamps.specs.Lists.{IsIn}
use Rattle.mx_journal.specs.declared.records.Record.{Record}
use Rattle.mx_journal.specs.Records.{above, record_at}
use Rattle.mx_journal.specs.Runs.{IsJoinedUpTo, IsNextOfBoth, IsPut, flatten}
use Rattle.mx_journal.proofs.Maps.{none_in}
use Rattle.mx_journal.proofs.Flat.{ascending_flat}
use Rattle.mx_journal.proofs.Joining.{above_fewer, above_same, joined_all, joined_more, length_with, next_fresh, none_behind, none_so_far}
use Rattle.mx_journal.proofs.joins.joined_up_to.Goals.{then-not-is_there, else-not-is_there, in-Some+then-entry-to, in_default}
use Rattle.mx_journal.proofs.joins.joined_up_to.Goals as goal

pub insert-requires-clause-fresh : goal.insert-requires-clause-fresh
insert-requires-clause-fresh c =
    subst (λ (r : Record). record_at r.number (flatten c.loop-entry.joined.items) ≡ _) (sym c.copy.ensures)
    (none_so_far c.args.from c.loop-entry.last (flatten c.args.runs.now) (flatten c.args.other.now) (flatten c.loop-entry.joined.items) c.in-Some.entry.now c.loop-entry.invariant.records c.in-Some.ensures.some)

pub loop-entry-preserved : goal.loop-entry-preserved
loop-entry-preserved c =
    let xs = flatten c.args.runs.now in
    let ys = flatten c.args.other.now in
    let js = flatten c.loop-entry.joined.items in
    let entry = c.in-Some.entry.now in
    let last = c.loop-entry.last in
    let a = ascending_flat 1 c.args.runs.now c.requires.runs in
    let b = ascending_flat 1 c.args.other.now c.requires.other in
    let was = c.loop-entry.invariant.records in
    let next : IsNextOfBoth last xs ys entry = c.in-Some.ensures.some in
    let behind = next.behind in
    let put : IsPut entry c.loop-entry.joined.items c.insert.new.runs.items =
    subst (λ (r : Record). IsPut r c.loop-entry.joined.items c.insert.new.runs.items) c.copy.ensures c.in_ok-insert.ensures.ok in
    let longer : length (flatten c.insert.new.runs.items) ≡ length js + 1 =
    ap length put.records ∙ length_with entry js (next_fresh c.args.from last xs ys js entry was next) in
    let counted = c.loop-entry.invariant.count in
    let few = c.loop-entry.invariant.few in
    let numbers : (length (above last xs) + c.if-not-is_there.count ≡ length (above entry.number xs) + c.loop-entry.count + 1) × (c.if-not-is_there.count ≤ c.loop-entry.count + 1) = elim c.if-not-is_there.branch [
      | then-not-is_there w ↦
          let gone = none_in entry.number xs (c.is_there.ensures.missing w.if-not-is_there.true) in
          let same : above last xs ≡ above entry.number xs = above_same last entry.number xs (omega arith) (λ x h l.
          let q = next.least x (inl h) l in let ne = gone x h in omega arith) in
          let s : length (above last xs) ≡ length (above entry.number xs) = ap length same in
          let n = w.count-is in
          (omega arith, omega arith)
      | else-not-is_there w ↦
          let fewer = above_fewer last entry.number 1 xs a behind (λ x h l. next.least x (inl h) l) (c.is_there.ensures.there w.if-not-is_there.false) in
          let n = w.count-is in
          (omega arith, omega arith)
    ] in
    let one = numbers.0 in
    let two = numbers.1 in
    record {
      runs = put.runs;
      records = subst (λ l. IsJoinedUpTo c.args.from entry.number xs ys l) (sym put.records) (joined_more c.args.from last xs ys js entry a b c.requires.agreeing c.loop-entry.invariant.low was next);
      count = omega arith;
      few = omega arith;
      low = (let q = c.loop-entry.invariant.low in omega arith);
      high = omega (arith, c.if-entry-to.false);
    }

-- nothing is left up to the end
past : (c : goal.Joined-next_of_both) → (x : Record) → IsIn x (flatten c.args.runs.now) ⊎ IsIn x (flatten c.args.other.now) → c.loop-entry.last < x.number → c.args.to < x.number
past c x w l = elim c.match-next_of_both.branch [
  | in-Some+then-entry-to v ↦
      let next : IsNextOfBoth c.loop-entry.last (flatten c.args.runs.now) (flatten c.args.other.now) v.in-Some.entry.now = v.in-Some.ensures.some in
      let least = next.least x w l in
      omega (arith, v.if-entry-to.true)
  | in_default v ↦ (let both = v.in_default.ensures.none in elim w [
    | inl h ↦ absurd (none_behind c.loop-entry.last (flatten c.args.runs.now) both.0 x h l)
    | inr h ↦ absurd (none_behind c.loop-entry.last (flatten c.args.other.now) both.1 x h l)
  ])
]

pub returns-clause-records : goal.returns-clause-records
returns-clause-records c =
    joined_all c.args.from c.loop-entry.last c.args.to (flatten c.args.runs.now) (flatten c.args.other.now) (flatten c.loop-entry.joined.items) c.loop-entry.invariant.high c.loop-entry.invariant.records (past c)

pub returns-clause-count : goal.returns-clause-count
returns-clause-count c =
    let same = above_same c.loop-entry.last c.args.to (flatten c.args.runs.now) c.loop-entry.invariant.high (λ x h l. past c x (inl h) l) in
    ap (λ l. length (flatten c.loop-entry.joined.items) + length l) (sym same) ∙ c.loop-entry.invariant.count

use Rattle.std.proofs.Common.{arith, ap, subst, ◌∙◌}
use Rattle.mx_stations.specs.Together.{RunTogether}
use Rattle.mx_stations.proofs.Seats.{joins, splits}
use Rattle.mx_stations.proofs.Tells.{parted}
use Rattle.mx_stations.proofs.together.see_both.Goals as goal

pub split_seat-mine-requires : goal.split_seat-mine-requires
split_seat-mine-requires g c =
    let f = c.args.field.now in let X = g.C.Exclusion in
    (c.requires.table, omega (arith, f.words, f.some), splits X.core X.Good _ _ _)

pub join_seat-requires : goal.join_seat-requires
join_seat-requires g c =
    let f = c.args.field.now in let X = g.C.Exclusion in let r = c.requires in let s = c.split_seat-mine.ensures in
    (r.same_table ∙ r.table, s.3 ∙ r.table, ap (λ m. m.1) s.4, omega (arith, f.words, f.some), joins X.core X.Good _ _ _ _ _)

pub split_seat-mine-requires-2 : goal.split_seat-mine-requires-2
split_seat-mine-requires-2 g c =
    let f = c.args.field.now in let X = g.C.Exclusion in let r = c.requires in
    (c.see.ensures.same.0 ∙ c.join_seat.ensures.0 ∙ r.same_table ∙ r.table, omega (arith, f.words, f.some), splits X.core X.Good _ _ _)

pub join_seat-requires-2 : goal.join_seat-requires-2
join_seat-requires-2 g c =
    let f = c.args.field.now in let X = g.C.Exclusion in let r = c.requires in let t = c.split_seat-mine-2.ensures in
    (c.split_seat-mine.ensures.0 ∙ r.table, t.3 ∙ c.see.ensures.same.0 ∙ c.join_seat.ensures.0 ∙ r.same_table ∙ r.table, ap (λ m. m.1) t.4, omega (arith, f.words, f.some), joins X.core X.Good _ _ _ _ _)

pub returns-clause-one : goal.returns-clause-one
returns-clause-one g c =
    let r = c.requires in let s = c.split_seat-mine.ensures in let j = c.join_seat.ensures in let l = c.see.ensures in let t = c.split_seat-mine-2.ensures in let k = c.join_seat-2.ensures in
    (k.0 ∙ s.0, (parted _ _ _ _ _ _ _ _ _ _ _ r.one.1 r.other.1 s.2 s.4 j.2 l.same.1 t.2 t.4 k.2).2)

pub returns-clause-other : goal.returns-clause-other
returns-clause-other g c =
    let r = c.requires in let s = c.split_seat-mine.ensures in let j = c.join_seat.ensures in let l = c.see.ensures in let t = c.split_seat-mine-2.ensures in let k = c.join_seat-2.ensures in
    (t.0 ∙ l.same.0 ∙ j.0, (parted _ _ _ _ _ _ _ _ _ _ _ r.one.1 r.other.1 s.2 s.4 j.2 l.same.1 t.2 t.4 k.2).1)

pub returns-clause-seen : goal.returns-clause-seen
returns-clause-seen g c =
    let X = g.C.Exclusion in
    let r = c.requires in let s = c.split_seat-mine.ensures in let j = c.join_seat.ensures in let l = c.see.ensures in let t = c.split_seat-mine-2.ensures in let k = c.join_seat-2.ensures in
    subst (λ v. RunTogether X.core X.Good c.args.field.now.nodes v) (parted _ _ _ _ _ _ _ _ _ _ _ r.one.1 r.other.1 s.2 s.4 j.2 l.same.1 t.2 t.4 k.2).0 l.seen.together

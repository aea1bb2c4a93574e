use Rattle.std.proofs.Common.{◌∙◌, sym, arith, subst, ℕ}
use Rattle.mx_stations.specs.Links.{slot_in}
use Rattle.mx_stations.specs.Running.{IsIdle}
use Rattle.mx_stations.specs.Slides.{HasEmptied, TriesTake}
use Rattle.mx_stations.proofs.Slides.{grabs_at, sees_at}
use Rattle.mx_stations.proofs.slots.grab.Goals as goal

pub load-found-requires : goal.load-found-requires
load-found-requires g c =
    let M = g.C.Exclusion in let f = c.args.field.now in let r = c.requires in let s = c.slot_of-slot.ensures in
    (r.link.0, omega (arith, f.words, s.within), sees_at M.core M.Good _ _ _ _ _ _ _ _ _ _ _ f.key r.idle r.link.1.0 r.index r.slot.0 r.slot.1 s.value)

pub returns-then-found-ne-FILLED-clause-taken : goal.returns-then-found-ne-FILLED-clause-taken
returns-then-found-ne-FILLED-clause-taken g c =
    let sees = c.load-found.ensures.2 in let miss = c.if-found-ne-FILLED.true in
    ((λ hit. absurd (miss hit)), (λ _. (sees.0, subst (λ (k : ℕ × ℕ). HasEmptied k.0 k.1 c.args.seat.now.me) (λ i. (c.requires.slot.0 i, c.requires.slot.1 i)) (sees.1 miss))))

pub compare_exchange-requires : goal.compare_exchange-requires
compare_exchange-requires g c =
    let M = g.C.Exclusion in let f = c.args.field.now in let r = c.requires in let s = c.slot_of-slot.ensures in let l = c.load-found.ensures in
    (l.0 ∙ r.link.0, omega (arith, f.words, s.within), grabs_at M.core M.Good _ _ _ _ _ _ _ _ _ _ _ f.key (subst (λ m. IsIdle m c.args.link.now.to) (sym l.2.0) r.idle) r.link.1.0 r.index r.slot.0 r.slot.1 s.value)

pub returns-clause-taken : goal.returns-clause-taken
returns-clause-taken g c =
    let l = c.load-found.ensures in
    subst (λ m. TriesTake (slot_in c.args.field.now.nodes c.args.link.now c.args.index) c.args.link.now.from m c.compare_exchange.result c.compare_exchange.new.seat.me) l.2.0
    (subst (λ (k : ℕ × ℕ). TriesTake k.0 k.1 c.load-found.new.seat.me c.compare_exchange.result c.compare_exchange.new.seat.me) (λ i. (c.requires.slot.0 i, c.requires.slot.1 i)) c.compare_exchange.ensures.2)

pub returns-clause-same : goal.returns-clause-same
returns-clause-same g c =
    let l = c.load-found.ensures in let x = c.compare_exchange.ensures in
    (x.0 ∙ l.0, x.1 ∙ l.1)

use Rattle.std.proofs.Common.{arith, subst, ℕ}
use Rattle.mx_stations.specs.Slides.{TriesClaim}
use Rattle.mx_stations.proofs.Slides.{claims_at}
use Rattle.mx_stations.proofs.slots.claim.Goals as goal

pub compare_exchange-requires : goal.compare_exchange-requires
compare_exchange-requires g c =
    let M = g.C.Exclusion in let f = c.args.field.now in let r = c.requires in let s = c.slot_of-slot.ensures in
    (r.link.0, omega (arith, f.words, s.within), claims_at M.core M.Good _ _ _ _ _ _ _ _ _ _ f.key r.idle r.link.1.1 r.index r.slot s.value)

pub returns-clause-claimed : goal.returns-clause-claimed
returns-clause-claimed g c = subst (λ (k : ℕ). TriesClaim k c.args.seat.now.me c.compare_exchange.result c.compare_exchange.new.seat.me) c.requires.slot c.compare_exchange.ensures.2

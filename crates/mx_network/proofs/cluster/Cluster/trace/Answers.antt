use Rattle.std.proofs.Common.{sym, subst}
use Rattle.mx_trace.specs.Serial.{ReadSerially}
use Rattle.mx_trace.specs.Trace.{IsSerial, sections, IsExclusive, IsNumbered}
use Rattle.mx_network.specs.Step.{AreUnsettled}
use Rattle.mx_network.proofs.Headline.{agreed, exclusive, inside_is, journal_ordered, journals_of, nobody_is, numbered, one_alone, takeable}
use Rattle.mx_network.proofs.cluster.Cluster.trace.Goals as goal

pub returns-clause-exclusive : goal.returns-clause-exclusive
returns-clause-exclusive g c = subst (λ t. IsExclusive t) (sym c.deref.ensures.value) (exclusive c.self.inside.trace.items c.self.invariant.1.serial)

pub returns-clause-numbered : goal.returns-clause-numbered
returns-clause-numbered g c = subst (λ t. IsNumbered t) (sym c.deref.ensures.value) (numbered c.self.inside.trace.items c.self.invariant.1.serial)

pub returns-clause-serial : goal.returns-clause-serial
returns-clause-serial g c = subst (λ t. IsSerial t) (sym c.deref.ensures.value) c.self.invariant.1.serial

pub returns-clause-receipts : goal.returns-clause-receipts
returns-clause-receipts g c = subst (λ t. ReadSerially (sections t)) (sym c.deref.ensures.value) c.self.invariant.1.run.sound.serial

pub returns-clause-alone : goal.returns-clause-alone
returns-clause-alone g c = rw (← c.self.view_is) (λ i j a b. one_alone g.C.Exclusion.core g.C.Exclusion.IsShape g.C.Exclusion.Good g.met.C.Exclusion.laws _ c.self.invariant.1 i j a b)

pub returns-clause-agreed : goal.returns-clause-agreed
returns-clause-agreed g c = rw (← c.self.view_is) (agreed g.C.Exclusion.core g.C.Exclusion.Good _ c.self.invariant.1)

pub returns-clause-journals : goal.returns-clause-journals
returns-clause-journals g c = rw (← c.self.view_is) (journals_of g.C.Exclusion.core g.C.Exclusion.Good _ c.self.invariant.1 c.deref.result.now c.deref.ensures.value)

pub returns-clause-ordered : goal.returns-clause-ordered
returns-clause-ordered g c = journal_ordered c.deref.result.now

pub returns-clause-inside : goal.returns-clause-inside
returns-clause-inside g c = rw (← c.self.view_is) (inside_is g.C.Exclusion.core g.C.Exclusion.Good _ c.self.invariant.1 c.deref.result.now c.deref.ensures.value)

pub returns-clause-nobody : goal.returns-clause-nobody
returns-clause-nobody g c = rw (← c.self.view_is) (nobody_is g.C.Exclusion.core g.C.Exclusion.Good _ c.self.invariant.1 c.deref.result.now c.deref.ensures.value)

pub returns-clause-takeable : goal.returns-clause-takeable
returns-clause-takeable g c = rw (← c.self.view_is) (takeable g.C.Exclusion.core g.C.Exclusion.Good _ c.self.invariant.1)

pub returns-clause-unsettled : goal.returns-clause-unsettled
returns-clause-unsettled g c = subst (λ t. AreUnsettled t) (sym c.deref.ensures.value) c.self.invariant.1.unsettled

use Rattle.std.proofs.Common.{◌≡◌, ◌↔◌, ◌⊎◌, ◌++◌, Err, IsOk, IfOk, length, ◌+◌, subst}
use Rattle.mx_journal.specs.declared.puts.PutFault.TheVariants.{Conflict, Memory}
use Rattle.mx_journal.specs.Agreement.{IsConsistent, IsFirstConflict}
use Rattle.mx_journal.specs.Records.{BringsNew, IsNumbered, with_records}
use Rattle.mx_journal.specs.Settled.{BringsUncovered, JournalState, beyond}
use Rattle.mx_journal.proofs.Settled.{ascending_put, brings_beyond}
use Rattle.mx_journal.proofs.journal.Journal.put_all.Goals as goal

pub invariant_of-self : goal.invariant_of-self
invariant_of-self c =
    let k = c.self.inside.base.upto in
    let old = c.self.inside.records in
    let new = c.put_all.new.self in
    ascending_put k c.put_all.result c.args.list.now old new c.self.invariant
    (subst (λ n. IfOk c.put_all.result (λ m. (new ≡ with_records (beyond n c.args.list.now) old) × (length new ≡ length old + m))) c.upto.ensures.value c.put_all.ensures.ok) c.put_all.ensures.err

pub returns-clause-conflict : goal.returns-clause-conflict
returns-clause-conflict c = λ n.
    let list = c.args.list.now in
    subst (λ (j : JournalState). (c.put_all.result ≡ Err (Conflict n)) ↔ (IsNumbered list × IsFirstConflict n (j.records ++ beyond j.base.upto list))) c.self.view_is
    (subst (λ k. (c.put_all.result ≡ Err (Conflict n)) ↔ (IsNumbered list × IsFirstConflict n (c.self.inside.records ++ beyond k list))) c.upto.ensures.value (c.put_all.ensures.conflict n))

pub returns-clause-agreed : goal.returns-clause-agreed
returns-clause-agreed c =
    let list = c.args.list.now in
    subst (λ (j : JournalState). (IsOk c.put_all.result ⊎ (c.put_all.result ≡ Err Memory)) ↔ (IsNumbered list × IsConsistent (j.records ++ beyond j.base.upto list))) c.self.view_is
    (subst (λ k. (IsOk c.put_all.result ⊎ (c.put_all.result ≡ Err Memory)) ↔ (IsNumbered list × IsConsistent (c.self.inside.records ++ beyond k list))) c.upto.ensures.value c.put_all.ensures.agreed)

pub returns-clause-memory : goal.returns-clause-memory
returns-clause-memory c = λ e.
    let list = c.args.list.now in
    subst (λ (j : JournalState). BringsUncovered list j) c.self.view_is
    (brings_beyond list (record { base = c.self.inside.base; records = c.self.inside.records })
    (subst (λ k. BringsNew (beyond k list) c.self.inside.records) c.upto.ensures.value (c.put_all.ensures.memory e)))

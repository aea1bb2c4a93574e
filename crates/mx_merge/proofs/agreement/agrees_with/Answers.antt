use Rattle.std.proofs.Common.{◌≡◌, sym, ◌∙◌, ap}
use Rattle.std.proofs.lemmas.Option.{same_Some}
use Rattle.mx_journal.specs.Records.{record_at}
use Rattle.mx_journal.proofs.Maps.{found_at, found_in, none_in}
use Rattle.mx_merge.proofs.agreement.agrees_with.Goals as goal

pub returns-in-Some-clause-agrees : goal.returns-in-Some-clause-agrees
returns-in-Some-clause-agrees c = λ t x m e.
    let journal = c.args.journal.now.records in
    let there : x ≡ c.in-Some.there.now = same_Some x c.in-Some.there.now (sym (found_at 1 journal c.requires x m) ∙ ap (λ n. record_at n journal) e ∙ c.in-Some.ensures) in
    there ∙ c.is.ensures.0 t

pub returns-in-Some-clause-opposed : goal.returns-in-Some-clause-opposed
returns-in-Some-clause-opposed c = λ t.
    let r = found_in c.args.entry.now.number c.args.journal.now.records c.in-Some.there.now c.in-Some.ensures in
    (c.in-Some.there.now, r.0, r.1, λ e. let s = c.is.ensures.1 e in let bad : ⊥ = cc in bad)

pub returns-in-None-clause-agrees : goal.returns-in-None-clause-agrees
returns-in-None-clause-agrees c = λ t x m e. absurd (none_in c.args.entry.now.number c.args.journal.now.records c.in-None.ensures x m e)

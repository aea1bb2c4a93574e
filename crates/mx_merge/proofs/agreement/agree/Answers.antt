use Rattle.std.proofs.Common.{◌↔◌, IsTrue}
use Rattle.mx_journal.specs.Settled.{DoAgree}
use Rattle.mx_journal.proofs.Settled.{from_one}
use Rattle.mx_merge.proofs.Differences.{none_where_agreeing}
use Rattle.mx_merge.proofs.Joins.{of_one_agree}
use Rattle.mx_merge.proofs.agreement.agree.Goals as goal

exactly : (c : goal.After-is_none) → IsTrue c.is_none.result ↔ DoAgree c.args.journal.now c.args.other.now
exactly c =
    let d = c.first_difference.ensures in
    let a = c.args.journal.now in
    let b = c.args.other.now in
    none_where_agreeing c.first_difference.result c.is_none.result a b c.is_none.ensures (from_one a.base.upto a.records d.here) (from_one b.base.upto b.records d.there) d.some d.none

pub returns-clause-agreeing : goal.returns-clause-agreeing
returns-clause-agreeing c = exactly c

pub returns-clause-submaps : goal.returns-clause-submaps
returns-clause-submaps c = λ h. (exactly c).1 (of_one_agree c.args.journal.now c.args.other.now h)

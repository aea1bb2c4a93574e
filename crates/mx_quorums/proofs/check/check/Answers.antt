use Rattle.std.proofs.Common.{ℕ, List, Bool, Ok, Err, Result, MatchResult}
use Rattle.mx_quorums.specs.Rules.{AllOwn, AllMeet}
use Rattle.mx_quorums.specs.Rows.{IsMember, IsFirstRowFault}
use Rattle.mx_quorums.specs.declared.fault.QuorumFault.{QuorumFault}
use Rattle.mx_quorums.proofs.check.check.Goals as goal

-- the pairs answer, since each node is in its own set
with_own : (n : ℕ) (rows : List (List Bool)) (r : Result (Unit {0}) QuorumFault) → AllOwn (IsMember rows) n
    → MatchResult r (λ _. AllMeet (IsMember rows) n) (λ f. IsFirstRowFault n rows f)
    → MatchResult r (λ _. AllOwn (IsMember rows) n × AllMeet (IsMember rows) n) (λ f. IsFirstRowFault n rows f)
with_own n rows (Ok u) own meet = (own, meet)
with_own n rows (Err f) own fault = fault

pub returns : goal.returns
returns c = with_own c.args.nodes c.args.rows.now c.check_pairs.result c.in_ok-check_own.ensures c.check_pairs.ensures

use Rattle.std.proofs.Common.{◌≡◌, ◌<◌, length, arith, subst, sym, ◌∙◌}
use Rattle.mx_quorums.specs.Lists.{lists_of, IsFirstFault}
use Rattle.mx_quorums.proofs.ListLemmas.{length_lists, listed_within}
use Rattle.mx_quorums.proofs.FaultLemmas.{Answers, refused_by, checked_answers}
use Rattle.mx_quorums.proofs.quorums.Quorums.listed.Goals as goal

-- a stranger is the first fault
stranger : (c : goal.After-from_residual-in_err-check_members) → Answers (lists_of c.args.sets.now) c.from_residual-in_err-check_members.result
stranger c =
    let lists = lists_of c.args.sets.now in
    let same = length_lists c.args.sets.now in
    let n = c.in_ok-nodes.ensures in
    let is = c.in_err-check_members.ensures in
    let first = subst (IsFirstFault lists) (sym is.2) ((omega (arith, n), omega (arith, n)), c.in_ok-check_filled.ensures, is.3) in
    refused_by lists c.in_err-check_members.field-0.0 c.from_residual-in_err-check_members.result c.from_residual-in_err-check_members.ensures.1 first

pub returns-in_err-check_members-clause-ok : goal.returns-in_err-check_members-clause-ok
returns-in_err-check_members-clause-ok c = (stranger c).ok

pub returns-in_err-check_members-clause-fault : goal.returns-in_err-check_members-clause-fault
returns-in_err-check_members-clause-fault c = (stranger c).fault

pub checked-requires-clause-marks : goal.checked-requires-clause-marks
checked-requires-clause-marks c = λ i j h.
    let lists = lists_of c.args.sets.now in
    let same : length lists ≡ length c.args.sets.now = length_lists c.args.sets.now in
    let n = c.in_ok-nodes.ensures in
    let here = (c.rows_of.ensures i j).0 h in
    let owner : i < length lists = listed_within lists i j here in
    let member : j < length lists = c.in_ok-check_members.ensures i j owner here in
    (omega (arith, n), omega (arith, n))

-- the check of the rows answers
answer : (c : goal.After-checked) → Answers (lists_of c.args.sets.now) c.checked.result
answer c =
    let lists = lists_of c.args.sets.now in
    let same : length lists ≡ length c.args.sets.now = length_lists c.args.sets.now in
    let n = c.in_ok-nodes.ensures in
    checked_answers lists c.in_ok-nodes.nodes c.rows_of.result (n.0 ∙ sym same) (omega (arith, n), omega (arith, n)) c.in_ok-check_filled.ensures c.in_ok-check_members.ensures c.rows_of.ensures c.checked.result c.checked.ensures

pub returns-clause-ok : goal.returns-clause-ok
returns-clause-ok c = (answer c).ok

pub returns-clause-fault : goal.returns-clause-fault
returns-clause-fault c = (answer c).fault

use Rattle.std.proofs.Common.{inr, refl, rules, string_bytes}
use Rattle.mx_scripts.proofs.expectation.compare_outcome.Goals as goal

pub returns-then-not-branch-clause-err : goal.returns-then-not-branch-clause-err
returns-then-not-branch-clause-err c = inr (inr ((c.in-Some._before.now, c.in-Some.newest.now, c.in-Some.ensures.cases.0, string_bytes c.in_ok-expected.expected, c.in_ok-expected.ensures, search rules), refl))

pub returns-clause-ok : goal.returns-clause-ok
returns-clause-ok c = (c.in-Some._before.now, c.in-Some.newest.now, c.in-Some.ensures.cases.0, string_bytes c.in_ok-expected.expected, c.in_ok-expected.ensures, search rules)

use Rattle.std.proofs.Common.{◌≡◌, ◌-◌, [], get_or, length, ◌∙◌, ap, arith}
use Rattle.mx_journal.specs.Runs.{sewn}
use Rattle.mx_journal.proofs.Seams.{cut_back, sewn_long}
use Rattle.mx_journal.proofs.insertion.splice_both.Goals as goal

pub cut-requires : goal.cut-requires
cut-requires c =
    let runs = c.args.runs.now in
    let middle = c.args.middle.now.items in
    let whole : c.splice-2.new.runs.items ≡ sewn runs.items middle = c.in-Err.ensures.err ∙ c.in_ok-splice.ensures.ok in
    omega (arith, c.len-count.ensures, runs.ok, sewn_long runs.items middle, ap length whole)

pub returns-in-Err-clause-err : goal.returns-in-Err-clause-err
returns-in-Err-clause-err c =
    let runs = c.args.runs.now in
    let middle = c.args.middle.now.items in
    let whole : c.splice-2.new.runs.items ≡ sewn runs.items middle = c.in-Err.ensures.err ∙ c.in_ok-splice.ensures.ok in
    c.cut.ensures.items
    ∙ cut_back runs.items middle c.splice-2.new.runs.items c.len-count.result c.last_len-len.result whole (omega (arith, c.len-count.ensures, runs.ok))
    (c.last_len-len.ensures ∙ ap (λ l. length (get_or l (length l - 1) [])) c.deref.ensures.value)

use Rattle.std.proofs.Common.{◌≡◌, ◌∙◌, Ok, Err, rules, sym}
use Rattle.mx_lines.proofs.SideLemmas.{error_is, rest_more, rest_wrong}
use Rattle.mx_lines.proofs.sides.all_put.Goals as goal

pub returns-in_err-sides : goal.returns-in_err-sides
returns-in_err-sides g c =
    let e = c.in_err-sides.field-0.0 in
    let failed : c.put_named.result ≡ Err e = search rules in
    let known = g.N.KnownNames.known c.args.names.now in
    error_is c.from_residual.result e c.from_residual.ensures.1
    ∙ sym (c.loop-index.invariant ∙ rest_wrong known c.args.side c.args.words.now c.args.place c.loop-index.index _ c.loop-index.sides e c.loop-index-test.true (sym c.put_named.ensures ∙ failed))

pub loop-index-preserved : goal.loop-index-preserved
loop-index-preserved g c =
    let done : c.put_named.result ≡ Ok c.in_ok-sides.sides = search rules in
    let known = g.N.KnownNames.known c.args.names.now in
    c.loop-index.invariant
    ∙ rest_more known c.args.side c.args.words.now c.args.place c.loop-index.index _ c.loop-index.sides c.in_ok-sides.sides c.loop-index-test.true (sym c.put_named.ensures ∙ done)

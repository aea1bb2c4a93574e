use Rattle.std.proofs.Common.{◌∙◌, ap, arith, refl, rules}
use Rattle.mx_play.specs.Sessions.{SessionState}
use Rattle.mx_play.proofs.ExpectationLemmas.{met_as, not_met_as}
use Rattle.mx_play.proofs.commands.expect.Goals as goal

pub trace_of-requires : goal.trace_of-requires
trace_of-requires g c = first_of (search rules, search c.requires-raw, search (rules, c.requires-raw), search (arith, c.requires-raw))

pub returns-in-Ok : goal.returns-in-Ok
returns-in-Ok g c =
    let trace = c.trace_of.ensures ∙ ap (λ (x : SessionState g.row.C.Denot g.row.C-Msg.Denot). x.state.cluster.trace) c.session.view_is in
    met_as c.text_of.result.now c.args.line.now _ _ c.text_of.ensures trace c.in-Ok.ensures.ok

pub returns-in_default : goal.returns-in_default
returns-in_default g c =
    let trace = c.trace_of.ensures ∙ ap (λ (x : SessionState g.row.C.Denot g.row.C-Msg.Denot). x.state.cluster.trace) c.session.view_is in
    (c.in-Err.failure, not_met_as c.text_of.result.now c.args.line.now _ _ c.in-Err.failure c.in_default.not-Memory c.text_of.ensures trace c.in-Err.ensures.err, refl)

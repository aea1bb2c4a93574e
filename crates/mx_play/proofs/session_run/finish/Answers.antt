use Rattle.std.proofs.Common.{◌≡◌, arith, length, rules, subst, sym}
use Rattle.mx_play.specs.Sessions.{SessionState}
use Rattle.mx_play.proofs.session_run.finish.Goals as goal

pub add_end-requires : goal.add_end-requires
add_end-requires g c = (
  first_of (search rules, search c.requires-raw, search (rules, c.requires-raw), search (arith, c.requires-raw)),
  subst (λ (x : SessionState g.row.C.Denot g.row.C-Msg.Denot). length x.state.cluster.members ≡ length c.args.setting.now.plan.now.nodes) (sym c.session.view_is) c.requires.members,
)

pub returns-clause-closes : goal.returns-clause-closes
returns-clause-closes g c =
    rw (← c.session.view_is) (rw (c.as_bytes.ensures.value, c.in_ok-status.ensures.text, c.new-text.ensures.bytes) at c.in_ok-put.ensures.ok)

pub returns-clause-zero : goal.returns-clause-zero
returns-clause-zero g c = c.in_ok-status.ensures.zero

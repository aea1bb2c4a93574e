use Rattle.mx_driver.specs.Shown.{shown_waiters}
use Rattle.mx_scripts.specs.Standstill.{stuck_in}
use Rattle.mx_shown_scripts.proofs.ResultLemmas.{if_ok_ap}
use Rattle.mx_shown_scripts.proofs.shown_script.Showing.waiters.Goals as goal

pub returns : goal.returns
returns g c =
    let core = g.C.Exclusion.core in
    let knows = g.C.Knowledge.knows in
    if_ok_ap (λ found. found.items) (shown_waiters c.args.self.now.plan.now c.args.self.now.view.now core knows) (stuck_in core knows c.args.state.now) c.stuck.result c.stuck.ensures

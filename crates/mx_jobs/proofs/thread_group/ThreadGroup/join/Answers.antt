use Rattle.std.proofs.Common.{◌∙◌, [], ap, append-nil, arith, length, subst, sym}
use Rattle.std.specs.List.{AllZip}
use Rattle.mx_jobs.proofs.thread_group.ThreadGroup.join.Goals as goal

pub loop-last-init : goal.loop-last-init
loop-last-init g c =
    let i = c.self.invariant in
    let none = ap length i.3 in record {
      room = omega (arith, i.0, i.2, none);
      all = ([], append-nil _ ∙ ap (λ s. s.works) c.self.view_is, subst (AllZip g.W.Work.leads []) (sym i.3) tt);
    }

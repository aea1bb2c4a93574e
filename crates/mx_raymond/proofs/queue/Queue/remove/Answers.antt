use Rattle.std.proofs.Common.{rules, ◌≡◌, ◌∙◌, ap}
use Rattle.arrayvec.proofs.ArrayVecLemmas.{filter-from_retain}
use Rattle.mx_raymond.specs.Queue.{without}
use Rattle.mx_raymond.proofs.Queues.{is_queue_without, gone}
use Rattle.mx_raymond.proofs.queue.Queue.remove.Goals as goal

pub invariant_of-self : goal.invariant_of-self
invariant_of-self c =
    let e : c.retain.new.self.items ≡ without c.self.inside.names.items c.args.node = filter-from_retain _ _ _ (λ x b f' y called. search rules) _ _ c.retain.ensures.filtered in
    rw e (is_queue_without c.self.inside.names.items c.args.node c.self.invariant)

pub returns-clause-value : goal.returns-clause-value
returns-clause-value c =
    let e : c.retain.new.self.items ≡ without c.self.inside.names.items c.args.node = filter-from_retain _ _ _ (λ x b f' y called. search rules) _ _ c.retain.ensures.filtered in
    e ∙ ap (λ q. without q c.args.node) c.self.view_is

pub returns-clause-gone : goal.returns-clause-gone
returns-clause-gone c =
    let e : c.retain.new.self.items ≡ without c.self.inside.names.items c.args.node = filter-from_retain _ _ _ (λ x b f' y called. search rules) _ _ c.retain.ensures.filtered in
    rw e (gone c.self.inside.names.items c.args.node)

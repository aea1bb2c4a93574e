use Rattle.std.proofs.Common.{◌∷◌, ◌++◌, ◌∙◌, [], ap, arith}
use Rattle.mx_network.specs.ParcelLog.{ParcelLogState}
use Rattle.mx_network.proofs.ParcelLogLists.{more_kept, one_more_sent, some_kept}
use Rattle.mx_network.proofs.parcel_log.ParcelLog.send.Goals as goal

pub invariant_of-self : goal.invariant_of-self
invariant_of-self g c =
    more_kept c.self.inside.kept.items c.keep.new.kept.items c.self.inside.sendings.items c.self.invariant c.args.parcel.now c.keep.ensures.kept c.args.from c.args.to _ c.push_reserved.new.self.items
    (let long = c.len-place.ensures in let items = c.keep.new.kept.ok.0 in let some = some_kept c.keep.new.kept.items c.args.parcel.now c.keep.ensures.kept.last in omega arith) c.push_reserved.ensures.items

pub returns-clause-sent : goal.returns-clause-sent
returns-clause-sent g c =
    one_more_sent c.self.inside.kept.items c.keep.new.kept.items c.self.inside.sendings.items c.self.invariant c.args.parcel.now c.keep.ensures.kept c.args.from c.args.to _ c.push_reserved.new.self.items
    (let long = c.len-place.ensures in let items = c.keep.new.kept.ok.0 in let some = some_kept c.keep.new.kept.items c.args.parcel.now c.keep.ensures.kept.last in omega arith) c.push_reserved.ensures.items
    ∙ ap (λ (x : ParcelLogState g.row.C-Msg.Denot). x.sent ++ (c.args.from, c.args.to, c.args.parcel.now) ∷ []) c.self.view_is

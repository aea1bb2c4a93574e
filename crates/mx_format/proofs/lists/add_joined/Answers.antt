use Rattle.std.proofs.Common.{string_bytes}
use Rattle.mx_format.proofs.Places.{joined_whole}
use Rattle.mx_format.proofs.lists.add_joined.Goals as goal

pub returns : goal.returns
returns g c =
    joined_whole c.args.between.now (g.V.Listed.written c.args.plan.now) c.add_each.result c.args.values.now c.in-Some.first.now c.in-Some.rest.now
    (string_bytes c.args.text.now) (string_bytes c.add.new.text) (string_bytes c.add_each.new.text) c.in-Some.ensures.cases.0 c.in_ok-add.ensures c.add_each.ensures

use Rattle.std.proofs.Common.{sym, ◌∙◌, ap, position, string_bytes}
use Rattle.std.specs.Str.{bytes_eq}
use Rattle.mx_plan.proofs.Lists.{position-map}
use Rattle.mx_plan.proofs.names.Names.index_of.Goals as goal

pub returns-clause-index : goal.returns-clause-index
returns-clause-index c =
    c.get_index_of.ensures.index
    ∙ sym (position-map (bytes_eq c.args.name.now) string_bytes c.self.inside.set.keys)
    ∙ ap (position (bytes_eq c.args.name.now)) c.self.view_is

use Rattle.std.proofs.Common.{◌≡◌, sym, ◌∙◌, ap, ap₂, not, string_bytes}
use Rattle.std.specs.List.{list_any}
use Rattle.std.specs.Str.{bytes_eq}
use Rattle.mx_plan.proofs.Lists.{list_any-map}
use Rattle.mx_plan.proofs.names.Names.add.Goals as goal

pub returns-clause-added : goal.returns-clause-added
returns-clause-added c =
    let named : string_bytes c.in_ok-name.name ≡ c.args.name.now = c.in_ok-name.ensures.ok in
    c.in_ok-insert.ensures.added
    ∙ ap not (sym (list_any-map (bytes_eq (string_bytes c.in_ok-name.name)) string_bytes c.self.inside.set.keys)
    ∙ ap₂ (λ n ks. list_any (bytes_eq n) ks) named c.self.view_is)

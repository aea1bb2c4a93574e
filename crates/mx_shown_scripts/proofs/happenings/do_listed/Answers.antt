use Rattle.std.proofs.Common.{◌∙◌, ◌++◌, List, ap}
use Rattle.mx_event_files.specs.Scripts.{of_line}
use Rattle.mx_event_files.specs.declared.happening.Happening.{Happening}
use Rattle.mx_shown_scripts.proofs.HappeningLemmas.{told_listed}
use Rattle.mx_shown_scripts.proofs.happenings.do_listed.Goals as goal

pub returns-in-Ok : goal.returns-in-Ok
returns-in-Ok g c =
    let told = c.in-Ok.ensures.ok in
    let listed = told_listed g.C.Exclusion.core told.0 _ _ _ _ told.2 in
    let before : List Happening = c.args.happened.now.items in
    let did : List Happening = of_line c.args.number told.0 in (
      told.0,
      told.1,
      c.in_ok-extend_from_slice-in-Ok.ensures.items
          ∙ ap (λ (l : List Happening). before ++ l) (c.as_slice.ensures.value ∙ listed.0 ∙ ap (λ (l : List Happening). l ++ did) c.new.ensures.items),
    )

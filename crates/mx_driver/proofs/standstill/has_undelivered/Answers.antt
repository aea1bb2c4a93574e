use Rattle.std.proofs.Common.{◌∙◌, ℕ, Bool, List, ap, ap₂, not}
use Rattle.std.specs.List.{list_any}
use Rattle.mx_stamps.specs.Lists.{each_below}
use Rattle.mx_trace.specs.declared.outcome.Entry.{Entry}
use Rattle.mx_driver.specs.Standstill.{is_delivered}
use Rattle.mx_driver.proofs.StandstillLemmas.{any_each}
use Rattle.mx_driver.proofs.standstill.has_undelivered.Goals as goal

pub returns : goal.returns
returns g c =
    let trace = c.trace.result.now in
    let sent = c.sent.result in
    c.is_any_missing.ensures ∙ ap (λ (marks : List Bool). list_any not marks) (c.as_slice.ensures.value ∙ c.in_ok-marks.ensures)
    ∙ any_each not (is_delivered trace) sent
    ∙ ap₂ (λ (l : List Entry) (n : ℕ). list_any (λ k. not (is_delivered l k)) (each_below (λ k. k) n)) c.trace.ensures.value c.sent.ensures

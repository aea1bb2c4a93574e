use Rattle.std.proofs.Common.{◌≡◌, ◌∙◌, ◌∷◌, ◌++◌, Bool, [], OnOk, ap, if◌then◌else◌, subst, sym}
use Rattle.mx_nodelaws.specs.Phases.{is_waiting}
use Rattle.mx_format.specs.StuckTexts.{waiter}
use Rattle.mx_driver.proofs.StandstillLemmas.{not_added}
use Rattle.mx_driver.proofs.standstill.add_waiter.Goals as goal

pub returns-then-not-is_waiting : goal.returns-then-not-is_waiting
returns-then-not-is_waiting g c =
    let m = c.args.member.now in
    let is : c.is_waiting.result ≡ is_waiting (g.C.Exclusion.core.phase m.core) = c.is_waiting.ensures ∙ ap is_waiting c.phase.ensures.value in
    not_added (is_waiting (g.C.Exclusion.core.phase m.core)) c.args.waiters.now.items (waiter c.args.node (g.C.Knowledge.knows m.core) ∷ []) (sym is ∙ c.if-not-is_waiting.true)

pub returns : goal.returns
returns g c =
    let m = c.args.member.now in
    let old = c.args.waiters.now.items in
    let one = waiter c.args.node (g.C.Knowledge.knows m.core) ∷ [] in
    let is : c.is_waiting.result ≡ is_waiting (g.C.Exclusion.core.phase m.core) = c.is_waiting.ensures ∙ ap is_waiting c.phase.ensures.value in
    subst (λ (b : Bool). OnOk c.push_waiter.result (c.push_waiter.new.waiters.items ≡ old ++ (if b then one else []))) (sym c.if-not-is_waiting.false ∙ is) c.push_waiter.ensures

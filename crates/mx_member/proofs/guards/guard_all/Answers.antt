use Rattle.std.proofs.Common.{ℕ, arith, ◌≡◌, ◌+◌, ◌∷◌, ◌++◌, List, [], length, ap, rules, sym, ◌∙◌}
use Rattle.std.proofs.lemmas.List.{length-append, take_all}
use Rattle.mx_member.specs.declared.parcel.Parcel.TheVariants.{Guard}
use Rattle.mx_member.specs.Member.{guarded}
use Rattle.mx_member.proofs.Guarded.{guarded-more}
use Rattle.mx_member.proofs.guards.guard_all.Goals as goal

pub loop-to-preserved : goal.loop-to-preserved
loop-to-preserved g c =
    let more = guarded-more c.as_slice-to-items.result.now c.loop-to.to-index c.loop-to-item.result c.loop-to-test.true c.loop-to-item.is in
    record {
      sent = c.add.ensures ∙ ap (λ o. o ++ (c.loop-to-item.result.0, Guard c.loop-to-item.result.1) ∷ []) c.loop-to.invariant.sent ∙ sym more;
      few =
          (let longer : length c.add.new.self ≡ length c.loop-to.out + 1 = ap length c.add.ensures ∙ length-append c.loop-to.out _ in let few = c.loop-to.invariant.few in omega arith);
    }

pub add-requires : goal.add-requires
add-requires g c =
    (search rules, (let few = c.loop-to.invariant.few in let test = c.loop-to-test.true in let bound = c.as_slice-to-items.ensures.bound in let same = ap length c.as_slice-to-items.ensures.value in omega arith))

pub loop-to-init : goal.loop-to-init
loop-to-init g c = record { sent = c.requires; few = (let none = ap length c.requires in omega arith) }

pub returns-clause-sent : goal.returns-clause-sent
returns-clause-sent g c =
    c.loop-to.invariant.sent
    ∙ ap (λ (ps : List (ℕ × g.row.M.Denot)). guarded ps) (take_all c.loop-to.to-index c.as_slice-to-items.result.now c.loop-to-test.false ∙ c.as_slice-to-items.ensures.value)

pub returns-clause-empty : goal.returns-clause-empty
returns-clause-empty g c = c.clear.ensures

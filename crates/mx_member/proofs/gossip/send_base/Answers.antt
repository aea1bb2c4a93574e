use Rattle.std.proofs.Common.{◌≡◌, ◌∷◌, ◌++◌, [], true, length, sym, ap, ◌∙◌, arith, rules}
use Rattle.std.specs.List.{list_any}
use Rattle.mx_stamps.proofs.Choices.{cond_true}
use Rattle.mx_journal.specs.Bases.{BaseState}
use Rattle.mx_member.specs.declared.parcel.Parcel.TheVariants.{Base}
use Rattle.mx_member.specs.Steps.{reaches}
use Rattle.mx_member.proofs.gossip.send_base.Goals as goal

pub add-requires : goal.add-requires
add-requires g c = (search rules, (let none = ap length c.requires in omega arith))

pub returns-then-is_wanted : goal.returns-then-is_wanted
returns-then-is_wanted g c =
    let upto = c.upto.ensures.value ∙ ap (λ (b : BaseState). b.upto) c.base.ensures in
    let wanted : list_any (reaches c.args.journal.now.base.upto) c.args.ranges.now ≡ true =
    ap (λ k. list_any (reaches k) c.args.ranges.now) (sym upto) ∙ sym c.is_wanted.ensures ∙ c.if-is_wanted.true in
    c.add.ensures
    ∙ ap (λ o. o ++ (c.args.to, Base c.base-then-is_wanted.result.now) ∷ []) c.requires
    ∙ ap (λ b. (c.args.to, Base b) ∷ []) c.base-then-is_wanted.ensures
    ∙ sym (cond_true (list_any (reaches c.args.journal.now.base.upto) c.args.ranges.now) _ _ wanted)

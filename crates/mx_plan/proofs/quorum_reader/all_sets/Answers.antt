use Rattle.std.proofs.Common.{ℕ, Global, List, Result, Vec, IsErrAnd, subst, ◌⊎◌, ◌≡◌, ◌∙◌, ap, sym, inl, inr, arith, Ok, Err, append-nil, length, length-append, map, get_or, ◌++◌, ◌∷◌, [], ◌+◌}
use Rattle.std.proofs.lemmas.List.{map-append}
use Rattle.serde_json.specs.View.{view}
use Rattle.mx_quorums.specs.Lists.{lists_of}
use Rattle.mx_plan.specs.Values.{each}
use Rattle.mx_plan.specs.NameLists.{number_in}
use Rattle.mx_plan.specs.QuorumKeys.{GivesSets, set_of}
use Rattle.mx_plan.specs.declared.faults.PlanFault.{PlanFault}
use Rattle.mx_plan.specs.declared.faults.PlanFault.TheVariants as place_fault
use Rattle.mx_plan.specs.declared.place.Place.TheVariants as place
use Rattle.mx_plan.proofs.EachLemmas.{after, no_value, rest, rest_end, rest_err, rest_ok}
use Rattle.mx_plan.proofs.quorum_reader.all_sets.Goals as goal

sets_refused : (wanted : Result (List (List ℕ)) PlanFault) (e : PlanFault) (refused : Result (Vec (Vec ℕ Global) Global) PlanFault) → IsErrAnd refused (λ f. f ≡ e) → (wanted ≡ Err e) ⊎ (e ≡ place_fault.Memory) → GivesSets wanted refused
sets_refused wanted e (Ok sets) is why = absurd is
sets_refused wanted e (Err f) is why = subst (λ (x : PlanFault). (wanted ≡ Err x) ⊎ (x ≡ place_fault.Memory)) (sym is) why

pub returns-in_err-set : goal.returns-in_err-set
returns-in_err-set c =
    let values = c.args.values.now in
    let rule = set_of c.args.nodes.now in
    let i = c.loop-value.value-index in
    let item = c.value-item.result in
    let e = c.in_err-set.field-0.0 in
    let numbers = number_in place.Quorums c.args.nodes.now in
    let read : rule (view (get_or values i item)) ≡ each numbers (map view c.list_in.result.now) =
    ap (λ v. rule (view v)) (sym c.value-item.is) ∙ ap (each numbers) (sym c.list_in.ensures) in
    let refused = c.from_residual.result in
    elim c.in_err-set.ensures [
      | inl is ↦
          let wanted : each rule (map view values) ≡ Err e =
          c.loop-value.invariant.so_far ∙ rest_err view (λ _. rule) values (lists_of c.loop-value.sets.items) i item e c.loop-value-test.true (read ∙ is) in
          record { sets = sets_refused _ e refused c.from_residual.ensures.1 (inl wanted); one_each = no_value refused _ c.from_residual.ensures.0 }
      | inr memory ↦ record { sets = sets_refused _ e refused c.from_residual.ensures.1 (inr memory); one_each = no_value refused _ c.from_residual.ensures.0 }
    ]

pub loop-value-preserved : goal.loop-value-preserved
loop-value-preserved c =
    let values = c.args.values.now in
    let rule = set_of c.args.nodes.now in
    let i = c.loop-value.value-index in
    let item = c.value-item.result in
    let set = c.in_ok-set.set in
    let numbers = number_in place.Quorums c.args.nodes.now in
    let is : rule (view (get_or values i item)) ≡ Ok set.items =
    ap (λ v. rule (view v)) (sym c.value-item.is) ∙ ap (each numbers) (sym c.list_in.ensures) ∙ c.in_ok-set.ensures in
    let grown : c.push.new.self.items ≡ c.loop-value.sets.items ++ set ∷ [] = c.in_ok-push.ensures.items in
    let lists : lists_of c.push.new.self.items ≡ lists_of c.loop-value.sets.items ++ set.items ∷ [] =
    ap lists_of grown ∙ map-append (λ v. v.items) c.loop-value.sets.items (set ∷ []) in
    record {
      so_far = c.loop-value.invariant.so_far
          ∙ rest_ok view (λ _. rule) values (lists_of c.loop-value.sets.items) i item set.items c.loop-value-test.true is
          ∙ ap (λ ls. after ls (rest view (λ _. rule) values (i + 1))) (sym lists);
      counted = ap length grown ∙ length-append c.loop-value.sets.items (set ∷ []) ∙ ap (λ n. n + 1) c.loop-value.invariant.counted;
    }

pub returns : goal.returns
returns c =
    let rule = set_of c.args.nodes.now in
    record {
      sets = c.loop-value.invariant.so_far
          ∙ ap (after (lists_of c.loop-value.sets.items)) (rest_end view (λ _. rule) c.args.values.now c.loop-value.value-index c.loop-value-test.false)
          ∙ ap Ok (append-nil (lists_of c.loop-value.sets.items));
      one_each = omega (arith, c.loop-value.invariant.counted, c.loop-value-test.false, c.loop-value.auto.value-index-end);
    }

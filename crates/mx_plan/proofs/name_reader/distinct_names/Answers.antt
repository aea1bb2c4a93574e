use Rattle.std.proofs.Common.{◌≡◌, ◌∙◌, ◌++◌, [], ◌∷◌, ap, ap₂, sym, arith, inl, refl, get_or, true, false, not}
use Rattle.std.specs.List.{list_any}
use Rattle.std.specs.Str.{bytes_eq}
use Rattle.serde_json.specs.View.{view}
use Rattle.mx_plan.specs.Text.{has_double}
use Rattle.mx_plan.specs.Values.{text_of}
use Rattle.mx_plan.proofs.Lists.{double_at, has_double-push, texts_more}
use Rattle.mx_plan.proofs.name_reader.distinct_names.Goals as goal

pub returns-then-not-branch : goal.returns-then-not-branch
returns-then-not-branch c =
    let values = c.args.values.now in
    let i = c.loop-value.value-index in
    let item = c.value-item.result in
    let name : c.text_in.result.now ≡ text_of (view (get_or values i item)) = c.text_in.ensures ∙ ap (λ v. text_of (view v)) c.value-item.is in
    let was : not (list_any (bytes_eq c.text_in.result.now) c.loop-value.names) ≡ false = sym c.in_ok-add.ensures.added ∙ c.if-not-branch.true in
    let any : list_any (bytes_eq c.text_in.result.now) c.loop-value.names ≡ true = grind arith in
    let double = double_at view values i item c.loop-value-test.true
    (sym (ap₂ (λ n ns. list_any (bytes_eq n) ns) name c.loop-value.invariant.so_far) ∙ any) in
    inl (rw double refl)

pub loop-value-preserved : goal.loop-value-preserved
loop-value-preserved c =
    let values = c.args.values.now in
    let i = c.loop-value.value-index in
    let item = c.value-item.result in
    let name : c.text_in.result.now ≡ text_of (view (get_or values i item)) = c.text_in.ensures ∙ ap (λ v. text_of (view v)) c.value-item.is in
    let was : not (list_any (bytes_eq c.text_in.result.now) c.loop-value.names) ≡ true = sym c.in_ok-add.ensures.added ∙ c.if-not-branch.false in
    let none : list_any (bytes_eq c.text_in.result.now) c.loop-value.names ≡ false = grind arith in
    let grown = c.in_ok-add.ensures.names c.if-not-branch.false in
    record {
      so_far = grown ∙ ap₂ (λ ns n. ns ++ n ∷ []) c.loop-value.invariant.so_far name ∙ sym (texts_more view values i item c.loop-value-test.true);
      distinct = ap has_double grown ∙ has_double-push c.loop-value.names c.text_in.result.now ∙ rw (c.loop-value.invariant.distinct, none) refl;
    }

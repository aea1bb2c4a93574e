use Rattle.std.proofs.Common.{◌≡◌, ◌∙◌, ◌+◌, ◌++◌, ℕ, List, [], ◌∷◌, ap, append_assoc, length, refl, string_bytes, sym}
use Rattle.std.specs.Prelude.{codes}
use Rattle.std.specs.List.{range_with_len}
use Rattle.mx_plan.specs.Text.{Text}
use Rattle.mx_plan.specs.Fields.{Fields}
use Rattle.mx_format.specs.Lines.{each_text, texts_from}
use Rattle.mx_format.proofs.Places.{all_written, first_written}
use Rattle.mx_picture.specs.Drawn.{name_text}
use Rattle.mx_picture.proofs.opening.add_names.Goals as goal

-- the names by their nodes
by_node : (p : Fields) (k : ℕ) (xs : List Text) → texts_from (λ i name. name_text p i) k xs ≡ each_text (name_text p) (range_with_len k (length xs))
by_node p k [] = refl
by_node p k (x ∷ xs) = ap (λ (t : Text). name_text p k ++ t) (by_node p (k + 1) xs)

pub loop-node-init : goal.loop-node-init
loop-node-init c =
    ap (λ (t : Text). string_bytes c.args.text.now ++ t) (by_node c.args.plan.now 0 c.args.plan.now.nodes
    ∙ ap (each_text (name_text c.args.plan.now)) (sym (c.into_iter-node-iterator.ensures.into_iter_gives ∙ c.node_ids-node-items.ensures)))

pub loop-node-preserved : goal.loop-node-preserved
loop-node-preserved c =
    let text = string_bytes c.loop-node.text in
    let name = c.name_of.result.now in
    c.loop-node.invariant
    ∙ first_written (name_text c.args.plan.now) _ _ _ _ _ c.in-Some.ensures.steps
    (c.in_ok-push_str-2.ensures.bytes ∙ ap (λ (t : Text). t ++ name) c.in_ok-push_str.ensures.bytes ∙ append_assoc text (codes " ") name
    ∙ ap (λ (n : Text). text ++ (codes " " ++ n)) c.name_of.ensures)

pub returns : goal.returns
returns c = sym (c.loop-node.invariant ∙ all_written (name_text c.args.plan.now) c.loop-node.node-iterator (string_bytes c.loop-node.text) c.in-None.ensures.steps.0)

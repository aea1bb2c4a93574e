-- The promises on phases, for any number of nodes; and the laws, for one node.
use Rattle.std.proofs.Common.{ℕ, ◌≡◌, List, [], ◌∷◌, Some, length, slice_get, refl, sym, ◌∙◌, ap, subst, arith}
use Rattle.std.proofs.lemmas.Option.{same_Some, slice_get_within}
use Rattle.mx_stamps.specs.Lists.{IsIn, greatest}
use Rattle.mx_stamps.proofs.Lists.{append_nil, length_each_below, length_set, none_is_no_some}
use Rattle.mx_nodelaws.specs.World.{World, becoming, IsNode, after}
use Rattle.mx_nodelaws.specs.Core.{KeepsPhases}
use Rattle.mx_nodelaws.specs.Laws.{KeepsGood}
use Rattle.mx_nodelaws.specs.Bounds.{IsBoundedDone}
use Rattle.mx_nodelaws.proofs.Phases.{waiting_not_inside}
use Rattle.mx_nodelaws.proofs.Bounds.{nil}
use Rattle.mx_nodelaws.proofs.Rows.{phases_of, laws_of}
use Rattle.example_algorithm.specs.Node.{Node}
use Rattle.example_algorithm.specs.Step.{start_of, asked, entering, rested, solo_rows, solo_core}
use Rattle.example_algorithm.specs.Good.{IsOne, IsSafe, BoundedNode, BoundedLetter, IsGood}

pub solo_phases : (count : ℕ) → KeepsPhases (solo_core count)
solo_phases count = phases_of (solo_rows count) (record {
  start = λ shape i origin limit. refl;
  ask = λ s. refl;
  deliver = λ from m s. refl;
  enter = λ s. refl;
  leave = λ s. refl;
  cancel = λ s. refl;
  tick = λ s. refl;
})

-- a step that sends nothing keeps a world safe
quiet_safe : (w : World Node ℕ) (i : ℕ) (new : Node) → IsSafe w → IsSafe (after w i (becoming new))
quiet_safe w i new safe = record {
  alone = length_set w.nodes i new ∙ safe.alone;
  silent = λ a b m sent. safe.silent a b m (subst (λ l. IsIn (a, b, m) l) (append_nil w.sent) sent);
}

quiet_bounded : (n : ℕ) (new : Node) → BoundedNode n new
    → IsBoundedDone BoundedNode BoundedLetter n (becoming new)
quiet_bounded n new ok = record { state = ok; letters = nil BoundedLetter n }

-- the node of a safe world is node 0
zeroth : (w : World Node ℕ) (i : ℕ) (s : Node) → IsSafe w → IsNode w i s → i ≡ 0
zeroth w i s safe at = let lt = slice_get_within w.nodes i s at in let e = safe.alone in omega arith

-- in a list of one node, the greatest `mine` is that of this node
only_mine : (xs : List Node) (s : Node) → length xs ≡ 1 → slice_get xs 0 ≡ Some s
    → greatest (λ x. x.mine) xs ≡ s.mine
only_mine [] s e h = absurd (none_is_no_some s h)
only_mine (x ∷ []) s e h =
    let k : x.mine ≡ s.mine = ap (λ y. y.mine) (same_Some x s h) in omega arith
only_mine (x ∷ y ∷ ys) s e h = absurd (omega (arith, e))

pub solo_laws : KeepsGood (solo_core 1) IsOne IsGood
solo_laws = laws_of (solo_rows 1) IsOne IsSafe BoundedNode BoundedLetter
    (record {
      start = λ shape origin limit valid. record {
        alone =
            length_each_below (λ i. start_of shape i origin limit) 1;
        silent = λ a b m sent. absurd sent;
      };
      ask = λ w i s safe at idle. quiet_safe w i (asked s).state safe;
      deliver = λ w i s safe at from m sent. quiet_safe w i s safe;
      enter = λ w i s safe at waiting granted. quiet_safe w i (entering s) safe;
      leave = λ w i s safe at n inside. quiet_safe w i (rested s).state safe;
      cancel = λ w i s safe at waiting. quiet_safe w i (rested s).state safe;
      tick = λ w i s safe at. quiet_safe w i s safe;
      by_membership = λ w sent same safe. record {
        alone = safe.alone;
        silent = λ a b m h. safe.silent a b m ((same (a, b, m)).1 h);
      };
      one_inside =
          λ w i j s t safe at tat inside too. zeroth w i s safe at ∙ sym (zeroth w j t safe tat);
      nobody_inside = λ w i s safe at waiting granted j t tat inside.
          let same = same_Some s t (sym at ∙ subst (λ k. slice_get w.nodes k ≡ Some t)
          (zeroth w j t safe tat ∙ sym (zeroth w i s safe at)) tat) in
          waiting_not_inside s.phase inside.0 waiting (ap (λ x. x.phase) same ∙ inside.1);
      top_greatest = λ w i s safe at waiting granted. only_mine w.nodes s safe.alone
          (subst (λ k. slice_get w.nodes k ≡ Some s) (zeroth w i s safe at) at);
    })
    (record {
      start = λ shape origin limit i valid small high lt. record {
        me = lt;
        limit = omega arith;
        phase = tt;
        mine = omega arith;
      };
      ask = λ n s ok low. record {
        state =
            record { me = ok.me; limit = ok.limit; phase = tt; mine = ok.mine };
        letters = nil BoundedLetter n;
      };
      deliver = λ n s ok from m lt small. quiet_bounded n s ok;
      enter = λ n s ok lt. let k = ok.limit in
          record { me = ok.me; limit = ok.limit; phase = omega arith; mine = omega arith };
      leave = λ n s ok. quiet_bounded n (rested s).state
          (record { me = ok.me; limit = ok.limit; phase = tt; mine = ok.mine });
      cancel = λ n s ok. quiet_bounded n (rested s).state
          (record { me = ok.me; limit = ok.limit; phase = tt; mine = ok.mine });
      tick = λ n s ok. quiet_bounded n s ok;
    })

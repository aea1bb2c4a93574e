-- What a look at the word of a node tells of the nodes in view.
use Rattle.std.proofs.Common.{◌≡◌, ◌≢◌, inl, inr, ℕ, ◌%◌, ◌<◌, List, [], ◌∷◌, ◌++◌, map, length, Option, Some, refl, sym, ap, ◌∙◌, subst, arith}
use mathlib.Core.Option.{some}
use lib.ListN.{get_elem?}
use Rattle.atomic_table.specs.Table.{Me, keeps, Allows}
use Rattle.mx_journal.specs.Settled.{DoAgree}
use Rattle.mx_nodelaws.specs.World.{World}
use Rattle.mx_nodelaws.specs.Core.{Core, IsInside}
use Rattle.mx_nodelaws.specs.Laws.{KeepsGood}
use Rattle.mx_nodelaws.specs.declared.phase.Phase.{Phase}
use Rattle.mx_nodelaws.specs.declared.phase.Phase.TheVariants.{Idle, Waiting, Inside}
use Rattle.mx_member.specs.declared.parcel.Parcel.{Parcel}
use Rattle.mx_member.specs.Member.{MemberState}
use Rattle.mx_stamps.specs.Lists.{IsIn}
use Rattle.mx_member.specs.Running.{IsNode}
use Rattle.mx_member.specs.Steps.{IsTakeable}
use Rattle.mx_member.proofs.RunningTells.{node_can_take, nodes_agree, one_node_inside}
use Rattle.mx_stations.specs.Entries.{Entry, Node, owned_of}
use Rattle.mx_stations.specs.Running.{Holds, Shown, all_but_first, only_first, sent_of, status, word_of}
use Rattle.mx_stations.specs.Together.{AtMostOneOdd, HoldsSent, RunTogether, ShowsNode}
use Rattle.mx_stations.proofs.Acting.{node_at}
use Rattle.mx_stations.proofs.Places.{again, one_at, sender_of}
use Rattle.mx_stations.proofs.Slides.{some_at, word_read}

-- the word of a node that is not inside is even, and only of one that is inside it is odd
odd_status : (p : Phase) (mine : ℕ) → status p mine % 2 ≡ 1 → (n : ℕ) × (p ≡ Inside n)
odd_status Idle mine odd = absurd (omega arith)
odd_status Waiting mine odd = absurd (omega arith)
odd_status (Inside n) mine odd = (n, refl)

even_status : (p : Phase) (mine : ℕ) → ((n : ℕ) → p ≡ Inside n → ⊥) → status p mine % 2 ≡ 0
even_status Idle mine out = omega arith
even_status Waiting mine out = omega arith
even_status (Inside n) mine out = absurd (out n refl)

module _ {H S M : Type 0} (core : Core H S M) where
  pub odd_inside : (m : MemberState S) → word_of core m % 2 ≡ 1 → IsInside core m.core
  odd_inside m odd = odd_status (core.phase m.core) (core.mine m.core) odd

  pub even_outside : (m : MemberState S) → (IsInside core m.core → ⊥) → word_of core m % 2 ≡ 0
  even_outside m out = even_status (core.phase m.core) (core.mine m.core) (λ n is. out (n, is))

-- two seats of one node each, seen as one, and parted again
pub parted : {T P : Type 0} (one other left mine both seen after again back : Me (Option P) (List (Entry T P))) (e f : Entry T P) → one ≡ (e ∷ [], []) → other ≡ (f ∷ [], [])
    → left ≡ (all_but_first one.0, one.1) → mine ≡ (only_first one.0, []) → both ≡ (mine.0 ++ other.0, other.1) → seen ≡ both
    → after ≡ (all_but_first seen.0, seen.1) → again ≡ (only_first seen.0, []) → back ≡ (again.0 ++ left.0, left.1)
    → (both.0 ≡ one.0 ++ other.0) × (after ≡ other) × (back ≡ one)
parted {T} {P} one other left mine both seen after again back e f one_is other_is l m b s a g d =
    let Seat : Type 0 = Me (Option P) (List (Entry T P)) in
    let left_is : left ≡ ([], []) = l ∙ ap (λ (z : Seat). (all_but_first z.0, z.1)) one_is in
    let mine_is : mine ≡ (e ∷ [], []) = m ∙ ap (λ (z : Seat). (only_first z.0, [])) one_is in
    let both_is : both ≡ (e ∷ f ∷ [], []) = b ∙ (λ j. ((mine_is j).0 ++ (other_is j).0, (other_is j).1)) in
    let seen_is : seen ≡ (e ∷ f ∷ [], []) = s ∙ both_is in
    let again_is : again ≡ (e ∷ [], []) = g ∙ ap (λ (z : Seat). (only_first z.0, [])) seen_is in (
      (λ j. (both_is j).0) ∙ (λ j. (sym one_is j).0 ++ (sym other_is j).0),
      a ∙ ap (λ (z : Seat). (all_but_first z.0, z.1)) seen_is ∙ sym other_is,
      d ∙ (λ j. ((again_is j).0 ++ (left_is j).0, (left_is j).1)) ∙ sym one_is,
    )

module _ {H S M : Type 0} (core : Core H S M) (IsShape : H → Type 0) (Good : World S M → Type 0) (laws : KeepsGood core IsShape Good) where
  -- of the status words as they are at most one is odd
  pub one_odd_word : (n : ℕ) (words : List ℕ) (world : List (Node S M)) → Shown core Good words world → length world ≡ n → AtMostOneOdd n words
  one_odd_word n words world sh long i j low_i low_j odd_i odd_j =
      let here = some_at world i (subst (λ (z : ℕ). i < z) (sym long) low_i) in
      let there = some_at world j (subst (λ (z : ℕ). j < z) (sym long) low_j) in
      let shows_i : word_of core here.0.member ≡ odd_i.0 = one_at words i (word_of core here.0.member) odd_i.0 (sh.shows i here.0 here.1) odd_i.1 in
      let shows_j : word_of core there.0.member ≡ odd_j.0 = one_at words j (word_of core there.0.member) odd_j.0 (sh.shows j there.0 there.1) odd_j.1 in
      one_node_inside core IsShape Good laws (map owned_of world) (sent_of world) i j (owned_of here.0) (owned_of there.0) sh.runs (node_at core Good world i here.0 here.1) (node_at core Good world j there.0 there.1)
      (odd_inside core here.0.member (ap (λ (k : ℕ). k % 2) shows_i ∙ odd_i.2))
      (odd_inside core there.0.member (ap (λ (k : ℕ). k % 2) shows_j ∙ odd_j.2))

  tells_at : (n slots id i : ℕ) (me : Me (Option (Parcel M)) (List (Node S M))) → i < n
      → Allows (Holds core Good n) slots id me i (λ k. k) (λ found m. (m ≡ me) × ShowsNode core Good n i found m.0)
  tells_at n slots id i me low s h homes at small =
      let here = some_at h.world i (subst (λ (z : ℕ). i < z) (sym h.stands.long) low) in
      let word_is = word_read s.words i (word_of core here.0.member) (h.shown.shows i here.0 here.1) in (
        me.0,
        keeps,
        tt,
        again (Holds core Good n) s i id me.0 at h,
        (
          refl,
          record {
            together = record {
              world = h.world;
              long = h.stands.long;
              numbered = h.stands.numbered;
              stands = λ e in_view. (h.stands.known id me.0 e at in_view).0;
              once = h.stands.once id me.0 at;
              words = s.words;
              shown = h.shown;
              one_odd = one_odd_word n s.words h.world h.shown h.stands.long;
            };
            found = subst (λ (z : ℕ). get_elem? s.words i ≡ some z) (sym word_is) (h.shown.shows i here.0 here.1);
            other = here.0;
            there = here.1;
            shows = word_is;
          },
        ),
      )

  -- a look at the word i: the nodes in view run with all others, and the word is that of node i
  pub tells : (n key count slots id i : ℕ) (me : Me (Option (Parcel M)) (List (Node S M))) → key ≡ n → count ≡ n → i < n
      → Allows (Holds core Good key) slots id me i (λ k. k) (λ found m. (m ≡ me) × ShowsNode core Good count i found m.0)
  tells n key count slots id i me is_key is_count low =
      subst (λ (z : ℕ × ℕ). Allows (Holds core Good z.0) slots id me i (λ k. k) (λ found m. (m ≡ me) × ShowsNode core Good z.1 i found m.0)) (λ j. (sym is_key j, sym is_count j)) (tells_at n slots id i me low)

module _ {H S M : Type 0} (core : Core H S M) (Good : World S M → Type 0) where
  -- what a station's own seat saw, in the station's words
  pub seen_by : (m n i k word : ℕ) (v : List (Node S M)) (e me : Node S M) → m ≡ n → i ≡ k → v ≡ e ∷ [] → e ≡ me → ShowsNode core Good m i word v → ShowsNode core Good n k word (me ∷ [])
  seen_by m n i k word v e me count same is own seen =
      subst (λ (z : ℕ × ℕ × List (Node S M)). ShowsNode core Good z.0 z.1 word z.2) (λ j. (count j, same j, (is ∙ ap (λ (x : Node S M). x ∷ []) own) j)) seen

  pub seen_both : (m n : ℕ) (v w : List (Node S M)) (e f me you : Node S M) → m ≡ n → v ≡ e ∷ [] → w ≡ f ∷ [] → e ≡ me → f ≡ you → RunTogether core Good m (v ++ w) → RunTogether core Good n (me ∷ you ∷ [])
  seen_both m n v w e f me you count v_is w_is own other seen =
      subst (λ (z : ℕ × List (Node S M)). RunTogether core Good z.0 z.1) (λ j. (count j, ((λ k. v_is k ++ w_is k) ∙ (λ k. own k ∷ other k ∷ [])) j)) seen

  -- a node of those that run together, and where it stands
  runs_at : (n : ℕ) (these : List (Node S M)) (e : Node S M) (t : RunTogether core Good n these) → IsIn e these → IsNode (map owned_of t.world) e.node (owned_of e)
  runs_at n these e t in_these = node_at core Good t.world e.node e (t.stands e in_these)

  -- the parcel in hand of one of them can be taken
  pub can_take : (n : ℕ) (these : List (Node S M)) (e : Node S M) (x : ℕ × Parcel M) → RunTogether core Good n these → IsIn e these → e.hand ≡ Some x → IsTakeable x.0 x.1 e.member
  can_take n these e x t in_these held =
      node_can_take core Good (map owned_of t.world) (sent_of t.world) t.shown.runs e.node x.0 x.1 (owned_of e) (runs_at n these e t in_these) (t.shown.held e.node e x (t.stands e in_these) held)

  -- what one of them holds from another
  pub holds_sent : (n : ℕ) (these : List (Node S M)) (e f : Node S M) → RunTogether core Good n these → IsIn e these → IsIn f these → HoldsSent e f
  holds_sent n these e f t in_e in_f p in_hand =
      let sender = sender_of t.world (f.node, e.node, p) (t.shown.held e.node e (f.node, p) (t.stands e in_e) in_hand) in
      let place : sender.0 ≡ f.node = sym (t.numbered sender.0 sender.1 sender.2) ∙ sym sender.3 in
      let same : sender.1 ≡ f = one_at t.world f.node sender.1 f (subst (λ (k : ℕ). get_elem? t.world k ≡ some sender.1) place sender.2) (t.stands f in_f) in
      subst (λ (z : Node S M). IsIn (e.node, p) z.sent) same sender.4

  module _ (n : ℕ) (e f : Node S M) (both : RunTogether core Good n (e ∷ f ∷ [])) where
    pub apart : e.node ≢ f.node
    apart same = both.once.0 f (inl refl) (sym same)

    pub agree : DoAgree e.member.journal f.member.journal
    agree =
        nodes_agree core Good (map owned_of both.world) (sent_of both.world) both.shown.runs e.node f.node (owned_of e) (owned_of f) (runs_at n (e ∷ f ∷ []) e both (inl refl)) (runs_at n (e ∷ f ∷ []) f both (inr (inl refl)))

    pub both_hold : HoldsSent e f × HoldsSent f e
    both_hold = (
      holds_sent n (e ∷ f ∷ []) e f both (inl refl) (inr (inl refl)),
      holds_sent n (e ∷ f ∷ []) f e both (inr (inl refl)) (inl refl),
    )

module _ {H S M : Type 0} (core : Core H S M) (IsShape : H → Type 0) (Good : World S M → Type 0) (laws : KeepsGood core IsShape Good) where
  pub one_inside : (n : ℕ) (e f : Node S M) → RunTogether core Good n (e ∷ f ∷ []) → IsInside core e.member.core → IsInside core f.member.core → ⊥
  one_inside n e f both a b =
      apart core Good n e f both
      (one_node_inside core IsShape Good laws (map owned_of both.world) (sent_of both.world) e.node f.node (owned_of e) (owned_of f) both.shown.runs (runs_at core Good n (e ∷ f ∷ []) e both (inl refl)) (runs_at core Good n (e ∷ f ∷ []) f both (inr (inl refl))) a b)

  pub one_odd : (n : ℕ) (e f : Node S M) → RunTogether core Good n (e ∷ f ∷ []) → word_of core e.member % 2 ≡ 1 → word_of core f.member % 2 ≡ 1 → ⊥
  one_odd n e f both a b = one_inside n e f both (odd_inside core e.member a) (odd_inside core f.member b)

  -- the word of another node, seen from inside, is even
  pub even_beside : (n i word : ℕ) (e : Node S M) → ShowsNode core Good n i word (e ∷ []) → IsInside core e.member.core → i ≢ e.node → word % 2 ≡ 0
  even_beside n i word e seen inside differs =
      let t = seen.together in
      ap (λ (k : ℕ). k % 2) seen.shows
      ∙ even_outside core seen.other.member
      (λ there. differs (sym (one_node_inside core IsShape Good laws (map owned_of t.world) (sent_of t.world) e.node i (owned_of e) (owned_of seen.other) t.shown.runs (runs_at core Good n (e ∷ []) e t (inl refl)) (node_at core Good t.world i seen.other seen.there) inside there)))

  pub own_word : (n i word : ℕ) (e : Node S M) → ShowsNode core Good n i word (e ∷ []) → i ≡ e.node → word ≡ word_of core e.member
  own_word n i word e seen same =
      let t = seen.together in
      let is : seen.other ≡ e = one_at t.world e.node seen.other e (subst (λ (k : ℕ). get_elem? t.world k ≡ some seen.other) same seen.there) (t.stands e (inl refl)) in
      seen.shows ∙ ap (λ (o : Node S M). word_of core o.member) is

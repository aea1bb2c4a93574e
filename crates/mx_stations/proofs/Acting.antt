-- An act of a seat with one node is one act of that node, and the nodes run on.
use Rattle.std.proofs.Common.{◌≡◌, inl, ⊎_elim, ℕ, ◌+◌, ◌<◌, List, [], ◌∷◌, map, length, set, Option, Some, refl, sym, ap, ◌∙◌, subst, arith, length-set}
use Rattle.std.proofs.lemmas.List.{length-map}
use mathlib.Core.Option.{some}
use lib.ListN.{get_elem?}
use Rattle.atomic_table.specs.Table.{Me, keeps, Allows}
use Rattle.atomic_table.proofs.Lists.{at_set, at_map, set_here, set_else}
use Rattle.mx_stamps.specs.Lists.{IsIn}
use Rattle.mx_stamps.proofs.Lists.{in_left}
use Rattle.mx_journal.specs.declared.receipts.Receipt.{Receipt}
use Rattle.mx_nodelaws.specs.World.{World}
use Rattle.mx_nodelaws.specs.Core.{Core, KeepsPhases}
use Rattle.mx_nodelaws.specs.Laws.{KeepsGood}
use Rattle.mx_member.specs.declared.acts.Act.{Act}
use Rattle.mx_member.specs.declared.acts.Act.TheVariants as act
use Rattle.mx_member.specs.declared.parcel.Parcel.{Parcel}
use Rattle.mx_member.specs.Acts.{Arrives, act_of}
use Rattle.mx_member.specs.Member.{MemberState}
use Rattle.mx_member.specs.Running.{IsNode, IsRunning, Owned, owned_after}
use Rattle.mx_member.proofs.CorePart.{map_set}
use Rattle.mx_member.proofs.Running.{members_count, running_kept}
use Rattle.mx_stations.specs.Entries.{Node, owned_of}
use Rattle.mx_stations.specs.Running.{DidAct, GoToNodes, Holds, Keeps, MayDo, Shown, acted, acted_view, sent_of, word_of}
use Rattle.mx_stations.proofs.Places.{as_slice_at, grows, in_one, moves, only_one, sent_in_world, within}
use Rattle.mx_stations.proofs.Pairs as Pairs
use Rattle.mx_stations.proofs.Pairs.{links_still}

module _ {H S M : Type 0} (core : Core H S M) (Good : World S M → Type 0) where
  -- each parcel of a running world is for one of its nodes
  pub all_between : (world : List (Node S M)) (a b : ℕ) (p : Parcel M) → IsRunning core Good (map owned_of world) (sent_of world) → IsIn (a, b, p) (sent_of world) → b < length world
  all_between world a b p running sent =
      subst (λ (z : ℕ). b < z) (members_count (map owned_of world) ∙ length-map world owned_of) (running.run.sound.between a b p sent).1

  pub node_at : (world : List (Node S M)) (i : ℕ) (e : Node S M) → get_elem? world i ≡ some e → IsNode (map owned_of world) i (owned_of e)
  node_at world i e at = as_slice_at (map owned_of world) i (owned_of e) (at_map owned_of world i e at)

  -- what arrives at a node by an act that it may do
  arrives : (n : ℕ) (world : List (Node S M)) (i : ℕ) (e : Node S M) (a : Act M) → ((x : ℕ × Parcel M) → e.hand ≡ Some x → IsIn (x.0, i, x.1) (sent_of world)) → MayDo n e.hand a → Arrives n (sent_of world) i a
  arrives n world i e act.Ask held may = tt
  arrives n world i e act.Enter held may = tt
  arrives n world i e (act.Read register) held may = tt
  arrives n world i e (act.Write register value) held may = tt
  arrives n world i e act.Leave held may = tt
  arrives n world i e act.Cancel held may = tt
  arrives n world i e (act.Settle k) held may = tt
  arrives n world i e act.Tick held may = tt
  arrives n world i e (act.Want to) held may = may
  arrives n world i e (act.Deliver from p) held may = held (from, p) may
  arrives n world i e act.Restart held may = tt

module _ {H S M : Type 0} (core : Core H S M) (IsShape : H → Type 0) (Good : World S M → Type 0) (phases : KeepsPhases core) (laws : KeepsGood core IsShape Good) where
  module _ (n : ℕ) (words : List ℕ) (world : List (Node S M)) (e : Node S M) (a : Act M) (hand : Option (ℕ × Parcel M)) (sh : Shown core Good words world) (long : length world ≡ n) (at : get_elem? world e.node ≡ some e) where
    abbrev made : Node S M
    made = acted e (act_of core a e.member).state (act_of core a e.member).letters hand (owned_after core a (owned_of e)).receipts

    -- one act of a node keeps what the words show
    pub shown_after : MayDo n e.hand a → Keeps e.hand hand → Shown core Good (set words e.node (word_of core made.member)) (set world e.node made)
    shown_after may kept =
        let more = grows world e.node e made (act_of core a e.member).letters at (refl, refl) in
        let new : ℕ = word_of core made.member in
        let in_words = within words e.node (word_of core e.member) (sh.shows e.node e at) in
        let nodes : ℕ = length (map owned_of world) in
        let count : n ≡ nodes = sym long ∙ sym (length-map world owned_of) in
        let arrived = subst (λ (z : ℕ). Arrives z (sent_of world) e.node a) count (arrives core Good n world e.node e a (λ x h. sh.held e.node e x at h) may) in
        record {
          shows = (λ i f is. ⊎_elim
              (λ t. ap (λ (z : ℕ). get_elem? (set words e.node new) z) t.0 ∙ set_here words e.node new in_words ∙ ap (λ (z : Node S M). some (word_of core z.member)) t.1)
              (λ t. set_else words e.node i new t.0 ∙ sh.shows i f t.1)
              (at_set world e.node i made f is));
          runs = subst (λ (z : List (Owned S)). IsRunning core Good z (sent_of (set world e.node made))) (sym (map_set owned_of world e.node made))
              (running_kept core IsShape Good phases laws (map owned_of world) (sent_of world) (sent_of (set world e.node made)) e.node a (owned_of e) sh.runs (node_at core Good world e.node e at) arrived more);
          held = (λ i f x is h. ⊎_elim
              (λ t. let in_new : hand ≡ Some x = ap (λ (z : Node S M). z.hand) t.1 ∙ h in
              let in_old : e.hand ≡ Some x = ⊎_elim (λ same. sym same ∙ in_new) (λ none. absurd (cc)) kept in
              subst (λ (z : ℕ). IsIn (x.0, z, x.1) (sent_of (set world e.node made))) (sym t.0) ((more (x.0, e.node, x.1)).0 (in_left (x.0, e.node, x.1) (sent_of world) _ (sh.held e.node e x at in_old))))
              (λ t. (more (x.0, i, x.1)).0 (in_left (x.0, i, x.1) (sent_of world) _ (sh.held i f x t.1 h)))
              (at_set world e.node i made f is));
        }

  -- the store to the word of a node that did one act
  acts : (n slots id : ℕ) (e : Node S M) (a : Act M) (hand : Option (ℕ × Parcel M)) → MayDo n e.hand a → Keeps e.hand hand
      → (made : Node S M) → made ≡ acted e (act_of core a e.member).state (act_of core a e.member).letters hand (owned_after core a (owned_of e)).receipts
      → Allows (Holds core Good n) slots id (e ∷ [], []) e.node (λ _. word_of core made.member) (λ _ m. (m ≡ (made ∷ [], [])) × GoToNodes n m.0)
  acts n slots id e a hand may kept made is s h homes at small =
      let here = (h.stands.known id (e ∷ []) e at (inl refl)).0 in
      let shown = subst (λ (z : Node S M). Shown core Good (set s.words e.node (word_of core z.member)) (set h.world e.node z)) (sym is) (shown_after n s.words h.world e a hand h.shown h.stands.long here may kept) in
      let node_is : made.node ≡ e.node = ap (λ (z : Node S M). z.node) is in
      let inside : e.node < length h.world = within h.world e.node e here in
      let stays = set_here h.world e.node made inside in (
        made ∷ [],
        keeps,
        tt,
        record {
          world = set h.world e.node made;
          stands = moves n s.views h.world id e made h.stands at node_is;
          shown = shown;
          links = links_still n s.words (set s.words e.node (word_of core made.member)) s.homes h.world e.node e made h.links here
              (λ k. set_else s.words e.node (n + k) (word_of core made.member) (λ same. let low = inside in let l = h.stands.long in absurd (omega arith)))
              (λ k. subst (λ (z : Node S M). Pairs.Keeps k e z) (sym is) record { placed = refl; taken = refl; sent = (λ x i. in_left x e.sent _ i); writes = ((λ i. i), (λ i. i)); reads = ((λ i. i), (λ i. i)) });
        },
        (
          refl,
          λ f in_view x sent.
              let f_is : f ≡ made = in_one f made in_view in
              let all = sent_in_world (set h.world e.node made) e.node made x stays (subst (λ (z : Node S M). IsIn x z.sent) f_is sent) in
              subst (λ (z : ℕ). x.0 < z) (length-set h.world e.node made ∙ h.stands.long) (all_between core Good (set h.world e.node made) made.node x.0 x.1 shown.runs all),
        ),
      )

  -- the same of a seat whose view is known to have one node
  pub acts_at : (n key slots id : ℕ) (me : Me (Option (Parcel M)) (List (Node S M))) (node word new : ℕ) (y : MemberState S) (out : List (ℕ × Parcel M)) (hand : Option (ℕ × Parcel M)) (receipts : List Receipt) (after : List (Node S M)) (count : ℕ)
      → key ≡ n → count ≡ n → me.1 ≡ [] → ((e : Node S M) × (me.0 ≡ e ∷ []) × (e.node ≡ node)) → DidAct core n me.0 y out hand receipts → new ≡ word_of core y → after ≡ acted_view me.0 y out hand receipts → word ≡ node
      → Allows (Holds core Good key) slots id me word (λ _. new) (λ _ m. (m ≡ (after, me.1)) × GoToNodes count m.0)
  acts_at n key slots id me node word new y out hand receipts after count is_key is_count alone at did shows next is_word =
      let e : Node S M = did.node in
      let is : me ≡ (e ∷ [], []) = λ i. (did.alone i, alone i) in
      let one : at.0 ≡ e = only_one at.0 e (sym at.1 ∙ did.alone) in
      let where_is : e.node ≡ word = ap (λ (z : Node S M). z.node) (sym one) ∙ at.2 ∙ sym is_word in
      let made : Node S M = acted e y out hand receipts in
      let made_is : made ≡ acted e (act_of core did.act e.member).state (act_of core did.act e.member).letters hand (owned_after core did.act (owned_of e)).receipts =
      λ i. acted e (did.state i) (did.letters i) hand (did.closes i) in
      let view : made ∷ [] ≡ after = sym (next ∙ ap (λ v. acted_view v y out hand receipts) did.alone) in
      let to = acts n slots id e did.act hand did.may did.kept made made_is in
      let step1 = subst (λ (v : List (Node S M)). Allows (Holds core Good n) slots id (e ∷ [], []) e.node (λ _. word_of core y) (λ _ m. (m ≡ (v, [])) × GoToNodes n m.0)) view to in
      let step2 = subst (λ (k : ℕ). Allows (Holds core Good n) slots id (e ∷ [], []) e.node (λ _. k) (λ _ m. (m ≡ (after, [])) × GoToNodes n m.0)) (sym shows) step1 in
      let step3 = subst (λ (k : ℕ). Allows (Holds core Good n) slots id (e ∷ [], []) k (λ _. new) (λ _ m. (m ≡ (after, [])) × GoToNodes n m.0)) where_is step2 in
      let step4 = subst (λ (z : Me (Option (Parcel M)) (List (Node S M))). Allows (Holds core Good n) slots id z word (λ _. new) (λ _ m. (m ≡ (after, z.1)) × GoToNodes n m.0)) (sym is) step3 in
      subst (λ (z : ℕ × ℕ). Allows (Holds core Good z.0) slots id me word (λ _. new) (λ _ m. (m ≡ (after, me.1)) × GoToNodes z.1 m.0)) (λ i. (sym is_key i, sym is_count i)) step4

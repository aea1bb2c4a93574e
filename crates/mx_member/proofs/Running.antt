-- Running worlds of nodes with their own receipts: the start, each act of one node, and the receipts' history.
use Rattle.std.proofs.Common.{ℕ, ◌<◌, ◌≤◌, ◌^◌, ◌≡◌, inl, inr, List, [], ◌++◌, length, slice_set, sym, ◌∙◌, ap, subst}
use Rattle.std.proofs.lemmas.List.{length-map}
use Rattle.std.proofs.lemmas.Option.{slice_get_within}
use Rattle.mx_stamps.specs.Lists.{IsIn, each_below}
use Rattle.mx_stamps.proofs.Lists.{get_after, get_each_below, in_append, length_set}
use Rattle.mx_nodelaws.specs.World.{World}
use Rattle.mx_nodelaws.specs.Core.{Core, KeepsPhases}
use Rattle.mx_nodelaws.specs.Laws.{KeepsGood}
use Rattle.mx_journal.specs.declared.receipts.Receipt.{Receipt}
use Rattle.mx_journal.specs.Settled.{Covers}
use Rattle.mx_member.specs.declared.acts.Act.{Act}
use Rattle.mx_member.specs.declared.acts.Answer.{Answer}
use Rattle.mx_member.specs.declared.parcel.Parcel.{Parcel}
use Rattle.mx_member.specs.Acts.{Arrives, Grows, act_of}
use Rattle.mx_member.specs.Receipts.{StandInOrder, closed_by, own_in, receipts_in}
use Rattle.mx_member.specs.Running.{IsHistory, IsNode, IsRun, IsRunning, Owned, members_of, owned_after, owned_start}
use Rattle.mx_trace.specs.Sections.{Section, after_marks}
use Rattle.mx_member.specs.Told.{told}
use Rattle.mx_trace.specs.Serial.{AllFit, ReadSerially}
use Rattle.mx_member.specs.World.{IsMember, IsSound}
use Rattle.mx_member.proofs.ActsKept.{act_kept}
use Rattle.mx_member.proofs.AtRest.{at_start}
use Rattle.mx_member.proofs.CorePart.{get_map, map_each_below, map_set}
use Rattle.mx_member.proofs.DraftSteps.{someone}
use Rattle.mx_member.proofs.EntrySteps.{drafted}
use Rattle.mx_member.proofs.OwnReceipts.{own_grows, own_stays}
use Rattle.mx_member.proofs.ReceiptActs.{closed_here, closed_recorded, journal_grows, tells_receipts}
use Rattle.mx_member.proofs.ReceiptLists.{receipts_in_order, receipts_marks}

-- a node's member
pub member_at : {S : Type 0} (nodes : List (Owned S)) (i : ℕ) (o : Owned S) → IsNode nodes i o → IsMember (members_of nodes) i o.member
member_at {S} nodes i o at = get_map (λ (x : Owned S). x.member) nodes i o at

pub members_count : {S : Type 0} (nodes : List (Owned S)) → length (members_of nodes) ≡ length nodes
members_count {S} nodes = length-map nodes (λ (o : Owned S). o.member)

module _ {H S M : Type 0} (core : Core H S M) (IsShape : H → Type 0) (Good : World S M → Type 0) (phases : KeepsPhases core) (laws : KeepsGood core IsShape Good) where
  -- nodes at rest, where nothing was sent
  pub run_at_start : (shape : H) (origin limit registers : ℕ) → IsShape shape → origin < 2 ^ 64 → 0 < limit → limit ≤ 1000000 → registers ≤ 32 →
      IsRun core Good [] (each_below (λ i. owned_start core shape i origin limit registers) (core.count shape)) []
  run_at_start shape origin limit registers valid low some high few = record {
    sound = subst (λ ms. IsSound core Good [] ms []) (sym (map_each_below (λ (o : Owned S). o.member) started (core.count shape)))
        (at_start core IsShape Good phases laws shape origin limit registers valid low some high few);
    own = λ i o at. ap (λ (x : Owned S). x.receipts) (is i o at);
    placed = λ r h. absurd h;
    recorded = λ i o r at h. absurd (subst (λ (x : Owned S). IsIn r x.receipts) (is i o at) h);
  }
    where
      started : ℕ → Owned S
      started = λ i. owned_start core shape i origin limit registers

      is : (i : ℕ) (o : Owned S) → IsNode (each_below started (core.count shape)) i o → o ≡ started i
      is i o at = (get_each_below started (core.count shape) i o at).1

  -- one act of one node: what it tells fits, the receipt that it hands out joins the node's own, and all is kept
  pub run_kept : (ss : List Section) (nodes : List (Owned S)) (sent grown : List (ℕ × ℕ × Parcel M)) (i : ℕ) (a : Act M) (o : Owned S) →
      IsRun core Good ss nodes sent → IsNode nodes i o → Arrives (length nodes) sent i a → Grows sent i (act_of core a o.member).letters grown →
      AllFit ss (told i a (act_of core a o.member).answer)
      × IsRun core Good (after_marks ss (told i a (act_of core a o.member).answer)) (slice_set nodes i (owned_after core a o)) grown
  run_kept ss nodes sent grown i a o run at arrives grows = (
    kept.0,
    record {
      sound = subst (λ ms. IsSound core Good after ms grown) (sym (map_set (λ (x : Owned S). x.member) nodes i moved)) kept.1;
      own = λ j p there. elim (get_after nodes i j o moved p at there) [
        | inl e ↦
            ap (λ (x : Owned S). x.receipts) e.1 ∙ ap (λ l. l ++ closed_by answer) (run.own i o at)
            ∙ sym (own_grows i answer (receipts_in ss) of_here) ∙ ap (own_in i) (sym added) ∙ ap (λ n. own_in n (receipts_in after)) (sym e.0)
        | inr e ↦ run.own j p e.1 ∙ sym (own_stays i j answer (receipts_in ss) e.0 of_here) ∙ ap (own_in j) (sym added)
      ];
      placed = λ r h. subst (λ n. r.node < n) (sym (length_set nodes i moved)) (elim (in_append r (closed_by answer) (receipts_in ss) (subst (λ l. IsIn r l) added h)) [
        | inl new ↦ subst (λ n. n < length nodes) (sym (of_here r new)) (slice_get_within nodes i o at)
        | inr old ↦ run.placed r old
      ]);
      recorded = λ j p r there h. elim (get_after nodes i j o moved p at there) [
        | inl e ↦ subst (λ (x : Owned S). Covers r.number x.member.journal) (sym e.1) (elim (in_append r o.receipts (closed_by answer) (subst (λ (x : Owned S). IsIn r x.receipts) e.1 h)) [
          | inl old ↦ journal_grows core a o.member (run.sound.ordered i o.member here) r.number (run.recorded i o r at old)
          | inr new ↦ closed_recorded core Good ss (members_of nodes) sent run.sound i o.member here a r new
        ])
        | inr e ↦ run.recorded j p r e.1 h
      ];
    },
  )
    where
      here : IsMember (members_of nodes) i o.member
      here = member_at nodes i o at

      moved : Owned S
      moved = owned_after core a o

      answer : Answer
      answer = (act_of core a o.member).answer

      after : List Section
      after = after_marks ss (told i a answer)

      kept : AllFit ss (told i a answer) × IsSound core Good after (slice_set (members_of nodes) i (act_of core a o.member).state) grown
      kept = act_kept core IsShape Good phases laws ss (members_of nodes) sent grown i a o.member run.sound here
          (subst (λ n. Arrives n sent i a) (sym (members_count nodes)) arrives) grows

      added : receipts_in after ≡ closed_by answer ++ receipts_in ss
      added = receipts_marks ss (told i a answer) kept.0 ∙ ap (λ l. l ++ receipts_in ss) (tells_receipts core i a o.member)

      of_here : (r : Receipt) → IsIn r (closed_by answer) → r.node ≡ i
      of_here r h = closed_here core a o.member r h ∙ run.sound.named i o.member here

  -- the same where nobody sees the sections
  pub running_at_start : (shape : H) (origin limit registers : ℕ) → IsShape shape → origin < 2 ^ 64 → 0 < limit → limit ≤ 1000000 → registers ≤ 32 →
      IsRunning core Good (each_below (λ i. owned_start core shape i origin limit registers) (core.count shape)) []
  running_at_start shape origin limit registers valid low some high few = record { sections = []; run = run_at_start shape origin limit registers valid low some high few }

  pub running_kept : (nodes : List (Owned S)) (sent grown : List (ℕ × ℕ × Parcel M)) (i : ℕ) (a : Act M) (o : Owned S) →
      IsRunning core Good nodes sent → IsNode nodes i o → Arrives (length nodes) sent i a → Grows sent i (act_of core a o.member).letters grown →
      IsRunning core Good (slice_set nodes i (owned_after core a o)) grown
  running_kept nodes sent grown i a o running at arrives grows = record {
    sections = after_marks running.sections (told i a (act_of core a o.member).answer);
    run = (run_kept running.sections nodes sent grown i a o running.run at arrives grows).1;
  }

-- the receipts of the sections are a history of the nodes'
pub run_history : {H S M : Type 0} (core : Core H S M) (Good : World S M → Type 0) (ss : List Section) (nodes : List (Owned S)) (sent : List (ℕ × ℕ × Parcel M)) →
    IsRun core Good ss nodes sent → IsHistory nodes (receipts_in ss)
run_history {S} core Good ss nodes sent run = record {
  ordered = elim (someone core (members_of nodes)) [
    | inl some ↦
        let d = drafted some.1 some.3.0 ss (run.sound.inside some.0 some.3.0 some.1 some.2 some.3.1) in
        subst (λ l. StandInOrder (receipts_in l)) (sym d.1) (receipts_in_order d.0 d.3 (subst ReadSerially d.1 run.sound.serial).1)
    | inr none ↦ receipts_in_order ss (run.sound.nobody none) run.sound.serial
  ];
  placed = run.placed;
  own = run.own;
}

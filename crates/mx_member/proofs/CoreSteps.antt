-- What the laws of a core say of an act of a member: its core part stays good, and letters go to nodes.
use Rattle.std.proofs.Common.{ℕ, ◌<◌, ◌≡◌, ◌↔◌, List, [], ◌++◌, length, map, slice_set, sym, ◌∙◌, ap, subst}
use Rattle.std.proofs.lemmas.List.{length-map}
use Rattle.mx_stamps.specs.Lists.{IsIn, greatest}
use Rattle.mx_stamps.proofs.Lists.{greatest_same, in_right, length_set}
use Rattle.mx_nodelaws.specs.World.{World, Done, after, sent_by}
use Rattle.mx_nodelaws.specs.Core.{Core, KeepsPhases}
use Rattle.mx_nodelaws.specs.Laws.{KeepsGood, greatest_mine}
use Rattle.mx_nodelaws.specs.declared.phase.Phase.TheVariants.{Inside}
use Rattle.mx_nodelaws.proofs.Worlds.{after_nothing}
use Rattle.mx_journal.specs.declared.records.Record.{Record}
use Rattle.mx_member.specs.declared.parcel.Parcel.{Parcel}
use Rattle.mx_member.specs.declared.parcel.Parcel.TheVariants.{Guard}
use Rattle.mx_member.specs.Journals.{IsParcelOf}
use Rattle.mx_member.specs.Member.{MemberState, guarded}
use Rattle.mx_member.specs.World.{IsMember, core_part, letters_in}
use Rattle.mx_member.proofs.CorePart.{get_map, guard_in, in_guarded, in_sent, letter_of, letters_in-append, map_set}
use Rattle.mx_member.proofs.Moments.{GrowsBy, Moment, core_here, moved_in, part_of}

module _ {H S M : Type 0} (core : Core H S M) (IsShape : H → Type 0) (Good : World S M → Type 0) (phases : KeepsPhases core) (laws : KeepsGood core IsShape Good) where
  -- a step of the core is the member's that sends its letters
  pub core_kept : {A : Type 0} (w : Moment core Good) (done : Done S A M) (moved : MemberState S) (letters : List (ℕ × Parcel M)) (grown : List (ℕ × ℕ × Parcel M)) →
      Good (after (part_of w) w.node done) → moved.core ≡ done.state → letters_in (sent_by w.node letters) ≡ sent_by w.node done.letters → GrowsBy w letters grown →
      Good (core_part (moved_in w moved) grown)
  core_kept w done moved letters grown good state same grows =
      let was : List (ℕ × ℕ × M) = letters_in w.sent ++ sent_by w.node done.letters in
      let all : List (ℕ × ℕ × Parcel M) = w.sent ++ sent_by w.node letters in
      let split : letters_in all ≡ was = letters_in-append w.sent (sent_by w.node letters) ∙ ap (λ l. letters_in w.sent ++ l) same in
      let nodes : map (λ (m : MemberState S). m.core) (moved_in w moved) ≡ slice_set (map (λ (m : MemberState S). m.core) w.members) w.node done.state =
      map_set (λ (m : MemberState S). m.core) w.members w.node moved
      ∙ ap (λ s. slice_set (map (λ (m : MemberState S). m.core) w.members) w.node s) state in
      let members : (x : ℕ × ℕ × M) → IsIn x was ↔ IsIn x (letters_in grown) = λ x. (
        (λ h. letter_of x.0 x.1 x.2 grown ((grows (x.0, x.1, Guard x.2)).0 (guard_in x.0 x.1 x.2 all (subst (λ l. IsIn x l) (sym split) h)))),
        (λ h. subst (λ l. IsIn x l) split (letter_of x.0 x.1 x.2 all ((grows (x.0, x.1, Guard x.2)).1 (guard_in x.0 x.1 x.2 grown h)))),
      ) in
      subst (λ ns. Good (record { nodes = ns; sent = letters_in grown })) (sym nodes)
      (laws.by_membership (after (part_of w) w.node done) (letters_in grown) members good)

  -- an act that leaves the core as it is, and sends no letter of it
  pub core_still : (w : Moment core Good) (moved : MemberState S) (letters : List (ℕ × Parcel M)) (grown : List (ℕ × ℕ × Parcel M)) →
      moved.core ≡ w.member.core → letters_in (sent_by w.node letters) ≡ [] → GrowsBy w letters grown → Good (core_part (moved_in w moved) grown)
  core_still w moved letters grown state none grows =
      let done : Done S (Unit {0}) M = record { state = w.member.core; answer = tt {0}; letters = [] } in
      core_kept w done moved letters grown (subst Good (sym (after_nothing (part_of w) w.node w.member.core (tt {0}) (core_here w))) w.sound.good) state none grows

  -- where the last own number stays, the greatest does
  pub counted_same : (w : Moment core Good) (moved : MemberState S) (grown : List (ℕ × ℕ × Parcel M)) → core.mine moved.core ≡ core.mine w.member.core → greatest_mine core (core_part (moved_in w moved) grown) ≡ greatest_mine core (part_of w)
  counted_same w moved grown mine =
      ap (λ xs. greatest core.mine xs) (map_set (λ (m : MemberState S). m.core) w.members w.node moved)
      ∙ greatest_same core.mine (map (λ (m : MemberState S). m.core) w.members) w.node w.member.core moved.core (core_here w) mine

  -- only one node is inside
  pub alone : (w : Moment core Good) (j n k : ℕ) (t : MemberState S) → core.phase w.member.core ≡ Inside n → IsMember w.members j t → core.phase t.core ≡ Inside k → j ≡ w.node
  alone w j n k t inside at other =
      laws.one_inside (part_of w) j w.node t.core w.member.core w.sound.good (get_map (λ (m : MemberState S). m.core) w.members j t at) (core_here w) (k, other) (n, inside)

  -- a letter of the core goes to a node, and brings nothing to a journal
  pub letters_sent : {A : Type 0} (w : Moment core Good) (done : Done S A M) (known : List Record) → Good (after (part_of w) w.node done) →
      (b : ℕ) (p : Parcel M) → IsIn (b, p) (guarded done.letters) → (b < length w.members) × IsParcelOf known p
  letters_sent w done known good b p h =
      let r = in_guarded done.letters b p h in
      let size : length (slice_set (map (λ (m : MemberState S). m.core) w.members) w.node done.state) ≡ length w.members =
      length_set (map (λ (m : MemberState S). m.core) w.members) w.node done.state ∙ length-map w.members (λ (m : MemberState S). m.core) in (
        subst (λ n. b < n) size (laws.to_nodes (after (part_of w) w.node done) w.node b r.0 good (in_right (w.node, b, r.0) (letters_in w.sent) (sent_by w.node done.letters) (in_sent w.node done.letters b r.0 r.2))),
        subst (λ (q : Parcel M). IsParcelOf known q) (sym r.1) tt,
      )

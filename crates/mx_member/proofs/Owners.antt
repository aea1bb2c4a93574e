-- Where the sections are known, so are the nodes: each member with the receipts of its own sections.
use Rattle.std.proofs.Common.{ℕ, zero, suc, ◌<◌, ◌≤◌, ◌+◌, ◌^◌, ◌≡◌, List, [], ◌∷◌, Some, length, slice_set, refl, sym, ◌∙◌, ap, subst, arith}
use Rattle.std.proofs.lemmas.Option.{same_Some}
use Rattle.mx_stamps.specs.Lists.{each_below}
use Rattle.mx_stamps.proofs.Lists.{none_is_no_some}
use Rattle.mx_nodelaws.specs.World.{World}
use Rattle.mx_nodelaws.specs.Core.{Core, KeepsPhases}
use Rattle.mx_nodelaws.specs.Laws.{KeepsGood}
use Rattle.mx_journal.specs.declared.receipts.Receipt.{Receipt}
use Rattle.mx_member.specs.declared.acts.Act.{Act}
use Rattle.mx_member.specs.declared.parcel.Parcel.{Parcel}
use Rattle.mx_member.specs.Acts.{Arrives, Grows, act_of}
use Rattle.mx_member.specs.Member.{MemberState}
use Rattle.mx_member.specs.Receipts.{own_in, receipts_in}
use Rattle.mx_member.specs.Running.{IsNode, IsRun, Owned, members_of, owned_after, owned_start, owners, owners_from}
use Rattle.mx_trace.specs.Sections.{Section, after_marks}
use Rattle.mx_member.specs.Told.{told}
use Rattle.mx_trace.specs.Serial.{AllFit}
use Rattle.mx_member.specs.Steps.{start_of}
use Rattle.mx_member.specs.World.{IsMember, IsSound}
use Rattle.mx_member.proofs.CorePart.{map_each_below, map_set}
use Rattle.mx_member.proofs.Running.{members_count, run_at_start, run_kept}

pub members_owners : {S : Type 0} (i : ℕ) (rs : List Receipt) (members : List (MemberState S)) → members_of (owners_from i rs members) ≡ members
members_owners i rs [] = refl
members_owners i rs (m ∷ ms) = ap (λ l. m ∷ l) (members_owners (suc i) rs ms)

-- each member is there, with its own receipts
pub owner_at : {S : Type 0} (k : ℕ) (rs : List Receipt) (members : List (MemberState S)) (i : ℕ) (m : MemberState S) → IsMember members i m → IsNode (owners_from k rs members) i (record { member = m; receipts = own_in (k + i) rs })
owner_at k rs [] i m at = absurd (none_is_no_some m at)
owner_at {S} k rs (x ∷ xs) zero m at =
    ap (λ (y : MemberState S). Some (record { member = y; receipts = own_in k rs })) (same_Some x m at)
    ∙ ap (λ n. Some (record { member = m; receipts = own_in n rs })) (let e : k ≡ k + 0 = omega arith in e)
owner_at k rs (x ∷ xs) (suc i) m at =
    owner_at (suc k) rs xs i m at ∙ ap (λ n. Some (record { member = m; receipts = own_in n rs })) (let e : suc k + i ≡ k + suc i = omega arith in e)

-- nodes that hold their own receipts are these
are_owners : {S : Type 0} (k : ℕ) (rs : List Receipt) (nodes : List (Owned S)) → ((i : ℕ) (o : Owned S) → IsNode nodes i o → o.receipts ≡ own_in (k + i) rs) → nodes ≡ owners_from k rs (members_of nodes)
are_owners k rs [] h = refl
are_owners {S} k rs (o ∷ os) h =
    let head : o.receipts ≡ own_in k rs = h 0 o refl ∙ ap (λ n. own_in n rs) (let e : k + 0 ≡ k = omega arith in e) in
    let rest : os ≡ owners_from (suc k) rs (members_of os) = are_owners (suc k) rs os (λ i p at. h (suc i) p at ∙ ap (λ n. own_in n rs) (let e : k + suc i ≡ suc k + i = omega arith in e)) in
    let first : o ≡ record { member = o.member; receipts = own_in k rs } = ap (λ (l : List Receipt). record { member = o.member; receipts = l }) head in
    ap (λ (x : Owned S). x ∷ os) first ∙ ap (λ l. record { member = o.member; receipts = own_in k rs } ∷ l) rest

module _ {H S M : Type 0} (core : Core H S M) (Good : World S M → Type 0) where
  -- so a run is one of the owners
  pub run_of_owners : (ss : List Section) (nodes : List (Owned S)) (sent : List (ℕ × ℕ × Parcel M)) → IsRun core Good ss nodes sent → IsRun core Good ss (owners ss (members_of nodes)) sent
  run_of_owners ss nodes sent run =
      subst (λ ns. IsRun core Good ss ns sent)
      (are_owners 0 (receipts_in ss) nodes (λ i o at. run.own i o at ∙ ap (λ n. own_in n (receipts_in ss)) (let e : i ≡ 0 + i = omega arith in e))) run

  -- and is sound
  pub owners_sound : (ss : List Section) (members : List (MemberState S)) (sent : List (ℕ × ℕ × Parcel M)) → IsRun core Good ss (owners ss members) sent → IsSound core Good ss members sent
  owners_sound ss members sent run = subst (λ ms. IsSound core Good ss ms sent) (members_owners 0 (receipts_in ss) members) run.sound

module _ {H S M : Type 0} (core : Core H S M) (IsShape : H → Type 0) (Good : World S M → Type 0) (phases : KeepsPhases core) (laws : KeepsGood core IsShape Good) where
  -- members at rest, and one act of one member
  pub owners_at_start : (shape : H) (origin limit registers : ℕ) → IsShape shape → origin < 2 ^ 64 → 0 < limit → limit ≤ 1000000 → registers ≤ 32 →
      IsRun core Good [] (owners [] (each_below (λ i. start_of core shape i origin limit registers) (core.count shape))) []
  owners_at_start shape origin limit registers valid low some high few =
      subst (λ ms. IsRun core Good [] (owners [] ms) []) (map_each_below (λ (o : Owned S). o.member) (λ i. owned_start core shape i origin limit registers) (core.count shape))
      (run_of_owners core Good [] (each_below (λ i. owned_start core shape i origin limit registers) (core.count shape)) []
      (run_at_start core IsShape Good phases laws shape origin limit registers valid low some high few))

  pub owners_kept : (ss : List Section) (members : List (MemberState S)) (sent grown : List (ℕ × ℕ × Parcel M)) (i : ℕ) (a : Act M) (m : MemberState S) →
      IsRun core Good ss (owners ss members) sent → IsMember members i m → Arrives (length members) sent i a → Grows sent i (act_of core a m).letters grown →
      AllFit ss (told i a (act_of core a m).answer)
      × IsRun core Good (after_marks ss (told i a (act_of core a m).answer)) (owners (after_marks ss (told i a (act_of core a m).answer)) (slice_set members i (act_of core a m).state)) grown
  owners_kept ss members sent grown i a m run at arrives grows =
      let nodes : List (Owned S) = owners ss members in
      let o : Owned S = record { member = m; receipts = own_in (0 + i) (receipts_in ss) } in
      let all : members_of nodes ≡ members = members_owners 0 (receipts_in ss) members in
      let size : length members ≡ length nodes = ap length (sym all) ∙ members_count nodes in
      let after : List Section = after_marks ss (told i a (act_of core a m).answer) in
      let kept = run_kept core IsShape Good phases laws ss nodes sent grown i a o run (owner_at 0 (receipts_in ss) members i m at) (subst (λ n. Arrives n sent i a) size arrives) grows in
      let moved : members_of (slice_set nodes i (owned_after core a o)) ≡ slice_set members i (act_of core a m).state =
      map_set (λ (x : Owned S). x.member) nodes i (owned_after core a o) ∙ ap (λ ms. slice_set ms i (act_of core a m).state) all in
      (kept.0, subst (λ ms. IsRun core Good after (owners after ms) grown) moved (run_of_owners core Good after (slice_set nodes i (owned_after core a o)) grown kept.1))

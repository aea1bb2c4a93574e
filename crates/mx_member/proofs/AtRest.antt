-- The world in which each member has just been started, and nothing was sent, is sound.
use Rattle.std.proofs.Common.{ℕ, suc, ◌≤◌, ◌<◌, ◌^◌, ◌≡◌, List, [], Some, map, slice_get, sym, ◌∙◌, ap, subst, arith}
use Rattle.mx_stamps.specs.Lists.{each_below}
use Rattle.mx_stamps.proofs.Lists.{get_each_below, greatest_below, length_each_below}
use Rattle.mx_nodelaws.specs.World.{World}
use Rattle.mx_nodelaws.specs.Core.{Core, KeepsPhases}
use Rattle.mx_nodelaws.specs.Laws.{KeepsGood}
use Rattle.mx_journal.specs.Records.{Ascending}
use Rattle.mx_member.specs.Journals.{IsJournalOf}
use Rattle.mx_member.specs.Member.{MemberState}
use Rattle.mx_member.specs.Steps.{start_of}
use Rattle.mx_member.specs.World.{IsMember, IsSound}
use Rattle.mx_member.proofs.CorePart.{map_each_below}
use Rattle.mx_member.proofs.OfSections.{unsettled_of}
use Rattle.mx_member.proofs.Phases.{idle_apart}

module _ {H S M : Type 0} (core : Core H S M) (IsShape : H → Type 0) (Good : World S M → Type 0) (phases : KeepsPhases core) (laws : KeepsGood core IsShape Good) where
  pub at_start : (shape : H) (origin limit registers : ℕ) → IsShape shape → origin < 2 ^ 64 → 0 < limit → limit ≤ 1000000 → registers ≤ 32 →
      IsSound core Good [] (each_below (λ i. start_of core shape i origin limit registers) (core.count shape)) []
  at_start shape origin limit registers valid low some high few = record {
    good = subst (λ ns. Good (record { nodes = ns; sent = [] })) (sym cores) (laws.at_start shape origin limit valid low some high);
    counted = let l = greatest_below core.mine (map (λ (m : MemberState S). m.core) members) 0 none in omega arith;
    inside = λ i n m at h. absurd (idle_apart n (sym (phases.started_idle shape i origin limit) ∙ sym (ap (λ (x : MemberState S). core.phase x.core) (is i m at)) ∙ h));
    nobody = λ none. tt;
    serial = tt;
    named = λ i m at. ap (λ (x : MemberState S). x.setting.me) (is i m at);
    known = λ i m at. ap (λ (x : MemberState S). x.setting.nodes) (is i m at) ∙ sym (length_each_below started (core.count shape));
    few = λ i m at. subst (λ (y : MemberState S). y.setting.registers ≤ 32) (sym (is i m at)) few;
    journals = λ i m at. subst (λ (y : MemberState S). IsJournalOf [] y.journal) (sym (is i m at)) (unsettled_of [] [] tt (λ x h. h));
    ordered = λ i m at. subst (λ (y : MemberState S). Ascending (suc y.journal.base.upto) y.journal.records) (sym (is i m at)) tt;
    parcels = λ a b p h. absurd h;
    between = λ a b p h. absurd h;
  }
    where
      started : ℕ → MemberState S
      started = λ i. start_of core shape i origin limit registers

      members : List (MemberState S)
      members = each_below started (core.count shape)

      is : (i : ℕ) (m : MemberState S) → IsMember members i m → m ≡ started i
      is i m at = (get_each_below started (core.count shape) i m at).1

      cores : map (λ (m : MemberState S). m.core) members ≡ each_below (λ i. core.start shape i origin limit) (core.count shape)
      cores = map_each_below (λ (m : MemberState S). m.core) started (core.count shape)

      none : (i : ℕ) (s : S) → slice_get (map (λ (m : MemberState S). m.core) members) i ≡ Some s → core.mine s ≤ 0
      none i s at =
          let e : s ≡ core.start shape i origin limit = (get_each_below (λ j. core.start shape j origin limit) (core.count shape) i s (subst (λ ns. slice_get ns i ≡ Some s) cores at)).1 in
          let zero : core.mine s ≡ 0 = ap core.mine e ∙ phases.started_mine shape i origin limit in
          omega arith

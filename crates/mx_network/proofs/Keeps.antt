-- Each event keeps what a cluster keeps.
use Rattle.std.proofs.Common.{ℕ, ◌<◌, ◌≤◌, ◌^◌, ◌≡◌, List, [], ◌∷◌, ◌++◌, Some, Result, Ok, Err, slice_get, length, refl, sym, ◌∙◌, ap, subst, IfOk, OnErr}
use Rattle.mx_stamps.specs.Lists.{each_below}
use Rattle.mx_nodelaws.specs.World.{World, sent_by}
use Rattle.mx_nodelaws.specs.Core.{Core, KeepsPhases}
use Rattle.mx_nodelaws.specs.Laws.{KeepsGood}
use Rattle.mx_member.specs.declared.acts.Act.{Act}
use Rattle.mx_member.specs.declared.acts.Act.TheVariants as act
use Rattle.mx_stamps.proofs.Lists.{in_get}
use Rattle.mx_member.specs.declared.parcel.Parcel.{Parcel}
use Rattle.mx_member.specs.Acts.{act_of}
use Rattle.mx_member.specs.Member.{MemberState}
use Rattle.mx_trace.specs.Sections.{Mark, after_marks}
use Rattle.mx_member.specs.Told.{told}
use Rattle.mx_member.specs.Running.{IsRun, owners}
use Rattle.mx_trace.specs.Serial.{AllFit}
use Rattle.mx_member.specs.Steps.{start_of}
use Rattle.mx_member.proofs.Histories.{AllFit-append, after_marks-append}
use Rattle.mx_member.proofs.Owners.{owners_at_start, owners_kept}
use Rattle.mx_events.specs.declared.event.Event.{Event}
use Rattle.mx_trace.specs.declared.outcome.Entry.{Entry}
use Rattle.mx_network.specs.declared.faults.StepFault.{StepFault}
use Rattle.mx_network.specs.Kept.{IsKept}
use Rattle.mx_trace.specs.Trace.{sections, marks}
use Rattle.mx_network.specs.Step.{AreUnsettled, ClusterState, answer_of, part_of, grown, step_of, IsStep, RunsTo}
use Rattle.mx_network.proofs.Marks.{marks-snoc}
use Rattle.mx_events.specs.declared.event.Event.TheVariants as event
use Rattle.mx_network.proofs.Happening.{delivery_part, done_by, happens}
use Rattle.mx_network.proofs.KeptSound.{kept_sound}
use Rattle.mx_network.proofs.EventParts.{arrives, tells}
use Rattle.mx_network.proofs.Refused.{noted_unsettled}

module _ {H S M : Type 0} (core : Core H S M) (IsShape : H → Type 0) (Good : World S M → Type 0) (phases : KeepsPhases core) (laws : KeepsGood core IsShape Good) where
  -- a trace that tells of these marks too
  told_more : (g : ClusterState S M) (trace : List Entry) (ms : List Mark) (members : List (MemberState S)) (sent : List (ℕ × ℕ × Parcel M)) → marks trace ≡ marks g.trace ++ ms → AreUnsettled trace → IsKept core Good g → AllFit (sections g.trace) ms → IsRun core Good (after_marks (sections g.trace) ms) (owners (after_marks (sections g.trace) ms) members) sent → IsKept core Good (record { members = members; sent = sent; trace = trace })
  told_more g trace ms members sent is unsettled kept fit run =
      record {
        run = subst (λ ss. IsRun core Good ss (owners ss members) sent) (sym (ap (λ l. after_marks [] l) is ∙ after_marks-append [] (marks g.trace) ms)) run;
        serial = subst (λ l. AllFit [] l) (sym is) (AllFit-append [] (marks g.trace) ms kept.serial fit);
        unsettled = unsettled;
      }

  -- a member's act, as the part of an event
  grown_kept : (g : ClusterState S M) (e : Event) (p : ℕ × Act M) (m : MemberState S) → part_of (length g.members) g.sent e ≡ Ok p → slice_get g.members p.0 ≡ Some m → IsKept core Good g → IsKept core Good (grown g e p.0 (answer_of core p.1 m))
  grown_kept g e p m part at kept =
      let done = act_of core p.1 m in
      let ms : List Mark = told p.0 p.1 done.answer in
      let k = owners_kept core IsShape Good phases laws (sections g.trace) g.members g.sent (g.sent ++ sent_by p.0 done.letters) p.0 p.1 m
      kept.run at (arrives (length g.members) g.sent e p part) (λ x. ((λ h. h), (λ h. h))) in
      told_more g (grown g e p.0 (answer_of core p.1 m)).trace ms (grown g e p.0 (answer_of core p.1 m)).members (grown g e p.0 (answer_of core p.1 m)).sent
      (marks-snoc g.trace e (answer_of core p.1 m).answer ∙ ap (λ l. marks g.trace ++ l) (tells core m (length g.members) g.sent e p part))
      (noted_unsettled core Good g (grown g e p.0 (answer_of core p.1 m)) kept e (answer_of core p.1 m).answer (happens core g e p part m at) refl) kept k.0 k.1

  -- every event keeps a cluster
  pub step_kept : (g : ClusterState S M) (e : Event) (new : ClusterState S M) → step_of core g e ≡ Ok new → IsKept core Good g → IsKept core Good new
  step_kept g e new step kept = let d = done_by core g e new step in subst (λ x. IsKept core Good x) d.after (grown_kept g e d.part d.member d.is_part d.here kept)

  -- so does one that did not happen
  pub result_kept : {A : Type 0} (g : ClusterState S M) (e : Event) (new : ClusterState S M) (r : Result A StepFault) → IfOk r (λ o. step_of core g e ≡ Ok new) → OnErr r (new ≡ g) → IsKept core Good g → IsKept core Good new
  result_kept g e new (Ok o) ok err kept = step_kept g e new ok kept
  result_kept g e new (Err f) ok err kept = subst (λ x. IsKept core Good x) (sym err) kept

  pub kept_by : (g : ClusterState S M) (e : Event) (new : ClusterState S M) (r : Result (Unit {0}) StepFault) → IsStep core e g new r → IsKept core Good g → IsKept core Good new
  kept_by g e new r step kept = result_kept g e new r step.ok step.err kept

  -- a parcel that was sent goes to a node of the cluster
  arrived : (g : ClusterState S M) (k from to : ℕ) (parcel : Parcel M) → slice_get g.sent k ≡ Some (from, to, parcel) → IsKept core Good g → to < length g.members
  arrived g k from to parcel was kept = ((kept_sound core Good g kept).between from to parcel (in_get g.sent k (from, to, parcel) was)).1

  -- the part of its delivery
  pub delivers : (g : ClusterState S M) (k from to : ℕ) (parcel : Parcel M) (sent : List (ℕ × ℕ × Parcel M)) → sent ≡ g.sent → slice_get sent k ≡ Some (from, to, parcel) → IsKept core Good g →
      (part_of (length g.members) g.sent (event.Deliver k) ≡ Ok (to, act.Deliver from parcel)) × (to < length g.members)
  delivers g k from to parcel sent same was kept = (
    delivery_part (length g.members) sent g.sent k from to parcel same was,
    arrived g k from to parcel (subst (λ (l : List (ℕ × ℕ × Parcel M)). slice_get l k ≡ Some (from, to, parcel)) same was) kept,
  )

  -- a cluster at rest, by its parts
  pub started_parts : (shape : H) (origin limit registers : ℕ) (members : List (MemberState S)) (sent : List (ℕ × ℕ × Parcel M)) (trace : List Entry) → members ≡ each_below (λ i. start_of core shape i origin limit registers) (core.count shape) → sent ≡ [] → trace ≡ [] → IsShape shape → origin < 2 ^ 64 → 0 < limit → limit ≤ 1000000 → registers ≤ 32 → IsKept core Good (record { members = members; sent = sent; trace = trace })
  started_parts shape origin limit registers members sent trace a b c valid d e f few =
      subst (λ ms. IsKept core Good (record { members = ms; sent = sent; trace = trace })) (sym a)
      (subst (λ ss. IsKept core Good (record { members = each_below (λ i. start_of core shape i origin limit registers) (core.count shape); sent = ss; trace = trace })) (sym b)
      (subst (λ ts. IsKept core Good (record { members = each_below (λ i. start_of core shape i origin limit registers) (core.count shape); sent = []; trace = ts })) (sym c)
      (record { run = owners_at_start core IsShape Good phases laws shape origin limit registers valid d e f few; serial = tt; unsettled = λ entry cause h. absurd h })))

-- a run of one event more
pub RunsTo-snoc : {H S M : Type 0} (core : Core H S M) (g mid new : ClusterState S M) (es : List Event) (e : Event) → RunsTo core g es mid → step_of core mid e ≡ Ok new → RunsTo core g (es ++ e ∷ []) new
RunsTo-snoc core g mid new [] e same step = (new, subst (λ x. step_of core x e ≡ Ok new) same step, refl)
RunsTo-snoc core g mid new (f ∷ es) e (first, step, rest) last = (first, step, RunsTo-snoc core first mid new es e rest last)

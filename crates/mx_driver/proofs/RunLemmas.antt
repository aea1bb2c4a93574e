-- The texts of events, one after another.
use Rattle.std.proofs.Common.{◌≡◌, ◌∙◌, ℕ, ◌+◌, ◌<◌, ◌≤◌, Bool, true, false, List, [], ◌∷◌, ◌++◌, length, take, drop, get_or, ap, sym, refl, append_assoc, Result, Ok, Err, subst, inl, inr, arith}
use Rattle.std.specs.Bool.{⊤}
use Rattle.std.specs.Io.KnownBytes.{Appends, Keeps}
use Rattle.std.specs.List.{concat}
use Rattle.std.proofs.lemmas.List.{at_drop_all, at_drop_more, drop_all, drop_more, take_at, length-append}
use Rattle.mx_stamps.proofs.Lists.{append_nil, length_set, length_each_below}
use Rattle.mx_nodelaws.specs.World.{sent_by}
use Rattle.mx_nodelaws.specs.Core.{Core}
use Rattle.mx_member.specs.Steps.{start_of}
use Rattle.mx_network.specs.Step.{ClusterState, step_of, answer_of, IsFaultOf, NamesNoNode}
use Rattle.mx_network.proofs.Happening.{done_by}
use Rattle.mx_events.specs.declared.event.Event.{Event}
use Rattle.mx_events.specs.declared.event.Event.TheVariants as event
use Rattle.mx_trace.specs.declared.outcome.Entry.{Entry}
use Rattle.mx_network.specs.declared.faults.StepFault.{StepFault}
use Rattle.mx_network.specs.declared.faults.StepFault.TheVariants as step_fault
use Rattle.mx_plan.specs.Text.{Text}
use Rattle.mx_plan.specs.Fields.{Fields}
use Rattle.mx_cli.specs.declared.stop.Stop.{Stop}
use Rattle.mx_cli.specs.declared.stop.Stop.TheVariants as stop
use Rattle.mx_cli.specs.declared.faults.Fault.TheVariants.{NoParcel}
use Rattle.mx_io.specs.declared.output.OutputFault.{OutputFault}
use Rattle.mx_io.specs.declared.output.OutputFault.TheVariants as output_fault
use Rattle.mx_cli.proofs.OutputLemmas.{appends_more, some_keeps}
use Rattle.mx_events.specs.Arguments.{IsWithin}
use Rattle.mx_driver.specs.Runs.{StopsAt, Texts, after_texts, at_rest, report_from, stepped}
use Rattle.mx_driver.specs.Sinks.{IsTold, SinkTells}
use Rattle.mx_io.specs.Outputs.{refused_by}
use Rattle.mx_cli.specs.Printing.{AppendsSome, Course, End, IsReport, Prints, Report, ShowsOne, Sight, comes_to, course_of, ends, has_fault, refused_on, stop_of, whole}

-- ---- one event

-- an event leaves as many members, and no fewer parcels
pub grows : {H S M : Type 0} (core : Core H S M) (g new : ClusterState S M) (e : Event) → step_of core g e ≡ Ok new → (length new.members ≡ length g.members) × (length g.sent ≤ length new.sent)
grows {H} {S} {M} core g new e step =
    let d = done_by core g e new step in
    let done = answer_of core d.part.1 d.member in
    let longer = ap (λ (q : ClusterState S M). length q.sent) d.after in (
      ap (λ (q : ClusterState S M). length q.members) (sym d.after) ∙ length_set g.members d.part.0 done.state,
      omega (arith, longer, length-append g.sent (sent_by d.part.0 done.letters)),
    )

-- an event of nodes of the plan
pub has_nodes : {S M : Type 0} (g : ClusterState S M) (e : Event) (registers : ℕ) → IsWithin (length g.members) registers e → NamesNoNode g e → ⊥
has_nodes g (event.Want i j) registers lt (inl le) = let h = lt.0 in absurd (omega (arith, h, le))
has_nodes g (event.Want i j) registers lt (inr le) = let h = lt.1.0 in absurd (omega (arith, h, le))
has_nodes g (event.Deliver k) registers lt le = le
has_nodes g _ registers lt le = let h = lt.0 in absurd (omega (arith, h, le))

-- an event that stops a run delivers a parcel that was not sent
pub stops_without : {G : Type 0} (k : ℕ) (wanted : Result G StepFault) → IsFaultOf wanted step_fault.NoParcel → StopsAt k wanted (stop.Fault (NoParcel k))
stops_without k wanted (inl memory) = let bad : step_fault.NoParcel ≡ step_fault.Memory = memory.0 in cc
stops_without k wanted (inr none) = inr (refl, none)

-- a list that ends by an item has one
pub has_newest : (xs front : List Entry) (x : Entry) → xs ≡ front ++ x ∷ [] → 0 < length xs
has_newest xs front x is = omega (arith, simp length-append at (ap length is))

-- ---- a run

after_after : (a b : List Text) (r : Report) → after_texts a (after_texts b r) ≡ after_texts (a ++ b) r
after_after a b r = ap (λ l. let q : Report = record { texts = l; end = r.end } in q) (sym (append_assoc a b r.texts))

module _ {H S M : Type 0} (core : Core H S M) (texts : Texts S M) (es : List Event) where
  -- the report of the events from the k-th on
  abbrev pub remaining : ℕ → ClusterState S M → Report
  remaining k g = report_from core texts k g (drop k es)

  remaining_one : (k : ℕ) (g : ClusterState S M) (d : Event) → k < length es
      → remaining k g ≡ stepped texts k g (step_of core g (get_or es k d)) (λ new. remaining (k + 1) new)
  unfolding report_from
  remaining_one k g d h = at_drop_more (report_from core texts k g) es k d h

  pub remaining_ok : (k : ℕ) (g new : ClusterState S M) (d : Event) → k < length es → step_of core g (get_or es k d) ≡ Ok new
      → remaining k g ≡ after_texts (texts.event k g new ∷ []) (remaining (k + 1) new)
  remaining_ok k g new d h is = remaining_one k g d h ∙ ap (λ r. stepped texts k g r (λ next. remaining (k + 1) next)) is

  pub remaining_err : (k : ℕ) (g : ClusterState S M) (f : StepFault) (d : Event) → k < length es → step_of core g (get_or es k d) ≡ Err f
      → remaining k g ≡ ends (has_fault (NoParcel k))
  remaining_err k g f d h is = remaining_one k g d h ∙ ap (λ r. stepped texts k g r (λ next. remaining (k + 1) next)) is

  pub remaining_end : (k : ℕ) (g : ClusterState S M) → length es ≤ k → remaining k g ≡ whole (texts.closing g) 0
  unfolding report_from
  remaining_end k g h = at_drop_all (report_from core texts k g) es k h

-- ---- what the driver has printed

-- of a report, these texts were printed, and `more` is left
pub record Printed (o m : Sight) (r more : Report) : Type 0 where
  pub done : List Text
  pub held : Appends o.held m.held (concat done)
  pub splits : r ≡ after_texts done more
  pub refused : m.refused ≡ o.refused
  pub stays : m.takes_all ≡ o.takes_all

is_false : (b : Bool) → (b ≡ true → ⊥) → b ≡ false
is_false true h = absurd (h refl)
is_false false h = refl

refused_not_memory : output_fault.Refused ≡ output_fault.Memory → ⊥
refused_not_memory e = cc

module _ {o m : Sight} {r more : Report} (p : Printed o m r more) where
  -- these texts are some of the whole
  done_some : AppendsSome o.held m.held r.texts
  done_some =
      (length p.done, subst (λ (l : List Text). Appends o.held m.held (concat l)) (sym (ap (λ (q : Report). take (length p.done) q.texts) p.splits ∙ take_at p.done more.texts (length p.done) refl)) p.held)

  -- one more text
  pub run_goes_on : (n : Sight) (text : Text) (rest : Report) → Appends m.held n.held text → n.refused ≡ m.refused → n.takes_all ≡ m.takes_all → more ≡ after_texts (text ∷ []) rest → Printed o n r rest
  run_goes_on n text rest put refused stays is = record {
    done = p.done ++ text ∷ [];
    held = appends_more o.held m.held n.held p.done text p.held put;
    splits = p.splits ∙ ap (after_texts p.done) is ∙ after_after p.done (text ∷ []) rest;
    refused = refused ∙ p.refused;
    stays = stays ∙ p.stays;
  }

  -- a run that comes to its end
  pub run_ends : (end : End) (res : Result ℕ Stop) → course_of res ≡ comes_to end → more ≡ ends end → Prints (IsReport r) o m res
  run_ends end res is ended =
      let so_far : r ≡ after_texts p.done (ends end) = p.splits ∙ ap (after_texts p.done) ended in
      record {
        shows = subst (λ (c : Course). ShowsOne (IsReport r) o.takes_all o.held m.held c) (sym is)
            (inr (r, refl, (ap (λ (q : Report). q.end) so_far, subst (λ (l : List Text). Appends o.held m.held (concat l)) (sym (ap (λ (q : Report). q.texts) so_far ∙ append_nil p.done)) p.held)));
        refused = p.refused ∙ ap (λ (c : Course). refused_on c o.refused) (sym is);
        stays = p.stays;
      }

  -- a run that lacks memory
  pub run_lacks : Prints (IsReport r) o m (Err stop.Memory)
  run_lacks = record { shows = inr (r, refl, done_some); refused = p.refused; stays = p.stays }

  -- a run that stops at its output
  pub run_refused : (n : Sight) (f : OutputFault) → Keeps m.held n.held → n.refused ≡ refused_by {T = ⊤} (Err f) m.refused → n.takes_all ≡ m.takes_all → (m.takes_all ≡ true → f ≡ output_fault.Memory)
      → Prints (IsReport r) o n (Err (stop_of f))
  run_refused n output_fault.Refused keeps answered same takes = record {
    shows = inr (r, refl, (sym p.stays ∙ is_false m.takes_all (λ e. refused_not_memory (takes e)), some_keeps o.held m.held n.held r.texts done_some keeps));
    refused = answered;
    stays = same ∙ p.stays;
  }
  run_refused n output_fault.Memory keeps answered same takes = record {
    shows = inr (r, refl, some_keeps o.held m.held n.held r.texts done_some keeps);
    refused = answered ∙ p.refused;
    stays = same ∙ p.stays;
  }

-- a run that stops at an event
pub run_stops : {H S M : Type 0} (core : Core H S M) (texts : Texts S M) (es : List Event) (k : ℕ) (g : ClusterState S M) (o m : Sight) (r : Report) → Printed o m r (remaining core texts es k g)
    → (d : Event) (s : Stop) → k < length es → StopsAt k (step_of core g (get_or es k d)) s → Prints (IsReport r) o m (Err s)
run_stops core texts es k g o m r p d s lt (inl memory) = rw memory (run_lacks p)
run_stops core texts es k g o m r p d s lt (inr none) = rw none.0 (run_ends p (has_fault (NoParcel k)) (Err (stop.Fault (NoParcel k))) refl (remaining_err core texts es k g step_fault.NoParcel d lt none.1))

-- a cluster at rest has the members of its shape
pub members_at_rest : {H S M : Type 0} (core : Core H S M) (p : Fields) (shape : H) (n : ℕ) (g : ClusterState S M) → g ≡ at_rest core p shape → core.count shape ≡ n → length g.members ≡ n
members_at_rest {H} {S} {M} core p shape n g e count =
    ap (λ (q : ClusterState S M). length q.members) e ∙ length_each_below (λ i. start_of core shape i p.origin p.sections (length p.registers)) (core.count shape) ∙ count

-- ---- what a sink was told

module _ {K H S M : Type 0} (core : Core H S M) (tells : SinkTells K S M) (es : List Event) (k : ℕ) (g : ClusterState S M) (sink last : K) where
  -- an event, and then the rest
  pub told_more : (d : Event) → k < length es → IsTold core tells k g (get_or es k d ∷ drop (k + 1) es) sink last → IsTold core tells k g (drop k es) sink last
  told_more d lt told = subst (λ (l : List Event). IsTold core tells k g l sink last) (sym (drop_more es k d lt)) told

  -- the end
  pub told_end : length es ≤ k → tells.closed sink g last → IsTold core tells k g (drop k es) sink last
  told_end le told = subst (λ (l : List Event). IsTold core tells k g l sink last) (sym (drop_all k es le)) told

-- What the frame makes of a command, from what its parts do.
use Rattle.std.proofs.Common.{◌≡◌, ◌∙◌, ◌⊎◌, inl, inr, ℕ, Bool, true, Option, Some, None, Result, Ok, Err, IfSome, ap, refl, subst, sym}
use Rattle.std.specs.Io.KnownBytes.{Appends, Keeps}
use Rattle.std.specs.List.{concat}
use Rattle.mx_plan.specs.Text.{Text}
use Rattle.mx_plan.specs.Fields.{Fields}
use Rattle.mx_plan.specs.declared.needs.Needs.{Needs}
use Rattle.mx_plan.specs.declared.faults.PlanFault.{PlanFault}
use Rattle.mx_plan.specs.declared.faults.PlanFault.TheVariants as plan_fault
use Rattle.mx_io.specs.Outputs.{Held}
use Rattle.mx_io.specs.Told.{Telling}
use Rattle.mx_cli.specs.Reading.{IsPlanFor, IsUnread, ReadsBoth}
use Rattle.mx_cli.specs.Reports.{Seen}
use Rattle.mx_cli.specs.declared.faults.Fault.{Fault}
use Rattle.mx_cli.specs.declared.faults.Named.TheVariants.{Plan, Events}
use Rattle.mx_cli.specs.declared.faults.Fault.TheVariants.{BadText}
use Rattle.mx_cli.proofs.OutputLemmas.{Appends-keeps, Appends-nil, Keeps-refl, all_some, keeps_on, some_keeps}
use Rattle.mx_cli.specs.Printing.{AppendsSome, Course, End, EndsEarly, Prints, Report, Shows, ShowsOne, Sight, comes_to, course_of, ends, has_fault, has_line, is_refused, is_short, null_output, refused_on, IsReport, IsStopWith, IsWhole, stop_at, whole}
use Rattle.mx_cli.specs.Frames.{Closes, ClosesAs, FailsAtOnce, IsReportOf, PrintsReport, RunsOut, Refuses, end_for, report_for, stop_for}
use Rattle.mx_cli.specs.declared.stop.Stop.{Stop}
use Rattle.mx_cli.specs.declared.stop.Stop.TheVariants as stop

-- ---- one of several reports

shows_as : (P Q : Report → Type 0) → ((r : Report) → P r → Q r) → (t : Bool) (a b : Held) (course : Course) → ShowsOne P t a b course → ShowsOne Q t a b course
shows_as P Q f t a b course (inl early) = inl early
shows_as P Q f t a b course (inr h) = inr (h.0, f h.0 h.1, h.2)

-- a report of these is also one of those
pub prints_as : (P Q : Report → Type 0) → ((r : Report) → P r → Q r) → (o n : Sight) (res : Result ℕ Stop) → Prints P o n res → Prints Q o n res
prints_as P Q f o n res h = record {
  shows = shows_as P Q f o.takes_all o.held n.held (course_of res) h.shows;
  refused = h.refused;
  stays = h.stays;
}

-- memory ran out before anything was printed
pub memory_prints : (P : Report → Type 0) (o : Sight) → Prints P o o (Err stop.Memory)
memory_prints P o = record { shows = inl (tt, Keeps-refl o.held); refused = refl; stays = refl }

-- ---- runs that print nothing

-- such a run ends as its report does
pub silent_end : (r : Report) (end : End) → ShowsOne (IsReport r) true None None (comes_to end) → r.end ≡ end
silent_end r end (inl early) = absurd early.0
silent_end r end (inr shown) = ap (λ (q : Report). q.end) (sym shown.1) ∙ shown.2.0

module _ (a b : Report) (same : a.end ≡ b.end) where
  ends_alike : (course : Course) → ShowsOne (IsReport a) true None None course → ShowsOne (IsReport b) true None None course
  ends_alike (comes_to end) shown = inr (b, refl, (sym same ∙ silent_end a end shown, tt))
  ends_alike is_refused (inl early) = inl early
  ends_alike is_refused (inr shown) = inr (b, refl, (shown.2.0, (0, tt)))
  ends_alike is_short (inl early) = inl early
  ends_alike is_short (inr shown) = inr (b, refl, (0, tt))

  -- what is printed does not matter, if it ends alike
  pub silent_prints : (res : Result ℕ Stop) → Prints (IsReport a) null_output null_output res → Prints (IsReport b) null_output null_output res
  silent_prints res h = record { shows = ends_alike (course_of res) h.shows; refused = h.refused; stays = h.stays }

-- ---- a report without texts

-- a report that is a line alone
pub line_prints : (P : Report → Type 0) (text : Text) (o : Sight) (s : Stop) → P (ends (has_line text)) → IsStopWith text s → Prints P o o (Err s)
line_prints P text o (stop.Line line) is h = record {
  shows = inr (ends (has_line text), is, (ap has_line (sym h), Appends-nil o.held));
  refused = refl;
  stays = refl;
}
line_prints P text o (stop.Fault fault) is h = absurd h
line_prints P text o stop.Writer is h = absurd h
line_prints P text o stop.Memory is h = memory_prints P o

-- a report that is a fault alone
pub fault_prints : (P : Report → Type 0) (fault : Fault) (o : Sight) → P (ends (has_fault fault)) → Prints P o o (Err (stop.Fault fault))
fault_prints P fault o is = record {
  shows = inr (ends (has_fault fault), is, (refl, Appends-nil o.held));
  refused = refl;
  stays = refl;
}

-- ---- faults that name a text

module _ (b : Bool) where
  abbrev course_for : Course → Course
  course_for (comes_to end) = comes_to (end_for b end)
  course_for is_refused = is_refused
  course_for is_short = is_short

  course_stopped : (s : Stop) → course_of (Err (stop_for b Events s)) ≡ course_for (course_of (Err s))
  course_stopped (stop.Fault fault) = refl
  course_stopped (stop.Line line) = refl
  course_stopped stop.Writer = refl
  course_stopped stop.Memory = refl

  refused_for : (course : Course) (x : Bool) → refused_on course x ≡ refused_on (course_for course) x
  refused_for (comes_to end) x = refl
  refused_for is_refused x = refl
  refused_for is_short x = refl

  early_for : (t : Bool) (course : Course) → EndsEarly t course → EndsEarly t (course_for course)
  early_for t (comes_to end) h = h
  early_for t is_refused h = h
  early_for t is_short h = h

  shows_for : (t : Bool) (r : Report) (x y : Held) (course : Course) → Shows t r x y course → Shows t (report_for b r) x y (course_for course)
  shows_for t r x y (comes_to end) h = (ap (end_for b) h.0, h.1)
  shows_for t r x y is_refused h = h
  shows_for t r x y is_short h = h

  module _ (P Q : Report → Type 0) (f : (r : Report) → P r → Q (report_for b r)) where
    one_for : (t : Bool) (x y : Held) (course : Course) → ShowsOne P t x y course → ShowsOne Q t x y (course_for course)
    one_for t x y course (inl early) = inl (early_for t course early.0, early.1)
    one_for t x y course (inr h) = inr (report_for b h.0, f h.0 h.1, shows_for t h.0 x y course h.2)

    prints_for : (course : Course) (res : Result ℕ Stop) → course_of res ≡ course_for course → (o n : Sight) → ShowsOne P o.takes_all o.held n.held course → n.refused ≡ refused_on course o.refused
        → n.takes_all ≡ o.takes_all → Prints Q o n res
    prints_for course res is o n shows refused stays = record {
      shows = subst (λ (c : Course). ShowsOne Q o.takes_all o.held n.held c) (sym is) (one_for o.takes_all o.held n.held course shows);
      refused = refused ∙ refused_for course o.refused ∙ ap (λ c. refused_on c o.refused) (sym is);
      stays = stays;
    }

-- ---- the files

module _ (reports : Fields → Text → Report → Type 0) (needs : Needs) (b : Bool) (plan text : Option Telling) where
  -- they were read, and a command ran
  abbrev is_read : (p : Fields) (bytes : Text) → IsPlanFor needs plan p → IfSome text (λ telling. telling ≡ Some bytes) → (r : Report) → reports p bytes r → IsReportOf reports needs b plan text (report_for b r)
  is_read p bytes read fetched r is = inr (p, bytes, r, read, fetched, is, refl)

  pub ok_prints : (p : Fields) (bytes : Text) (o n : Sight) (status : ℕ) → IsPlanFor needs plan p → IfSome text (λ telling. telling ≡ Some bytes) → Prints (reports p bytes) o n (Ok status)
      → Prints (IsReportOf reports needs b plan text) o n (Ok status)
  ok_prints p bytes o n status read fetched h =
      prints_for b (reports p bytes) (IsReportOf reports needs b plan text) (is_read p bytes read fetched) (course_of (Ok status)) (Ok status) refl o n h.shows h.refused h.stays

  pub stop_prints : (p : Fields) (bytes : Text) (o n : Sight) (s : Stop) → IsPlanFor needs plan p → IfSome text (λ telling. telling ≡ Some bytes) → Prints (reports p bytes) o n (Err s)
      → Prints (IsReportOf reports needs b plan text) o n (Err (stop_for b Events s))
  stop_prints p bytes o n s read fetched h =
      prints_for b (reports p bytes) (IsReportOf reports needs b plan text) (is_read p bytes read fetched) (course_of (Err s)) (Err (stop_for b Events s)) (course_stopped b s) o n h.shows h.refused h.stays

  -- they were not
  pub unread_prints : (o : Sight) (s : Stop) → ReadsBoth needs plan text (Err s) → IsUnread s → Prints (IsReportOf reports needs b plan text) o o (Err (stop_for b Plan s))
  unread_prints o (stop.Fault fault) unread is = record {
    shows = inr (ends (has_fault _), inl (fault, unread, refl), (refl, Appends-nil o.held));
    refused = refl;
    stays = refl;
  }
  unread_prints o (stop.Line line) unread is = absurd is
  unread_prints o stop.Writer unread is = absurd is
  unread_prints o stop.Memory unread is = memory_prints (IsReportOf reports needs b plan text) o

-- ---- the end

module _ (R : Report → Type 0) (names : Text × Text) (t u : Bool) (old new : Seen) (mid : Held) (refused kept_back : Bool) (status : ℕ) where
  abbrev middle : Seen
  middle = record { out = mid; err = old.err; refused = refused; kept_back = kept_back }

  abbrev Whole : Type 0
  Whole = FailsAtOnce t old new status ⊎ ((r : Report) × R r × PrintsReport t u names r old new status)

  runs_out : refused ≡ old.refused → RunsOut middle new status → RunsOut old new status
  runs_out same h = (h.0, h.1, h.2 ∙ same)

  falls_short : refused ≡ old.refused → RunsOut middle new status ⊎ Refuses t middle new status → RunsOut old new status ⊎ Refuses t old new status
  falls_short same (inl h) = inl (runs_out same h)
  falls_short same (inr h) = inr h

  all_kept : (r : Report) → Appends old.out mid (concat r.texts) → Keeps mid new.out → AppendsSome old.out new.out r.texts
  all_kept r lines keeps = all_some old.out new.out r.texts (Appends-keeps old.out mid new.out (concat r.texts) lines keeps)

  at_end : (r : Report) → R r → Appends old.out mid (concat r.texts) → refused ≡ old.refused → Keeps mid new.out → ClosesAs names t u (comes_to r.end) middle new status → Whole
  at_end r is lines same keeps (inl well) =
      inr (
        r,
        is,
        inl (record {
          status_is = well.status_is;
          lines = Appends-keeps old.out mid new.out (concat r.texts) lines keeps;
          line = well.line;
          passed = well.passed;
        }),
      )
  at_end r is lines same keeps (inr (inl memory)) =
      inr (r, is, inr (inl (all_kept r lines keeps, inl (runs_out same memory))))
  at_end r is lines same keeps (inr (inr (inl refuses))) =
      inr (r, is, inr (inl (all_kept r lines keeps, inr refuses)))
  at_end r is lines same keeps (inr (inr (inr refuses))) =
      inr (r, is, inr (inr (Appends-keeps old.out mid new.out (concat r.texts) lines keeps, refuses)))

  -- a command ran, and was closed
  pub closed : (course : Course) → ShowsOne R t old.out mid course → refused ≡ refused_on course old.refused → Closes names t u course middle new status → Whole
  closed (comes_to end) (inl early) same h = absurd early.0
  closed (comes_to end) (inr shown) same h =
      at_end shown.0 shown.1 shown.2.1 same h.0 (subst (λ e. ClosesAs names t u (comes_to e) middle new status) (sym shown.2.0) h.1)
  closed is_refused (inl early) same h = inl (keeps_on old.out mid new.out early.1 h.0, inr (h.1.0, early.0, h.1.2 ∙ same, h.1.1))
  closed is_refused (inr shown) same h =
      inr (shown.0, shown.1, inr (inl (some_keeps old.out mid new.out shown.0.texts shown.2.1 h.0, inr (h.1.0, shown.2.0, h.1.2 ∙ same, h.1.1))))
  closed is_short (inl early) same h = inl (keeps_on old.out mid new.out early.1 h.0, falls_short same h.1)
  closed is_short (inr shown) same h =
      inr (shown.0, shown.1, inr (inl (some_keeps old.out mid new.out shown.0.texts shown.2 h.0, falls_short same h.1)))

-- ---- a text that is refused

module _ (P : Report → Type 0) (o : Sight) (s : Stop) where
  -- what a command makes of a fault of its text
  pub text_prints : (fault : PlanFault) → P (ends (has_fault (BadText fault))) ⊎ (fault ≡ plan_fault.Memory) → s ≡ stop_at fault → Prints P o o (Err s)
  text_prints plan_fault.Memory h is = rw is (memory_prints P o)
  text_prints plan_fault.NotJson (inl p) is = rw is (fault_prints P (BadText plan_fault.NotJson) o p)
  text_prints plan_fault.NotJson (inr out) is = absurd (cc)
  text_prints (plan_fault.NotPlan place) (inl p) is = rw is (fault_prints P (BadText (plan_fault.NotPlan place)) o p)
  text_prints (plan_fault.NotPlan place) (inr out) is = absurd (cc)
  text_prints (plan_fault.DoubleName place) (inl p) is = rw is (fault_prints P (BadText (plan_fault.DoubleName place)) o p)
  text_prints (plan_fault.DoubleName place) (inr out) is = absurd (cc)
  text_prints (plan_fault.UnknownName place) (inl p) is = rw is (fault_prints P (BadText (plan_fault.UnknownName place)) o p)
  text_prints (plan_fault.UnknownName place) (inr out) is = absurd (cc)
  text_prints (plan_fault.BadShape reason) (inl p) is = rw is (fault_prints P (BadText (plan_fault.BadShape reason)) o p)
  text_prints (plan_fault.BadShape reason) (inr out) is = absurd (cc)

-- one text that is printed
pub whole_prints : (P : Report → Type 0) (a b : Text) (status : ℕ) (o n : Sight) (res : Result ℕ Stop) → a ≡ b → P (whole b status) → Prints (IsWhole a status) o n res → Prints P o n res
whole_prints P a b status o n res same is h =
    prints_as (IsWhole a status) P (λ r whole_is. subst P (sym (whole_is ∙ ap (λ t. whole t status) same)) is) o n res h

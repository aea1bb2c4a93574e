-- Why a session stops before its end.
use Rattle.std.proofs.Common.{◌⊎◌, List, IfOk, length, ap, sym, false, inl, inr, ◌≡◌, ◌∙◌, ◌≤◌, ◌<◌, ◌+◌, ◌-◌, ◌^◌, ℕ, Bool, true, Option, Some, None, Result, Ok, Err, IfSome, refl, subst, arith}
use Rattle.std.specs.Prelude.{IsErrAnd}
use Rattle.mx_plan.specs.Text.{Text}
use Rattle.mx_cli.specs.Frames.{Closes, ClosesAs}
use Rattle.mx_cli.specs.Printing.{comes_to, course_of, has_status}
use Rattle.mx_cli.specs.Reports.{Seen}
use Rattle.mx_play.specs.Lines.{ReadsNext, first_of}
use Rattle.mx_play.specs.Reasons.{IsLineStated}
use Rattle.mx_play.specs.Stops.{AreReadableLines, CountsDown, HaveNumbers, LeavesFewer, OnlyMemory}
use Rattle.mx_play.specs.declared.line_sources.LineRead.{LineRead}
use Rattle.mx_play.specs.declared.line_sources.LineRead.TheVariants as read
use Rattle.mx_play.specs.declared.line_sources.TheConstants.{MAX_LINE}
use Rattle.mx_play.specs.declared.input.Input.{Input}
use Rattle.mx_play.specs.declared.input.Input.TheVariants as input
use Rattle.mx_cli.specs.declared.stop.Stop.{Stop}
use Rattle.mx_cli.specs.declared.stop.Stop.TheVariants as stop

-- a fault that is passed on
pub passed_on : {T : Type 0} (r : Result T Stop) (s : Stop) → IsErrAnd r (λ e. e ≡ s) → s ≡ stop.Memory → OnlyMemory r
passed_on (Ok t) s h is = absurd h
passed_on (Err e) s h is = h ∙ is

-- a bound on a number that there is not, since the session stops
pub stopped_left : (P : Stop → Type 0) (all : Option ℕ) (first : ℕ) (r : Result (Option ℕ) Stop) → IsErrAnd r P → IfSome all (λ n. IfOk r (λ next. IfSome next (λ k. k ≤ first + n)))
stopped_left P None first r h = tt
stopped_left P (Some n) first (Ok next) h = absurd h
stopped_left P (Some n) first (Err e) h = tt

-- what is so of each number
pub of_each : {P : ℕ → Type 0} (all : Option ℕ) → ((n : ℕ) → P n) → IfSome all P
of_each None each = tt
of_each (Some n) each = each n

-- of the lines that were left at first, these are left, before line `number`
abbrev pub Left : ℕ → ℕ → Option ℕ → Option ℕ → Type 0
Left first number all left = IfSome all (λ n. (m : ℕ) × (left ≡ Some m) × (number + m ≤ first + n))

pub left_first : (first : ℕ) (all : Option ℕ) → Left first first all all
left_first first None = tt
left_first first (Some n) = (n, refl, omega arith)

fewer : (n : ℕ) (of : Input) (left : Option ℕ) → (of ≡ input.Eof → ⊥) → LeavesFewer n of left → (m : ℕ) × (m < n) × (left ≡ Some m)
fewer n (input.Command command) left some x = x
fewer n (input.Fault fault) left some x = x
fewer n input.Eof left some x = absurd (some refl)

pub left_next : (first number : ℕ) (all left left' : Option ℕ) (of : Input) → (of ≡ input.Eof → ⊥) → Left first number all left → IfSome left (λ n. LeavesFewer n of left') → Left first (number + 1) all left'
left_next first number None left left' of some x y = tt
left_next first number (Some n) left left' of some x y =
    let less = fewer x.0 of left' some (subst (λ (l : Option ℕ). IfSome l (λ n. LeavesFewer n of left')) x.1 y) in
    (less.0, less.2, let one = less.1 in let sum = x.2 in omega (arith, one, sum))

pub left_bound : (first number : ℕ) (all left : Option ℕ) → Left first number all left → IfSome all (λ n. number ≤ first + n)
left_bound first number None left x = tt
left_bound first number (Some n) left x = let sum = x.2 in omega (arith, sum)

-- no line is without a number
pub numbers_last : (first number : ℕ) (all left : Option ℕ) → Left first number all left → HaveNumbers first all → 2 ^ 64 - 1 ≤ number → ⊥
numbers_last first number None left x few past = few
numbers_last first number (Some n) left x few past = let sum = x.2 in omega (arith, sum, few, past)

-- the next of them can be read
pub reads_on : {P : Type 0} (first number : ℕ) (all left : Option ℕ) → Left first number all left → HaveNumbers first all → IfSome left (λ _. P) → P
reads_on first number None left x few y = absurd few
reads_on {P} first number (Some n) left x few y = subst (λ (l : Option ℕ). IfSome l (λ _. P)) x.1 y

pub rest_numbers : (length number : ℕ) (left : Option ℕ) → length < 2 ^ 63 → number ≤ 1 + length → AreReadableLines left → HaveNumbers number left
rest_numbers length number None few le readable = readable
rest_numbers length number (Some n) few le readable = omega (arith, few, le, readable)

-- ---- the first line

few_after : (of : LineRead) (n : ℕ) (left : Option ℕ) → n < 2 ^ 62 → CountsDown n of left → AreReadableLines left
few_after of n left few x = few_at of x where
  few_in : (m : ℕ) → m ≤ n → left ≡ Some m → AreReadableLines left
  few_in m le is = subst AreReadableLines (sym is) (omega (arith, few, le))

  few_at : (of : LineRead) → CountsDown n of left → AreReadableLines left
  few_at read.Line y = few_in y.0 (let less = y.1 in omega (arith, less)) y.2
  few_at read.TooLong y = few_in y.0 (let less = y.1 in omega (arith, less)) y.2
  few_at read.End y = few_in y.0 y.1 y.2
  few_at read.Unreadable y = absurd y

pub readable_after : (of : LineRead) (all left : Option ℕ) → AreReadableLines all → IfSome all (λ n. CountsDown n of left) → AreReadableLines left
readable_after of None left few x = absurd few
readable_after of (Some n) left few x = few_after of n left few x

counted : (n : ℕ) (of : LineRead) (left : Option ℕ) → CountsDown n of left → of ≡ read.Unreadable → ⊥
counted n of left x is = subst (λ (r : LineRead). CountsDown n r left) is x

too_long : (lines rest : Option (List Text)) (buffer : Text) → IsLineStated lines → ReadsNext lines read.TooLong buffer rest → ⊥
too_long None rest buffer stated x = stated
too_long (Some known) rest buffer stated x =
    let long = x.1 in
    let short = subst (λ (l : Text). length l ≤ MAX_LINE) (ap first_of x.2.1) stated.0 in
    omega (arith, long, short)

-- is there, and not too long
pub no_other : (of : LineRead) (lines rest : Option (List Text)) (all left : Option ℕ) (buffer : Text) → (of ≡ read.TooLong) ⊎ (of ≡ read.Unreadable) → AreReadableLines all → IsLineStated lines
    → ReadsNext lines of buffer rest → IfSome all (λ n. CountsDown n of left) → ⊥
no_other of lines rest all left buffer (inl is) few stated x y = too_long lines rest buffer stated (subst (λ (r : LineRead). ReadsNext lines r buffer rest) is x)
no_other of lines rest None left buffer (inr is) few stated x y = few
no_other of lines rest (Some n) left buffer (inr is) few stated x y = counted n of left y is

-- ---- how a run is closed

pub five_is_one : (status : ℕ) → status ≡ 5 → status ≡ 1 → ⊥
five_is_one status five one = cc

zero_is_one : (status : ℕ) → status ≡ 0 → status ≡ 1 → ⊥
zero_is_one status zero one = cc

is_both : (b : Bool) → b ≡ true → b ≡ false → ⊥
is_both b is not = cc

module _ (names : Text × Text) (t u : Bool) (old new : Seen) (status : ℕ) (takes : t ≡ true) where
  own_status : (own : ℕ) → own ≡ 0 → ClosesAs names t u (comes_to (has_status own)) old new status → status ≡ 1 → ⊥
  own_status own zero (inl well) one = zero_is_one status (well.status_is ∙ zero) one
  own_status own zero (inr (inl memory)) one = five_is_one status memory.0 one
  own_status own zero (inr (inr (inl refuses))) one = is_both t takes refuses.1
  own_status own zero (inr (inr (inr refuses))) one = is_both true refl refuses.1

  -- it has not status 1, if all went well or memory ran out
  pub closed_well : (ended : Result ℕ Stop) → OnlyMemory ended → IfOk ended (λ own. own ≡ 0) → Closes names t u (course_of ended) old new status → status ≡ 1 → ⊥
  closed_well (Ok own) only zero h one = own_status own zero h.1 one
  closed_well (Err (stop.Fault fault)) only zero h one = cc
  closed_well (Err (stop.Line line)) only zero h one = cc
  closed_well (Err stop.Writer) only zero h one = cc
  closed_well (Err stop.Memory) only zero (keeps, inl memory) one = five_is_one status memory.0 one
  closed_well (Err stop.Memory) only zero (keeps, inr refuses) one = is_both t takes refuses.1

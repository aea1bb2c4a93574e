-- What is read of the lines of a session.
use Rattle.std.proofs.Common.{◌≡◌, ◌≤◌, ◌⊎◌, ◌∙◌, true, List, [], Option, Some, None, Result, Ok, Err, IfOk, IfSome, length, sym, ap, subst, inl, inr}
use Rattle.std.specs.Str.{IsUtf8}
use Rattle.mx_cli.specs.Reading.{IsRead, Reads}
use Rattle.mx_cli.specs.declared.stop.Stop.{Stop}
use Rattle.mx_plan.specs.Text.{Text}
use Rattle.mx_plan.specs.Fields.{Fields}
use Rattle.mx_play.specs.Commands.{IsInputOf, ReadsInput}
use Rattle.mx_play.specs.Lines.{AreLeft, IsFirstLine, ReadsNext, after_line, first_of, session_lines}
use Rattle.mx_play.specs.Played.{IsLinePlan}
use Rattle.mx_play.specs.Reasons.{IsLineStated}
use Rattle.mx_play.specs.Stops.{OnlyMemory}
use Rattle.mx_play.specs.declared.input.Input.{Input}
use Rattle.mx_play.specs.declared.input.Input.TheVariants as input
use Rattle.mx_play.specs.declared.line_sources.LineRead.{LineRead}
use Rattle.mx_play.specs.declared.line_sources.LineRead.TheVariants as read
use Rattle.mx_play.specs.declared.line_sources.TheConstants.{MAX_LINE}

module _ (p : Fields) (lines rest : Option (List Text)) (buffer : Text) where
  -- a line was read
  line_input : (of : Input) → IsFirstLine buffer lines rest → IsInputOf p buffer of buffer → ReadsInput p lines of buffer rest
  line_input (input.Command command) x is = (buffer, is, x)
  line_input (input.Fault fault) x is = (buffer, is, x)
  line_input input.Eof x is = absurd is

  pub read_line : (of : Input) → ReadsNext lines read.Line buffer rest → (length buffer ≤ MAX_LINE → IsInputOf p buffer of buffer) → ReadsInput p lines of buffer rest
  read_line of x means = line_input of x.1 (means x.0)

-- ---- a plan that is the first line

-- the first of these lines, or nothing if there are none, is in the buffer, and the others are left
module _ (rest : Option (List Text)) (buffer : Text) where
  abbrev Buffers : Option (List Text) → Type 0
  Buffers lines = IfSome lines (λ known. (first_of known ≡ buffer) × (rest ≡ Some (after_line known)))

  of_first : (lines : Option (List Text)) → IsFirstLine buffer lines rest → Buffers lines
  of_first None x = tt
  of_first (Some known) x = (ap first_of x.1, x.2 ∙ ap (λ (l : List Text). Some (after_line l)) (sym x.1))

  of_none : (lines : Option (List Text)) → buffer ≡ [] → IfSome lines (λ known. (known ≡ []) × (rest ≡ Some [])) → Buffers lines
  of_none None empty x = tt
  of_none (Some known) empty x = (ap first_of x.0 ∙ sym empty, x.1 ∙ ap (λ (l : List Text). Some (after_line l)) (sym x.0))

  buffers : (lines : Option (List Text)) (of : LineRead) → (of ≡ read.Line) ⊎ (of ≡ read.End) → ReadsNext lines of buffer rest → Buffers lines
  buffers lines of (inl is) x = of_first lines (subst (λ (r : LineRead). ReadsNext lines r buffer rest) is x).1
  buffers lines of (inr is) x =
      let end = subst (λ (r : LineRead). ReadsNext lines r buffer rest) is x in
      of_none lines end.0 end.1

  plan_is : (lines : Option (List Text)) (p : Fields) → Buffers lines → IsRead buffer (Ok p) → IsLinePlan lines p
  plan_is None p x is = (buffer, is)
  plan_is (Some known) p x is = subst (λ (l : Text). IsRead l (Ok p)) (sym x.0) is

  are_left : (lines : Option (List Text)) → Buffers lines → AreLeft (session_lines true lines) rest
  are_left None x = tt
  are_left (Some known) x = x.1

  -- the line that is the plan, or its absence, was read
  module _ (lines : Option (List Text)) (of : LineRead) (is : (of ≡ read.Line) ⊎ (of ≡ read.End)) (x : ReadsNext lines of buffer rest) where
    pub plan_on_ok : (r : Result Fields Stop) → Reads (Some buffer) r → IfOk r (IsLinePlan lines)
    plan_on_ok (Ok p) y = plan_is lines p (buffers lines of is x) y
    plan_on_ok (Err e) y = tt

    pub left_on_ok : {T E : Type 0} (r : Result T E) → IfOk r (λ _. AreLeft (session_lines true lines) rest)
    left_on_ok (Ok p) = are_left lines (buffers lines of is x)
    left_on_ok (Err e) = tt

    -- and if it is stated and has no fault, only memory can run out
    stated : (lines : Option (List Text)) → Buffers lines → IsLineStated lines → (r : Result Fields Stop) → Reads (Some buffer) r → OnlyMemory r
    stated None b y r z = absurd y
    stated (Some known) b y (Ok p) z = tt
    stated (Some known) b y (Err end) z = y.1 end (subst (λ (l : Text). Reads (Some l) (Err end)) (sym b.0) z)

    pub stated_memory : IsLineStated lines → (r : Result Fields Stop) → Reads (Some buffer) r → OnlyMemory r
    stated_memory y r z = stated lines (buffers lines of is x) y r z

-- ---- what bytes mean

module _ (p : Fields) (text line : Text) (is : text ≡ line) (utf8 : IsUtf8 line) where
  pub means_on_ok : {E : Type 0} (r : Result Input E) → IfOk r (λ of. length text ≤ MAX_LINE → IsUtf8 text → IsInputOf p text of text) → IfOk r (λ of. length line ≤ MAX_LINE → IsInputOf p line of line)
  means_on_ok (Ok of) x = λ short. subst (λ (l : Text). length l ≤ MAX_LINE → IsUtf8 l → IsInputOf p l of l) is x short utf8
  means_on_ok (Err e) x = tt

-- What the lines of a script do, one after another.
use Rattle.std.proofs.Common.{◌≡◌, ◌≤◌, ◌<◌, ◌∙◌, ℕ, zero, suc, List, [], ◌∷◌, ◌++◌, Ok, length, append_assoc, ◌+◌, ◌-◌, ◌^◌, min, refl, sym, ap, subst, arith, get_or, take}
use Rattle.std.specs.Borrow.{Bor}
use Rattle.std.proofs.lemmas.List.{length-append, length-map, map-append}
use Rattle.std.proofs.lemmas.Option.{slice_get_read}
use Rattle.std.specs.Str.Lines.{lines}
use Rattle.mx_stamps.specs.declared.limits.TheConstants.{MAX_EVENTS}
use Rattle.mx_stamps.proofs.Lists.{append_nil}
use Rattle.mx_nodelaws.specs.Core.{Core}
use Rattle.mx_network.specs.Step.{ClusterState, step_of}
use Rattle.mx_trace.specs.declared.outcome.Entry.{Entry}
use Rattle.mx_events.specs.declared.event.Event.{Event}
use Rattle.mx_plan.specs.Text.{Text}
use Rattle.mx_plan.specs.Fields.{Fields}
use Rattle.mx_lines.specs.Names.{known_of, texts_of}
use Rattle.mx_lines.specs.declared.line.ScriptLine.{ScriptLine}
use Rattle.mx_lines.specs.declared.line.ScriptLine.TheVariants as script_line
use Rattle.mx_lines.specs.declared.orders.Order.{Order}
use Rattle.mx_event_files.specs.Scripts.{DoesAll, StopsAt, StopsBy, number_after, of_line, HasLine, IsLineOf}
use Rattle.mx_scripts.specs.Lines.{DoesRead, DoesText, Performs, IsNotDone, Repeats}
use Rattle.mx_format.specs.Files.{file_text, events_of}
use Rattle.mx_event_files.specs.Played.{StaysPlayed}
use Rattle.mx_event_files.specs.ScriptFiles.{IsFileOfScript, StopsFrom}
use Rattle.mx_lines.specs.Within.{IsLineWithin, IsOrderWithin}
use Rattle.mx_lines.proofs.WithinLemmas.{read_within}
use Rattle.mx_event_files.proofs.PlayedLemmas.{file_of_played, noted, plays_step}
use Rattle.mx_scripts.proofs.LineLemmas.{next_within}
use Rattle.mx_scripts.specs.States.{Brings, IsAllowed, IsEventWithin, RunState, before_any}
use Rattle.mx_event_files.specs.declared.happening.Happening.{Happening}
use Rattle.mx_scripts.specs.declared.line_failure.LineFailure.{LineFailure}
use Rattle.mx_cli.specs.declared.stop.Stop.{Stop}
use Rattle.mx_scripts.specs.declared.state.SessionEvent.{SessionEvent}
use Rattle.mx_scripts.specs.declared.state.SessionEvent.TheVariants.{Happens, IsLost, LinksChange}
use Rattle.mx_event_files.proofs.StopLemmas.{line_as}

-- the number of the next line
pub next_number : (number next count : ℕ) → number ≡ min count (2 ^ 64 - 1) → next ≡ min (number + 1) (2 ^ 64 - 1) → next ≡ min (count + 1) (2 ^ 64 - 1)
next_number number next count is h = omega (arith, is, h)

-- ---- what lines do, as a chain of events that lead from one state to another

same_trace_few : {S M : Type 0} (old new : ClusterState S M) → new ≡ old → length old.trace ≤ MAX_EVENTS → length new.trace ≤ MAX_EVENTS
same_trace_few {S} {M} old new is few = subst (λ (g : ClusterState S M). length g.trace ≤ MAX_EVENTS) (sym is) few

module _ {H S M : Type 0} (core : Core H S M) (nodes registers : ℕ) where
  -- all this happens in turn, each in a state that allows it, and names only these nodes and registers
  abbrev pub Chain : RunState S M → List Happening → RunState S M → Type 0
  Chain old [] new = new ≡ old
  Chain old (h ∷ hs) new = (mid : RunState S M) × IsEventWithin nodes registers h.event × IsAllowed old h.event × Brings core old h.event mid × Chain mid hs new

  chain_append : (hs more : List Happening) (old mid new : RunState S M) → Chain old hs mid → Chain mid more new → Chain old (hs ++ more) new
  chain_append [] more old mid new x y = subst (λ (s : RunState S M). Chain s more new) x y
  chain_append (h ∷ hs) more old mid new x y = (x.0, x.1, x.2, x.3, chain_append hs more x.0 mid new x.4 y)

  still_chain : (number : ℕ) (es : List SessionEvent) (old new : RunState S M) → new ≡ old → es ≡ [] → Chain old (of_line number es) new
  still_chain number es old new same none = subst (λ (l : List SessionEvent). Chain old (of_line number l) new) (sym none) same

  module _ (number : ℕ) (o : Order) (over : IsOrderWithin nodes registers o) where
    performs_chain : (done : ℕ) (es : List SessionEvent) (old new : RunState S M) → Performs core o done old es new → Chain old (of_line number es) new
    performs_chain done [] old new x = x.0
    performs_chain done (e ∷ es) old new x = (x.0, next_within old.fates old.cluster.sent nodes registers o done e over x.1, x.2, x.3, performs_chain (suc done) es x.0 new x.4)

    repeats_chain : (times : ℕ) (es : List SessionEvent) (old new : RunState S M) → Repeats core o times old es new → Chain old (of_line number es) new
    repeats_chain zero es old new x = still_chain number es old new x.0 x.1
    repeats_chain (suc times) es old new x =
        subst (λ (l : List Happening). Chain old l new)
        (sym (ap (of_line number) x.4 ∙ map-append (λ (e : SessionEvent). let h : Happening = record { line = number; event = e } in h) x.1 x.2))
        (chain_append (of_line number x.1) (of_line number x.2) old x.0 new (performs_chain 0 x.1 old x.0 x.3) (repeats_chain times x.2 x.0 new x.5))

  read_chain : (number : ℕ) (text : Text) (read : ScriptLine) (es : List SessionEvent) (old new : RunState S M) → IsLineWithin nodes registers read → DoesRead core text read old es new
      → Chain old (of_line number es) new
  read_chain number text (script_line.Does line) es old new over x = repeats_chain number line.order over line.times es old new x
  read_chain number text script_line.Expects es old new over x = still_chain number es old new x.0.0 x.0.1
  read_chain number text script_line.Nothing es old new over x = still_chain number es old new x.0 x.1

  -- ---- it leads from one cluster to another

  plays_same : (old new : ClusterState S M) → new ≡ old → StaysPlayed core nodes registers old new
  plays_same old new is = subst (λ (g : ClusterState S M). StaysPlayed core nodes registers old g) (sym is) (λ start played. played)

  plays_brought : (e : SessionEvent) (old new : RunState S M) → Brings core old e new → IsEventWithin nodes registers e → StaysPlayed core nodes registers old.cluster new.cluster
  plays_brought (Happens event) old new brings drawn = plays_step core nodes registers old.cluster new.cluster event brings.0 drawn
  plays_brought (IsLost k) old new brings drawn = plays_same old.cluster new.cluster brings.0
  plays_brought (LinksChange change) old new brings drawn = plays_same old.cluster new.cluster brings.0

  chain_plays : (hs : List Happening) (old new : RunState S M) → Chain old hs new → StaysPlayed core nodes registers old.cluster new.cluster
  chain_plays [] old new x = plays_same old.cluster new.cluster (ap (λ (s : RunState S M). s.cluster) x)
  chain_plays (h ∷ hs) old new x = λ start played. chain_plays hs x.0 new x.4 start (plays_brought h.event old x.0 x.3 x.1 start played)

  -- ---- and has no more events than may happen

  longer : (old new : ClusterState S M) (e : Event) → step_of core old e ≡ Ok new → length new.trace ≡ length old.trace + 1
  longer old new e step =
      let more : length (events_of new.trace) ≡ length (events_of old.trace ++ e ∷ []) = ap (λ (es : List Event). length es) (noted core old new e step) in
      let here : length (events_of new.trace) ≡ length new.trace = length-map new.trace (λ (entry : Entry). entry.event) in
      let there : length (events_of old.trace) ≡ length old.trace = length-map old.trace (λ (entry : Entry). entry.event) in
      let one : length (events_of old.trace ++ e ∷ []) ≡ length (events_of old.trace) + 1 = length-append (events_of old.trace) (e ∷ []) in
      omega (arith, more, here, there, one)

  brought_few : (e : SessionEvent) (old new : RunState S M) → IsAllowed old e → Brings core old e new → length old.cluster.trace ≤ MAX_EVENTS → length new.cluster.trace ≤ MAX_EVENTS
  brought_few (Happens event) old new allowed brings few =
      let n = longer old.cluster new.cluster event brings.0 in
      let lt = allowed.1 in
      omega (arith, n, lt)
  brought_few (IsLost k) old new allowed brings few = same_trace_few old.cluster new.cluster brings.0 few
  brought_few (LinksChange change) old new allowed brings few = same_trace_few old.cluster new.cluster brings.0 few

  chain_few : (hs : List Happening) (old new : RunState S M) → Chain old hs new → length old.cluster.trace ≤ MAX_EVENTS → length new.cluster.trace ≤ MAX_EVENTS
  chain_few [] old new x few = same_trace_few old.cluster new.cluster (ap (λ (s : RunState S M). s.cluster) x) few
  chain_few (h ∷ hs) old new x few = chain_few hs x.0 new x.4 (brought_few h.event old x.0 x.2 x.3 few)

module _ {H S M : Type 0} (core : Core H S M) (p : Fields) where
  pub all_chain : (done : ℕ) (texts : List Text) (hs : List Happening) (old new : RunState S M) → DoesAll core p done texts old hs new → Chain core (length p.nodes) (length p.registers) old hs new
  all_chain done [] hs old new x = subst (λ (l : List Happening). Chain core (length p.nodes) (length p.registers) old l new) (sym x.1) x.0
  all_chain done (text ∷ texts) hs old new x =
      let line = x.3 in
      let reads = line.1 in
      let over = read_within (known_of p) (texts_of reads.0) line.0 reads.2 in
      subst (λ (l : List Happening). Chain core (length p.nodes) (length p.registers) old l new) (sym x.4)
      (chain_append core (length p.nodes) (length p.registers) (of_line (number_after done) x.1) x.2 old x.0 new
      (read_chain core (length p.nodes) (length p.registers) (number_after done) text line.0 x.1 old x.0 over line.2) (all_chain (suc done) texts x.2 x.0 new x.5))

  -- the file of what lines did, from before any parcel was sent
  pub file_from : (script : Text) (start : ClusterState S M) (hs : List Happening) (old last : RunState S M) (text : Text) → old ≡ before_any start → start.trace ≡ []
      → DoesAll core p 0 (lines script) old hs last → text ≡ file_text p (events_of last.cluster.trace) → IsFileOfScript core p start script text
  file_from script start hs old last text fresh empty done is =
      let does : DoesAll core p 0 (lines script) (before_any start) hs last = subst (λ (s : RunState S M). DoesAll core p 0 (lines script) s hs last) fresh done in
      let chain = all_chain 0 (lines script) hs (before_any start) last does in
      record {
        happened = hs;
        last = last;
        does = does;
        is = is;
        few = chain_few core (length p.nodes) (length p.registers) hs (before_any start) last chain (subst (λ (t : List Entry). length t ≤ MAX_EVENTS) (sym empty) (omega arith));
        file = file_of_played core p start last.cluster last.cluster.trace text empty (chain_plays core (length p.nodes) (length p.registers) hs (before_any start) last chain) refl is;
      }

  -- lines that give no file, from before any parcel was sent
  pub stops_from : (script : Text) (start : ClusterState S M) (old : RunState S M) (s : Stop) → old ≡ before_any start → HasLine (StopsBy core p (lines script) old) s
      → HasLine (StopsFrom core p start script) s
  stops_from script start old s fresh h =
      line_as {P = StopsBy core p (lines script) old} {Q = StopsFrom core p start script} s (λ line x. record { stops = subst (λ (now : RunState S M). StopsBy core p (lines script) now line) fresh x }) h

  -- ---- a loop over the lines

  all_more : (done : ℕ) (texts : List Text) (text : Text) (hs : List Happening) (es : List SessionEvent) (old mid new : RunState S M) → DoesAll core p done texts old hs mid
      → DoesText core p text mid es new → DoesAll core p done (texts ++ text ∷ []) old (hs ++ of_line (number_after (done + length texts)) es) new
  all_more done [] text hs es old mid new x y = (
    new,
    es,
    [],
    subst (λ (s : RunState S M). DoesText core p text s es new) x.0 y,
    ap (λ (l : List Happening). l ++ of_line (number_after (done + 0)) es) x.1
        ∙ ap (λ (n : ℕ). of_line (number_after n) es) (omega (arith)) ∙ sym (append_nil (of_line (number_after done) es)),
    (refl, refl),
  )
  all_more done (first ∷ texts) text hs es old mid new x y =
      let more : List Happening = of_line (number_after (done + length (first ∷ texts))) es in
      let behind : number_after (suc done + length texts) ≡ number_after (done + length (first ∷ texts)) = ap number_after (omega (arith)) in (
        x.0,
        x.1,
        x.2 ++ more,
        x.3,
        ap (λ (l : List Happening). l ++ more) x.4 ∙ append_assoc (of_line (number_after done) x.1) x.2 more,
        subst (λ (n : ℕ). DoesAll core p (suc done) (texts ++ text ∷ []) x.0 (x.2 ++ of_line n es) new) behind (all_more (suc done) texts text x.2 es x.0 mid new x.5 y),
      )

  -- a line more was done
  pub does_more : (lines : List (Bor Text)) (line : Bor Text) (hs : List Happening) (es : List SessionEvent) (old mid new : RunState S M) → DoesAll core p 0 (texts_of lines) old hs mid
      → DoesText core p line.now mid es new → DoesAll core p 0 (texts_of (lines ++ line ∷ [])) old (hs ++ of_line (number_after (length lines)) es) new
  does_more lines line hs es old mid new x y =
      let count : 0 + length (texts_of lines) ≡ length lines = omega (arith, length-map lines (λ (text : Bor Text). text.now)) in
      subst (λ (l : List Text). DoesAll core p 0 l old (hs ++ of_line (number_after (length lines)) es) new) (sym (map-append (λ (text : Bor Text). text.now) lines (line ∷ [])))
      (subst (λ (n : ℕ). DoesAll core p 0 (texts_of lines ++ line.now ∷ []) old (hs ++ of_line (number_after n) es) new) count
      (all_more 0 (texts_of lines) line.now hs es old mid new x y))

  -- ---- a line that is not done

  -- the line after those that were yielded is not done
  pub stops_here : (texts : List Text) (yielded : List (Bor Text)) (text : Text) (hs : List Happening) (old mid : RunState S M) (why : LineFailure) → DoesAll core p 0 (texts_of yielded) old hs mid
      → texts_of yielded ≡ take (length yielded) texts → (length yielded < length texts) × (text ≡ get_or texts (length yielded) text) → IsNotDone core p text mid why
      → StopsAt core p texts old (length yielded) hs mid why
  stops_here texts yielded text hs old mid why does so_far turn not = record {
    does = subst (λ (l : List Text). DoesAll core p 0 l old hs mid) so_far does;
    text = text;
    next = slice_get_read texts (length texts) (length yielded) text refl turn.0 turn.1;
    not_done = not;
  }

  -- its line is that of the script
  pub stops_line : (texts : List Text) (hs : List Happening) (old mid : RunState S M) (n number : ℕ) (why : LineFailure) (s : Stop) → number ≡ number_after n
      → StopsAt core p texts old n hs mid why → HasLine (IsLineOf number why) s → HasLine (StopsBy core p texts old) s
  stops_line texts hs old mid n number why s next stops h =
      line_as {P = IsLineOf number why} {Q = StopsBy core p texts old} s (λ line is. (n, why, hs, mid, stops, subst (λ (k : ℕ). IsLineOf k why line) next is)) h

-- The rows of a run of events, and their text.
use Rattle.std.specs.Prelude.{ℕ, ◌++◌, Bool, List, [], ◌∷◌, codes, length, map, if◌then◌else◌}
use Rattle.std.specs.List.{count_by}
use Rattle.mx_member.specs.declared.parcel.Parcel.{Parcel}
use Rattle.mx_network.specs.Step.{ClusterState}
use Rattle.mx_trace.specs.Causes.{cause_words, causes}
use Rattle.mx_trace.specs.Trace.{is_entry}
use Rattle.mx_trace.specs.declared.cause.Cause.{Cause}
use Rattle.mx_trace.specs.declared.outcome.Entry.{Entry}
use Rattle.mx_explorer.specs.declared.verdict.Verdict.TheVariants.{Sound}
use Rattle.mx_plan.specs.Text.{Text}
use Rattle.mx_plan.specs.Fields.{Fields}
use Rattle.mx_explorer.specs.VerdictLines.{verdict_text}
use Rattle.mx_count.specs.Kinds.{is_in, is_kind, is_refused_for}
use Rattle.mx_count.specs.Lines.{rows_lines}
use Rattle.mx_count.specs.Measures.{measured}
use Rattle.mx_count.specs.NodeCounts.{node_rows}
use Rattle.mx_count.specs.Objects.{rows_objects}
use Rattle.mx_count.specs.Rows.{Row, share_of, spread_of}
use Rattle.mx_count.specs.Waits.{is_refusal, longest_wait}
use Rattle.mx_count.specs.declared.counted_run.EventSource.{EventSource}
use Rattle.mx_count.specs.declared.counted_run.EventSource.TheVariants.{Given, Drawn}
use Rattle.mx_count.specs.declared.counted_run.Options.{Options}
use Rattle.mx_count.specs.declared.kinds.Group.TheVariants as group
use Rattle.mx_count.specs.declared.measures.Measure.TheVariants.{Response, Delay}
use Rattle.mx_count.specs.declared.rows.Level.{Level}
use Rattle.mx_count.specs.declared.rows.Level.TheVariants.{First, Total, Part, Kind, Next}
use Rattle.mx_count.specs.declared.rows.Value.TheVariants.{Number}

-- the numbers of events, sections and parcels, as `count` and as `explore` prints them
abbrev pub head_rows : EventSource → ℕ → ℕ → ℕ → List Row
head_rows Given events sections parcels =
    (First, codes "events", Number events) ∷ (Total, codes "sections", Number sections)
    ∷ (Total, codes "parcels", Number parcels) ∷ []
head_rows Drawn events sections parcels =
    (First, codes "explored", Number events) ∷ (Next, codes "entered", Number sections)
    ∷ (Next, codes "sent", Number parcels) ∷ []

-- how many items of a list satisfy `p`
abbrev pub counted : {X : Type 0} → Level → Text → (X → Bool) → List X → Row
counted level name p xs = (level, name, Number (count_by p xs))

abbrev pub kind_row : {M : Type 0} → (M → Text) → List (ℕ × ℕ × Parcel M) → Text → Row
kind_row kind_text sent word =
    counted Kind word (λ x. is_kind kind_text word x.0 x.1 x.2) sent

-- letters and their kinds, letters from nodes to themselves, and gossip and its kinds. `words` are
-- the words of the algorithm's letters
abbrev pub parcel_rows : {M : Type 0} → (M → Text) → List Text → List (ℕ × ℕ × Parcel M) → List Row
parcel_rows kind_text words sent =
    counted Part (codes "letters") (is_in kind_text group.Letters) sent
    ∷ map (kind_row kind_text sent) words
    ++ counted Part (codes "own") (is_in kind_text group.Own) sent
    ∷ counted Part (codes "gossip") (is_in kind_text group.Gossip) sent
    ∷ counted Kind (codes "want") (is_in kind_text group.Want) sent
    ∷ counted Kind (codes "base") (is_in kind_text group.Base) sent
    ∷ counted Kind (codes "records") (is_in kind_text group.Records) sent ∷ []

abbrev pub cause_row : List Entry → Cause → Row
cause_row trace cause =
    counted Part (cause_words cause) (λ entry. is_refused_for cause entry.outcome) trace

-- all refusals, and those for each cause
abbrev pub refusal_rows : List Entry → List Row
refusal_rows trace =
    counted Total (codes "refused") (λ entry. is_refusal entry.outcome) trace
    ∷ map (cause_row trace) causes

abbrev pub time_rows : {M : Type 0} → List (ℕ × ℕ × Parcel M) → List Entry → List Row
time_rows sent trace =
    (Total, codes "longest wait", Number (longest_wait trace))
    ∷ (Total, codes "response time", spread_of (measured Response sent trace))
    ∷ (Total, codes "synchronization delay", spread_of (measured Delay sent trace)) ∷ []

-- the rows after the first ones
abbrev pub count_rows : {S M : Type 0} → (M → Text) → List Text → Fields → ClusterState S M
    → List Row
count_rows kind_text words p g =
    let letters = count_by (is_in kind_text group.Letters) g.sent in
    parcel_rows kind_text words g.sent
    ++ (Total, codes "letters for each section", share_of letters (count_by is_entry g.trace))
    ∷ refusal_rows g.trace ++ time_rows g.sent g.trace ++ node_rows g (length p.nodes)

-- the rows of a cluster after this many events; only the first ones, if no more are asked for
abbrev pub rows_in : {S M : Type 0} → (M → Text) → List Text → Options → Fields → ℕ
    → ClusterState S M → List Row
rows_in kind_text words options p events g =
    head_rows options.source events (count_by is_entry g.trace) (length g.sent)
    ++ (if options.has_counts then count_rows kind_text words p g else [])

-- the text of rows
abbrev pub rows_text : Bool → Fields → List Row → Text
rows_text is_json p rows = if is_json then rows_objects p rows else rows_lines p rows

-- the counts of a cluster and of its nodes; then the verdict, which is sound
abbrev pub counts_text : {S M : Type 0} → (M → Text) → List Text → Options → Fields → ℕ
    → ClusterState S M → Text
counts_text kind_text words options p events g =
    rows_text options.is_json p (rows_in kind_text words options p events g)
    ++ verdict_text options.is_json Sound

-- The verdict, item by item.
use Rattle.std.proofs.Common.{ℕ, zero, suc, ◌≡◌, ◌↔◌, ◌+◌, ◌<◌, ◌≤◌, List, [], ◌∷◌, ◌++◌, Option, Some, None, length, get_or, take, drop, refl, sym, ◌∙◌, ap, subst, arith}
use Rattle.std.proofs.lemmas.List.{drop_all}
use Rattle.mx_stamps.proofs.Lists.{none_is_no_some}
use Rattle.mx_journal.proofs.Choices.{drop_here}
use Rattle.mx_trace.specs.Sections.{Mark, Section, after_mark, after_marks}
use Rattle.mx_trace.specs.Serial.{AllClosed, AllFit}
use Rattle.mx_events.specs.declared.event.Event.{Event}
use Rattle.mx_events.specs.declared.event.Event.TheVariants.{Enter, Read, Write, Leave, Restart}
use Rattle.mx_trace.specs.declared.outcome.Outcome.{Outcome}
use Rattle.mx_trace.specs.declared.outcome.Outcome.TheVariants.{Entered, Value, Written, Left, Woken}
use Rattle.mx_trace.specs.declared.outcome.Entry.{Entry}
use Rattle.mx_trace.specs.Trace.{mark_of, marks}
use Rattle.mx_explorer.specs.declared.verdict.Clause.{Clause}
use Rattle.mx_explorer.specs.declared.verdict.Clause.TheVariants.{Overlap, Number, Read as Reads}
use Rattle.mx_explorer.specs.declared.verdict.Verdict.{Verdict}
use Rattle.mx_explorer.specs.declared.verdict.Verdict.TheVariants.{Sound, Broken}
use Rattle.mx_explorer.specs.Verdict.{Breaks, IsVerdictOf}
use Rattle.mx_explorer.specs.Ledger.{broken_at, older}
use Rattle.mx_explorer.proofs.Marks.{SoundFrom, BreaksFrom, Passes, breaks_one, broken_behind, mark_passes, nothing_passes, sound_behind, sound_breaks_none}
use Rattle.mx_explorer.proofs.Faults.{fitting_breaks_nothing, mark_breaks, sound_breaks_nothing}

-- the verdict of items with one more before them
abbrev pub later : Verdict → Verdict
later Sound = Sound
later (Broken k c) = Broken (suc k) c

abbrev after_item : Option Clause → Verdict → Verdict
after_item None v = later v
after_item (Some c) v = Broken 0 c

-- the verdict of these items, after these sections
abbrev pub judged : List Section → List Entry → Verdict
judged ss [] = Sound
judged ss (e ∷ es) = after_item (broken_at ss (mark_of e.event e.outcome)) (judged (after_marks ss (mark_of e.event e.outcome)) es)

-- with a given number of items before them
abbrev pub shifted : ℕ → Verdict → Verdict
shifted zero v = v
shifted (suc i) v = shifted i (later v)

pub shifted_sound : (i : ℕ) → shifted i Sound ≡ Sound
shifted_sound zero = refl
shifted_sound (suc i) = shifted_sound i

pub shifted_broken : (i k : ℕ) (c : Clause) → shifted i (Broken k c) ≡ Broken (i + k) c
shifted_broken zero k c = ap (λ n. Broken n c) (omega arith)
shifted_broken (suc i) k c = shifted_broken i (suc k) c ∙ ap (λ n. Broken n c) (omega arith)

-- the verdict from a place on is that of the item there and those behind it
judged_from : (ss : List Section) (trace : List Entry) (i : ℕ) (e : Entry) (found : Option Clause) → i < length trace → e ≡ get_or trace i e → broken_at ss (mark_of e.event e.outcome) ≡ found
    → judged ss (drop i trace) ≡ after_item found (judged (after_marks ss (mark_of e.event e.outcome)) (drop (i + 1) trace))
judged_from ss trace i e found lt is at =
    ap (judged ss) (drop_here trace i e lt is) ∙ ap (λ o. after_item o (judged (after_marks ss (mark_of e.event e.outcome)) (drop (i + 1) trace))) at

pub found_here : (ss : List Section) (trace : List Entry) (i : ℕ) (e : Entry) (c : Clause) → i < length trace → e ≡ get_or trace i e → broken_at ss (mark_of e.event e.outcome) ≡ Some c
    → shifted i (judged ss (drop i trace)) ≡ Broken i c
found_here ss trace i e c lt is at = ap (shifted i) (judged_from ss trace i e (Some c) lt is at) ∙ shifted_broken i 0 c ∙ ap (λ n. Broken n c) (omega arith)

pub nothing_here : (ss : List Section) (trace : List Entry) (i : ℕ) (e : Entry) → i < length trace → e ≡ get_or trace i e → broken_at ss (mark_of e.event e.outcome) ≡ None
    → shifted i (judged ss (drop i trace)) ≡ shifted (i + 1) (judged (after_marks ss (mark_of e.event e.outcome)) (drop (i + 1) trace))
nothing_here ss trace i e lt is at =
    let rest = judged (after_marks ss (mark_of e.event e.outcome)) (drop (i + 1) trace) in
    let more : suc i ≡ i + 1 = omega arith in
    ap (shifted i) (judged_from ss trace i e None lt is at) ∙ ap (λ n. shifted n rest) more

pub nothing_left : (ss : List Section) (trace : List Entry) (i : ℕ) → length trace ≤ i → shifted i (judged ss (drop i trace)) ≡ Sound
nothing_left ss trace i l = ap (λ es. shifted i (judged ss es)) (drop_all i trace l) ∙ shifted_sound i

-- an item has a mark or none
abbrev AtMostOne : List Mark → Type 0
AtMostOne [] = Unit {0}
AtMostOne (m ∷ []) = Unit {0}
AtMostOne (m ∷ n ∷ ms) = ⊥

at_most_one : (event : Event) (outcome : Outcome) → AtMostOne (mark_of event outcome)
at_most_one (Enter i) (Entered n) = tt
at_most_one (Read i register) (Value value) = tt
at_most_one (Write i register value) Written = tt
at_most_one (Leave i) (Left receipt) = tt
at_most_one (Restart i) Woken = tt
at_most_one _ _ = tt

-- an item breaks nothing, and the history is as sound behind it; or it breaks a clause
item_passes : (ss : List Section) (ms : List Mark) → AtMostOne ms → AllClosed (older ss) → broken_at ss ms ≡ None → Passes ss ms
item_passes ss [] one h e = nothing_passes ss h
item_passes ss (m ∷ []) one h e = mark_passes ss m h e
item_passes ss (m ∷ n ∷ ms) one h e = absurd one

item_breaks : (ss : List Section) (ms : List Mark) (c : Clause) → AtMostOne ms → broken_at ss ms ≡ Some c → BreaksFrom c ss (ms ++ [])
item_breaks ss [] c one e = absurd (none_is_no_some c e)
item_breaks ss (m ∷ []) c one e = mark_breaks ss m c e
item_breaks ss (m ∷ n ∷ ms) c one e = absurd one

sound_item : (ss : List Section) (ms rest : List Mark) → SoundFrom ss (ms ++ rest) → broken_at ss ms ≡ None
sound_item ss [] rest h = refl
sound_item ss (m ∷ ms) rest h = sound_breaks_nothing ss m (ms ++ rest) h

whole_breaks : (c : Clause) (trace : List Entry) → BreaksFrom c [] (marks trace) → Breaks c trace
whole_breaks Overlap trace b = b
whole_breaks Number trace b = b
whole_breaks Reads trace b = b

breaks_whole : (c : Clause) (trace : List Entry) → Breaks c trace → BreaksFrom c [] (marks trace)
breaks_whole Overlap trace b = b
breaks_whole Number trace b = b
breaks_whole Reads trace b = b

-- the verdict is exact
pub record IsExact (ss : List Section) (v : Verdict) (es : List Entry) : Type 0 where
  pub sound : (v ≡ Sound) ↔ SoundFrom ss (marks es)
  pub broken : (k : ℕ) (c : Clause) → (v ≡ Broken k c) ↔ (SoundFrom ss (marks (take k es)) × BreaksFrom c ss (marks (take (suc k) es)))

nothing_yet : (ss : List Section) → SoundFrom ss []
nothing_yet ss = record { exclusive = tt; numbered = tt; serial = tt }

sound_is_not_broken : (k : ℕ) (c : Clause) → Sound ≡ Broken k c → ⊥
sound_is_not_broken k c e = cc

later_sound : (v : Verdict) → later v ≡ Sound → v ≡ Sound
later_sound Sound e = refl
later_sound (Broken k c) e = absurd (sound_is_not_broken (suc k) c (sym e))

index_of : Verdict → ℕ
index_of Sound = 0
index_of (Broken k c) = k

clause_of : Clause → Verdict → Clause
clause_of d Sound = d
clause_of d (Broken k c) = c

broken_parts : (j k : ℕ) (c d : Clause) → Broken j c ≡ Broken k d → (j ≡ k) × (c ≡ d)
unfolding index_of clause_of
broken_parts j k c d e = (ap index_of e, ap (clause_of c) e)

later_broken : (v : Verdict) (k : ℕ) (c : Clause) → later v ≡ Broken (suc k) c → v ≡ Broken k c
later_broken Sound k c e = absurd (sound_is_not_broken (suc k) c e)
later_broken (Broken j d) k c e =
    let parts = broken_parts (suc j) (suc k) d c e in
    let same : j ≡ k = omega (arith, parts.0) in
    ap (λ n. Broken n d) same ∙ ap (λ x. Broken k x) parts.1

not_at_once : (v : Verdict) (c : Clause) → later v ≡ Broken 0 c → ⊥
not_at_once Sound c e = sound_is_not_broken 0 c e
not_at_once (Broken j d) c e = let parts = broken_parts (suc j) 0 d c e in omega (arith, parts.0)

-- an item that breaks nothing
broken_later : (ss : List Section) (e : Entry) (es : List Entry) (v : Verdict) → Passes ss (mark_of e.event e.outcome) → IsExact (after_marks ss (mark_of e.event e.outcome)) v es
    → (k : ℕ) (c : Clause) → (later v ≡ Broken k c) ↔ (SoundFrom ss (marks (take k (e ∷ es))) × BreaksFrom c ss (marks (take (suc k) (e ∷ es))))
broken_later ss e es v p x zero c =
    let ms = mark_of e.event e.outcome in
    (λ q. absurd (not_at_once v c q), λ h. absurd (sound_breaks_none c ss (ms ++ []) ((sound_behind ss ms [] p).1 (nothing_yet (after_marks ss ms))) h.1))
broken_later ss e es v p x (suc k) c =
    let ms = mark_of e.event e.outcome in
    let before = sound_behind ss ms (marks (take k es)) p in
    let here = broken_behind c ss ms (marks (take (suc k) es)) p in
    (λ q. let y = (x.broken k c).0 (later_broken v k c q) in (before.1 y.0, here.1 y.1), λ h. ap later ((x.broken k c).1 (before.0 h.0, here.0 h.1)))

exact_later : (ss : List Section) (e : Entry) (es : List Entry) (v : Verdict) → Passes ss (mark_of e.event e.outcome) → IsExact (after_marks ss (mark_of e.event e.outcome)) v es → IsExact ss (later v) (e ∷ es)
exact_later ss e es v p x =
    let behind = sound_behind ss (mark_of e.event e.outcome) (marks es) p in
    record {
      sound = (λ q. behind.1 (x.sound.0 (later_sound v q)), λ h. ap later (x.sound.1 (behind.0 h)));
      broken = broken_later ss e es v p x;
    }

-- an item that breaks a clause
broken_at_once : (ss : List Section) (e : Entry) (es : List Entry) (c : Clause) → broken_at ss (mark_of e.event e.outcome) ≡ Some c
    → (k : ℕ) (d : Clause) → (Broken 0 c ≡ Broken k d) ↔ (SoundFrom ss (marks (take k (e ∷ es))) × BreaksFrom d ss (marks (take (suc k) (e ∷ es))))
broken_at_once ss e es c found zero d =
    let ms = mark_of e.event e.outcome in
    let breaks = item_breaks ss ms c (at_most_one e.event e.outcome) found in
    (λ q. (nothing_yet ss, subst (λ x. BreaksFrom x ss (ms ++ [])) (broken_parts 0 0 c d q).1 breaks), λ h. ap (λ x. Broken 0 x) (breaks_one c d ss (ms ++ []) breaks h.1))
broken_at_once ss e es c found (suc k) d = (
  λ q. let parts = broken_parts 0 (suc k) c d q in absurd (omega (arith, parts.0)),
  λ h. absurd (none_is_no_some c (sym (sound_item ss (mark_of e.event e.outcome) (marks (take k es)) h.0) ∙ found)),
)

exact_at_once : (ss : List Section) (e : Entry) (es : List Entry) (c : Clause) → broken_at ss (mark_of e.event e.outcome) ≡ Some c → IsExact ss (Broken 0 c) (e ∷ es)
exact_at_once ss e es c found = record {
  sound = (λ q. absurd (sound_is_not_broken 0 c (sym q)), λ h. absurd (none_is_no_some c (sym (sound_item ss (mark_of e.event e.outcome) (marks es) h) ∙ found)));
  broken = broken_at_once ss e es c found;
}

exact_item : (ss : List Section) (e : Entry) (es : List Entry) (v : Verdict) (found : Option Clause) → AllClosed (older ss) → broken_at ss (mark_of e.event e.outcome) ≡ found
    → (AllClosed (older (after_marks ss (mark_of e.event e.outcome))) → IsExact (after_marks ss (mark_of e.event e.outcome)) v es) → IsExact ss (after_item found v) (e ∷ es)
exact_item ss e es v None h is behind =
    let p = item_passes ss (mark_of e.event e.outcome) (at_most_one e.event e.outcome) h is in
    exact_later ss e es v p (behind p.left)
exact_item ss e es v (Some c) h is behind = exact_at_once ss e es c is

pub exact : (ss : List Section) (es : List Entry) → AllClosed (older ss) → IsExact ss (judged ss es) es
exact ss [] h = record {
  sound = (λ q. nothing_yet ss, λ s. refl);
  broken = λ k c. (λ q. absurd (sound_is_not_broken k c q), λ b. absurd (sound_breaks_none c ss (marks (take (suc k) [])) (nothing_yet ss) b.1));
}
exact ss (e ∷ es) h =
    let ms = mark_of e.event e.outcome in
    exact_item ss e es (judged (after_marks ss ms) es) (broken_at ss ms) h refl (λ left. exact (after_marks ss ms) es left)

-- a history whose marks all fit is sound
fit_item : (ss : List Section) (ms rest : List Mark) → AtMostOne ms → AllClosed (older ss) → AllFit ss (ms ++ rest) → (broken_at ss ms ≡ None) × AllFit (after_marks ss ms) rest
fit_item ss [] rest one h f = (refl, f)
fit_item ss (m ∷ []) rest one h f = (fitting_breaks_nothing ss m h f.0, f.1)
fit_item ss (m ∷ n ∷ ms) rest one h f = absurd one

pub serial_is_sound : (ss : List Section) (es : List Entry) → AllClosed (older ss) → AllFit ss (marks es) → judged ss es ≡ Sound
serial_is_sound ss [] h f = refl
serial_is_sound ss (e ∷ es) h f =
    let ms = mark_of e.event e.outcome in
    let one = at_most_one e.event e.outcome in
    let fits = fit_item ss ms (marks es) one h f in
    ap (λ o. after_item o (judged (after_marks ss ms) es)) fits.0
    ∙ ap later (serial_is_sound (after_marks ss ms) es (item_passes ss ms one h fits.0).left fits.1)

-- a verdict on a whole trace
pub whole : (trace : List Entry) (v : Verdict) → judged [] trace ≡ v → IsVerdictOf trace v
whole trace v is =
    let x = exact [] trace tt in (
      (λ q. let s = x.sound.0 (is ∙ q) in (s.exclusive, s.numbered, s.serial), λ s. sym is ∙ x.sound.1 (record { exclusive = s.0; numbered = s.1; serial = s.2 })),
      λ k c. (
        λ q. let b = (x.broken k c).0 (is ∙ q) in ((b.0.exclusive, b.0.numbered, b.0.serial), whole_breaks c (take (suc k) trace) b.1),
        λ b. sym is ∙ (x.broken k c).1 (record { exclusive = b.0.0; numbered = b.0.1; serial = b.0.2 }, breaks_whole c (take (suc k) trace) b.1),
      ),
    )

after_more : (ss : List Section) (ms ns : List Mark) → after_marks ss (ms ++ ns) ≡ after_marks (after_marks ss ms) ns
after_more ss [] ns = refl
after_more ss (m ∷ ms) ns = after_more (after_mark ss m) ms ns

-- the item at a place leads on to the sections after it
pub leads_on : (ss : List Section) (trace : List Entry) (i : ℕ) (e : Entry) → i < length trace → e ≡ get_or trace i e
    → after_marks (after_marks ss (mark_of e.event e.outcome)) (marks (drop (i + 1) trace)) ≡ after_marks ss (marks (drop i trace))
leads_on ss trace i e lt is =
    sym (ap (λ (es : List Entry). after_marks ss (marks es)) (drop_here trace i e lt is) ∙ after_more ss (mark_of e.event e.outcome) (marks (drop (i + 1) trace)))

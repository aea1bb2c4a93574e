-- The file of a trace, from its parts.
use Rattle.std.proofs.Common.{◌≡◌, ◌∙◌, List, [], ◌∷◌, ◌++◌, ap, sym, refl, append_assoc, Result, Ok, Err, OnOk, is_ok, if◌then◌else◌}
use Rattle.std.specs.Bool.{⊤}
use Rattle.mx_trace.specs.declared.outcome.Entry.{Entry}
use Rattle.mx_plan.specs.Text.{Text}
use Rattle.mx_plan.specs.Fields.{Fields}
use Rattle.mx_format.specs.Lines.{each_text}
use Rattle.mx_format.specs.EventArrays.{item_text}
use Rattle.mx_format.specs.Files.{file_text, next_text, events_of}

-- the texts of the further events of a trace
each_event : (p : Fields) (trace : List Entry) → each_text (λ entry. next_text p entry.event) trace ≡ each_text (next_text p) (events_of trace)
each_event p [] = refl
each_event p (e ∷ es) = ap (λ l. next_text p e.event ++ l) (each_event p es)

-- what stands after the events
behind : (first each : Text) → (((first ++ each) ++ 10 ∷ []) ++ 93 ∷ []) ++ 10 ∷ [] ≡ (first ++ each) ++ 10 ∷ 93 ∷ 10 ∷ []
behind first each = append_assoc ((first ++ each) ++ 10 ∷ []) (93 ∷ []) (10 ∷ []) ∙ append_assoc (first ++ each) (10 ∷ []) (93 ∷ 10 ∷ [])

-- four pieces, one behind another
joined : (t0 first each last : Text) → (((t0 ++ 91 ∷ 10 ∷ []) ++ first) ++ each) ++ last ≡ t0 ++ (91 ∷ 10 ∷ ((first ++ each) ++ last))
joined t0 first each last =
    append_assoc ((t0 ++ 91 ∷ 10 ∷ []) ++ first) each last ∙ append_assoc (t0 ++ 91 ∷ 10 ∷ []) first (each ++ last)
    ∙ append_assoc t0 (91 ∷ 10 ∷ []) (first ++ (each ++ last)) ∙ ap (λ (l : Text). t0 ++ (91 ∷ 10 ∷ l)) (sym (append_assoc first each last))

-- a file is written in four pieces
pub file_whole : {E : Type 0} (p : Fields) (trace rest : List Entry) (first : Entry) (t0 t1 t2 t3 t4 : Text) (r : Result ⊤ E) → trace ≡ first ∷ rest
    → t1 ≡ t0 ++ (91 ∷ 10 ∷ []) → t2 ≡ t1 ++ item_text p first.event → t3 ≡ t2 ++ each_text (λ entry. next_text p entry.event) rest
    → t4 ≡ (if is_ok r then t3 ++ (10 ∷ 93 ∷ 10 ∷ []) else t3) → OnOk r (t4 ≡ t0 ++ file_text p (events_of trace))
file_whole p trace rest first t0 t1 t2 t3 t4 (Ok done) is e1 e2 e3 e4 =
    let last : Text = 10 ∷ 93 ∷ 10 ∷ [] in
    let item : Text = item_text p first.event in
    let each : Text = each_text (next_text p) (events_of rest) in
    let third : t3 ≡ ((t0 ++ 91 ∷ 10 ∷ []) ++ item) ++ each =
    e3 ∙ ap (λ (l : Text). t2 ++ l) (each_event p rest) ∙ ap (λ (l : Text). l ++ each) (e2 ∙ ap (λ (l : Text). l ++ item) e1) in
    let whole : t4 ≡ t0 ++ file_text p (events_of (first ∷ rest)) =
    e4 ∙ ap (λ (l : Text). l ++ last) third ∙ joined t0 item each last ∙ ap (λ (l : Text). t0 ++ (91 ∷ 10 ∷ l)) (sym (behind item each)) in
    whole ∙ ap (λ (es : List Entry). t0 ++ file_text p (events_of es)) (sym is)
file_whole p trace rest first t0 t1 t2 t3 t4 (Err fault) is e1 e2 e3 e4 = tt

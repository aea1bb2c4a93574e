-- What standard error gets of how far a run has come.
use Rattle.std.proofs.Common.{◌≡◌, ◌≤◌, ◌∙◌, Bool, true, false, ℕ, List, [], ◌∷◌, ◌++◌, ap, arith, map, Result, Ok, Err, OnErr, OnOk, refl, sym, subst}
use Rattle.std.proofs.lemmas.List.{map-append}
use Rattle.std.specs.Io.KnownBytes.{Appends, Keeps}
use Rattle.std.specs.List.{concat}
use Rattle.mx_plan.specs.Text.{Text}
use Rattle.mx_io.specs.Outputs.{Held}
use Rattle.mx_stamps.proofs.Lists.{append_nil}
use Rattle.mx_cli.proofs.OutputLemmas.{Appends-keeps, Appends-nil, Appends-trans}
use Rattle.std.proofs.lemmas.List.Folds.{concat-append}
use Rattle.mx_live.specs.Progress.{Progresses, RiseTo, TellsProgress, progress_line, progress_lines}

-- nothing was told yet
pub none_told : (held : Held) → Progresses 0 held held
none_told held = ([], omega arith, Appends-nil held)

rise_on : (low high more : ℕ) (counts : List ℕ) → RiseTo low counts high → high ≤ more → RiseTo low counts more
rise_on low high more [] rise on = omega (arith, rise, on)
rise_on low high more (count ∷ counts) rise on = (rise.0, rise_on count high more counts rise.1 on)

rise_by : (low high count : ℕ) (counts : List ℕ) → RiseTo low counts high → high ≤ count → RiseTo low (counts ++ count ∷ []) count
rise_by low high count [] rise on = (omega (arith, rise, on), omega arith)
rise_by low high count (first ∷ counts) rise on = (rise.0, rise_by first high count counts rise.1 on)

-- one line more, or nothing
pub more_told : {E : Type 0} (shown count : ℕ) (r : Result (Unit {0}) E) (a b c : Held) → Progresses shown a b → shown ≤ count → OnOk r (Appends b c (progress_line count)) → OnErr r (Keeps b c) → Progresses count a c
more_told shown count (Err e) a b c told on wrote kept = (told.0, rise_on 0 shown count told.0 told.1 on, Appends-keeps a b c (progress_lines told.0) told.2 kept)
more_told shown count (Ok done) a b c told on wrote kept = (
  told.0 ++ count ∷ [],
  rise_by 0 shown count told.0 told.1 on,
  subst (λ (t : Text). Appends a c t)
      (sym (ap (λ (ts : List Text). concat ts) (map-append progress_line told.0 (count ∷ [])) ∙ concat-append (map progress_line told.0) (progress_line count ∷ []) ∙ ap (λ (t : Text). progress_lines told.0 ++ t) (append_nil (progress_line count))))
      (Appends-trans a b c (progress_lines told.0) (progress_line count) told.2 wrote),
)

-- nothing is told
pub tells_none : (asked : Bool) (held : Held) → TellsProgress asked held held
tells_none asked held = (0, (([], omega arith, Appends-nil held), λ not. refl))

-- lines that were requested
pub tells_some : (asked : Bool) (old new : Held) → asked ≡ true → (shown : ℕ) × Progresses shown old new → TellsProgress asked old new
tells_some asked old new is told = (told.0, (told.1, λ not. absurd (let wrong : true ≡ false = sym is ∙ not in cc)))

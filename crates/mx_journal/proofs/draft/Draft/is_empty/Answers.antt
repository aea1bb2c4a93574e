use Rattle.std.proofs.Common.{◌≡◌, ◌==◌, true, List, [], ◌∷◌, length, sym, ◌∙◌, ap, refl, arith}
use Rattle.std.proofs.lemmas.Bool.Decides.{nat_tests}
use Rattle.mx_journal.specs.Drafted.{Drafted}
use Rattle.mx_journal.proofs.draft.Draft.is_empty.Goals as goal

none : {A : Type 0} (xs : List A) → (length xs == 0) ≡ true → xs ≡ []
none [] e = refl
none (x ∷ xs) e = absurd (grind (arith, nat_tests, e))

pub returns-then-is_empty : goal.returns-then-is_empty
returns-then-is_empty c =
    let reads : c.self.inside.reads.items ≡ [] = none c.self.inside.reads.items (sym c.is_empty.ensures ∙ c.if-is_empty.true) in
    let writes = c.self.inside.writes.items in
    (λ t. let e = none writes (sym c.is_empty-then-is_empty.ensures ∙ t) in sym c.self.view_is ∙ rw (reads, e), λ e. c.is_empty-then-is_empty.ensures ∙ ap (λ l. length l == 0) (ap (λ (d : Drafted). d.writes) (c.self.view_is ∙ e)))

use Rattle.std.proofs.Common.{ℕ, ◌≡◌, true, nat_eq, sym, ◌∙◌, ap, arith}
use Rattle.std.proofs.lemmas.Bool.Decides.{nat_tests}
use Rattle.mx_journal.specs.declared.records.Record.{Record}
use Rattle.mx_journal.proofs.records.Record.is.Goals.{then-self-other, else-self-other}
use Rattle.mx_journal.proofs.records.Record.is.Goals as goal

equal : (a b : ℕ) → nat_eq a b ≡ true → a ≡ b
equal a b e = grind (arith, nat_tests, e)

same : (x y : Record) → x.number ≡ y.number → x.node ≡ y.node → x.writes.items ≡ y.writes.items → x ≡ y
same x y p q r =
    let e : ◌≡◌ {A = Record} (record { number = x.number; node = x.node; writes = record { items = x.writes.items } }) (record { number = y.number; node = y.node; writes = record { items = y.writes.items } }) = cc in e

pub returns-then-get : goal.returns-then-get
returns-then-get c =
    let x = c.args.self.now in
    let y = c.args.other.now in
    let there : (x.number ≡ y.number) × (x.node ≡ y.node) = elim c.if-self-other.branch [
      | then-self-other w ↦ (w.if-self-other.true, sym w.get.ensures.value ∙ equal w.get.result w.get-then-self-other.result (sym w.value-is ∙ c.if-get.true) ∙ w.get-then-self-other.ensures.value)
      | else-self-other w ↦ absurd (w.if-self-other.false (equal x.number y.number (sym w.value-is ∙ c.if-get.true)))
    ] in (
      λ t. same x y there.0 there.1 (sym c.as_slice.ensures.value ∙ c.are_same.ensures.0 t ∙ c.as_slice-then-get.ensures.value),
      λ e. c.are_same.ensures.1 (c.as_slice.ensures.value ∙ ap (λ (r : Record). r.writes.items) e ∙ sym c.as_slice-then-get.ensures.value),
    )

use Rattle.std.proofs.Common.{ℕ, ◌≡◌, ◌==◌, ◌+◌, ◌<◌, ◌∙◌, true, false, Option, Some, List, get_or, drop, map, filter, length, add-one, drop-cons, arith}
use Rattle.std.proofs.lemmas.Bool.Decides.{nat_tests}
use Rattle.std.specs.List.{last_or}
use Rattle.mx_journal.specs.declared.records.Write.{Write}
use Rattle.mx_journal.proofs.draft.last_of.Goals.{then-write-register, else-write-register}
use Rattle.mx_journal.proofs.draft.last_of.Goals as goal

taken : (r i : ℕ) (ws : List Write) (d : Write) (last : Option ℕ) → i < length ws → (get_or ws i d).register ≡ r →
    last_or (Some (get_or ws i d).value) (map (λ w. w.value) (filter (λ w. w.register == r) (drop (i + 1) ws))) ≡ last_or last (map (λ w. w.value) (filter (λ w. w.register == r) (drop i ws)))
taken r i ws d last l e = let t : ((get_or ws i d).register == r) ≡ true = grind (arith, nat_tests, e) in rw (add-one, drop-cons ws i d, t)

passed : (r i : ℕ) (ws : List Write) (d : Write) (last : Option ℕ) → i < length ws → ((get_or ws i d).register ≡ r → ⊥) →
    last_or last (map (λ w. w.value) (filter (λ w. w.register == r) (drop (i + 1) ws))) ≡ last_or last (map (λ w. w.value) (filter (λ w. w.register == r) (drop i ws)))
passed r i ws d last l e = let t : ((get_or ws i d).register == r) ≡ false = grind (arith, nat_tests, e) in rw (add-one, drop-cons ws i d, t)

pub loop-write-preserved : goal.loop-write-preserved
loop-write-preserved c = elim c.if-write-register.branch [
  | then-write-register w ↦ rw w.last-is (taken c.args.register c.loop-write.write-index c.args.writes.now _ c.loop-write.last c.loop-write-test.true w.if-write-register.true ∙ c.loop-write.invariant)
  | else-write-register w ↦ rw w.last-is (passed c.args.register c.loop-write.write-index c.args.writes.now _ c.loop-write.last c.loop-write-test.true w.if-write-register.false ∙ c.loop-write.invariant)
]

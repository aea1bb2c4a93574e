-- Reads stay serial while their draft grows.
use Rattle.std.proofs.Common.{ℕ, ◌≡◌, inl, inr, List, [], ◌∷◌, ◌++◌, length, sym, ◌∙◌, ap, subst, arith}
use Rattle.std.proofs.lemmas.List.{length-append, take-append-le, take_all}
use Rattle.mx_stamps.specs.Lists.{IsIn}
use Rattle.mx_stamps.proofs.Lists.{in_append}
use Rattle.mx_journal.specs.declared.records.Write.{Write}
use Rattle.mx_journal.specs.declared.receipts.Read.{Read}
use Rattle.mx_registers.specs.Registers.{applied}
use Rattle.mx_trace.specs.Serial.{IsSerialRead}

-- a write comes after the reads before it
pub serial_write : (before writes : List Write) (w : Write) (read : Read) → IsSerialRead before writes read → IsSerialRead before (writes ++ w ∷ []) read
serial_write before writes w read s = (
  let e = length-append writes (w ∷ []) in omega (arith, s.0),
  s.1 ∙ ap (λ l. applied read.register (before ++ l) 0) (sym (take-append-le read.after writes (w ∷ []) s.0)),
)

-- a read of what all writes so far leave
pub serial_read : (before writes : List Write) (reads : List Read) (register value : ℕ) → ((x : Read) → IsIn x reads → IsSerialRead before writes x) → value ≡ applied register (before ++ writes) 0 →
    (x : Read) → IsIn x (reads ++ record { register = register; value = value; after = length writes } ∷ []) → IsSerialRead before writes x
serial_read before writes reads register value old e x h = elim (in_append x reads (record { register = register; value = value; after = length writes } ∷ []) h) [
  | inl k ↦ old x k
  | inr (inl is) ↦
      subst (λ r. IsSerialRead before writes r) (sym is)
      ((omega arith), e ∙ ap (λ l. applied register (before ++ l) 0) (sym (take_all (length writes) writes (omega arith))))
  | inr (inr bad) ↦ absurd bad
]

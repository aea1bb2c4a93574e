-- What a source holds under a name, and which names were read.
use Rattle.std.specs.Prelude.{◌≡◌, ℕ, List, [], ◌∷◌, ◌++◌, Option, Some, None, ⊤, Result, Ok, Err, Vec, map, if◌then◌else◌}
use Rattle.std.specs.Borrow.{Bor}
use Rattle.std.specs.Str.{bytes_eq}
use Rattle.std.specs.declared.alloc.Global.{Global}
use Rattle.mx_io.specs.declared.source.SourceFault.{SourceFault}
use Rattle.mx_io.specs.declared.source.SourceFault.TheVariants.{Memory}

-- what a source states about a name: its bytes, or `None` if it cannot be read
abbrev pub Telling : Type 0
Telling = Option (List ℕ)

-- the result of reading a name, by what the source states: its bytes, or `Memory` if memory ran
-- out; any fault if it cannot be read
abbrev pub Tells : Telling → Result (Vec ℕ Global) SourceFault → Type 0
Tells (Some bytes) (Ok v) = v.items ≡ bytes
Tells (Some bytes) (Err fault) = fault ≡ Memory
Tells None (Ok v) = ⊥
Tells None (Err fault) = ⊤

-- the bytes of a name in a table: those of its first entry with this name
abbrev pub bytes_of : List (List ℕ × List ℕ) → List ℕ → Telling
bytes_of [] name = None
bytes_of (e ∷ es) name = if bytes_eq e.0 name then Some e.1 else bytes_of es name

-- the entries that the references point to
abbrev pub entries_of : List (Bor (List ℕ) × Bor (List ℕ)) → List (List ℕ × List ℕ)
entries_of = map (λ e. (e.0.now, e.1.now))

-- these names were read after the old ones, in this order, if the old ones are known
abbrev pub Asks : Option (List (List ℕ)) → Option (List (List ℕ)) → List (List ℕ) → Type 0
Asks None new names = ⊤
Asks (Some old) None names = ⊥
Asks (Some old) (Some new) names = new ≡ old ++ names

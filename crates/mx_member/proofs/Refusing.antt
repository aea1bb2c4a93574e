-- What a `?` answers, and what the answers to leaving say.
use Rattle.std.proofs.Common.{◌≡◌, ◌↔◌, Result, Ok, Err, IsErrAnd, OnErr, OnOk, refl, sym, ◌∙◌, ap}
use Rattle.mx_journal.specs.declared.receipts.Receipt.{Receipt}
use Rattle.mx_member.specs.declared.faults.CloseFault.{CloseFault}
use Rattle.mx_member.specs.declared.faults.CloseFault.TheVariants.{Memory, NotInside}

pub is_err : {X F : Type 0} (r : Result X F) (fault : F) → IsErrAnd r (λ x. x ≡ fault) → r ≡ Err fault
is_err {X} {F} (Ok x) fault h = absurd h
is_err {X} {F} (Err x) fault h = ap (λ (f : F). Err f) h

-- what is said of a refusal, and what is said of an answer alone
pub where_err : {X F : Type 0} {P : Type 0} (r : Result X F) → P → OnErr r P
where_err (Ok x) p = tt
where_err (Err x) p = p

pub no_ok : {X F : Type 0} (P : Type 0) (r : Result X F) (fault : F) → r ≡ Err fault → OnOk r P
no_ok P (Ok x) fault e = absurd (let bad : ⊥ = cc in bad)
no_ok P (Err x) fault e = tt

abbrev closed : Receipt → Result Receipt CloseFault
closed receipt = Ok receipt

abbrev kept : CloseFault → Result (Unit {0}) CloseFault
kept fault = Err fault

-- who leaves was inside
pub left : {P : Type 0} (receipt : Receipt) → P → (closed receipt ≡ Err NotInside) ↔ (P → ⊥)
left receipt p = ((λ e. absurd (let bad : ⊥ = cc in bad)), (λ h. absurd (h p)))

pub closed_apart : (receipt : Receipt) → closed receipt ≡ Err Memory → ⊥
closed_apart receipt e = let bad : ⊥ = cc in bad

abbrev unclosed : CloseFault → Result Receipt CloseFault
unclosed fault = Err fault

-- who is told so was not inside
pub not_inside : {P : Type 0} → (P → ⊥) → (unclosed NotInside ≡ Err NotInside) ↔ (P → ⊥)
not_inside out = ((λ _. out), (λ _. refl))

pub memory_apart : (r : Result Receipt CloseFault) → r ≡ Err Memory → r ≡ Err NotInside → ⊥
memory_apart r m e = let q = sym m ∙ e in let bad : ⊥ = cc in bad

-- and so was a node that was refused memory
pub not_left : {P : Type 0} (r : Result Receipt CloseFault) (fault : CloseFault) → r ≡ Err fault → kept fault ≡ Err Memory → P → (r ≡ Err NotInside) ↔ (P → ⊥)
not_left r fault is memory p =
    let f : fault ≡ Memory = cc in
    ((λ e. absurd (memory_apart r (is ∙ ap (λ (x : CloseFault). Err x) f) e)), (λ h. absurd (h p)))

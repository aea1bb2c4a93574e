use Rattle.std.proofs.Common.{◌≡◌, subst, refl}
use Rattle.std.proofs.lemmas.Slice.Eq.{slice_eq-Decides}
use Rattle.mx_journal.specs.declared.records.Write.{Write}
use Rattle.mx_journal.proofs.Alike.{both_decide}
use Rattle.mx_journal.proofs.records.are_same.Goals as goal

-- writes with equal parts are one
same_write : (a b : Write) → a.register ≡ b.register → a.value ≡ b.value → a ≡ b
same_write a b e f = subst (λ x. a ≡ record { register = x; value = b.value }) e (subst (λ x. a ≡ record { register = a.register; value = x }) f refl)

pub returns : goal.returns
returns c = slice_eq-Decides (both_decide (λ (write : Write). write.register) (λ write. write.value) same_write) c.args.writes.now c.args.others.now c.eq.result c.eq.ensures

use Rattle.std.proofs.Common.{ℕ, ◌<◌, ◌≡◌, ◌∷◌, ◌++◌, [], true, false, nat_eq, ap, sym, ◌∙◌, arith}
use Rattle.std.proofs.lemmas.Bool.Decides.{nat_tests}
use Rattle.mx_member.specs.declared.parcel.Parcel.TheVariants.{Want}
use Rattle.mx_member.specs.Steps.{want_to}
use Rattle.mx_member.proofs.Sending.{wants, wants_nothing}
use Rattle.mx_member.proofs.member.Member.want.Goals as goal

-- what the test of the list tells of its length
some : (k : ℕ) → false ≡ nat_eq k 0 → 0 < k
some k e = grind (arith, nat_tests)

none : (k : ℕ) → true ≡ nat_eq k 0 → k ≡ 0
none k e = grind (arith, nat_tests)

pub returns-then-not-is_empty : goal.returns-then-not-is_empty
returns-then-not-is_empty g c =
    rw (← c.self.view_is)
    (record {
      letters = c.add.ensures ∙ ap (λ o. o ++ (c.args.to, Want c.missing-gaps.result) ∷ []) c.requires
          ∙ sym (wants c.args.to c.missing-gaps.result.items (some _ c.if-not-is_empty.ensures))
          ∙ ap (λ rs. want_to c.args.to rs) c.missing-gaps.ensures.value;
    })

pub returns-else-not-is_empty : goal.returns-else-not-is_empty
returns-else-not-is_empty g c =
    rw (← c.self.view_is)
    (record {
      letters = c.requires
          ∙ sym (wants_nothing c.args.to c.missing-gaps.result.items (none _ c.if-not-is_empty.ensures))
          ∙ ap (λ rs. want_to c.args.to rs) c.missing-gaps.ensures.value;
    })

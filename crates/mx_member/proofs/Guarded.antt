use Rattle.std.proofs.Common.{ℕ, ◌<◌, ◌+◌, ◌≡◌, List, [], ◌∷◌, ◌++◌, length, get_or, take, refl, sym, ap}
use Rattle.std.proofs.lemmas.List.{take_more}
use Rattle.mx_member.specs.declared.parcel.Parcel.TheVariants.{Guard}
use Rattle.mx_member.specs.Member.{guarded}

guarded-append : {M : Type 0} (ps qs : List (ℕ × M)) → guarded (ps ++ qs) ≡ guarded ps ++ guarded qs
guarded-append [] qs = refl
guarded-append (p ∷ ps) qs = ap (λ r. (p.0, Guard p.1) ∷ r) (guarded-append ps qs)

pub guarded-more : {M : Type 0} (ps : List (ℕ × M)) (k : ℕ) (p : ℕ × M) → k < length ps → p ≡ get_or ps k p → guarded (take (k + 1) ps) ≡ guarded (take k ps) ++ (p.0, Guard p.1) ∷ []
guarded-more ps k p lt e =
    rw (take_more ps k p lt, guarded-append (take k ps) (get_or ps k p ∷ [])) (ap (λ q. guarded (take k ps) ++ (q.0, Guard q.1) ∷ []) (sym e))

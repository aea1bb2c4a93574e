-- What was read from a reader.
use Rattle.std.proofs.Common.{◌≡◌, ◌∙◌, ◌≤◌, ◌+◌, ℕ, List, Option, Some, None, IfSome, ap, arith, length, min, take}
use Rattle.std.specs.Prelude.{option_map}
use Rattle.std.proofs.lemmas.List.{length-take, take_all}

-- a reader that was read up to a limit, and gave less, was read whole
pub none_cut : (known : Option (List ℕ)) (read : List ℕ) (limit most : ℕ) → limit ≡ most + 1 → length read ≤ most
    → IfSome (option_map (take limit) known) (λ bytes. read ≡ bytes) → IfSome known (λ all. read ≡ all)
none_cut None read limit most is short h = tt
none_cut (Some all) read limit most is short h =
    let cut : length read ≡ min limit (length all) = ap length h ∙ length-take limit all in
    let whole : length all ≤ limit = omega arith in
    h ∙ take_all limit all whole

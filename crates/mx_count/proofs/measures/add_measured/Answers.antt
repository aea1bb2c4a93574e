use Rattle.std.proofs.Common.{arith}
use Rattle.mx_count.proofs.measures.add_measured.Goals as goal

pub end_from-requires : goal.end_from-requires
end_from-requires g c = omega arith

pub letters_in-requires : goal.letters_in-requires
letters_in-requires g c = omega arith

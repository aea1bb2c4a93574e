use Rattle.std.proofs.Common.{◌≡◌, ◌+◌}
use Rattle.std.specs.List.{count_by}
use Rattle.mx_format.specs.Parts.{word_by}
use Rattle.mx_count.specs.Kinds.{is_in}
use Rattle.mx_count.proofs.parcel_rows.count_parcels.Given as goal

abbrev pub invariant-loop-sent : goal.invariant-loop-sent
invariant-loop-sent g l =
    let counts = is_in (word_by g.C.Msg.Letter.parts) l.group in
    l.count + count_by (λ x. counts x.1) l.sent-iterator ≡ count_by counts l.cluster.sent

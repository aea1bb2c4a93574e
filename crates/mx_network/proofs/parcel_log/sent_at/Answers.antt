use Rattle.std.proofs.Common.{ℕ, ◌<◌, ◌∙◌, Some, ap, arith, length, refl}
use Rattle.mx_member.specs.declared.parcel.Parcel.{Parcel}
use Rattle.mx_network.proofs.Finding.{none_at, some_at}
use Rattle.mx_network.proofs.ParcelLogLists.{is_kept, kept_there, none_sent, sent_there}
use Rattle.mx_network.proofs.parcel_log.sent_at.Goals as goal

pub bounds-kept-sending : goal.bounds-kept-sending
bounds-kept-sending g c =
    let sendings = c.args.sendings.now in
    let sending = c.in-Some.sending.now in
    is_kept _ sendings c.args.number sending c.requires (some_at sendings sendings c.args.number sending refl c.in-Some.ensures.lookup.0 c.in-Some.ensures.lookup.1)

pub offset_bounds-kept-sending : goal.offset_bounds-kept-sending
offset_bounds-kept-sending g c =
    let there : c.in-Some.sending.now.place < length c.args.kept.now = bounds-kept-sending g c in omega (arith, there)

pub returns-in-Some-clause-value : goal.returns-in-Some-clause-value
returns-in-Some-clause-value g c =
    let kept = c.args.kept.now in
    let sendings = c.args.sendings.now in
    let sending = c.in-Some.sending.now in
    let at = some_at sendings sendings c.args.number sending refl c.in-Some.ensures.lookup.0 c.in-Some.ensures.lookup.1 in
    sent_there kept sendings c.args.number sending at
    ∙ ap (λ (p : Parcel g.row.M.Denot). let x : ℕ × ℕ × Parcel g.row.M.Denot = (sending.from, sending.to, p) in Some x)
    (kept_there kept sending.place c.index-kept-sending.result (is_kept _ sendings c.args.number sending c.requires at) c.index-kept-sending.is)

pub returns-in-None-clause-value : goal.returns-in-None-clause-value
returns-in-None-clause-value g c =
    let sendings = c.args.sendings.now in
    none_sent c.args.kept.now sendings c.args.number (none_at sendings sendings c.args.number refl c.in-None.ensures.lookup.0)

use Rattle.std.proofs.Common.{arith, ap, length}
use Rattle.mx_network.specs.ParcelLog.{ParcelLogState}
use Rattle.mx_network.proofs.ParcelLogLists.{length_sent}
use Rattle.mx_network.proofs.parcel_log.ParcelLog.len.Goals as goal

pub returns : goal.returns
returns g c =
    let long = c.len.ensures in
    let items = c.self.inside.sendings.ok.0 in
    let sent = length_sent c.self.inside.kept.items c.self.inside.sendings.items in
    let seen = ap (λ (x : ParcelLogState g.row.C-Msg.Denot). length x.sent) c.self.view_is in omega arith

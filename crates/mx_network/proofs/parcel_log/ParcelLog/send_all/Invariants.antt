use Rattle.std.proofs.Common.{◌≡◌, ◌-◌, ◌≤◌, ◌++◌, length, take}
use Rattle.mx_nodelaws.specs.World.{sent_by}
use Rattle.mx_network.proofs.parcel_log.ParcelLog.send_all.Given as goal

abbrev pub invariant-loop-to : goal.invariant-loop-to
invariant-loop-to g l = record {
  added : l.self.sent ≡ l.fn.self.sent ++ sent_by l.from (take l.to-index l.to-items);
  room : length l.to-items - l.to-index ≤ l.self.room;
}

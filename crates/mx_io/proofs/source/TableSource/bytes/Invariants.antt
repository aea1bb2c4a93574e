use Rattle.std.proofs.Common.{◌≡◌, drop}
use Rattle.mx_io.specs.Told.{bytes_of, entries_of}
use Rattle.mx_io.proofs.source.TableSource.bytes.Given as goal

abbrev pub invariant-loop-key : goal.invariant-loop-key
invariant-loop-key l = bytes_of (entries_of l.self.entries.now) l.name ≡ bytes_of (entries_of (drop l.key-index l.self.entries.now)) l.name

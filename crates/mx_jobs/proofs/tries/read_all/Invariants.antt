use Rattle.std.proofs.Common.{◌≡◌, length, take}
use Rattle.mx_jobs.specs.Rounds.{ActsForJob}
use Rattle.mx_jobs.specs.Sections.{Drafts, HasRead}
use Rattle.mx_jobs.proofs.tries.read_all.Given as goal

abbrev pub invariant-loop-register : goal.invariant-loop-register
invariant-loop-register g l =
    Drafts g.C.Exclusion.core l.fn.station l.station.me.member.draft l.station
    × HasRead l.fn.station.me.member.setting.registers (take l.register-index l.registers) l.values.items l.station.me.member.draft
    × (length l.values.items ≡ l.register-index)
    × ActsForJob g.C.Exclusion.core l.fn.station l.station

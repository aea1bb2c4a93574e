use Rattle.std.proofs.Common.{◌++◌, map, take}
use Rattle.mx_journal.specs.declared.records.Write.{Write as OneWrite}
use Rattle.mx_jobs.specs.Laws.{AreThere}
use Rattle.mx_jobs.specs.Rounds.{ActsForJob}
use Rattle.mx_jobs.specs.Sections.{Drafts}
use Rattle.mx_jobs.proofs.tries.write_all.Given as goal

abbrev pub invariant-loop-write : goal.invariant-loop-write
invariant-loop-write g l =
    Drafts g.C.Exclusion.core l.fn.station (record {
      reads = l.fn.station.me.member.draft.reads;
      writes = l.fn.station.me.member.draft.writes ++ take l.write-index l.writes;
    }) l.station
    × AreThere l.fn.station.me.member.setting.registers (map (λ (w : OneWrite). w.register) (take l.write-index l.writes))
    × ActsForJob g.C.Exclusion.core l.fn.station l.station

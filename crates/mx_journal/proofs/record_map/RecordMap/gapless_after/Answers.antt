use Rattle.mx_journal.proofs.record_map.RecordMap.gapless_after.Goals as goal

pub returns : goal.returns
returns c = cc

use Rattle.mx_journal.proofs.record_map.RecordMap.top.Goals as goal

pub returns : goal.returns
returns c = cc

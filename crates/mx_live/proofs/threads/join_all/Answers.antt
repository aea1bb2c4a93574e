use Rattle.mx_live.proofs.threads.join_all.Goals as goal

pub drop-requires-room-T-Destruct : goal.drop-requires-room-T-Destruct
drop-requires-room-T-Destruct g c κs within = search (c.requires-raw.1.1.1.1.1.1, c.requires-raw.1.1.1.1.1.1.0)

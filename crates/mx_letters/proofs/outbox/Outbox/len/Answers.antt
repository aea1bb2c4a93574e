use Rattle.mx_letters.proofs.outbox.Outbox.len.Goals as goal

pub returns : goal.returns
returns g c = cc

use Rattle.mx_letters.proofs.outbox.Outbox.add.Goals as goal

pub returns : goal.returns
returns g c = cc

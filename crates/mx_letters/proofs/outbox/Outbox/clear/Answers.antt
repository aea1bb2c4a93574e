use Rattle.mx_letters.proofs.outbox.Outbox.clear.Goals as goal

pub returns : goal.returns
returns g c = cc

use Rattle.mx_journal.proofs.draft.Draft.clear.Goals as goal

pub returns : goal.returns
returns c = cc

use Rattle.mx_journal.proofs.draft.Draft.new.Goals as goal

pub returns : goal.returns
returns c = cc

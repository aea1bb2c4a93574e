use Rattle.std.specs.Prelude.{ℕ, List, [], ◌∷◌, Ok}
use Rattle.mx_trace.specs.Sections.{Mark, Came, Got, Wrote, Went, Woke}
use Rattle.mx_member.specs.declared.acts.Act.{Act}
use Rattle.mx_member.specs.declared.acts.Act.TheVariants as act
use Rattle.mx_member.specs.declared.acts.Answer.{Answer}
use Rattle.mx_member.specs.declared.acts.Answer.TheVariants as answer

-- the mark of an act of node i, by its result: only a restart and an accepted enter, read, write or
-- leave have one
abbrev pub told : {M : Type 0} → ℕ → Act M → Answer → List Mark
told i act.Enter (answer.Entered (Ok n)) = Came i n ∷ []
told i (act.Read register) (answer.Read (Ok value)) = Got i register value ∷ []
told i (act.Write register value) (answer.Written (Ok done)) = Wrote i register value ∷ []
told i act.Leave (answer.Left (Ok receipt)) = Went i receipt ∷ []
told i act.Restart answer.Woken = Woke i ∷ []
told i _ _ = []

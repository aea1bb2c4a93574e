use Rattle.std.proofs.Common.{◌≡◌, ◌∙◌, ◌++◌, [], ap, arith, length, refl, rules, string_bytes, subst, sym}
use Rattle.std.proofs.lemmas.Grind.{common_steps}
use Rattle.mx_plan.specs.Text.{Text}
use Rattle.mx_format.specs.LetterTexts.{letter_text}
use Rattle.mx_play.specs.Executions.{CanRefuseLine, CanRefuseRedo, CanRefuseUndo, IsDone, IsRedone, IsUndone}
use Rattle.mx_play.specs.Sessions.{SessionState}
use Rattle.mx_play.specs.Views.{mark_line}
use Rattle.mx_play.proofs.ExpectationLemmas.{executed_expect, whatever}
use Rattle.mx_play.proofs.StoreLemmas.{Stores-nil, executed_nothing, executed_save, stores_none}
use Rattle.mx_play.proofs.commands.execute.Goals as goal

pub do_line-requires : goal.do_line-requires
do_line-requires g c = (search c.requires-raw, (c.requires.is, (rw c.in-Does.is at c.requires.over, c.requires.empty)))

pub show-requires : goal.show-requires
show-requires g c = (
  first_of (search rules, search c.requires-raw, search (rules, c.requires-raw), search (arith, c.requires-raw), grind (arith, common_steps) steps 30000000),
  subst (λ (x : SessionState g.row.C.Denot g.row.C-Msg.Denot). length x.state.cluster.members ≡ length c.args.setting.now.plan.now.nodes) (sym c.session.view_is) c.requires.is.members,
)

pub returns-in-Does-clause-executed : goal.returns-in-Does-clause-executed
returns-in-Does-clause-executed g c =
    let s = c.args.setting.now in
    let core = g.C.Exclusion.core in
    let a = c.args.session.now in
    let b = c.do_line.new.session in
    let text = string_bytes c.do_line.new.text in
    let line = c.in-Does.order in
    rw c.in-Does.is (stores_none c.do_line.result (IsDone core (letter_text g.C.Msg.Letter.parts) s.plan.now line c.args.line.now a b text) (CanRefuseLine core line a) (g.W.Store.stored c.args.store.now) a b text c.do_line.ensures.done)

pub returns-in-Undo-clause-executed : goal.returns-in-Undo-clause-executed
returns-in-Undo-clause-executed g c =
    let s = c.args.setting.now in
    let a = c.args.session.now in
    let b = c.undo.new.session in
    let text = string_bytes c.undo.new.text in
    let count = c.in-Undo.count in
    rw c.in-Undo.is (stores_none c.undo.result (IsUndone g.C.Exclusion.core s.plan.now s.shape.now count a b text) (CanRefuseUndo a count) (g.W.Store.stored c.args.store.now) a b text c.undo.ensures.undone)

pub returns-in-Redo-clause-executed : goal.returns-in-Redo-clause-executed
returns-in-Redo-clause-executed g c =
    let a = c.args.session.now in
    let b = c.redo.new.session in
    let text = string_bytes c.redo.new.text in
    rw c.in-Redo.is (stores_none c.redo.result (IsRedone g.C.Exclusion.core a b text) (CanRefuseRedo a) (g.W.Store.stored c.args.store.now) a b text c.redo.ensures.redone)

pub returns-in_ok-add_mark-in-Mark-clause-executed : goal.returns-in_ok-add_mark-in-Mark-clause-executed
returns-in_ok-add_mark-in-Mark-clause-executed g c =
    let word = c.in_ok-second_word-in-Mark.field-0.now in
    rw c.in-Mark.is ([], Stores-nil (g.W.Store.stored c.args.store.now), (word, c.in_ok-second_word-in-Mark.ensures, record { same = refl; printed = c.in_ok-add_mark-in-Mark.ensures ∙ ap (λ (l : Text). l ++ mark_line word) c.requires.empty }, refl))

pub undo-requires : goal.undo-requires
undo-requires g c = (search c.requires-raw, (c.requires.is, c.requires.empty))

pub redo-requires : goal.redo-requires
redo-requires g c = (search c.requires-raw, (c.requires.is, c.requires.empty))

pub add_events-requires : goal.add_events-requires
add_events-requires g c = first_of (search rules, search c.requires-raw, search (rules, c.requires-raw), search (arith, c.requires-raw), grind (arith, common_steps) steps 30000000)

pub returns-in_ok-show-in-Show-clause-executed : goal.returns-in_ok-show-in-Show-clause-executed
returns-in_ok-show-in-Show-clause-executed g c = rw (c.in-Show.is, ← c.session.view_is) ([], Stores-nil (g.W.Store.stored c.args.store.now), (record { same = refl; printed = rw c.requires.empty at c.in_ok-show-in-Show.ensures }, refl))

pub returns-in_ok-show-in-Show-clause-is : goal.returns-in_ok-show-in-Show-clause-is
returns-in_ok-show-in-Show-clause-is g c = c.requires.is

pub returns-in_ok-add_events-in-Events-clause-executed :
    goal.returns-in_ok-add_events-in-Events-clause-executed
returns-in_ok-add_events-in-Events-clause-executed g c = rw (c.in-Events.is, ← c.session-in-Events.view_is) ([], Stores-nil (g.W.Store.stored c.args.store.now), (record { same = refl; printed = rw c.requires.empty at c.in_ok-add_events-in-Events.ensures }, refl))

pub returns-in_ok-add_events-in-Events-clause-is : goal.returns-in_ok-add_events-in-Events-clause-is
returns-in_ok-add_events-in-Events-clause-is g c = c.requires.is

pub returns-in_ok-add_mark-in-Mark-clause-is : goal.returns-in_ok-add_mark-in-Mark-clause-is
returns-in_ok-add_mark-in-Mark-clause-is g c = c.requires.is

pub returns-in_ok-add_words-in-Help-clause-executed :
    goal.returns-in_ok-add_words-in-Help-clause-executed
returns-in_ok-add_words-in-Help-clause-executed g c = rw c.in-Help.is ([], Stores-nil (g.W.Store.stored c.args.store.now), (record { same = refl; printed = rw c.requires.empty at c.in_ok-add_words-in-Help.ensures }, refl))

pub returns-in_ok-add_words-in-Help-clause-is : goal.returns-in_ok-add_words-in-Help-clause-is
returns-in_ok-add_words-in-Help-clause-is g c = c.requires.is

pub returns-in-Expects-clause-executed : goal.returns-in-Expects-clause-executed
returns-in-Expects-clause-executed g c = rw c.in-Expects.is (executed_expect c.expect.result c.args.line.now c.args.session.now (string_bytes c.args.text.now) (g.W.Store.stored c.args.store.now) c.requires.empty c.expect.ensures)

pub returns-in-Expects-clause-is : goal.returns-in-Expects-clause-is
returns-in-Expects-clause-is g c = whatever c.expect.result c.requires.is

pub returns-in_ok-add_script-in-Script-clause-executed :
    goal.returns-in_ok-add_script-in-Script-clause-executed
returns-in_ok-add_script-in-Script-clause-executed g c = rw (c.in-Script.is, ← c.session-in-Script.view_is, ← c.as_slice.ensures.value) ([], Stores-nil (g.W.Store.stored c.args.store.now), (record { same = refl; printed = rw c.requires.empty at c.in_ok-add_script-in-Script.ensures }, refl))

pub returns-in_ok-add_script-in-Script-clause-is : goal.returns-in_ok-add_script-in-Script-clause-is
returns-in_ok-add_script-in-Script-clause-is g c = c.requires.is

pub returns-in_ok-name-in-Save-clause-executed : goal.returns-in_ok-name-in-Save-clause-executed
returns-in_ok-name-in-Save-clause-executed g c =
    let a = c.args.session.now in
    let p = c.args.setting.now.plan.now in
    let s = g.W.Store.stored c.args.store.now in
    let t = g.W.Store.stored c.save.new.store in
    let word = c.in_ok-name-in-Save.name.now in
    let old = string_bytes c.args.text.now in
    let new = string_bytes c.save.new.text in
    let lines = c.as_slice-lines.ensures.value ∙ ap (λ (x : SessionState g.row.C.Denot g.row.C-Msg.Denot). x.lines) c.session-in-Save.view_is in
    rw c.in-Save.is (executed_save c.save.result p a c.as_slice-lines.result.now c.args.line.now word old new s t lines c.in_ok-name-in-Save.ensures c.requires.empty c.save.ensures)

pub returns-in_ok-name-in-Save-clause-is : goal.returns-in_ok-name-in-Save-clause-is
returns-in_ok-name-in-Save-clause-is g c = whatever c.save.result c.requires.is

pub returns-in-End-clause-executed : goal.returns-in-End-clause-executed
returns-in-End-clause-executed g c =
    let s = c.args.setting.now in
    executed_nothing g.C.Exclusion.core (letter_text g.C.Msg.Letter.parts) g.C.Knowledge.knows s.plan.now s.shape.now c.args.line.now c.args.session.now (string_bytes c.args.text.now) c.requires.empty (g.W.Store.stored c.args.store.now) c.args.command.now c.in-End.is

pub returns-in-End-2-clause-executed : goal.returns-in-End-2-clause-executed
returns-in-End-2-clause-executed g c =
    let s = c.args.setting.now in
    executed_nothing g.C.Exclusion.core (letter_text g.C.Msg.Letter.parts) g.C.Knowledge.knows s.plan.now s.shape.now c.args.line.now c.args.session.now (string_bytes c.args.text.now) c.requires.empty (g.W.Store.stored c.args.store.now) c.args.command.now c.in-End.is

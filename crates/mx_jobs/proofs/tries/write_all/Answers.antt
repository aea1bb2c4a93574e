use Rattle.std.proofs.Common.{◌<◌, ◌∙◌, ◌++◌, List, ap, get_or, map, subst, sym}
use Rattle.std.proofs.lemmas.List.{take_all}
use Rattle.mx_journal.specs.Drafted.{Drafted}
use Rattle.mx_journal.specs.declared.records.Write.{Write as OneWrite}
use Rattle.mx_member.specs.declared.acts.Act.TheVariants.{Write}
use Rattle.mx_member.specs.Member.{Setting}
use Rattle.mx_jobs.specs.Laws.{AreThere}
use Rattle.mx_jobs.specs.Sections.{Drafts}
use Rattle.mx_jobs.proofs.Members.{room_left, there_on, write_drafts, write_lacks, write_on, write_there, written_at}
use Rattle.mx_jobs.proofs.Rounding.{acted_on, if_err, one_act}
use Rattle.mx_jobs.proofs.tries.write_all.Goals as goal

pub loop-write-preserved : goal.loop-write-preserved
loop-write-preserved g c =
    let core = g.C.Exclusion.core in
    let did = write_drafts core _ _ c.loop-write.station c.write.new.self c.in_ok-write.ensures.answer c.in_ok-write.ensures.done in
    let none : OneWrite = record { register = 0; value = 0 } in
    let low = c.loop-write-test.true in (
      write_on core c.args.writes.now c.loop-write.write-index none _ c.loop-write.station _ c.args.station.now.me.member.draft low c.loop-write.invariant.0 did,
      there_on core c.args.writes.now c.loop-write.write-index none c.args.station.now c.loop-write.station low (write_there core _ _ c.loop-write.station c.in_ok-write.ensures.answer) c.loop-write.invariant.0.rests.setting c.loop-write.invariant.1,
      acted_on core _ _ _ c.loop-write.invariant.2 (one_act core (Write _ _) _ _ tt c.in_ok-write.ensures.done),
    )

pub returns-clause-drafts : goal.returns-clause-drafts
returns-clause-drafts g c =
    let d = c.args.station.now.me.member.draft in
    subst (λ (ws : List OneWrite). Drafts g.C.Exclusion.core c.args.station.now (record { reads = d.reads; writes = d.writes ++ ws }) c.loop-write.station × AreThere c.args.station.now.me.member.setting.registers (map (λ (w : OneWrite). w.register) ws))
    (take_all c.loop-write.write-index c.args.writes.now c.loop-write-test.false) (c.loop-write.invariant.0, c.loop-write.invariant.1)

pub returns-clause-rests : goal.returns-clause-rests
returns-clause-rests g c = c.loop-write.invariant.0.rests

pub returns-in_err-write-clause-lacks : goal.returns-in_err-write-clause-lacks
returns-in_err-write-clause-lacks g c =
    let core = g.C.Exclusion.core in
    let so_far = c.loop-write.invariant.0 in
    let none : OneWrite = record { register = 0; value = 0 } in
    let low = c.loop-write-test.true in
    if_err c.from_residual.result
    (λ there. write_lacks core _ _ _ c.loop-write.station (c.requires.inside.0, ap core.phase so_far.same_core ∙ c.requires.inside.1)
    (room_left c.args.station.now.me.member.draft.writes c.args.writes.now c.loop-write.write-index c.loop-write.station.me.member.draft.writes c.requires.none c.requires.few low (ap (λ (d : Drafted). d.writes) so_far.drafted))
    c.in_err-write.ensures.answer
    (subst (λ (x : Setting). (get_or c.args.writes.now c.loop-write.write-index none).register < x.registers) (sym so_far.rests.setting) (written_at _ c.args.writes.now c.loop-write.write-index none low there)))

use Rattle.std.proofs.Common.{◌≤◌, ℕ, IfOk, map, subst, sym}
use Rattle.std.proofs.lemmas.Result.{IfErr-weaker, IfOk-weaker}
use Rattle.mx_stamps.specs.declared.limits.TheConstants.{MAX_REGISTERS}
use Rattle.mx_stations.specs.Turns.{Station}
use Rattle.mx_jobs.specs.declared.worker.Ended.TheVariants.{Done}
use Rattle.mx_jobs.specs.Runs.{AreBack, HaveRun}
use Rattle.mx_jobs.proofs.Laws.{law_holds}
use Rattle.mx_jobs.proofs.Promised.{done_back, new_rests, of_one_table}
use Rattle.mx_jobs.proofs.Telling.{memory_told}
use Rattle.mx_jobs.proofs.runs.run.Goals as goal

pub finish-requires : goal.finish-requires
finish-requires g c =
    let new = c.requires.new in
    let core = g.C.Exclusion.core in
    let rests = new_rests core new.shape new.origin new.limit new.registers c.args.stations.items new.fresh_ones in
    (search (c.requires-raw.1.1.1.1.1.1.1.1.1.1.1.1.1.1.1.1, c.requires-raw.1.1.1.1.1.1.1.1.1.1.1.1.1.1.1.1.0), of_one_table g.J.Job.terms core c.args.options c.args.stations.items c.args.jobs.items _ _ _ rests c.in-Ok.ensures.done)

pub returns-in-Ok-clause-ran : goal.returns-in-Ok-clause-ran
returns-in-Ok-clause-ran g c =
    let new = c.requires.new in
    let core = g.C.Exclusion.core in
    let rests = new_rests core new.shape new.origin new.limit new.registers c.args.stations.items new.fresh_ones in
    subst (λ (n : ℕ). IfOk c.finish.result (λ out. HaveRun g.J.Job.terms n c.args.jobs.items out.gathered.receipts.items out.gathered.journal out.jobs.items)) new.have
    (c.finish.ensures.ok _ c.args.options c.args.stations.items c.args.jobs.items rests c.in-Ok.ensures.done)

pub returns-in-Ok-clause-law : goal.returns-in-Ok-clause-law
returns-in-Ok-clause-law g c =
    let new = c.requires.new in
    let few = subst (λ (n : ℕ). n ≤ MAX_REGISTERS) new.have new.few in
    IfOk-weaker c.finish.result _ _ (λ out ran. law_holds g.J.Job.terms _ c.args.jobs.items _ _ _ ran c.requires.begins few) (returns-in-Ok-clause-ran g c)

pub returns-in-Ok-clause-told : goal.returns-in-Ok-clause-told
returns-in-Ok-clause-told g c = IfErr-weaker c.finish.result _ _ (λ back so. memory_told back.fault _ so.0) c.finish.ensures.err

pub returns-in-Ok-clause-back : goal.returns-in-Ok-clause-back
returns-in-Ok-clause-back g c = λ each.
    let posts = c.args.stations.items in
    let all = c.args.jobs.items in
    let ran = c.in-Ok.ran in
    let ends = map (λ (s : Station g.C.Exclusion.core). Done) ran.stations.items in
    IfErr-weaker c.finish.result _ _
    (λ back so. (
      ends,
      subst (λ ss. AreBack g.J.Job.terms g.C.Exclusion.core c.args.options posts all ends ss back.jobs.items) (sym so.1)
          (subst (λ js. AreBack g.J.Job.terms g.C.Exclusion.core c.args.options posts all ends ran.stations.items js.items) (sym so.2) (done_back g.J.Job.terms g.C.Exclusion.core c.args.options posts all _ _ c.in-Ok.ensures.done)),
    ))
    c.finish.ensures.err

pub run_stations-requires-send-C : goal.run_stations-requires-send-C
run_stations-requires-send-C g c κs within = c.type_bounds.send-C

pub run_stations-requires-send-J : goal.run_stations-requires-send-J
run_stations-requires-send-J g c κs within = c.type_bounds.send-J

pub run_stations-requires-send-F : goal.run_stations-requires-send-F
run_stations-requires-send-F g c κs within = c.type_bounds.send-F

pub run_stations-requires-send-C-Msg : goal.run_stations-requires-send-C-Msg
run_stations-requires-send-C-Msg g c κs within = c.type_bounds.send-C-Msg

pub run_stations-requires-send-C-Shape : goal.run_stations-requires-send-C-Shape
run_stations-requires-send-C-Shape g c κs within = c.type_bounds.send-C-Shape

pub run_stations-requires-after_bounds : goal.run_stations-requires-after_bounds
run_stations-requires-after_bounds g c κs within = (search (c.requires-raw.1.1.1.1.1.1.1.1.1.1.1.1.1.1.1.1, c.requires-raw.1.1.1.1.1.1.1.1.1.1.1.1.1.1.1.1.0), c.requires.ready)

pub run_stations-requires-send-R : goal.run_stations-requires-send-R
run_stations-requires-send-R g c κs within = c.type_bounds.send-R

pub run_stations-requires-sync-R : goal.run_stations-requires-sync-R
run_stations-requires-sync-R g c κs within = c.type_bounds.sync-R

use Rattle.std.proofs.Common.{◌∙◌, ◌++◌, List, ℕ, ap, arith, inl, inr, map, refl, sym, subst}
use Rattle.mx_journal.specs.Drafted.{Drafted}
use Rattle.mx_journal.specs.declared.records.Write.{Write as OneWrite}
use Rattle.mx_member.specs.Member.{Setting}
use Rattle.mx_member.specs.declared.acts.Act.TheVariants.{Restart}
use Rattle.mx_stamps.proofs.Choices.{bool_cases}
use Rattle.mx_stations.specs.Turns.{Station}
use Rattle.mx_jobs.specs.declared.tries.JobFault.{JobFault}
use Rattle.mx_jobs.specs.declared.tries.JobFault.TheVariants.{NoRegister}
use Rattle.mx_jobs.specs.Laws.{AreThere, KeepsLaw}
use Rattle.mx_jobs.specs.Sections.{CannotGoOn, Drafts, Pends, Rests}
use Rattle.mx_jobs.proofs.Able.{left_able}
use Rattle.mx_jobs.proofs.Members.{restarted, rests_on, same_ok}
use Rattle.mx_jobs.proofs.Made.{pending_left, section_pends}
use Rattle.mx_jobs.proofs.Rounding.{acted_on, err_then, if_err, no_act, one_act, serves_acting, serves_leaving}
use Rattle.mx_jobs.proofs.tries.try_section.Goals as goal

pub outcome_of-requires : goal.outcome_of-requires
outcome_of-requires g c = omega arith

pub read_all-requires : goal.read_all-requires
read_all-requires g c = (search (c.requires-raw), (c.requires.few, (restarted g.C.Exclusion.core c.args.station.now c.restart.new.self c.restart.ensures).drafted))

pub write_all-requires : goal.write_all-requires
write_all-requires g c =
    let core = g.C.Exclusion.core in
    let read = c.in-Ok.ensures.read in
    let same = c.read_all.ensures.phase ∙ (restarted core c.args.station.now c.restart.new.self c.restart.ensures).same_core in (
      search (c.requires-raw),
      (c.as_slice-in-Ok.ensures.fits, (ap (λ (d : Drafted). d.writes) read.2.drafted ∙ read.1.no_writes, (c.in-Inside.number, ap core.phase same ∙ sym c.in-Inside.ensures.value))),
    )

pub try_leave-has_left-requires : goal.try_leave-has_left-requires
try_leave-has_left-requires g c = search (c.requires-raw)

pub returns-in_ok-write_all-in-Ok : goal.returns-in_ok-write_all-in-Ok
returns-in_ok-write_all-in-Ok g c =
    let core = g.C.Exclusion.core in let terms = g.J.Job.terms in
    let job = c.args.job.now in let after = c.section-writes.new.self in
    let number = c.in-Inside.number in let writes = c.section-writes.result.items in
    let read = c.read_all.new.station in let d = read.me.member.draft in
    let woke = restarted core c.args.station.now c.restart.new.self c.restart.ensures in
    let drafts = c.in_ok-write_all-in-Ok.ensures.drafts in
    let made = section_pends terms core job after number c.args.registers.now c.in-Ok.values.items writes
    c.args.station.now c.restart.new.self read c.write_all.new.station (sym c.in-Inside.ensures.value) c.requires.asked
    (subst (λ (vs : List ℕ). terms.makes job number vs writes after) c.as_slice.ensures.value c.section-writes.ensures.made)
    (subst (λ (vs : List ℕ). KeepsLaw terms job number vs writes) c.as_slice.ensures.value c.section-writes.ensures.keeps)
    woke c.in-Ok.ensures.read
    (subst (λ (ws : List OneWrite). Drafts core read (record { reads = d.reads; writes = d.writes ++ ws }) c.write_all.new.station × AreThere read.me.member.setting.registers (map (λ (w : OneWrite). w.register) ws)) c.as_slice-in-Ok.ensures.value drafts) in
    let tried = c.try_leave-has_left.ensures in let told = c.outcome_of.ensures in
    record {
      ready = c.section-writes.ensures.ready;
      left = λ e. let has = tried.left (told.left (same_ok {F = JobFault} _ _ e)) in
          pending_left terms core job after has.0 c.args.station.now c.write_all.new.station c.try_leave-has_left.new.station made.0 made.1 has.1 has.2;
      pending = λ e. subst (λ (z : Station core). Rests core c.args.station.now z × Pends terms core job z after) (sym (tried.kept (told.pending (same_ok {F = JobFault} _ _ e)))) made;
      outside = λ e. absurd (told.inside (same_ok {F = JobFault} _ _ e));
      gap = λ e. absurd (told.whole (same_ok {F = JobFault} _ _ e));
      able = λ e. left_able core g.met.C.Exclusion.phases number c.write_all.new.station c.try_leave-has_left.new.station
          (ap core.phase (drafts.0.same_core ∙ c.read_all.ensures.phase ∙ woke.same_core) ∙ sym c.in-Inside.ensures.value) (tried.left (told.left (same_ok {F = JobFault} _ _ e))).2;
      serves = serves_leaving core _ _ _ (acted_on core _ _ _ (acted_on core _ _ _ (one_act core Restart c.args.station.now c.restart.new.self tt c.restart.ensures) c.read_all.ensures.acts) c.write_all.ensures.acts)
          (elim (bool_cases c.try_leave-has_left.result) [
            | inl t ↦ inr (tried.left t).2
            | inr f ↦ inl (tried.kept f)
          ]);
      acts = λ e. absurd (told.whole (same_ok {F = JobFault} _ _ e));
      broken = tt;
      fails = tt;
    }

pub returns-in-Err : goal.returns-in-Err
returns-in-Err g c =
    let core = g.C.Exclusion.core in
    let rests = rests_on core _ _ _ (restarted core _ _ c.restart.ensures).rests c.read_all.ensures.rests in
    let acts = acted_on core _ _ _ (one_act core Restart c.args.station.now c.restart.new.self tt c.restart.ensures) c.read_all.ensures.acts in
    record {
      left = λ e. cc;
      pending = λ e. cc;
      outside = λ e. cc;
      gap = λ e. (refl, rests, c.read_all.ensures.phase ∙ (restarted core c.args.station.now c.restart.new.self c.restart.ensures).same_core);
      able = λ e. cc;
      ready = c.requires.ready;
      fails = tt;
      serves = serves_acting core _ _ acts;
      acts = λ e. acts;
      broken = tt;
    }

pub returns-in_default-clause-serves : goal.returns-in_default-clause-serves
returns-in_default-clause-serves g c = serves_acting g.C.Exclusion.core _ _ (no_act g.C.Exclusion.core c.args.station.now c.args.station.now refl)

pub returns-in-Err-NoRegister-clause-broken : goal.returns-in-Err-NoRegister-clause-broken
returns-in-Err-NoRegister-clause-broken g c =
    let core = g.C.Exclusion.core in
    acted_on core _ _ _ (one_act core Restart c.args.station.now c.restart.new.self tt c.restart.ensures) c.read_all.ensures.acts

pub returns-in_err-write_all-in-Ok-clause-broken : goal.returns-in_err-write_all-in-Ok-clause-broken
returns-in_err-write_all-in-Ok-clause-broken g c =
    let core = g.C.Exclusion.core in
    if_err c.from_residual.result
    (acted_on core _ _ _ (acted_on core _ _ _ (one_act core Restart c.args.station.now c.restart.new.self tt c.restart.ensures) c.read_all.ensures.acts) c.write_all.ensures.acts)

pub section-writes-requires : goal.section-writes-requires
section-writes-requires g c = c.requires.ready

pub returns-in-Err-NoRegister-clause-fails : goal.returns-in-Err-NoRegister-clause-fails
returns-in-Err-NoRegister-clause-fails g c =
    let core = g.C.Exclusion.core in
    let read = c.read_all.ensures in (
      rests_on core c.args.station.now c.restart.new.self c.read_all.new.station (restarted core c.args.station.now c.restart.new.self c.restart.ensures).rests read.rests,
      inl (refl, (c.args.registers.now, c.requires.asked, λ there. read.lacks (cc) (subst (λ (x : Setting). AreThere x.registers c.args.registers.now) read.rests.setting there))),
    )

pub returns-in_err-write_all-in-Ok-clause-fails : goal.returns-in_err-write_all-in-Ok-clause-fails
returns-in_err-write_all-in-Ok-clause-fails g c =
    let core = g.C.Exclusion.core in
    let wrote = c.write_all.ensures in
    let writes = c.section-writes.result.items in
    let rests = rests_on core c.args.station.now c.read_all.new.station c.write_all.new.station (rests_on core c.args.station.now c.restart.new.self c.read_all.new.station (restarted core c.args.station.now c.restart.new.self c.restart.ensures).rests c.read_all.ensures.rests) wrote.rests in
    let lacks : AreThere c.write_all.new.station.me.member.setting.registers (map (λ (w : OneWrite). w.register) writes) → ⊥ = λ there.
    c.in_err-write_all-in-Ok.ensures.lacks
    (subst (λ (ws : List OneWrite). AreThere c.read_all.new.station.me.member.setting.registers (map (λ (w : OneWrite). w.register) ws)) (sym c.as_slice-in-Ok.ensures.value)
    (subst (λ (x : Setting). AreThere x.registers (map (λ (w : OneWrite). w.register) writes)) wrote.rests.setting there)) in
    err_then (λ (w : JobFault). Rests core c.args.station.now c.write_all.new.station × CannotGoOn g.J.Job.terms core w c.args.job.now c.section-writes.new.self c.write_all.new.station)
    c.from_residual.result NoRegister c.from_residual.ensures.1
    (rests, inr (c.in-Inside.number, c.in-Ok.values.items, writes, subst (λ (vs : List ℕ). g.J.Job.terms.makes c.args.job.now c.in-Inside.number vs writes c.section-writes.new.self) c.as_slice.ensures.value c.section-writes.ensures.made, lacks))

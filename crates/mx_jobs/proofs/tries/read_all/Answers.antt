use Rattle.std.proofs.Common.{◌≡◌, ◌<◌, Err, arith, get_or, refl, ap, length, subst, sym}
use Rattle.std.proofs.lemmas.List.{take_all}
use Rattle.mx_member.specs.declared.acts.Act.TheVariants.{Read}
use Rattle.mx_member.specs.declared.faults.ReadFault.{ReadFault}
use Rattle.mx_member.specs.declared.faults.ReadFault.TheVariants.{NoRegister}
use Rattle.mx_member.specs.Member.{Setting}
use Rattle.mx_member.specs.Steps.{read_of}
use Rattle.mx_jobs.proofs.Members.{all_read, drafts_here, nothing_read, read_drafts, read_lacks, read_on, read_there, there_at, which}
use Rattle.mx_jobs.proofs.Rounding.{acted_on, no_act, one_act}
use Rattle.mx_jobs.proofs.tries.read_all.Goals as goal

pub push-requires : goal.push-requires
push-requires g c = omega arith

pub loop-register-init : goal.loop-register-init
loop-register-init g c = (drafts_here g.C.Exclusion.core _ _ refl, nothing_read _ _ _ c.new-values.ensures c.requires.empty, ap length c.new-values.ensures, no_act g.C.Exclusion.core _ _ refl)

pub loop-register-preserved : goal.loop-register-preserved
loop-register-preserved g c =
    let core = g.C.Exclusion.core in
    let did = read_drafts core _ c.in_ok-value.value c.loop-register.station c.read.new.self c.in_ok-value.ensures.answer c.in_ok-value.ensures.done in
    let so_far = c.loop-register.invariant in
    let more =
    read_on core c.args.registers.now c.loop-register.values.items _ c.loop-register.register-index c.in_ok-value.value _ c.loop-register.station _ c.loop-register-test.true (read_there core _ c.in_ok-value.value c.loop-register.station c.in_ok-value.ensures.answer)
    (so_far.0, so_far.1, so_far.2) did c.push.ensures.items in
    (more.0, more.1, more.2, acted_on core _ _ _ so_far.3 (one_act core (Read _) _ _ tt c.in_ok-value.ensures.done))

pub returns-clause-read : goal.returns-clause-read
returns-clause-read g c =
    let so_far = c.loop-register.invariant in
    (_, all_read _ c.args.registers.now _ c.loop-register.register-index _ (take_all c.loop-register.register-index c.args.registers.now c.loop-register-test.false) so_far.1, so_far.0)

pub returns-clause-phase : goal.returns-clause-phase
returns-clause-phase g c = c.loop-register.invariant.0.same_core

pub returns-in_err-value-clause-lacks : goal.returns-in_err-value-clause-lacks
returns-in_err-value-clause-lacks g c = λ e there.
    let core = g.C.Exclusion.core in
    let why : c.in_err-value.field-0.0 ≡ NoRegister = which c.from_residual.result _ _ c.from_residual.ensures.1 e in
    let setting = c.loop-register.invariant.0.rests.setting in
    read_lacks core _ c.loop-register.station (subst (λ (f : ReadFault). Err f ≡ (read_of core (get_or c.args.registers.now c.loop-register.register-index 0) c.loop-register.station.me.member).answer) why c.in_err-value.ensures.answer)
    (subst (λ (x : Setting). get_or c.args.registers.now c.loop-register.register-index 0 < x.registers) (sym setting) (there_at _ c.args.registers.now c.loop-register.register-index c.loop-register-test.true there))

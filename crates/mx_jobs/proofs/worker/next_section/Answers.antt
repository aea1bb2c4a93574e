use Rattle.std.proofs.Common.{◌∙◌, inl, inr, Bool, Ok, ap, refl, subst, sym}
use Rattle.mx_stamps.proofs.Choices.{not_both}
use Rattle.mx_stations.specs.Turns.{Station}
use Rattle.mx_jobs.specs.declared.tries.JobFault.{JobFault}
use Rattle.mx_jobs.specs.Sections.{CannotGoOn, Reaches, Rests}
use Rattle.mx_jobs.proofs.Able.{entered_able, inside_able, refused_spent, same_able}
use Rattle.mx_jobs.proofs.Advancing.{begins, left_after, pending, settled, stands}
use Rattle.mx_jobs.proofs.Members.{rests_here, rests_on}
use Rattle.mx_jobs.proofs.Rounding.{acted_on, err_then, if_err, serves_acting, serves_on}
use Rattle.mx_jobs.proofs.worker.next_section.Goals as goal

pub want_next-requires : goal.want_next-requires
want_next-requires g c = search (c.requires-raw)

pub returns-in-Left : goal.returns-in-Left
returns-in-Left g c =
    let core = g.C.Exclusion.core in let phases = g.met.C.Exclusion.phases in let terms = g.J.Job.terms in
    let begun = begins core c.ask.result c.enter.result _ _ _ c.ask.ensures.done c.ask.ensures.refused c.enter.ensures.done c.enter.ensures.refused in
    let entered = entered_able core phases c.enter.result c.ask.new.self c.enter.new.self c.enter.ensures.answer (λ is. not_both _ (c.is_spent.ensures.1 is) c.if-is_spent.false) c.enter.ensures.done c.enter.ensures.refused in
    let tried = c.in_ok-try_section.ensures in
    record {
      ready = tried.ready;
      reaches = subst (λ (p : Bool). Reaches terms core p c.args.job.now c.args.station.now c.try_section.new.job c.try_section.new.station) (sym c.requires.left) (settled terms core _ _ _ _ (elim c.in-Left.is [
        | inl is ↦ left_after terms core _ _ _ _ _ begun.0 (tried.left (ap (λ x. Ok x) is))
        | inr is ↦ let did = tried.outside (ap (λ x. Ok x) is) in stands terms core _ _ _ _ did.0 (rests_on core _ _ _ begun.0 (rests_here core _ _ did.1))
      ]));
      serves = serves_on core _ _ _ begun.1 tried.serves;
      able = elim c.in-Left.is [
        | inl is ↦ tried.able (ap (λ x. Ok x) is)
        | inr is ↦ same_able core phases c.enter.new.self c.try_section.new.station (ap (λ (s : Station core). s.me.member.core) (tried.outside (ap (λ x. Ok x) is)).1) entered
      ];
      broken = tt;
      fails = tt;
    }

pub returns-in-Pending : goal.returns-in-Pending
returns-in-Pending g c =
    let core = g.C.Exclusion.core in
    let begun = begins core c.ask.result c.enter.result _ _ _ c.ask.ensures.done c.ask.ensures.refused c.enter.ensures.done c.enter.ensures.refused in
    let tried = c.in_ok-try_section.ensures in let did = tried.pending (ap (λ x. Ok x) c.in-Pending.is) in
    record {
      ready = tried.ready;
      reaches = pending g.J.Job.terms core _ _ _ _ (rests_on core _ _ _ begun.0 did.0) did.1;
      serves = serves_on core _ _ _ begun.1 tried.serves;
      able = inside_able core g.met.C.Exclusion.phases _ c.try_section.new.station did.1.inside;
      broken = tt;
      fails = tt;
    }

pub returns-in-Gap : goal.returns-in-Gap
returns-in-Gap g c =
    let core = g.C.Exclusion.core in let phases = g.met.C.Exclusion.phases in let terms = g.J.Job.terms in
    let begun = begins core c.ask.result c.enter.result _ _ _ c.ask.ensures.done c.ask.ensures.refused c.enter.ensures.done c.enter.ensures.refused in
    let entered = entered_able core phases c.enter.result c.ask.new.self c.enter.new.self c.enter.ensures.answer (λ is. not_both _ (c.is_spent.ensures.1 is) c.if-is_spent.false) c.enter.ensures.done c.enter.ensures.refused in
    let tried = c.in_ok-try_section.ensures in let did = tried.gap (ap (λ x. Ok x) c.in-Gap.is) in
    record {
      ready = tried.ready;
      reaches = subst (λ (p : Bool). Reaches terms core p c.args.job.now c.args.station.now c.try_section.new.job c.want_next.new.station) (sym c.requires.left ∙ sym c.want_next.ensures.same)
          (settled terms core _ _ _ _ (stands terms core _ _ _ _ did.0 (rests_on core _ _ _ begun.0 (rests_on core _ _ _ did.1 c.want_next.ensures.rests))));
      serves = serves_acting core _ _ (acted_on core _ _ _ begun.1 (acted_on core _ _ _ (tried.acts (ap (λ x. Ok x) c.in-Gap.is)) c.want_next.ensures.acts));
      able = same_able core phases c.enter.new.self c.want_next.new.station (c.want_next.ensures.phase ∙ did.2) entered;
      broken = tt;
      fails = tt;
    }

pub returns-then-is_spent : goal.returns-then-is_spent
returns-then-is_spent g c =
    let core = g.C.Exclusion.core in
    let begun = begins core c.ask.result c.enter.result _ _ _ c.ask.ensures.done c.ask.ensures.refused c.enter.ensures.done c.enter.ensures.refused in
    record {
      ready = c.requires.ready;
      reaches = tt;
      serves = tt;
      able = tt;
      broken = begun.1;
      fails = (begun.0, (refl, refused_spent core g.met.C.Exclusion.phases c.enter.result c.ask.new.self c.enter.new.self c.enter.ensures.answer (c.if-is_spent.ensures.0 refl) c.enter.ensures.refused));
    }

pub returns-in_err-try_section-clause-broken : goal.returns-in_err-try_section-clause-broken
returns-in_err-try_section-clause-broken g c =
    let core = g.C.Exclusion.core in
    let begun = begins core c.ask.result c.enter.result _ _ _ c.ask.ensures.done c.ask.ensures.refused c.enter.ensures.done c.enter.ensures.refused in
    if_err c.from_residual.result (acted_on core _ _ _ begun.1 c.in_err-try_section.ensures.broken)

pub returns-in_err-try_section-clause-fails : goal.returns-in_err-try_section-clause-fails
returns-in_err-try_section-clause-fails g c =
    let core = g.C.Exclusion.core in
    let begun = begins core c.ask.result c.enter.result _ _ _ c.ask.ensures.done c.ask.ensures.refused c.enter.ensures.done c.enter.ensures.refused in
    let did = c.in_err-try_section.ensures.fails in
    err_then (λ (w : JobFault). Rests core c.args.station.now c.try_section.new.station × CannotGoOn g.J.Job.terms core w c.args.job.now c.try_section.new.job c.try_section.new.station)
    c.from_residual.result c.in_err-try_section.field-0.0 c.from_residual.ensures.1 (rests_on core c.args.station.now c.enter.new.self c.try_section.new.station begun.0 did.0, did.1)

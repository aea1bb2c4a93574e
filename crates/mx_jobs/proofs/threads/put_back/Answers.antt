use Rattle.std.proofs.Common.{◌≡◌, ◌∙◌, ◌++◌, ◌∷◌, [], List, ap, append-nil, append_assoc, arith, length, map, option_to_list, subst, sym}
use Rattle.std.proofs.lemmas.List.{length_push, nil_from_length}
use Rattle.mx_stations.specs.Turns.{Station}
use Rattle.mx_jobs.specs.declared.worker.Ended.{Ended}
use Rattle.mx_jobs.specs.Faults.{Tells}
use Rattle.mx_jobs.proofs.Each.{match_none}
use Rattle.mx_jobs.proofs.threads.put_back.Goals as goal

pub loop-left-init : goal.loop-left-init
loop-left-init g c =
    let s = ap length c.requires.stations in
    let j = ap length c.requires.jobs in
    let room = c.requires.room in record {
      stations_room = omega (arith, s, room.0);
      jobs_room = omega (arith, j, room.1);
      all = ([], append-nil _, c.requires.stations, c.requires.jobs, λ e here. absurd here);
    }

pub loop-left-preserved : goal.loop-left-preserved
loop-left-preserved g c =
    let i = c.loop-left.invariant in
    let taken : c.loop-left.lefts.items ≡ c.pop.new.self.items ++ c.in-Some.left ∷ [] = c.pop.ensures.items ∙ ap (λ o. c.pop.new.self.items ++ option_to_list o) c.in-Some.is in
    let fewer = ap length taken in
    let pushed = length_push c.pop.new.self.items c.in-Some.left in
    let s = ap length c.put_first.ensures.items in
    let j = ap length c.put_first-in-Some.ensures.items in record {
      stations_room = omega (arith, i.stations_room, fewer, pushed, s, c.put_first.ensures.room);
      jobs_room = omega (arith, i.jobs_room, fewer, pushed, j, c.put_first-in-Some.ensures.room);
      all = (
        c.in-Some.left ∷ i.all.0,
        sym (append_assoc c.pop.new.self.items (c.in-Some.left ∷ []) i.all.0) ∙ ap (λ (l : List (Station g.C.Exclusion.core × g.row.J.Denot × Ended)). l ++ i.all.0) (sym taken) ∙ i.all.1,
        c.put_first.ensures.items ∙ ap (λ (l : List (Station g.C.Exclusion.core)). c.in-Some.left.0 ∷ l) i.all.2,
        c.put_first-in-Some.ensures.items ∙ ap (λ (l : List g.row.J.Denot). c.in-Some.left.1 ∷ l) i.all.3,
        c.with_end-fault.ensures _ i.all.4,
      );
    }

pub returns : goal.returns
returns g c =
    let i = c.loop-left.invariant.all in
    let none : c.loop-left.lefts.items ≡ [] = nil_from_length _ (omega (arith, c.loop-left.lefts.ok, (match_none _ c.pop.result c.in_default.not-Some c.pop.ensures.cases).0)) in
    let all : i.0 ≡ c.args.lefts.items = ap (λ (l : List (Station g.C.Exclusion.core × g.row.J.Denot × Ended)). l ++ i.0) (sym none) ∙ i.1 in record {
      stations = i.2 ∙ ap (λ (l : List (Station g.C.Exclusion.core × g.row.J.Denot × Ended)). map (λ (one : Station g.C.Exclusion.core × g.row.J.Denot × Ended). one.0) l) all;
      jobs = i.3 ∙ ap (λ (l : List (Station g.C.Exclusion.core × g.row.J.Denot × Ended)). map (λ (one : Station g.C.Exclusion.core × g.row.J.Denot × Ended). one.1) l) all;
      told = subst (λ (l : List (Station g.C.Exclusion.core × g.row.J.Denot × Ended)). Tells c.loop-left.fault (map (λ (one : Station g.C.Exclusion.core × g.row.J.Denot × Ended). one.2) l)) all i.4;
    }

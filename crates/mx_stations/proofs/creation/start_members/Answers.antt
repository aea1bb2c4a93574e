use Rattle.std.proofs.Common.{ℕ, arith, ◌≡◌, true, false, ap, ◌∙◌}
use Rattle.mx_stations.specs.Opened.{starts_of}
use Rattle.mx_stations.specs.Running.{all_of}
use Rattle.mx_stations.proofs.Opens.{all_more}
use Rattle.mx_stations.proofs.creation.start_members.Goals as goal
use Rattle.mx_stations.proofs.creation.start_members.Goals.{in-Some+in_ok-push, in_default}

pub loop-index-preserved : goal.loop-index-preserved
loop-index-preserved g c =
    let starts = starts_of g.C.Exclusion.core c.args.setup.now in
    elim c.match-of.branch [
      | in-Some+in_ok-push w ↦ all_more starts _ _ _ c.loop-index.invariant (ap (λ v. v.items) w.members-is ∙ w.in_ok-push.ensures.items) (w.start.ensures ∙ ap starts w.in-Some.ensures.value)
      | in_default w ↦ let bad : false ≡ true = w.in_default.ensures.some.1 (let t = c.loop-index-test.true in let h = c.requires.named in omega arith) in cc
    ]

pub returns : goal.returns
returns g c =
    let e : c.loop-index.index ≡ c.args.setup.now.nodes = (let t = c.loop-index-test.false in let a = c.loop-index.auto.index-end in omega arith) in
    c.loop-index.invariant ∙ ap (λ (n : ℕ). all_of n (starts_of g.C.Exclusion.core c.args.setup.now)) e

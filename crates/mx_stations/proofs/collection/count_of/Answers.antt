use Rattle.std.proofs.Common.{◌≡◌, List, [], ◌∷◌, Some, None, refl, arith, ap, ◌∙◌}
use Rattle.std.specs.List.{slice_get}
use Rattle.std.proofs.lemmas.Option.{same_Some}
use Rattle.mx_stations.specs.Posts.{Post}
use Rattle.mx_stations.specs.Gathered.{nodes_in}
use Rattle.mx_stations.proofs.collection.count_of.Goals as goal

-- where there is no first station there is none
one_where_none : {T P : Type 0} (posts : List (Post T P)) → None ≡ slice_get posts 0
    → 1 ≡ nodes_in posts
one_where_none [] none_first = refl
one_where_none {T} {P} (s ∷ posts) none_first = absurd (let no : None ≡ Some s = none_first in cc)

-- the first station's table is that of all
first_nodes : {T P : Type 0} (posts : List (Post T P)) (s : Post T P) → Some s ≡ slice_get posts 0
    → s.nodes ≡ nodes_in posts
first_nodes [] s first = absurd (let no : Some s ≡ None = first in cc)
first_nodes (t ∷ posts) s first = ap (λ p. p.nodes) (same_Some s t first)

pub returns-in-None-clause-value : goal.returns-in-None-clause-value
returns-in-None-clause-value g c = one_where_none c.args.stations.now c.in-None.ensures.value

pub returns-in-Some-clause-value : goal.returns-in-Some-clause-value
returns-in-Some-clause-value g c =
    ap (λ f. f.nodes) c.deref.ensures
    ∙ ap (λ p. p.nodes) c.station.view_is
    ∙ first_nodes c.args.stations.now c.in-Some.station.now c.in-Some.ensures.value

pub returns-in-Some-clause-few : goal.returns-in-Some-clause-few
returns-in-Some-clause-few g c = c.deref.result.now.few

pub returns-in-None-clause-few : goal.returns-in-None-clause-few
returns-in-None-clause-few g c = omega arith

use Rattle.std.proofs.Common.{ℕ, suc, ◌≤◌, List, length, map, refl, sym, ap, subst, arith, ◌∙◌, ◌≡◌, [], ◌∷◌, ◌++◌, append-nil, length-append}
use Rattle.mx_stations.specs.Entries.{Node}
use Rattle.mx_stations.specs.Gathered.{me_of, nodes_in}
use Rattle.mx_stations.specs.Together.{RunTogether}
use Rattle.mx_stations.proofs.Gathers.{left_of, moved_over, nodes_are}
use Rattle.mx_stations.proofs.Seats.{joins}
use Rattle.mx_stations.proofs.together.join_all.Goals as goal

shorter : {A : Type 0} (old left : List A) (x : A) → old ≡ left ++ x ∷ [] → suc (length left) ≤ length old
shorter old left x is = let same = ap length is in let more = length-append left (x ∷ []) in omega arith

no_items : {A : Type 0} (l : List A) → length l ≡ 0 → l ≡ []
no_items [] none = refl
no_items (x ∷ l) none = absurd (omega arith)

pub loop-next-init : goal.loop-next-init
loop-next-init g c =
    let i = c.last.invariant in let one = c.requires.one in
    let pop : c.args.stations.items ≡ c.pop.new.self.items ++ c.in-Some.last ∷ [] = c.in-Some.ensures.items in
    let r = left_of (λ t. t.table ≡ one.0) _ _ _ pop (λ k t at. (one.2 k t at).0) in
    let n = left_of (λ t. t.nodes ≡ one.1) _ _ _ pop (λ k t at. (one.2 k t at).1) in
    record {
      table = i.0;
      nodes = ap (λ p. p.nodes) c.last.view_is ∙ n.1 ∙ sym (nodes_are _ _ c.requires.some (λ k t at. (one.2 k t at).1));
      all = moved_over me_of _ _ c.in-Some.last [] _ pop (ap (λ m. m.0) i.1 ∙ ap (λ p. p.me ∷ []) c.last.view_is) ∙ append-nil _;
      one = (λ k s at. r.0 k s at ∙ sym r.1 ∙ sym (ap (λ p. p.table) c.last.view_is));
    }

pub join_seat-requires : goal.join_seat-requires
join_seat-requires g c =
    let X = g.C.Exclusion in let l = c.loop-next.invariant in let i = c.next.invariant in
    let pop : c.loop-next.stations.items ≡ c.pop-in-loop-next.new.self.items ++ c.in-Some-pop.next ∷ [] = c.in-Some-pop.ensures.items in
    let r = left_of (λ t. t.table ≡ c.loop-next.seat.table_id) _ _ _ pop l.one in
    let mine = l.table ∙ sym (ap (λ f. f.board.shared.table_id) c.deref.ensures) in
    (mine, ap (λ p. p.table) c.next.view_is ∙ r.1 ∙ mine, ap (λ m. m.1) i.1, (let f = c.deref.result.now in omega (arith, f.words, f.some)), joins X.core X.Good _ _ _ _ _)

pub loop-next-preserved : goal.loop-next-preserved
loop-next-preserved g c =
    let l = c.loop-next.invariant in let i = c.next.invariant in let j = c.join_seat.ensures in
    let pop : c.loop-next.stations.items ≡ c.pop-in-loop-next.new.self.items ++ c.in-Some-pop.next ∷ [] = c.in-Some-pop.ensures.items in
    let r = left_of (λ t. t.table ≡ c.loop-next.seat.table_id) _ _ _ pop l.one in
    let v = c.loop-next.seat.me.0 in
    record {
      table = j.0 ∙ l.table;
      nodes = l.nodes;
      all = moved_over me_of _ _ c.in-Some-pop.next v _ pop (ap (λ m. m.0) j.2 ∙ ap (λ m. m.0 ++ v) i.1 ∙ ap (λ p. p.me ∷ v) c.next.view_is) ∙ l.all;
      one = (λ k s at. r.0 k s at ∙ sym j.0);
    }

pub returns : goal.returns
returns g c =
    let X = g.C.Exclusion in let l = c.loop-next.invariant in
    let none : c.loop-next.stations.items ≡ [] = no_items c.loop-next.stations.items (let z = c.in_default-pop.ensures.cases.0 in let o = c.loop-next.stations.ok in omega (arith, z, o)) in
    let nodes : c.deref-2.result.now.nodes ≡ nodes_in c.args.stations.items = ap (λ f. f.nodes) c.deref-2.ensures ∙ l.nodes in
    let all : c.loop-next.seat.me.0 ≡ map me_of c.args.stations.items = ap (λ z. map me_of z ++ c.loop-next.seat.me.0) (sym none) ∙ l.all in
    subst (λ (z : ℕ × List (Node g.row.C.Denot g.row.C-Msg.Denot)). RunTogether X.core X.Good z.0 z.1) (λ j. (nodes j, all j)) c.see.ensures.seen.together

pub loop-next-smaller : goal.loop-next-smaller
loop-next-smaller g c = shorter _ _ c.in-Some-pop.next c.in-Some-pop.ensures.items

pub see-requires : goal.see-requires
see-requires g c = record { table = c.loop-next.invariant.table ∙ sym (ap (λ f. f.board.shared.table_id) c.deref-2.ensures); within = c.deref-2.result.now.some }

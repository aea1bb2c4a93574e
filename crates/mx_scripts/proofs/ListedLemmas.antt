-- What the lists of the parcels under way say of the parcels that were sent.
use Rattle.std.proofs.Common.{◌≡◌, ◌≤◌, ◌<◌, ◌+◌, ◌-◌, ◌∙◌, ℕ, zero, suc, Bool, false, true, List, [], ◌∷◌, ◌++◌, Option, None, Some, Result, Ok, Err, OnErr, OnOk, get_or, length, replicate, not, slice_get, ap, sym, subst, refl, arith}
use Rattle.std.proofs.lemmas.List.{get_or-set_same, length-append, length-replicate, length-set}
use Rattle.std.specs.Prelude.{IsTrue, slice_set}
use Rattle.mx_nodelaws.specs.Core.{Core}
use Rattle.mx_network.specs.Step.{ClusterState, step_of}
use Rattle.mx_network.proofs.Happening.{done_by}
use Rattle.mx_events.specs.declared.event.Event.{Event}
use Rattle.mx_events.specs.declared.event.Event.TheVariants as event
use Rattle.mx_scripts.specs.Fates.{Fates, arrived, can_pass, grown, lost, noted}
use Rattle.mx_scripts.specs.UnderWay.{HasLink, IsGone, IsListed, taken_out, without}
use Rattle.mx_stamps.specs.Links.{link_of}
use Rattle.mx_scripts.specs.States.{Brings, RunState}
use Rattle.mx_scripts.specs.declared.state.SessionEvent.TheVariants.{Happens}
use Rattle.mx_scripts.specs.declared.under_way.ListedParcel.{ListedParcel}
use Rattle.mx_scripts.proofs.UnderWayLemmas.{at_more, at_without, length-without}

-- ---- a parcel more is listed

not_gone : IsTrue false → ⊥
not_gone e = cc

module _ {P : Type 0} (sent : List (ℕ × ℕ × P)) (gone : List Bool) (ps : List ListedParcel) (old : IsListed sent gone ps) where
  new_link : (k : ℕ) (from to : ℕ) (parcel : P) → slice_get sent (length ps) ≡ Some (from, to, parcel) → k ≡ length ps → HasLink (slice_get sent k) (Some (record { link = link_of from to; is_gone = false }))
  new_link k from to parcel at is =
      subst (λ (o : Option (ℕ × ℕ × P)). HasLink o (Some (record { link = link_of from to; is_gone = false }))) (sym (ap (λ (n : ℕ). slice_get sent n) is ∙ at)) refl

  pub listed_more : (from to : ℕ) (parcel : P) → slice_get sent (length ps) ≡ Some (from, to, parcel) → IsListed sent gone (ps ++ record { link = link_of from to; is_gone = false } ∷ [])
  listed_more from to parcel at =
      let q : ListedParcel = record { link = link_of from to; is_gone = false } in
      record {
        links = λ k. at_more (HasLink (slice_get sent k)) ps q k (old.links k) (λ is none. new_link k from to parcel at is);
        lost = λ k. at_more (IsGone (IsTrue (get_or gone k false))) ps q k (old.lost k) (λ is none gone. absurd (not_gone gone));
        all = let one = length-append ps (q ∷ []) in let all = old.all in omega (arith, one, all);
      }

-- ---- more parcels were sent

link_on : {P : Type 0} (sent more : List (ℕ × ℕ × P)) (k : ℕ) (o : Option ListedParcel) → HasLink (slice_get sent k) o → HasLink (slice_get (sent ++ more) k) o
link_on sent more k None h = tt
link_on [] more k (Some q) h = absurd h
link_on (p ∷ sent) more zero (Some q) h = h
link_on (p ∷ sent) more (suc k) (Some q) h = link_on sent more k (Some q) h

pub listed_on : {H S M : Type 0} (core : Core H S M) (g new : ClusterState S M) (e : Event) (gone : List Bool) (ps : List ListedParcel) → step_of core g e ≡ Ok new → IsListed g.sent gone ps → IsListed new.sent gone ps
listed_on {H} {S} {M} core g new e gone ps step old =
    let d = done_by core g e new step in
    subst (λ (x : ClusterState S M). IsListed x.sent gone ps) d.after (record {
      links = λ k. link_on g.sent _ k (slice_get ps k) (old.links k);
      lost = old.lost;
      all = old.all;
    })

-- ---- parcels are gone

gone_on : (IsSo IsMore : Type 0) (o : Option ListedParcel) → IsGone IsSo o → (IsSo → IsMore) → IsGone IsMore o
gone_on IsSo IsMore None h more = tt
gone_on IsSo IsMore (Some q) h more = λ gone. more (h gone)

still_gone : (gone more : List Bool) (k : ℕ) → IsTrue (get_or gone k false) → IsTrue (get_or (gone ++ more) k false)
still_gone [] more k h = absurd (not_gone h)
still_gone (g ∷ gone) more zero h = h
still_gone (g ∷ gone) more (suc k) h = still_gone gone more k h

pub listed_grown : {P : Type 0} (sent : List (ℕ × ℕ × P)) (gone : List Bool) (ps : List ListedParcel) → IsListed sent gone ps → length sent ≤ length ps → IsListed sent (grown (length sent) gone) ps
listed_grown sent gone ps old le = record {
  links = old.links;
  lost = λ k. gone_on _ _ (slice_get ps k) (old.lost k) (still_gone gone (replicate (length sent - length gone) false) k);
  all =
      let all = old.all in
      let sum = length-append gone (replicate (length sent - length gone) false) in
      let more = length-replicate (length sent - length gone) false in
      omega (arith, le, all, sum, more);
}

link_same : {P : Type 0} (sent : Option (ℕ × ℕ × P)) (p : ListedParcel) (is_gone : Bool) → HasLink sent (Some p) → HasLink sent (Some (record { link = p.link; is_gone = is_gone }))
link_same None p is_gone h = h
link_same (Some s) p is_gone h = h

gone_set : (gone : List Bool) (number k : ℕ) → IsTrue (get_or gone k false) → IsTrue (get_or (slice_set gone number true) k false)
gone_set [] number k h = h
gone_set (g ∷ gone) zero zero h = refl
gone_set (g ∷ gone) zero (suc k) h = h
gone_set (g ∷ gone) (suc number) zero h = h
gone_set (g ∷ gone) (suc number) (suc k) h = gone_set gone number k h

gone_here : (gone : List Bool) (number k : ℕ) → k ≡ number → k < length gone → IsTrue (get_or (slice_set gone number true) k false)
gone_here gone number k is lt =
    subst (λ (n : ℕ). IsTrue (get_or (slice_set gone n true) k false)) is (get_or-set_same gone k true false lt)

pub listed_without : {P : Type 0} (sent : List (ℕ × ℕ × P)) (gone : List Bool) (ps : List ListedParcel) (number : ℕ) → IsListed sent gone ps → (number < length ps → number < length gone)
    → IsListed sent (slice_set gone number true) (without number ps)
listed_without sent gone ps number old within = record {
  links = λ k. at_without (HasLink (slice_get sent k)) number ps k (old.links k) (λ p is lt h. link_same (slice_get sent k) p true h);
  lost = λ k. at_without (IsGone (IsTrue (get_or (slice_set gone number true) k false))) number ps k (gone_on _ _ (slice_get ps k) (old.lost k) (gone_set gone number k))
      (λ p is lt h so. gone_here gone number k is (subst (λ (n : ℕ). n < length gone) (sym is) (within (subst (λ (n : ℕ). n < length ps) is lt))));
  all =
      let all = old.all in
      let set = length-set gone number true in
      let less = length-without number ps in
      omega (arith, all, set, less);
}

-- ---- an event happened

below_sent : {P : Type 0} (sent : List (ℕ × ℕ × P)) (ps : List ListedParcel) → ((k : ℕ) → HasLink (slice_get sent k) (slice_get ps k)) → length ps ≤ length sent
below_sent sent [] links = omega arith
below_sent [] (p ∷ ps) links = absurd (links 0)
below_sent (s ∷ sent) (p ∷ ps) links = let le = below_sent sent ps (λ k. links (suc k)) in omega (arith, le)

arrived_gone : {P : Type 0} (number : ℕ) (o : Option (ℕ × ℕ × P)) (f : Fates) → (arrived number o f).gone ≡ slice_set f.gone number true
arrived_gone number None f = refl
arrived_gone number (Some p) f = refl

grown_length : (sent : ℕ) (gone : List Bool) → sent ≤ length (grown sent gone)
grown_length sent gone =
    let sum = length-append gone (replicate (sent - length gone) false) in
    let more = length-replicate (sent - length gone) false in
    omega (arith, sum, more)

pub listed_noted : {P : Type 0} (sent : List (ℕ × ℕ × P)) (f : Fates) (ps : List ListedParcel) (e : Event) → IsListed sent f.gone ps → length sent ≤ length ps → IsListed sent (noted sent e f).gone (taken_out e ps)
listed_noted sent f ps (event.Deliver number) old le =
    let now = grown (length sent) f.gone in
    let below = below_sent sent ps old.links in
    let room = grown_length (length sent) f.gone in
    subst (λ (l : List Bool). IsListed sent l (without number ps)) (sym (arrived_gone number (slice_get sent number) (record { gone = now; last = f.last; links = f.links })))
    (listed_without sent now ps number (listed_grown sent f.gone ps old le) (λ lt. omega (arith, lt, below, room)))
listed_noted sent f ps _ old le = listed_grown sent f.gone ps old le

-- a parcel is lost
pub listed_lost : {P : Type 0} (sent : List (ℕ × ℕ × P)) (f : Fates) (ps : List ListedParcel) (number : ℕ) → IsListed sent f.gone ps → number < length f.gone → IsListed sent (lost number f).gone (without number ps)
listed_lost sent f ps number old lt = listed_without sent f.gone ps number old (λ _. lt)

-- ---- the list after a parcel was added, or was not

pub by_result : {A E : Type 0} (IsSo : List ListedParcel → Type 0) (r : Result A E) (old more new : List ListedParcel) → OnOk r (new ≡ more) → OnErr r (new ≡ old) → IsSo old → IsSo more → IsSo new
by_result IsSo (Ok x) old more new ok err before after = subst IsSo (sym ok) after
by_result IsSo (Err x) old more new ok err before after = subst IsSo (sym err) before

pub one_longer : {A E : Type 0} (r : Result A E) (old : List ListedParcel) (q : ListedParcel) (new : List ListedParcel) → OnOk r (new ≡ old ++ q ∷ []) → OnOk r (length new ≡ length old + 1)
one_longer (Ok x) old q new ok = ap (λ (l : List ListedParcel). length l) ok ∙ length-append old (q ∷ [])
one_longer (Err x) old q new ok = tt

pub none_past : {X : Type 0} (xs : List X) (k : ℕ) → slice_get xs k ≡ None → length xs ≤ k
none_past [] k e = omega arith
none_past (x ∷ xs) zero e = cc
none_past (x ∷ xs) (suc k) e = let le = none_past xs k e in omega (arith, le)

-- ---- at the start, and what is under way

pub listed_none : {P : Type 0} (sent : List (ℕ × ℕ × P)) (gone : List Bool) (ps : List ListedParcel) → gone ≡ [] → ps ≡ [] → IsListed sent gone ps
listed_none {P} sent gone ps none empty = subst (λ (l : List ListedParcel). IsListed sent gone l) (sym empty) (subst (λ (l : List Bool). IsListed sent l []) (sym none) (record {
  links = λ k. tt;
  lost = λ k. tt;
  all = omega arith;
}))

pub under_way_below : (gone : List Bool) (k : ℕ) → IsTrue (not (get_or gone k true)) → k < length gone
under_way_below [] k h = absurd (not_gone h)
under_way_below (g ∷ gone) zero h = omega arith
under_way_below (g ∷ gone) (suc k) h = let lt = under_way_below gone k h in omega (arith, lt)

-- an event has happened, and is noted
pub brings_noted : {H S M : Type 0} (core : Core H S M) (old new : RunState S M) (mid : ClusterState S M) (e : Event) → step_of core old.cluster e ≡ Ok mid → new.cluster ≡ mid → new.fates ≡ noted mid.sent e old.fates
    → IsTrue (can_pass old.fates old.cluster.sent e) → Brings core old (Happens e) new
brings_noted {H} {S} {M} core old new mid e step same fates passes =
    (subst (λ (x : ClusterState S M). step_of core old.cluster e ≡ Ok x) (sym same) step, subst (λ (x : ClusterState S M). new.fates ≡ noted x.sent e old.fates) (sym same) fates, passes)

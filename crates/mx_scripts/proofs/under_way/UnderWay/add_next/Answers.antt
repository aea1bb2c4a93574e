use Rattle.std.proofs.Common.{◌≡◌, ◌++◌, ◌∷◌, [], ◌∙◌, ℕ, List, ap, arith, false, length, rules, slice_get, subst, sym}
use Rattle.mx_scripts.specs.UnderWay.{IsListed}
use Rattle.mx_scripts.specs.declared.under_way.ListedParcel.{ListedParcel}
use Rattle.mx_scripts.proofs.ListedLemmas.{by_result, listed_more, none_past, one_longer}
use Rattle.mx_scripts.proofs.under_way.UnderWay.add_next.Goals as goal

pub returns-in-Some-clause-kept : goal.returns-in-Some-clause-kept
returns-in-Some-clause-kept g c = λ gone old.
    let sent = c.args.cluster.now.sent in
    let ps = c.args.self.now in
    let s = c.in-Some.sent in
    let count_is : c.len.result ≡ length c.self.inside.parcels.items = search rules in
    let count : c.len.result ≡ length ps = count_is ∙ ap (λ (l : List ListedParcel). length l) c.self.view_is in
    let q = λ (link : ℕ). let one : ListedParcel = record { link = link; is_gone = false } in ps ++ one ∷ [] in
    by_result (λ (l : List ListedParcel). IsListed sent gone l) c.add.result ps (q c.link.result) c.add.new.self c.add.ensures.ok c.add.ensures.err old
    (subst (λ (link : ℕ). IsListed sent gone (q link)) (sym c.link.ensures.value)
    (listed_more sent gone ps old s.from s.to s.parcel.now (ap (λ (n : ℕ). slice_get sent n) (sym count) ∙ c.in-Some.ensures)))

pub returns-in-Some-clause-more : goal.returns-in-Some-clause-more
returns-in-Some-clause-more g c = λ lt. one_longer c.add.result c.args.self.now _ c.add.new.self c.add.ensures.ok

pub returns-in-None-clause-more : goal.returns-in-None-clause-more
returns-in-None-clause-more g c = λ lt.
    let count_is : c.len.result ≡ length c.self.inside.parcels.items = search rules in
    let count : c.len.result ≡ length c.args.self.now = count_is ∙ ap (λ (l : List ListedParcel). length l) c.self.view_is in
    let past = none_past c.args.cluster.now.sent c.len.result c.in-None.ensures in
    absurd (omega (arith, lt, past, count))

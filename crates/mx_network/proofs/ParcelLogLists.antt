-- Where parcels are kept.
use Rattle.std.proofs.Common.{ℕ, zero, suc, ◌+◌, ◌<◌, ◌≤◌, ◌≡◌, List, [], ◌∷◌, ◌++◌, Some, None, get_or, length, slice_get, refl, sym, ◌∙◌, ap, subst, arith}
use Rattle.std.proofs.lemmas.List.{get_or_append_left, get_or-append-add}
use Rattle.std.proofs.lemmas.Option.{same_Some}
use Rattle.std.proofs.Math.ListN.{length-append}
use Rattle.mx_stamps.proofs.Lists.{none_is_no_some}
use Rattle.mx_member.specs.declared.parcel.Parcel.{Parcel}
use Rattle.mx_member.specs.declared.parcel.Parcel.TheVariants.{Want}
use Rattle.mx_network.specs.declared.parcel_log.Sending.{Sending}
use Rattle.mx_network.specs.ParcelLog.{AreKept, EndsWith, IsKeptIn, kept_at, sent_of}

-- there are as many as were sent
pub length_sent : {M : Type 0} (kept : List (Parcel M)) (ss : List Sending) → length (sent_of kept ss) ≡ length ss
length_sent kept [] = refl
length_sent kept (s ∷ ss) = ap suc (length_sent kept ss)

-- each is where its sending says
pub sent_there : {M : Type 0} (kept : List (Parcel M)) (ss : List Sending) (k : ℕ) (s : Sending) → slice_get ss k ≡ Some s → slice_get (sent_of kept ss) k ≡ Some (s.from, s.to, kept_at kept s.place)
sent_there kept [] k s at = absurd (none_is_no_some s at)
sent_there {M} kept (t ∷ ss) zero s at = let same : t ≡ s = same_Some t s at in ap (λ (x : Sending). let y : ℕ × ℕ × Parcel M = (x.from, x.to, kept_at kept x.place) in Some y) same
sent_there kept (t ∷ ss) (suc k) s at = sent_there kept ss k s at

pub none_sent : {M : Type 0} (kept : List (Parcel M)) (ss : List Sending) (k : ℕ) → slice_get ss k ≡ None → slice_get (sent_of kept ss) k ≡ None
none_sent kept [] k at = refl
none_sent kept (t ∷ ss) zero at = absurd (none_is_no_some t (sym at))
none_sent kept (t ∷ ss) (suc k) at = none_sent kept ss k at

pub is_kept : (n : ℕ) (ss : List Sending) (k : ℕ) (s : Sending) → AreKept n ss → slice_get ss k ≡ Some s → s.place < n
is_kept n [] k s all at = absurd (none_is_no_some s at)
is_kept n (t ∷ ss) zero s all at = let same : t ≡ s = same_Some t s at in subst (λ (x : Sending). x.place < n) same all.0
is_kept n (t ∷ ss) (suc k) s all at = is_kept n ss k s all.1 at

pub kept_there : {M : Type 0} (kept : List (Parcel M)) (k : ℕ) (p : Parcel M) → k < length kept → p ≡ get_or kept k p → kept_at kept k ≡ p
kept_there [] k p l e = absurd (omega (arith, l))
kept_there (q ∷ kept) zero p l e = sym e
kept_there (q ∷ kept) (suc k) p l e = kept_there kept k p (omega (arith, l)) e

-- where more is kept, what was sent is the same
pub still_kept : (n m : ℕ) (ss : List Sending) → n ≤ m → AreKept n ss → AreKept m ss
still_kept n m [] more all = tt
still_kept n m (s ∷ ss) more all = (omega (arith, more, all.0), still_kept n m ss more all.1)

pub sent_still : {M : Type 0} (kept rest : List (Parcel M)) (ss : List Sending) → AreKept (length kept) ss → sent_of (kept ++ rest) ss ≡ sent_of kept ss
sent_still kept rest [] all = refl
sent_still {M} kept rest (s ∷ ss) all =
    ap (λ (p : Parcel M). (s.from, s.to, p) ∷ sent_of (kept ++ rest) ss) (get_or_append_left kept rest (Want (record { items = [] })) s.place all.0)
    ∙ ap (λ l. (s.from, s.to, kept_at kept s.place) ∷ l) (sent_still kept rest ss all.1)

-- one sending more
pub kept_more : (n : ℕ) (ss : List Sending) (s : Sending) → AreKept n ss → s.place < n → AreKept n (ss ++ s ∷ [])
kept_more n [] s all here = (here, tt)
kept_more n (t ∷ ss) s all here = (all.0, kept_more n ss s all.1 here)

pub sent_more : {M : Type 0} (kept : List (Parcel M)) (ss : List Sending) (s : Sending) → sent_of kept (ss ++ s ∷ []) ≡ sent_of kept ss ++ (s.from, s.to, kept_at kept s.place) ∷ []
sent_more kept [] s = refl
sent_more kept (t ∷ ss) s = ap (λ l. (t.from, t.to, kept_at kept t.place) ∷ l) (sent_more kept ss s)

-- the last that is kept
pub last_kept : {M : Type 0} (kept : List (Parcel M)) (p : Parcel M) (n : ℕ) → EndsWith p kept → n + 1 ≡ length kept → kept_at kept n ≡ p
last_kept {M} kept p n (front, is) last =
    let k : length front + 0 ≡ n = omega (arith, last, simp length-append at (ap length is)) in
    ap (λ (l : List (Parcel M)). kept_at l n) is ∙ ap (λ i. kept_at (front ++ p ∷ []) i) (sym k) ∙ get_or-append-add front (p ∷ []) 0 (Want (record { items = [] }))

pub some_kept : {M : Type 0} (kept : List (Parcel M)) (p : Parcel M) → EndsWith p kept → 0 < length kept
some_kept kept p (front, is) = omega (arith, simp length-append at (ap length is))

module _ {M : Type 0} (old new : List (Parcel M)) (ss : List Sending) (all : AreKept (length old) ss) (p : Parcel M) (k : IsKeptIn p old new) where
  pub all_kept : AreKept (length new) ss
  all_kept = still_kept (length old) (length new) ss (omega (arith, simp length-append at (ap length k.more.1))) all

  pub sent_as_before : sent_of new ss ≡ sent_of old ss
  sent_as_before = ap (λ (l : List (Parcel M)). sent_of l ss) k.more.1 ∙ sent_still old k.more.0 ss all

  -- a parcel that is kept is sent
  pub one_more_sent : (from to n : ℕ) (ss' : List Sending) → n + 1 ≡ length new → ss' ≡ ss ++ (record { from = from; to = to; place = n }) ∷ [] → sent_of new ss' ≡ sent_of old ss ++ (from, to, p) ∷ []
  one_more_sent from to n ss' last is =
      ap (λ (l : List Sending). sent_of new l) is ∙ sent_more new ss (record { from = from; to = to; place = n })
      ∙ ap (λ l. l ++ (from, to, kept_at new n) ∷ []) sent_as_before ∙ ap (λ (q : Parcel M). sent_of old ss ++ (from, to, q) ∷ []) (last_kept new p n k.last last)

  pub more_kept : (from to n : ℕ) (ss' : List Sending) → n + 1 ≡ length new → ss' ≡ ss ++ (record { from = from; to = to; place = n }) ∷ [] → AreKept (length new) ss'
  more_kept from to n ss' last is =
      subst (λ (l : List Sending). AreKept (length new) l) (sym is) (kept_more (length new) ss (record { from = from; to = to; place = n }) all_kept (omega (arith, last)))

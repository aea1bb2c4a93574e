-- The tries of a turn, one after another, and what its report tells of them.
use Rattle.std.proofs.Common.{◌≡◌, ◌≢◌, ℕ, suc, ◌+◌, ◌≤◌, List, [], ◌∷◌, ◌++◌, length, Bool, true, false, MatchBool, Option, Some, None, refl, sym, ap, ◌∙◌, subst, arith, length-append}
use Rattle.mx_letters.specs.declared.fates.Fate.{Fate}
use Rattle.mx_letters.specs.declared.fates.Fate.TheVariants.{Pass, Drop, Twice}
use Rattle.mx_member.specs.declared.parcel.Parcel.{Parcel}
use Rattle.mx_nodelaws.specs.Core.{Core}
use Rattle.mx_stations.specs.declared.answers.PutOut.{PutOut}
use Rattle.mx_stations.specs.declared.answers.PutOut.TheVariants.{Sent, Full, Nothing}
use Rattle.mx_stations.specs.declared.answers.TurnReport.{TurnReport}
use Rattle.mx_stations.specs.Posts.{DeliversAs, Fetches, PutsOut}
use Rattle.mx_stations.specs.Turns.{Deals, IsFated, PutsEach, Station, TakesEach, TakesFated, Throws, Turns, begun, noted, noted_all, noted_put, noted_puts}
use Rattle.mx_stations.proofs.Posts.{no_none}

-- a report after at most j tries to take a parcel
abbrev pub Few : ℕ → TurnReport → Type 0
Few j r = (r.taken ≤ j + 1) × (r.dropped ≤ j + 1) × (r.twice ≤ j + 1) × (r.put ≡ 0) × (r.full ≡ 0)

pub begun_few : (had : Bool) (r : TurnReport) → r ≡ begun had → Few 0 r
begun_few true r is = subst (Few 0) (sym is) (omega arith, omega arith, omega arith, refl, refl)
begun_few false r is = subst (Few 0) (sym is) (omega arith, omega arith, omega arith, refl, refl)

few_noted : (j : ℕ) (x : Option Fate) (r : TurnReport) → Few j r → Few (j + 1) (noted x r)
few_noted j None r (a, b, t, p, f) = (omega arith, omega arith, omega arith, p, f)
few_noted j (Some Pass) r (a, b, t, p, f) = (omega arith, omega arith, omega arith, p, f)
few_noted j (Some Drop) r (a, b, t, p, f) = (omega arith, omega arith, omega arith, p, f)
few_noted j (Some Twice) r (a, b, t, p, f) = (omega arith, omega arith, omega arith, p, f)

pub few_more : (j : ℕ) (x : Option Fate) (r q : TurnReport) → Few j r → q ≡ noted x r → Few (j + 1) q
few_more j x r q few is = subst (Few (j + 1)) (sym is) (few_noted j x r few)

put_noted : (j : ℕ) (x : PutOut) (r : TurnReport) → r.put ≤ j → r.full ≤ j → ((noted_put x r).put ≤ j + 1) × ((noted_put x r).full ≤ j + 1)
put_noted j Sent r a b = (omega arith, omega arith)
put_noted j Full r a b = (omega arith, omega arith)
put_noted j Nothing r a b = (omega arith, omega arith)

pub put_more : (j : ℕ) (x : PutOut) (r q : TurnReport) → (r.put ≤ j) × (r.full ≤ j) → q ≡ noted_put x r → (q.put ≤ j + 1) × (q.full ≤ j + 1)
put_more j x r q few is = subst (λ (z : TurnReport). (z.put ≤ j + 1) × (z.full ≤ j + 1)) (sym is) (put_noted j x r few.0 few.1)

noted_more : (xs : List (Option Fate)) (x : Option Fate) (r : TurnReport) → noted_all (xs ++ x ∷ []) r ≡ noted x (noted_all xs r)
noted_more [] x r = refl
noted_more (y ∷ xs) x r = noted_more xs x (noted y r)

noted_puts_more : (xs : List PutOut) (x : PutOut) (r : TurnReport) → noted_puts (xs ++ x ∷ []) r ≡ noted_put x (noted_puts xs r)
noted_puts_more [] x r = refl
noted_puts_more (y ∷ xs) x r = noted_puts_more xs x (noted_put y r)

module _ {H S M : Type 0} (core : Core H S M) where
  takes_more : (from : ℕ) (xs : List (Option Fate)) (s t u : Station core) (x : Option Fate) → TakesEach core from xs s t → TakesFated core (from + length xs) x t u → TakesEach core from (xs ++ x ∷ []) s u
  takes_more from [] s t u x same did = (u, subst (λ (z : ℕ × Station core). TakesFated core z.0 x z.1 u) (λ i. ((let e : from + 0 ≡ from = omega arith in e) i, same i)) did, refl)
  takes_more from (y ∷ xs) s t u x ran did =
      (ran.0, ran.1, takes_more (suc from) xs ran.0 t u x ran.2 (subst (λ (z : ℕ). TakesFated core z x t u) (let n : ℕ = length xs in let e : from + suc n ≡ suc from + n = omega arith in e) did))

  puts_more : (xs : List PutOut) (s t u : Station core) (x : PutOut) → PutsEach core xs s t → PutsOut t x u → PutsEach core (xs ++ x ∷ []) s u
  puts_more [] s t u x same did = (u, subst (λ (z : Station core). PutsOut z x u) same did, refl)
  puts_more (y ∷ xs) s t u x ran did = (ran.0, ran.1, puts_more xs ran.0 t u x ran.2 did)

  pub turns_from : (s s1 : Station core) (report : TurnReport) (t : Station core) → s1 ≡ s → Turns core s1 report t → Turns core s report t
  turns_from s s1 report t same did = subst (λ (z : Station core). Turns core z report t) same did

  -- the tries so far, of which j were made
  abbrev pub TookSoFar : ℕ → TurnReport → TurnReport → Station core → Station core → Type 0
  TookSoFar j r q s t = (xs : List (Option Fate)) × TakesEach core 0 xs s t × (length xs ≡ j) × (q ≡ noted_all xs r)

  pub one_more_taken : (j : ℕ) (r q q' : TurnReport) (s t u : Station core) (x : Option Fate) → TookSoFar j r q s t → TakesFated core j x t u → q' ≡ noted x q → TookSoFar (j + 1) r q' s u
  one_more_taken j r q q' s t u x far did now = (
    far.0 ++ x ∷ [],
    takes_more 0 far.0 s t u x far.1 (subst (λ (z : ℕ). TakesFated core z x t u) (sym far.2 ∙ (let n : ℕ = length far.0 in let e : n ≡ 0 + n = omega arith in e)) did),
    length-append far.0 (x ∷ []) ∙ ap (λ (z : ℕ). z + 1) far.2,
    now ∙ ap (noted x) far.3 ∙ sym (noted_more far.0 x r),
  )

  abbrev pub PutSoFar : ℕ → TurnReport → TurnReport → Station core → Station core → Type 0
  PutSoFar j r q s t = (xs : List PutOut) × PutsEach core xs s t × (length xs ≡ j) × (q ≡ noted_puts xs r)

  pub one_more_put : (j : ℕ) (r q q' : TurnReport) (s t u : Station core) (x : PutOut) → PutSoFar j r q s t → PutsOut t x u → q' ≡ noted_put x q → PutSoFar (j + 1) r q' s u
  one_more_put j r q q' s t u x far did now = (
    far.0 ++ x ∷ [],
    puts_more far.0 s t u x far.1 did,
    length-append far.0 (x ∷ []) ∙ ap (λ (z : ℕ). z + 1) far.2,
    now ∙ ap (noted_put x) far.3 ∙ sym (noted_puts_more far.0 x r),
  )

  fetched_hand : (from : ℕ) (s m : Station core) (got : Fetches from s m) → m.me.hand ≡ Some (from, got.1.0)
  fetched_hand from s m got = ap (λ (z : Station core). z.me.hand) got.1.3

  -- what is in hand is delivered, and nothing where nothing is
  gave : (again : Bool) (x : ℕ × Parcel M) (s t : Station core) (b : Bool) → s.me.hand ≡ Some x → MatchBool b (DeliversAs core again s t) ((s.me.hand ≡ None) × (t ≡ s)) → DeliversAs core again s t
  gave again x s t true held did = did
  gave again x s t false held did = absurd (no_none x held did.0)

  had_none : (again : Bool) (s t : Station core) (b : Bool) → s.me.hand ≡ None → MatchBool b (DeliversAs core again s t) ((s.me.hand ≡ None) × (t ≡ s)) → t ≡ s
  had_none again s t true none did = absurd (no_none (did.0, did.1) did.2 none)
  had_none again s t false none did = did.1

  emptied : (s t : Station core) → DeliversAs core false s t → t.me.hand ≡ None
  emptied s t did = ap (λ (z : Station core). z.me.hand) did.3

  -- a parcel was taken, and delivered as often as its fate says
  pub dealt : (from : ℕ) (fate : Fate) (s m n t : Station core) (twice b d : Bool) → IsFated from fate s m → MatchBool twice (fate ≡ Twice) (fate ≢ Twice)
      → MatchBool b (DeliversAs core twice m n) ((m.me.hand ≡ None) × (n ≡ m)) → MatchBool d (DeliversAs core false n t) ((n.me.hand ≡ None) × (t ≡ n)) → Deals core from fate s t
  dealt from Pass s m n t false b d got is first last =
      let did = gave false (from, got.1.0) m n b (fetched_hand from s m got) first in
      (m, got, subst (λ (z : Station core). DeliversAs core false m z) (sym (had_none false n t d (emptied m n did) last)) did)
  dealt from Twice s m n t true b d got is first last =
      let did = gave true (from, got.1.0) m n b (fetched_hand from s m got) first in
      (m, n, got, did, gave false (from, got.1.0) n t d (ap (λ (z : Station core). z.me.hand) did.3 ∙ fetched_hand from s m got) last)
  dealt from Drop s m n t twice b d got is first last =
      let none : m.me.hand ≡ None = ap (λ (z : Station core). z.me.hand) got.1.3 in
      let same = had_none twice m n b none first in
      subst (λ (z : Station core). Throws from s z) (sym (had_none false n t d (ap (λ (z : Station core). z.me.hand) same ∙ none) last ∙ same)) got
  dealt from Pass s m n t true b d got is first last = absurd (cc)
  dealt from Twice s m n t false b d got is first last = absurd (is refl)

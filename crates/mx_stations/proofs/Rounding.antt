-- Rounds of a worker, behind each of which its station settles if that is due.
use Rattle.std.proofs.Common.{◌≡◌, inl, inr, ℕ, suc, ◌+◌, ◌-◌, List, [], ◌∷◌, ◌++◌, length, length-append, Result, Ok, Err, OnOk, nat_le, nat_lt, refl, sym, ap, ◌∙◌, subst, arith}
use Rattle.std.proofs.lemmas.Bool.Decides.{nat_tests}
use Rattle.mx_stamps.proofs.Choices.{cond_false, lt_not}
use Rattle.atomic_table.specs.Seated.{TableId}
use Rattle.mx_journal.proofs.Below.{first_missing_above}
use Rattle.mx_journal.specs.declared.receipts.Receipt.{Receipt}
use Rattle.mx_journal.specs.declared.settlement.SettleFault.{SettleFault}
use Rattle.mx_nodelaws.specs.World.{Quiet}
use Rattle.mx_nodelaws.specs.Core.{Core}
use Rattle.mx_member.specs.declared.acts.Act.TheVariants.{Settle}
use Rattle.mx_member.specs.Member.{MemberState, first_gap}
use Rattle.mx_member.specs.Steps.{settle_of}
use Rattle.mx_stations.specs.Gathered.{KeepsTable}
use Rattle.mx_stations.specs.Posts.{does}
use Rattle.mx_stations.specs.Turns.{Station}
use Rattle.mx_stations.specs.Works.{IsDue, Round, SettlesIfDue, TakesTurn, Toils, Works, WorksAtMost, WorksFor, WorksSettling}
use Rattle.mx_stations.proofs.Going.{home_of, leads_keep, leads_none, path_on}
use Rattle.mx_stations.proofs.Leaving.{turn_works}
use Rattle.mx_stations.proofs.Toils.{works_home, works_on}

-- settling up to the first gap is not refused
accepted : {S : Type 0} (k : ℕ) (m : MemberState S) → k + 1 ≡ first_gap m.journal → (settle_of k m).answer ≡ Ok tt
accepted {S} k m next =
    let high = first_missing_above (suc m.journal.base.upto) m.journal.records in
    ap (λ (q : Quiet (MemberState S) (Result (Unit {0}) SettleFault)). q.answer) (cond_false (nat_lt k m.journal.base.upto) _ _ (lt_not k m.journal.base.upto (omega (arith, next, high)))
    ∙ cond_false (nat_le (first_gap m.journal) k) _ _ (grind (arith, nat_tests)))

module _ {H S M : Type 0} (core : Core H S M) (every : ℕ) where
  settled_by : (k before : ℕ) (r : Result (Unit {0}) SettleFault) (s t : Station core) → IsDue every before (length s.me.receipts) → k + 1 ≡ first_gap s.me.member.journal
      → r ≡ Ok tt → OnOk r (t ≡ does core (Settle k) s) → SettlesIfDue core every before s t
  settled_by k before (Ok x) s t due next ok did =
      let same : k ≡ first_gap s.me.member.journal - 1 = omega (arith, next) in
      inl (due, subst (λ (n : ℕ). t ≡ does core (Settle n) s) same did)
  settled_by k before (Err e) s t due next ok did = absurd (let wrong : Err e ≡ Ok tt = ok in cc)

  -- where it is due, and what the journal has without a gap ends at k
  pub settling_due : (k before : ℕ) (r : Result (Unit {0}) SettleFault) (s t : Station core) → IsDue every before (length s.me.receipts) → k + 1 ≡ first_gap s.me.member.journal
      → r ≡ (settle_of k s.me.member).answer → OnOk r (t ≡ does core (Settle k) s) → SettlesIfDue core every before s t
  settling_due k before r s t due next answer did = settled_by k before r s t due next (answer ∙ accepted k s.me.member next) did

  settled_home : (before : ℕ) (s t : Station core) → SettlesIfDue core every before s t → home_of t ≡ home_of s
  settled_home before s t (inl did) = ap home_of did.1
  settled_home before s t (inr did) = ap home_of did.1

module _ {H S M : Type 0} (core : Core H S M) (register every : ℕ) where
  -- before the first round
  pub rounds_rest : (s t : Station core) → t ≡ s → WorksFor core register every 0 s t
  rounds_rest s t same = ([], refl, same)

  -- one round more, where these receipts were there before it
  pub rounds_on : (made : ℕ) (had : List Receipt) (s t n u : Station core) → WorksFor core register every made s t → had ≡ t.me.receipts → TakesTurn core register t n → SettlesIfDue core every (length had) n u → WorksFor core register every (made + 1) s u
  rounds_on made had s t n u done same did due =
      let round : Round core register every t u = (n, did, subst (λ (rs : List Receipt). SettlesIfDue core every (length rs) n u) same due) in
      (done.0 ++ u ∷ [], length-append done.0 (u ∷ []) ∙ ap (λ (k : ℕ). k + 1) done.1, path_on (Round core register every) done.0 (u ∷ []) s t u done.2 (round, refl))

  -- what was counted is what was asked for
  pub rounds_made : (made turns : ℕ) (s t : Station core) → made ≡ turns → WorksFor core register every made s t → WorksFor core register every turns s t
  rounds_made made turns s t same done = subst (λ (k : ℕ). WorksFor core register every k s t) same done

  -- so many rounds are rounds
  pub rounds_some : (turns : ℕ) (s t : Station core) → WorksAtMost core register every turns s t → WorksSettling core register every s t
  rounds_some turns s t did = (did.2.0, did.2.2)

  rounds_home : (s t : Station core) → WorksSettling core register every s t → home_of t ≡ home_of s
  rounds_home = leads_keep (Round core register every) (λ s t. home_of t ≡ home_of s) (λ s t same. ap home_of same) (λ s t u a b. b ∙ a)
      (λ s t did. settled_home core every _ did.0 t did.2 ∙ works_home core register s did.0 (turn_works core register s did.0 did.1))

  -- its station stays at its table
  pub rounds_kept : (s t : Station core) → WorksSettling core register every s t → KeepsTable s t
  rounds_kept s t did = let same = rounds_home s t did in (ap (λ (h : TableId × ℕ × ℕ). h.0) same, ap (λ (h : TableId × ℕ × ℕ). h.1) same)

  -- and stays that of its node
  pub rounds_node : (s t : Station core) → WorksSettling core register every s t → t.me.node ≡ s.me.node
  rounds_node s t did = ap (λ (h : TableId × ℕ × ℕ). h.2) (rounds_home s t did)

  -- where it never settles
  pub rounds_never : (s t : Station core) → WorksSettling core register every s t → every ≡ 0 → Works core register s t
  rounds_never s t did zero = leads_keep (Round core register every) (Works core register) (leads_none (Toils core register)) (works_on core register) round_works s t did
    where
      settles_not : (before : ℕ) (s n t : Station core) → SettlesIfDue core every before n t → Works core register s n → Works core register s t
      settles_not before s n t (inl due) works = absurd (due.0.0 zero)
      settles_not before s n t (inr same) works = subst (λ (z : Station core). Works core register s z) (sym same.1) works

      round_works : (s t : Station core) → Round core register every s t → Works core register s t
      round_works s t did = settles_not _ s did.0 t did.2 (turn_works core register s did.0 did.1)

-- Acts for a job, one after another, and the rounds that they make.
use Rattle.std.proofs.Common.{◌≡◌, ◌∙◌, ◌+◌, ℕ, zero, suc, Bool, true, false, sym, inl, List, length, Result, Ok, Err, IfErr, IsErrAnd, OnOk, OnErr, refl, arith, subst}
use Rattle.mx_journal.specs.declared.receipts.Receipt.{Receipt}
use Rattle.mx_nodelaws.specs.Core.{Core}
use Rattle.mx_member.specs.declared.acts.Act.{Act}
use Rattle.mx_stations.specs.Posts.{does}
use Rattle.mx_stations.specs.Turns.{Station}
use Rattle.mx_stations.specs.Works.{HasTurned, MayLeave, SettlesIfDue}
use Rattle.mx_stations.proofs.Leaving as acts
use Rattle.mx_stations.proofs.Leaving.{acts_on}
use Rattle.mx_jobs.specs.Rounds.{ActsForJob, BusyRounds, IsForJob, Round, Rounds, Serves}
use Rattle.mx_jobs.specs.Sections.{IsSpent}

-- a fault that is passed on
pub if_err : {A F P : Type 0} (r : Result A F) → P → OnErr r P
if_err (Ok x) so = tt
if_err (Err e) so = so

-- a fault that is passed on, with what is so of it
pub err_then : {A E : Type 0} (P : E → Type 0) (r : Result A E) (e : E) → IsErrAnd r (λ x. x ≡ e) → P e → IfErr r P
err_then P (Ok x) e is so = tt
err_then P (Err x) e is so = subst P (sym is) so

module _ {H S M : Type 0} (core : Core H S M) where
  abbrev OfJob : ℕ → Act M → Type 0
  OfJob n a = IsForJob n a

  pub acted_on : (s t u : Station core) → ActsForJob core s t → ActsForJob core t u → ActsForJob core s u
  acted_on = acts_on core OfJob

  pub no_act : (s t : Station core) → t ≡ s → ActsForJob core s t
  no_act = acts.no_act core OfJob

  pub one_act : (a : Act M) (s t : Station core) → IsForJob s.nodes a → t ≡ does core a s → ActsForJob core s t
  one_act = acts.one_act core OfJob

  -- an act that may be refused
  pub tried_act : {A F : Type 0} (a : Act M) (r : Result A F) (s t : Station core) → IsForJob s.nodes a → OnOk r (t ≡ does core a s) → OnErr r (t ≡ s) → ActsForJob core s t
  tried_act = acts.tried_act core OfJob

  pub serves_acting : (s t : Station core) → ActsForJob core s t → Serves core s t
  serves_acting s t acts = record { acted = t; acts = acts; leaves = inl refl }

  pub serves_leaving : (s t u : Station core) → ActsForJob core s t → MayLeave core t u → Serves core s u
  serves_leaving s t u acts leaves = record { acted = t; acts = acts; leaves = leaves }

  pub serves_on : (s t u : Station core) → ActsForJob core s t → Serves core t u → Serves core s u
  serves_on s t u a b = record { acted = b.acted; acts = acted_on s t b.acted a b.acts; leaves = b.leaves }

  module _ (every : ℕ) where
    -- a round, where these receipts were there before it
    pub one_round : (had : List Receipt) (idle : Bool) (s t u v : Station core) → had ≡ s.me.receipts → Serves core s t → (idle ≡ false → IsSpent core t → ⊥) → HasTurned core t u → SettlesIfDue core every (length had) u v → (round : Round core every s v) × (round.idle ≡ idle)
    one_round had idle s t u v same serves able turns settles = (
      record {
        served = t;
        turned = u;
        serves = serves;
        turns = turns;
        settles = subst (λ (rs : List Receipt). SettlesIfDue core every (length rs) u v) same settles;
        idle = idle;
        able = able;
      },
      refl,
    )

    -- whatever the worker did in the last
    pub rounds_all : (Over : Type 0) (made : ℕ) (s t : Station core) → BusyRounds core Over every made s t → Rounds core every made s t
    rounds_all Over zero s t same = same
    rounds_all Over (suc made) s t did = (did.0, did.1, did.2.0)

    pub busy_more : (Over : Type 0) (idle : Bool) (made : ℕ) (s t u : Station core) → Rounds core every made s t → (round : Round core every t u) × (round.idle ≡ idle) → (idle ≡ true → Over) → BusyRounds core Over every (made + 1) s u
    busy_more Over idle made s t u rounds round over = subst (λ (n : ℕ). BusyRounds core Over every n s u) (let e : suc made ≡ made + 1 = omega arith in e) (t, rounds, (round.0, λ is. over (sym round.1 ∙ is)))

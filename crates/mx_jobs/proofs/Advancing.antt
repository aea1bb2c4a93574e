-- How stations and jobs go on.
use Rattle.std.proofs.Common.{◌≡◌, ◌∙◌, ℕ, ◌-◌, inl, inr, nat_le, nat_lt, Bool, true, false, List, [], ◌∷◌, ◌++◌, Option, Result, Ok, Err, OnOk, OnErr, refl, sym, ap, subst}
use Rattle.std.proofs.lemmas.List.{append-nil, append_assoc}
use Rattle.mx_journal.specs.declared.receipts.Receipt.{Receipt}
use Rattle.mx_journal.specs.Drafted.{receipt_of}
use Rattle.mx_journal.specs.declared.settlement.SettleFault.{SettleFault}
use Rattle.mx_nodelaws.specs.Core.{Core, KeepsPhases}
use Rattle.mx_nodelaws.specs.World.{Quiet}
use Rattle.mx_nodelaws.specs.declared.faults.EnterFault.{EnterFault}
use Rattle.mx_member.specs.declared.acts.Act.{Act}
use Rattle.mx_member.specs.declared.acts.Act.TheVariants.{Ask, Deliver, Enter, Leave, Settle, Tick}
use Rattle.mx_member.specs.declared.parcel.Parcel.{Parcel}
use Rattle.mx_member.specs.declared.parcel.Parcel.TheVariants as parcel
use Rattle.mx_member.specs.Acts.{act_of}
use Rattle.mx_member.specs.Receipts.{closed_by}
use Rattle.mx_member.specs.Member.{MemberState, Setting, first_gap}
use Rattle.mx_member.specs.Steps.{entered, leave_of, settle_of, take_of}
use Rattle.mx_stations.specs.Posts.{after_act, does}
use Rattle.mx_stations.specs.Turns.{Goes, Station}
use Rattle.mx_stations.specs.Works.{SettlesIfDue}
use Rattle.mx_stations.proofs.Going.{goes_keep}
use Rattle.mx_jobs.specs.declared.tries.JobFault.{JobFault}
use Rattle.mx_jobs.specs.Rounds.{ActsForJob}
use Rattle.mx_jobs.specs.Sections.{Advances, CannotGoOn, Fails, IsSection, Leaves, Pends, Reaches, Rests, Runs}
use Rattle.mx_jobs.proofs.Made.{pending_left}
use Rattle.mx_jobs.proofs.Members.{pick, rests_acting, rests_here, rests_on}
use Rattle.mx_jobs.proofs.Rounding.{acted_on, tried_act}
use Rattle.mx_jobs.specs.Terms.{Terms}

module _ {H S M : Type 0} (core : Core H S M) where
  taken_setting : (from : ℕ) (p : Parcel M) (m : MemberState S) → (take_of core from p m).state.setting ≡ m.setting
  taken_setting from (parcel.Guard letter) m = refl
  taken_setting from (parcel.Want ranges) m = refl
  taken_setting from (parcel.Base base) m = refl
  taken_setting from (parcel.Records records) m = refl

  rests_delivered : (from : ℕ) (p : Parcel M) (hand : Option (ℕ × Parcel M)) (s : Station core) → Rests core s (after_act core (Deliver from p) hand s)
  rests_delivered from p hand s = record { home = refl; setting = taken_setting from p s.me.member; receipts = append-nil s.me.receipts }

  pub goes_rests : (s t : Station core) → Goes core s t → Rests core s t
  goes_rests = goes_keep core (Rests core) (rests_on core) (λ s t home member receipts. record { home = home; setting = ap (λ (m : MemberState S). m.setting) member; receipts = receipts })
      (λ from p hand s. rests_delivered from p hand s) (λ s. rests_acting core Tick s (does core Tick s) refl refl refl)

  -- a turn leaves phase and draft as they are
  abbrev Stays : Station core → Station core → Type 0
  Stays s t = (core.phase t.me.member.core ≡ core.phase s.me.member.core) × (t.me.member.draft ≡ s.me.member.draft)

  module _ (phases : KeepsPhases core) where
    stays_taken : (from : ℕ) (p : Parcel M) (hand : Option (ℕ × Parcel M)) (s : Station core) → Stays s (after_act core (Deliver from p) hand s)
    stays_taken from (parcel.Guard letter) hand s = (phases.deliver_phase from letter s.me.member.core, refl)
    stays_taken from (parcel.Want ranges) hand s = (refl, refl)
    stays_taken from (parcel.Base base) hand s = (refl, refl)
    stays_taken from (parcel.Records records) hand s = (refl, refl)

    pub goes_stays : (s t : Station core) → Goes core s t → Stays s t
    goes_stays = goes_keep core Stays (λ s t u a b. (b.0 ∙ a.0, b.1 ∙ a.1)) (λ s t home member receipts. (ap (λ (m : MemberState S). core.phase m.core) member, ap (λ (m : MemberState S). m.draft) member))
        (λ from p hand s. stays_taken from p hand s) (λ s. (phases.tick_phase s.me.member.core, refl))

  -- settling leaves all but the journal
  settle_keeps : (k : ℕ) (m : MemberState S) → ((settle_of k m).state.setting ≡ m.setting) × ((settle_of k m).state.core ≡ m.core) × ((settle_of k m).state.draft ≡ m.draft)
  settle_keeps k m =
      let Kept : Quiet (MemberState S) (Result (Unit {0}) SettleFault) → Type 0 = λ q. (q.state.setting ≡ m.setting) × (q.state.core ≡ m.core) × (q.state.draft ≡ m.draft) in
      pick Kept (nat_lt k m.journal.base.upto) _ _ (refl, refl, refl) (pick Kept (nat_le (first_gap m.journal) k) _ _ (refl, refl, refl) (refl, refl, refl))

  settling : (every before : ℕ) (s t : Station core) → SettlesIfDue core every before s t → Rests core s t × Stays s t
  settling every before s t (inl did) =
      let kept = settle_keeps (first_gap s.me.member.journal - 1) s.me.member in (
        rests_acting core (Settle (first_gap s.me.member.journal - 1)) s t refl kept.0 did.1,
        (ap (λ (z : Station core). core.phase z.me.member.core) did.1 ∙ ap core.phase kept.1, ap (λ (z : Station core). z.me.member.draft) did.1 ∙ kept.2),
      )
  settling every before s t (inr did) = (rests_here core s t did.1, (ap (λ (z : Station core). core.phase z.me.member.core) did.1, ap (λ (z : Station core). z.me.member.draft) did.1))

  -- an act that may be refused
  trying : {A F : Type 0} (a : Act M) (r : Result A F) (s t : Station core) → closed_by (act_of core a s.me.member).answer ≡ [] → (act_of core a s.me.member).state.setting ≡ s.me.member.setting → OnOk r (t ≡ does core a s) → OnErr r (t ≡ s) → Rests core s t
  trying a (Ok x) s t none setting did same = rests_acting core a s t none setting did
  trying a (Err e) s t none setting did same = rests_here core s t same

  entered_setting : (r : Result ℕ EnterFault) (m : MemberState S) → (entered r m).setting ≡ m.setting
  entered_setting (Ok n) m = refl
  entered_setting (Err e) m = refl

  -- the node asks and enters, unless it is refused
  pub begins : {A F B G : Type 0} (a : Result A F) (b : Result B G) (s t u : Station core) → OnOk a (t ≡ does core Ask s) → OnErr a (t ≡ s) → OnOk b (u ≡ does core Enter t) → OnErr b (u ≡ t) → Rests core s u × ActsForJob core s u
  begins a b s t u asked refused entered not = (
    rests_on core s t u (trying Ask a s t refl refl asked refused) (trying Enter b t u refl (entered_setting (core.enter t.me.member.core).answer _) entered not),
    acted_on core s t u (tried_act core Ask a s t tt asked refused) (tried_act core Enter b t u tt entered not),
  )

module _ {J : Type 0} (terms : Terms J) where
  runs_on : (count : ℕ) (job : J) (rs : List Receipt) (next : J) (more : List Receipt) (after : J) → Runs terms count job rs next → Runs terms count next more after → Runs terms count job (rs ++ more) after
  runs_on count job [] next more after same runs = subst (λ (j : J). Runs terms count j more after) same runs
  runs_on count job (r ∷ rs) next more after did runs = (did.0, did.1, runs_on count did.0 rs next more after did.2 runs)

  module _ {H S M : Type 0} (core : Core H S M) where
    pub stands : (job after : J) (s t : Station core) → after ≡ job → Rests core s t → Advances terms core job s after t
    stands job after s t same rests = record { home = rests.home; setting = rests.setting; sections = []; runs = same; receipts = rests.receipts ∙ sym (append-nil s.me.receipts) }

    pub one_left : (job after : J) (s t : Station core) → ((r : Receipt) × IsSection terms s.me.member.setting.registers job r after × Leaves core s r t) → Advances terms core job s after t
    one_left job after s t did = record {
      home = did.2.home;
      setting = did.2.setting;
      sections = did.0 ∷ [];
      runs = (after, did.1, refl);
      receipts = did.2.receipts;
    }

    pub advances_on : (job next after : J) (s t u : Station core) → Advances terms core job s next t → Advances terms core next t after u → Advances terms core job s after u
    advances_on job next after s t u a b = record {
      home = b.home ∙ a.home;
      setting = b.setting ∙ a.setting;
      sections = a.sections ++ b.sections;
      runs =
          runs_on s.me.member.setting.registers job a.sections next b.sections after a.runs
          (subst (λ (x : Setting). Runs terms x.registers next b.sections after) a.setting b.runs);
      receipts = b.receipts ∙ ap (λ (rs : List Receipt). rs ++ b.sections) a.receipts ∙ append_assoc s.me.receipts a.sections b.sections;
    }

    -- a section that is left after other acts
    pub left_after : (job after : J) (s t u : Station core) → Rests core s t → ((r : Receipt) × IsSection terms t.me.member.setting.registers job r after × Leaves core t r u) → Advances terms core job s after u
    left_after job after s t u begun left = advances_on job job after s t u (stands job job s t refl begun) (one_left job after t u left)

    -- a station that goes on without a section
    pub on_rests : (job next : J) (s t u : Station core) → Advances terms core job s next t → Rests core t u → Advances terms core job s next u
    on_rests job next s t u a rests = advances_on job next next s t u a (stands next next t u refl rests)

    -- nothing is pending
    pub settled : (job after : J) (s t : Station core) → Advances terms core job s after t → Reaches terms core false job s after t
    settled job after s t a = record { next = after; advances = a; rest = refl }

    pub reached : (job after : J) (s t : Station core) → Reaches terms core false job s after t → Advances terms core job s after t
    reached job after s t r = subst (λ (j : J). Advances terms core job s j t) (sym r.rest) r.advances

    -- a section is pending
    pub pending : (job after : J) (s t : Station core) → Rests core s t → Pends terms core job t after → Reaches terms core true job s after t
    pending job after s t rests pends = record { next = job; advances = stands job job s t refl rests; rest = pends }

    pub reaches_on : (p : Bool) (first job after : J) (from s t : Station core) → Reaches terms core false first from job s → Reaches terms core p job s after t → Reaches terms core p first from after t
    reaches_on p first job after from s t a b = record { next = b.next; advances = advances_on first job b.next from s t (reached first job from s a) b.advances; rest = b.rest }

    -- the job cannot go on
    pub fails_on : (why : JobFault) (first job after : J) (from s t : Station core) → Reaches terms core false first from job s → Rests core s t → CannotGoOn terms core why job after t → Fails terms core why first from after t
    fails_on why first job after from s t a rests reason = record { next = job; advances = on_rests first job from s t (reached first job from s a) rests; reason = reason }

    -- a pending section is left
    pub left_at_last : (first job : J) (from s t : Station core) → Reaches terms core true first from job s → (r : Receipt) × ((leave_of core s.me.member).answer ≡ Ok r) × (t ≡ does core Leave s) → Reaches terms core false first from job t
    left_at_last first job from s t r did =
        settled first job from t (advances_on first r.next job from s t r.advances (one_left r.next job s t (pending_left terms core r.next job did.0 s s t (rests_here core s s refl) r.rest did.1 did.2)))

    pub still_there : (p : Bool) (first job : J) (from s t : Station core) → t ≡ s → Reaches terms core p first from job s → Reaches terms core p first from job t
    still_there p first job from s t same r = subst (λ (z : Station core). Reaches terms core p first from job z) (sym same) r

    -- what leaves phase and draft leaves what is pending
    carried : (p : Bool) (first job : J) (from s t : Station core) → Rests core s t → Stays core s t → Reaches terms core p first from job s → Reaches terms core p first from job t
    carried false first job from s t rests stays r = record { next = r.next; advances = on_rests first r.next from s t r.advances rests; rest = r.rest }
    carried true first job from s t rests stays r = record {
      next = r.next;
      advances = on_rests first r.next from s t r.advances rests;
      rest = record {
        receipt = r.rest.receipt;
        section = subst (λ (x : Setting). IsSection terms x.registers r.next r.rest.receipt job) (sym rests.setting) r.rest.section;
        inside = stays.0 ∙ r.rest.inside;
        drafted =
            r.rest.drafted ∙ ap (λ (x : Setting). receipt_of r.rest.receipt.number x.me s.me.member.draft) (sym rests.setting)
            ∙ ap (receipt_of r.rest.receipt.number t.me.member.setting.me) (sym stays.1);
      };
    }

    -- as a turn of the station does, and its settling
    pub turned : (phases : KeepsPhases core) (every before : ℕ) (p : Bool) (first job : J) (from s t u : Station core) → Goes core s t → SettlesIfDue core every before t u → Reaches terms core p first from job s → Reaches terms core p first from job u
    turned phases every before p first job from s t u goes settles r =
        let kept = settling core every before t u settles in
        carried p first job from t u kept.0 kept.1 (carried p first job from s t (goes_rests core s t goes) (goes_stays core phases s t goes) r)

use Rattle.std.specs.Prelude.{◌≡◌, ◌⊎◌, ℕ, Bool, MatchBool, List, [], ◌∷◌, ◌++◌, Err, map}
use Rattle.std.specs.List.{All}
use Rattle.atomic_table.specs.Seated.{TableId}
use Rattle.mx_journal.specs.declared.records.Write.{Write}
use Rattle.mx_journal.specs.declared.receipts.Read.{Read}
use Rattle.mx_journal.specs.declared.receipts.Receipt.{Receipt}
use Rattle.mx_journal.specs.Drafted.{Drafted, receipt_of}
use Rattle.mx_nodelaws.specs.Core.{Core}
use Rattle.mx_nodelaws.specs.declared.faults.EnterFault.TheVariants as enter
use Rattle.mx_nodelaws.specs.declared.phase.Phase.TheVariants.{Inside}
use Rattle.mx_stations.specs.Posts.{Post}
use Rattle.mx_stations.specs.Turns.{Station}
use Rattle.mx_jobs.specs.declared.tries.JobFault.{JobFault}
use Rattle.mx_jobs.specs.declared.tries.JobFault.TheVariants.{NoRegister, NumbersSpent}
use Rattle.mx_jobs.specs.Laws.{AreThere, KeepsLaw}
use Rattle.mx_jobs.specs.Terms.{Terms}

abbrev pub registers_of : List Read → List ℕ
registers_of reads = map (λ x. x.register) reads

abbrev pub values_of : List Read → List ℕ
values_of reads = map (λ x. x.value) reads

-- the table of a station, the number of nodes of the table, and the station's node
abbrev pub home_of : {T P : Type 0} → Post T P → TableId × ℕ × ℕ
home_of s = (s.table, s.nodes, s.me.node)

module _ {H S M : Type 0} (core : Core H S M) where
  -- t is the station of the same node at the same table as s, with the same setting, and no section
  -- was left between s and t
  pub record Rests (s t : Station core) : Type 0 where
    pub home : home_of t ≡ home_of s
    pub setting : t.me.member.setting ≡ s.me.member.setting
    pub receipts : t.me.receipts ≡ s.me.receipts

  -- the same, and t has this draft and the same core as s
  pub record Drafts (s : Station core) (draft : Drafted) (t : Station core) : Type 0 where
    pub rests : Rests s t
    pub same_core : t.me.member.core ≡ s.me.member.core
    pub drafted : t.me.member.draft ≡ draft

  -- all section numbers are used: the node has waited and may enter, but `enter` is refused
  abbrev pub IsSpent : Station core → Type 0
  IsSpent s = (core.enter s.me.member.core).answer ≡ Err enter.NumbersSpent

  -- one section was left between s and t, and this is its receipt
  pub record Leaves (s : Station core) (r : Receipt) (t : Station core) : Type 0 where
    pub home : home_of t ≡ home_of s
    pub setting : t.me.member.setting ≡ s.me.member.setting
    pub receipts : t.me.receipts ≡ s.me.receipts ++ r ∷ []

-- the draft has reads of exactly these registers, in order, with these values, and no writes; all
-- these registers exist
pub record HasRead (count : ℕ) (registers values : List ℕ) (draft : Drafted) : Type 0 where
  pub there : AreThere count registers
  pub registers_are : registers_of draft.reads ≡ registers
  pub values_are : values_of draft.reads ≡ values
  pub first : All (λ (x : Read). x.after ≡ 0) draft.reads
  pub no_writes : draft.writes ≡ []

module _ {J : Type 0} (terms : Terms J) where
  -- the section of this receipt is the job's next one, and leads to the job `after`. The section
  -- read the registers that the job asked for, before any write; its writes are what the job made
  -- of their values; and it keeps the law. All its registers are among the first `count`
  pub record IsSection (count : ℕ) (job : J) (r : Receipt) (after : J) : Type 0 where
    pub asked : terms.asks_for job (registers_of r.reads.items)
    pub read_there : AreThere count (registers_of r.reads.items)
    pub write_there : AreThere count (map (λ (w : Write). w.register) r.writes.items)
    pub first : All (λ (x : Read). x.after ≡ 0) r.reads.items
    pub made : terms.makes job r.number (values_of r.reads.items) r.writes.items after
    pub keeps : KeepsLaw terms job r.number (values_of r.reads.items) r.writes.items

  -- sections of the job, one after another, have these receipts, and lead to the job `after`
  abbrev pub Runs : ℕ → J → List Receipt → J → Type 0
  Runs count job [] after = after ≡ job
  Runs count job (r ∷ rs) after =
      (next : J) × IsSection count job r next × Runs count next rs after

  -- the job asks for a register that is not among the first `count`; or it made a section, which
  -- led to the job `after`, and that writes one
  abbrev pub LacksRegister : ℕ → J → J → Type 0
  LacksRegister count job after =
      ((after ≡ job)
      × ((registers : List ℕ) × terms.asks_for job registers × (AreThere count registers → ⊥)))
      ⊎ ((number : ℕ) × (values : List ℕ) × (writes : List Write)
      × terms.makes job number values writes after
      × (AreThere count (map (λ (w : Write). w.register) writes) → ⊥))

  module _ {H S M : Type 0} (core : Core H S M) where
    -- the job cannot go on at this station, for this reason
    abbrev pub CannotGoOn : JobFault → J → J → Station core → Type 0
    CannotGoOn NoRegister job after t = LacksRegister t.me.member.setting.registers job after
    CannotGoOn NumbersSpent job after t = (after ≡ job) × IsSpent core t

    -- some sections of the job were made and left, one after another: they led from the station s
    -- to t, and from the job to `after`
    pub record Advances (job : J) (s : Station core) (after : J) (t : Station core) : Type 0 where
      pub home : home_of t ≡ home_of s
      pub setting : t.me.member.setting ≡ s.me.member.setting
      pub sections : List Receipt
      pub runs : Runs s.me.member.setting.registers job sections after
      pub receipts : t.me.receipts ≡ s.me.receipts ++ sections

    -- some sections of the job were made and left, and then it could not go on, for this reason
    pub record Fails (why : JobFault) (job : J) (s : Station core) (after : J) (t : Station core)
        : Type 0 where
      pub next : J
      pub advances : Advances job s next t
      pub reason : CannotGoOn why next after t

    -- A section of the job was made and is not left yet: the node is inside, and its draft is the
    -- section's.
    pub record Pends (job : J) (s : Station core) (after : J) : Type 0 where
      pub receipt : Receipt
      pub section : IsSection s.me.member.setting.registers job receipt after
      pub inside : core.phase s.me.member.core ≡ Inside receipt.number
      pub drafted : receipt
          ≡ receipt_of receipt.number s.me.member.setting.me s.me.member.draft

    -- some sections of the job were made and left; if `pending`, one more was made, and is not left
    -- yet
    pub record Reaches (pending : Bool) (job : J) (s : Station core) (after : J) (t : Station core)
        : Type 0 where
      pub next : J
      pub advances : Advances job s next t
      pub rest : MatchBool pending (Pends next t after) (after ≡ next)

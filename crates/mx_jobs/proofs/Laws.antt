-- Registers after sections, one after another, of which each keeps a law.
use Rattle.std.proofs.Common.{◌≡◌, ◌∙◌, ◌<◌, ◌≤◌, ◌==◌, ◌++◌, ℕ, zero, suc, inl, inr, cond, nat_eq, List, [], ◌∷◌, get_or, length, map, replicate, slice_get, unwrap_or, Some, take, refl, sym, ap, arith, subst}
use Rattle.std.specs.List.{All}
use Rattle.std.proofs.Math.ListN.{set}
use Rattle.std.proofs.lemmas.List.{append-nil, get_or-replicate, get_or-set_other, get_or-set_same, length-map, length-replicate, length-set}
use Rattle.std.proofs.lemmas.Option.{get_or_from_slice_get, slice_get_within}
use Rattle.mx_stamps.specs.Lists.{IsIn, each_below}
use Rattle.mx_stamps.specs.declared.limits.TheConstants.{MAX_REGISTERS}
use Rattle.mx_stamps.proofs.Choices.{bool_cases, eq_false, eq_is, eq_true}
use Rattle.mx_stamps.proofs.Lists.{has_each_below, in_get, length_each_below}
use Rattle.mx_journal.specs.declared.records.Write.{Write}
use Rattle.mx_journal.specs.declared.receipts.Read.{Read}
use Rattle.mx_journal.specs.declared.receipts.Receipt.{Receipt}
use Rattle.mx_journal.specs.Drafted.{record_of}
use Rattle.mx_journal.specs.Records.{record_at}
use Rattle.mx_journal.specs.Settled.{JournalState}
use Rattle.mx_journal.proofs.Maps.{found_at}
use Rattle.mx_registers.specs.declared.contents.Content.{Content}
use Rattle.mx_registers.specs.Based.{registers_in}
use Rattle.mx_registers.specs.Registers.{applied, value_in, writes_of, writes_to}
use Rattle.mx_registers.proofs.Applying.{applied_append}
use Rattle.mx_member.proofs.CorePart.{get_map}
use Rattle.mx_member.proofs.OwnReceipts.{place_in}
use Rattle.mx_stations.proofs.Numbers.{in_map, records_ascend}
use Rattle.mx_jobs.specs.Laws.{AreThere, after_writes, contents_of, held_in, values_in}
use Rattle.mx_jobs.specs.Runs.{HaveRun, own_of}
use Rattle.mx_jobs.specs.Sections.{IsSection, Runs, registers_of, values_of}
use Rattle.mx_jobs.specs.Serial.{AreSerial}
use Rattle.mx_jobs.proofs.OwnReceipts.{to_filter}
use Rattle.mx_jobs.specs.Terms.{Terms}

same_list : (xs ys : List ℕ) → length xs ≡ length ys → ((i : ℕ) → i < length xs → get_or xs i 0 ≡ get_or ys i 0) → xs ≡ ys
same_list [] [] long each = refl
same_list [] (y ∷ ys) long each = absurd (omega arith)
same_list (x ∷ xs) [] long each = absurd (omega arith)
same_list (x ∷ xs) (y ∷ ys) long each = ap (λ z. z ∷ xs) (each 0 (omega arith)) ∙ ap (λ zs. y ∷ zs) (same_list xs ys (omega arith) (λ i low. each (suc i) (omega arith)))

long_as : (ws : List Write) (xs : List ℕ) → length (after_writes ws xs) ≡ length xs
long_as [] xs = refl
long_as (w ∷ ws) xs = long_as ws (set xs w.register w.value) ∙ length-set xs w.register w.value

one_write : (w : Write) (xs : List ℕ) (register : ℕ) → register < length xs → get_or (set xs w.register w.value) register 0 ≡ cond (nat_eq w.register register) w.value (get_or xs register 0)
one_write w xs register low = elim (bool_cases (nat_eq w.register register)) [
  | inl same ↦
      let e : w.register ≡ register = eq_true w.register register same in
      subst (λ b. get_or (set xs w.register w.value) register 0 ≡ cond b w.value (get_or xs register 0)) (sym same)
      (subst (λ (i : ℕ). get_or (set xs i w.value) register 0 ≡ w.value) (sym e) (get_or-set_same xs register w.value 0 low))
  | inr other ↦
      subst (λ b. get_or (set xs w.register w.value) register 0 ≡ cond b w.value (get_or xs register 0)) (sym other)
      (get_or-set_other xs w.register register w.value 0 (λ e. eq_false w.register register other (sym e)))
]

-- a register after writes
held_after : (ws : List Write) (xs : List ℕ) (register : ℕ) → register < length xs → get_or (after_writes ws xs) register 0 ≡ applied register ws (get_or xs register 0)
held_after [] xs register low = refl
held_after (w ∷ ws) xs register low =
    held_after ws (set xs w.register w.value) register (let e = length-set xs w.register w.value in omega arith)
    ∙ ap (applied register ws) (one_write w xs register low)

element : {X : Type 0} (xs : List X) (k : ℕ) → k < length xs → (x : X) × (slice_get xs k ≡ Some x)
element [] k low = absurd (omega arith)
element (x ∷ xs) zero low = (x, refl)
element (x ∷ xs) (suc k) low = element xs k (omega arith)

all_in : (xs : List Read) (x : Read) → All (λ (y : Read). y.after ≡ 0) xs → IsIn x xs → x.after ≡ 0
all_in xs x all h = let p = place_in xs x h in subst (λ (y : Read). y.after ≡ 0) (get_or_from_slice_get xs p.0 x x p.1) (all p.0 x (slice_get_within xs p.0 x p.1))

-- the value of a register among contents
pub value_at : (contents : List Content) (register : ℕ) → unwrap_or (value_in register contents) 0 ≡ get_or (values_in contents) register 0
value_at [] register = refl
value_at (x ∷ xs) zero = refl
value_at (x ∷ xs) (suc register) = value_at xs register

pub long_contents : (count : ℕ) (journal : JournalState) → length (contents_of count journal) ≡ count
long_contents count journal = length-map (registers_in count journal) (λ (c : Content). c.value) ∙ length_each_below _ count

at_below : (f : ℕ → ℕ) (n i : ℕ) → i < n → get_or (each_below f n) i 0 ≡ f i
at_below f n i low = get_or_from_slice_get (each_below f n) i (f i) 0 (has_each_below f n i low)

module _ (count : ℕ) (receipts : List Receipt) (journal : JournalState) (serial : AreSerial receipts journal) where
  -- what all registers hold after the first sections
  abbrev contents : ℕ → List ℕ
  contents k = each_below (λ register. applied register (writes_to k (map record_of receipts)) 0) count

  at_first : contents 0 ≡ replicate count 0
  at_first =
      let size = length_each_below (λ (register : ℕ). applied register (writes_to 0 (map record_of receipts)) 0) count in
      same_list (contents 0) (replicate count 0) (size ∙ sym (length-replicate count 0))
      (λ i low. at_below (λ register. 0) count i (omega arith) ∙ sym (get_or-replicate count i 0 0 (omega arith)))

  -- the writes of one section
  recorded : (k : ℕ) (r : Receipt) → slice_get receipts k ≡ Some r → writes_of (record_at (suc k) (map record_of receipts)) ≡ r.writes.items
  recorded k r at =
      let found = found_at 1 (map record_of receipts) (records_ascend receipts serial.numbered) (record_of r) (in_map record_of receipts r (in_get receipts k r at)) in
      ap writes_of (ap (λ n. record_at n (map record_of receipts)) (sym (serial.numbered k r at)) ∙ found)

  step : (k : ℕ) (r : Receipt) → slice_get receipts k ≡ Some r → contents (suc k) ≡ after_writes r.writes.items (contents k)
  step k r at =
      let size = λ (n : ℕ). length_each_below (λ (register : ℕ). applied register (writes_to n (map record_of receipts)) 0) count in
      let long = long_as r.writes.items (contents k) in
      same_list (contents (suc k)) (after_writes r.writes.items (contents k)) (size (suc k) ∙ sym (size k) ∙ sym long) (λ i low.
      let within : i < count = (let s = size (suc k) in omega arith) in
      let there : i < length (contents k) = (let s = size k in omega arith) in
      at_below (λ register. applied register (writes_to (suc k) (map record_of receipts)) 0) count i within
      ∙ applied_append i (writes_to k (map record_of receipts)) (writes_of (record_at (suc k) (map record_of receipts))) 0
      ∙ ap (λ ws. applied i ws (applied i (writes_to k (map record_of receipts)) 0)) (recorded k r at)
      ∙ ap (applied i r.writes.items) (sym (at_below (λ register. applied register (writes_to k (map record_of receipts)) 0) count i within))
      ∙ sym (held_after r.writes.items (contents k) i there))

  read_so : (k : ℕ) (reads : List Read) → ((x : Read) → IsIn x reads → x.value ≡ applied x.register (writes_to k (map record_of receipts)) 0) → AreThere count (registers_of reads) → values_of reads ≡ held_in (contents k) (registers_of reads)
  read_so k [] each there = refl
  read_so k (x ∷ xs) each there =
      ap (λ v. v ∷ values_of xs) (each x (inl refl) ∙ sym (at_below (λ register. applied register (writes_to k (map record_of receipts)) 0) count x.register there.0))
      ∙ ap (λ vs. get_or (contents k) x.register 0 ∷ vs) (read_so k xs (λ y h. each y (inr h)) there.1)

  -- a read before all writes has what the registers held before the section
  first_read : (k : ℕ) (r : Receipt) (x : Read) → slice_get receipts k ≡ Some r → IsIn x r.reads.items → x.after ≡ 0 → x.value ≡ applied x.register (writes_to k (map record_of receipts)) 0
  first_read k r x at h first =
      (serial.reads k r x at h).1
      ∙ ap (λ (n : ℕ). applied x.register (writes_to k (map record_of receipts) ++ take n r.writes.items) 0) first
      ∙ ap (λ ws. applied x.register ws 0) (append-nil (writes_to k (map record_of receipts)))

  -- what the journal shows
  pub shown : count ≤ MAX_REGISTERS → contents_of count journal ≡ contents (length receipts)
  shown few =
      let f = λ (register : ℕ). applied register (writes_to (length receipts) (map record_of receipts)) 0 in
      let size = length_each_below f count in
      let long : length (contents_of count journal) ≡ count = length-map (registers_in count journal) (λ (c : Content). c.value) ∙ length_registers in
      same_list (contents_of count journal) (contents (length receipts)) (long ∙ sym size) (λ i low.
      let c = element (registers_in count journal) i (let l = length-map (registers_in count journal) (λ (c : Content). c.value) in omega arith) in
      get_or_from_slice_get (contents_of count journal) i c.0.value 0 (get_map (λ (c : Content). c.value) (registers_in count journal) i c.0 c.1)
      ∙ serial.shows count few i c.0 c.1
      ∙ sym (at_below f count i (omega arith)))
    where
      length_registers : length (registers_in count journal) ≡ count
      length_registers = length_each_below _ count

  module _ {J : Type 0} (terms : Terms J) where
    -- each receipt is of a section of some job
    abbrev AreSections : Type 0
    AreSections = (r : Receipt) → IsIn r receipts → (job : J) × (after : J) × IsSection terms count job r after

    holds_at : AreSections → ((n : ℕ) → terms.holds 0 (replicate n 0)) → (k : ℕ) → k ≤ length receipts → terms.holds k (contents k)
    holds_at sections begins zero low = subst (terms.holds 0) (sym at_first) (begins count)
    holds_at sections begins (suc k) low =
        let e = element receipts k (omega arith) in
        let r = e.0 in
        let s = sections r (in_get receipts k r e.1) in
        let size : length (contents k) ≡ count = length_each_below _ count in
        let number = serial.numbered k r e.1 in
        let kept = s.2.keeps k (contents k) (registers_of r.reads.items) number s.2.asked
        (subst (λ (n : ℕ). AreThere n (registers_of r.reads.items)) (sym size) s.2.read_there)
        (subst (λ (n : ℕ). AreThere n (map (λ (w : Write). w.register) r.writes.items)) (sym size) s.2.write_there)
        (read_so k r.reads.items (λ x h. first_read k r x e.1 h (all_in r.reads.items x s.2.first h)) s.2.read_there)
        (holds_at sections begins k (omega arith)) in
        subst (terms.holds (suc k)) (sym (step k r e.1)) (subst (λ (n : ℕ). terms.holds n (after_writes r.writes.items (contents k))) number kept)

    pub holds_shown : AreSections → ((n : ℕ) → terms.holds 0 (replicate n 0)) → count ≤ MAX_REGISTERS → terms.holds (length receipts) (contents_of count journal)
    holds_shown sections begins few = subst (terms.holds (length receipts)) (sym (shown few)) (holds_at sections begins (length receipts) (omega arith))

module _ {J : Type 0} (terms : Terms J) (count : ℕ) where
  section_in : (job : J) (rs : List Receipt) (after : J) → Runs terms count job rs after → (r : Receipt) → IsIn r rs → (j : J) × (next : J) × IsSection terms count j r next
  section_in job [] after runs r h = absurd h
  section_in job (x ∷ rs) after runs r (inl e) = (job, runs.0, subst (λ (z : Receipt). IsSection terms count job z runs.0) (sym e) runs.1)
  section_in job (x ∷ rs) after runs r (inr h) = section_in runs.0 rs after runs.2 r h

  -- what holds at the end of a run
  pub law_holds : (jobs : List J) (receipts : List Receipt) (journal : JournalState) (afters : List J) → HaveRun terms count jobs receipts journal afters → ((n : ℕ) → terms.holds 0 (replicate n 0)) → count ≤ MAX_REGISTERS
      → terms.holds (length receipts) (contents_of count journal)
  law_holds jobs receipts journal afters ran begins few =
      holds_shown count receipts journal ran.serial terms
      (λ r h.
      let low = ran.own r h in
      let job = element jobs r.node low in
      let after = element afters r.node (let same = ran.count in omega arith) in
      section_in job.0 (own_of r.node receipts) after.0 (ran.runs r.node job.0 after.0 job.1 after.1).0 r (to_filter (λ x. x.node == r.node) receipts r h (eq_is r.node r.node refl)))
      begins few

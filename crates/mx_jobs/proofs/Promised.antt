-- What workers leave of the stations and jobs of a run.
use Rattle.std.proofs.Common.{◌≡◌, ◌∙◌, ◌<◌, ◌≤◌, ◌++◌, ℕ, zero, suc, List, [], ◌∷◌, None, length, map, slice_get, Some, refl, sym, ap, arith, subst}
use Rattle.std.specs.List.{AllZip}
use Rattle.std.proofs.lemmas.List.{length-map}
use Rattle.std.proofs.lemmas.Option.{same_Some, slice_get_within}
use mathlib.Core.Option.{some}
use lib.ListN.{get_elem?}
use Rattle.mx_stamps.proofs.Lists.{in_get, none_is_no_some}
use Rattle.mx_journal.specs.declared.receipts.Receipt.{Receipt}
use Rattle.mx_journal.specs.Settled.{JournalState}
use Rattle.mx_nodelaws.specs.Core.{Core}
use Rattle.mx_member.specs.Steps.{start_of}
use Rattle.mx_stations.specs.Gathered.{IsGathered, OfOneTable}
use Rattle.mx_stations.specs.Opened.{AreFresh}
use Rattle.mx_stations.specs.Entries.{Node}
use Rattle.mx_stations.specs.Turns.{Station}
use Rattle.mx_stations.proofs.Places.{as_slice_at}
use Rattle.mx_jobs.specs.declared.worker.Ended.{Ended}
use Rattle.mx_jobs.specs.declared.worker.Ended.TheVariants.{Done, GateShut}
use Rattle.mx_jobs.specs.declared.worker.RunOptions.{RunOptions}
use Rattle.mx_jobs.specs.Faults.{Tells}
use Rattle.mx_jobs.specs.Sections.{Runs}
use Rattle.mx_jobs.specs.declared.threads.Worker.{Worker}
use Rattle.mx_jobs.specs.Posted.{AreEach, workers}
use Rattle.mx_jobs.specs.Runs.{AreBack, AreDone, HaveRun, IsAtRest, IsDone, IsLeft, Opening, own_of, registers_at}
use Rattle.mx_jobs.proofs.Each.{as_elem}
use Rattle.mx_jobs.proofs.OwnReceipts.{own_receipts, owned}
use Rattle.mx_jobs.specs.Terms.{Terms}

-- the stations of a new table are at rest
pub new_rests : {H S M : Type 0} (core : Core H S M) (shape : H) (origin limit registers : ℕ) (ss : List (Station core)) (fresh_ones : AreFresh (core.count shape) (λ i. start_of core shape i origin limit registers) ss)
    → AreEach (IsAtRest core (record { shape = shape; origin = origin; limit = limit; registers = registers; table = fresh_ones.1.0 })) ss
new_rests core shape origin limit registers ss fresh_ones k s at = let is = fresh_ones.1.1 k s (as_elem ss k s at) in record { here = is.0; nodes = is.1; me = is.2 }

-- what is at a place of a mapped list
was_at : {X Y : Type 0} (f : X → Y) (xs : List X) (k : ℕ) (y : Y) → slice_get (map f xs) k ≡ Some y → (x : X) × (slice_get xs k ≡ Some x) × (f x ≡ y)
was_at f [] k y at = absurd (none_is_no_some y at)
was_at f (x ∷ xs) zero y at = (x, refl, same_Some (f x) y at)
was_at f (x ∷ xs) (suc k) y at = was_at f xs k y at

is_at : {X Y : Type 0} (f : X → Y) (xs : List X) (k : ℕ) (x : X) → slice_get xs k ≡ Some x → slice_get (map f xs) k ≡ Some (f x)
is_at f [] k x at = absurd (none_is_no_some x at)
is_at f (y ∷ xs) zero x at = ap (λ (z : _). Some (f z)) (same_Some y x at)
is_at f (y ∷ xs) (suc k) x at = is_at f xs k x at

-- what is at a place that is there
found_at : {X : Type 0} (xs : List X) (k : ℕ) → k < length xs → (x : X) × (slice_get xs k ≡ Some x)
found_at [] k low = absurd (omega (arith, low))
found_at (x ∷ xs) zero low = (x, refl)
found_at (x ∷ xs) (suc k) low = found_at xs k (omega (arith, low))

-- the worker at a place has the station and the job at that place
worker_at : {S J F : Type 0} (options : RunOptions) (ss : List S) (js : List J) (fs : List F) (k : ℕ) (w : Worker S J F) → slice_get (workers options ss js fs) k ≡ Some w
    → (slice_get ss k ≡ Some w.station) × (slice_get js k ≡ Some w.job) × (w.options ≡ options)
worker_at options [] js fs k w at = absurd (none_is_no_some w at)
worker_at options (s ∷ ss) [] fs k w at = absurd (none_is_no_some w at)
worker_at options (s ∷ ss) (j ∷ js) [] k w at = absurd (none_is_no_some w at)
worker_at {S} {J} {F} options (s ∷ ss) (j ∷ js) (f ∷ fs) zero w at =
    let same = same_Some (record { station = s; job = j; fates = f; options = options }) w at in
    (ap (λ (z : Worker S J F). Some z.station) same, ap (λ (z : Worker S J F). Some z.job) same, sym (ap (λ (z : Worker S J F). z.options) same))
worker_at options (s ∷ ss) (j ∷ js) (f ∷ fs) (suc k) w at = worker_at options ss js fs k w at

pub next_worker : {S J F : Type 0} (options : RunOptions) (s : S) (ss all : List S) (j : J) (js these : List J) (f : F) (fs those : List F) → all ≡ s ∷ ss → these ≡ j ∷ js → those ≡ f ∷ fs
    → workers options all these those ≡ record { station = s; job = j; fates = f; options = options } ∷ workers options ss js fs
next_worker options s ss all j js these f fs those is are lie =
    ap (λ l. workers options l these those) is ∙ ap (λ l. workers options (s ∷ ss) l those) are ∙ ap (λ l. workers options (s ∷ ss) (j ∷ js) l) lie

pub many_workers : {S J F : Type 0} (options : RunOptions) (ss : List S) (js : List J) (fs : List F) → length js ≡ length ss → length ss ≤ length fs → length (workers options ss js fs) ≡ length ss
many_workers options [] js fs each linked = refl
many_workers options (s ∷ ss) [] fs each linked = absurd (omega (arith, each))
many_workers options (s ∷ ss) (j ∷ js) [] each linked = absurd (omega (arith, linked))
many_workers options (s ∷ ss) (j ∷ js) (f ∷ fs) each linked = ap suc (many_workers options ss js fs (omega (arith, each)) (omega (arith, linked)))

module _ {A B : Type 0} (R : A → B → Type 0) where
  pub zip_many : (xs : List A) (ys : List B) → AllZip R xs ys → length ys ≡ length xs
  zip_many [] [] all = refl
  zip_many [] (y ∷ ys) all = absurd all
  zip_many (x ∷ xs) [] all = absurd all
  zip_many (x ∷ xs) (y ∷ ys) all = ap suc (zip_many xs ys all.1)

  zip_at : (xs : List A) (ys : List B) → AllZip R xs ys → (k : ℕ) (y : B) → slice_get ys k ≡ Some y → (x : A) × (slice_get xs k ≡ Some x) × R x y
  zip_at [] [] all k y at = absurd (none_is_no_some y at)
  zip_at [] (z ∷ ys) all k y at = absurd all
  zip_at (x ∷ xs) [] all k y at = absurd all
  zip_at (x ∷ xs) (z ∷ ys) all zero y at = (x, refl, subst (R x) (same_Some z y at) all.0)
  zip_at (x ∷ xs) (z ∷ ys) all (suc k) y at = zip_at xs ys all.1 k y at

module _ {J : Type 0} (terms : Terms J) {H S M : Type 0} (core : Core H S M) (options : RunOptions) (stations : List (Station core)) (jobs : List J) where
  -- with no thread nothing is done
  did_nothing : (s : Station core) (j : J) → IsLeft terms core options s j (s, j, GateShut)
  did_nothing s j = record {
    works = refl;
    done = λ e. cc;
    reached = λ e. cc;
    idles = λ e. cc;
    broken = λ why e. cc;
    shut = λ e. refl;
  }

  pub none_begun : length jobs ≡ length stations → AreBack terms core options stations jobs (map (λ (s : Station core). GateShut) stations) stations jobs
  none_begun same = record {
    many = refl;
    jobs_many = same;
    afters_many = same;
    ends_many = length-map stations (λ (s : Station core). GateShut);
    each = λ k from left job after end place own here there last.
        let is_left = same_Some from left (sym place ∙ here) in
        let is_after = same_Some job after (sym own ∙ there) in
        let is_end = (was_at (λ (s : Station core). GateShut) stations k end last).2 in
        subst (λ (z : Station core × J × Ended). IsLeft terms core options from job z) (λ i. (is_left i, is_after i, is_end i)) (did_nothing from job);
  }

  -- what all workers left is back
  module _ {F : Type 0} (fates : List F) (works : List (Worker (Station core) J F)) (lefts : List (Station core × J × Ended)) (each : length jobs ≡ length stations) (linked : length stations ≤ length fates)
      (started : works ≡ workers options stations jobs fates) (led : AllZip (λ (w : Worker (Station core) J F) left. IsLeft terms core w.options w.station w.job left) works lefts) where
    all : AllZip (λ (w : Worker (Station core) J F) left. IsLeft terms core w.options w.station w.job left) (workers options stations jobs fates) lefts
    all = subst (λ ws. AllZip (λ (w : Worker (Station core) J F) left. IsLeft terms core w.options w.station w.job left) ws lefts) started led

    pub left_many : length lefts ≡ length stations
    left_many = zip_many _ _ lefts all ∙ many_workers options stations jobs fates each linked

    abbrev left_stations : List (Station core)
    left_stations = map (λ (l : Station core × J × Ended). l.0) lefts

    abbrev left_jobs : List J
    left_jobs = map (λ (l : Station core × J × Ended). l.1) lefts

    abbrev ends : List Ended
    ends = map (λ (l : Station core × J × Ended). l.2) lefts

    is_left_at : (k : ℕ) (from left : Station core) (job after : J) (end : Ended) → slice_get stations k ≡ Some from → slice_get jobs k ≡ Some job → slice_get left_stations k ≡ Some left → slice_get left_jobs k ≡ Some after → slice_get ends k ≡ Some end
        → IsLeft terms core options from job (left, after, end)
    is_left_at k from left job after end place own here there last =
        let one = was_at (λ (l : Station core × J × Ended). l.0) lefts k left here in
        let is_after : one.0.1 ≡ after = same_Some one.0.1 after (sym (is_at (λ (l : Station core × J × Ended). l.1) lefts k one.0 one.1) ∙ there) in
        let is_end : one.0.2 ≡ end = same_Some one.0.2 end (sym (is_at (λ (l : Station core × J × Ended). l.2) lefts k one.0 one.1) ∙ last) in
        let by = zip_at (λ (w : Worker (Station core) J F) left. IsLeft terms core w.options w.station w.job left) (workers options stations jobs fates) lefts all k one.0 one.1 in
        let at = worker_at options stations jobs fates k by.0 by.1 in
        let is_from : by.0.station ≡ from = same_Some by.0.station from (sym at.0 ∙ place) in
        let is_job : by.0.job ≡ job = same_Some by.0.job job (sym at.1 ∙ own) in
        subst (λ (z : (RunOptions × Station core × J) × (Station core × J × Ended)). IsLeft terms core z.0.0 z.0.1 z.0.2 z.1) (λ i. ((at.2 i, is_from i, is_job i), (one.2 i, is_after i, is_end i))) by.2

    all_back : AreBack terms core options stations jobs ends left_stations left_jobs
    all_back =
        record {
          many = length-map lefts (λ (l : Station core × J × Ended). l.0) ∙ left_many;
          jobs_many = each;
          afters_many = length-map lefts (λ (l : Station core × J × Ended). l.1) ∙ left_many;
          ends_many = length-map lefts (λ (l : Station core × J × Ended). l.2) ∙ left_many;
          each = is_left_at;
        }

    -- where nothing is told, all are done
    all_done : Tells None ends → AreDone terms core options stations jobs left_stations left_jobs
    all_done told = record {
      many = all_back.many;
      jobs_many = each;
      afters_many = all_back.afters_many;
      each = λ k from left job after place own here there.
          let low = slice_get_within left_stations k left here in
          let many = all_back.many in
          let ends_many = all_back.ends_many in
          let end = found_at ends k (omega (arith, low, many, ends_many)) in
          (is_left_at k from left job after end.0 place own here there end.1).done (told end.0 (in_get ends k end.0 end.1));
    }

    -- the same, of stations and jobs that are those of `lefts`
    module _ (ss : List (Station core)) (js : List J) (here : ss ≡ left_stations) (there : js ≡ left_jobs) where
      pub back_as : AreBack terms core options stations jobs ends ss js
      back_as = subst (λ l. AreBack terms core options stations jobs ends l js) (sym here) (subst (λ l. AreBack terms core options stations jobs ends left_stations l) (sym there) all_back)

      pub done_as : Tells None ends → AreDone terms core options stations jobs ss js
      done_as told = subst (λ l. AreDone terms core options stations jobs l js) (sym here) (subst (λ l. AreDone terms core options stations jobs left_stations l) (sym there) (all_done told))

  -- all that are done are back
  pub done_back : (lefts : List (Station core)) (afters : List J) → AreDone terms core options stations jobs lefts afters → AreBack terms core options stations jobs (map (λ (s : Station core). Done) lefts) lefts afters
  done_back lefts afters done = record {
    many = done.many;
    jobs_many = done.jobs_many;
    afters_many = done.afters_many;
    ends_many = length-map lefts (λ (s : Station core). Done) ∙ done.many;
    each = λ k from left job after end place own here there last.
        let one = was_at (λ (s : Station core). Done) lefts k end last in
        let is = done.each k from left job after place own here there in
        subst (λ (z : Ended). IsLeft terms core options from job (left, after, z)) one.2
        (record {
          works = is.works;
          done = λ e. is;
          reached = λ e. cc;
          idles = λ e. cc;
          broken = λ why e. cc;
          shut = λ e. cc;
        });
  }

  module _ (o : Opening H) (lefts : List (Station core)) (afters : List J) (rests : AreEach (IsAtRest core o) stations) (done : AreDone terms core options stations jobs lefts afters) where
    -- what the k-th station, which was at rest, and its job came to
    came_to : (k : ℕ) (left : Station core) → slice_get lefts k ≡ Some left
        → (from : Station core) × (job after : J) × (slice_get jobs k ≡ Some job) × (slice_get afters k ≡ Some after) × IsAtRest core o k from × IsDone terms core options from job left after
    came_to k left here =
        let low = slice_get_within lefts k left here in
        let many = done.many in
        let jobs_many = done.jobs_many in
        let afters_are = done.afters_many in
        let f = found_at stations k (omega (arith, low, many)) in
        let j = found_at jobs k (omega (arith, low, many, jobs_many)) in
        let a = found_at afters k (omega (arith, low, many, afters_are)) in
        (f.0, j.0, a.0, j.1, a.1, rests k f.0 f.1, done.each k f.0 left j.0 a.0 f.1 j.1 here a.1)

    pub of_one_table : OfOneTable lefts
    of_one_table = (
      o.table,
      core.count o.shape,
      λ k s at.
          let c = came_to k s (as_slice_at lefts k s at) in
          (ap (λ h. h.0) c.6.advanced.home ∙ c.5.here, ap (λ h. h.1) c.6.advanced.home ∙ c.5.nodes),
    )

    ordered : (k : ℕ) (s : Station core) → get_elem? lefts k ≡ some s → s.me.node ≡ k
    ordered k s at =
        let c = came_to k s (as_slice_at lefts k s at) in
        ap (λ h. h.2) c.6.advanced.home ∙ ap (λ (e : Node S M). e.node) c.5.me

    module _ (receipts : List Receipt) (journal : JournalState) (gathered : IsGathered lefts journal receipts) where
      run_of : (k : ℕ) (job after : J) → slice_get jobs k ≡ Some job → slice_get afters k ≡ Some after → Runs terms o.registers job (own_of k receipts) after × terms.finished after
      run_of k job after mine at =
          let low = slice_get_within jobs k job mine in
          let many = done.many in
          let jobs_many = done.jobs_many in
          let l = found_at lefts k (omega (arith, low, many, jobs_many)) in
          let c = came_to k l.0 l.1 in
          let went = c.6.advanced in
          let me = c.5.me in
          let own = own_receipts lefts journal receipts gathered ordered k l.0 (as_elem lefts k l.0 l.1) in
          let runs =
          subst (λ (rs : List Receipt). Runs terms o.registers c.1 rs c.2) (sym (own ∙ went.receipts ∙ ap (λ (e : Node S M). e.receipts ++ went.sections) me))
          (subst (λ (n : ℕ). Runs terms n c.1 went.sections c.2) (ap (λ (e : Node S M). e.member.setting.registers) me) went.runs) in
          let is_job : c.1 ≡ job = same_Some c.1 job (sym c.3 ∙ mine) in
          let is_after : c.2 ≡ after = same_Some c.2 after (sym c.4 ∙ at) in (
            subst (λ (j : J). Runs terms o.registers job (own_of k receipts) j) is_after (subst (λ (j : J). Runs terms o.registers j (own_of k receipts) c.2) is_job runs),
            subst terms.finished is_after c.6.finished,
          )

      -- what all came to
      pub have_run : HaveRun terms o.registers jobs receipts journal afters
      have_run = record {
        count = done.afters_many ∙ sym done.jobs_many;
        runs = run_of;
        own = λ r h. subst (λ (n : ℕ). r.node < n) (done.many ∙ sym done.jobs_many) (owned lefts journal receipts gathered ordered r h);
        serial = record { numbered = gathered.numbered; records = gathered.records; covers = gathered.covers; reads = gathered.reads; shows = gathered.shows };
      }

-- how many registers new stations have
pub new_registers : {H S M : Type 0} (core : Core H S M) (shape : H) (origin limit registers : ℕ) (ss : List (Station core)) → 0 < core.count shape → AreFresh (core.count shape) (λ i. start_of core shape i origin limit registers) ss → registers ≡ registers_at ss
new_registers core shape origin limit registers [] positive new = absurd (let e = new.0 in omega arith)
new_registers core shape origin limit registers (s ∷ ss) positive new = sym (ap (λ (e : Node _ _). e.member.setting.registers) (new.1.1 0 s refl).2)

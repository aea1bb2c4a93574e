-- What workers left of the stations of a plan.
use Rattle.std.proofs.Common.{◌≡◌, ◌∙◌, ◌≤◌, ℕ, zero, suc, length, map, inl, inr, sym, subst, ap, arith, List, [], ◌∷◌, Result, Ok, Err, IfOk}
use Rattle.std.specs.List.{AllZip}
use Rattle.std.proofs.lemmas.List.{length-map}
use mathlib.Core.Option.{some}
use lib.ListN.{get_elem?}
use Rattle.std.specs.Prelude.{Vec}
use Rattle.std.specs.declared.alloc.Global.{Global}
use Rattle.mx_explorer.specs.Weather.{Climate}
use Rattle.mx_nodelaws.specs.Core.{Core, KeepsPhases}
use Rattle.mx_member.specs.declared.parcel.Parcel.{Parcel}
use Rattle.mx_member.specs.Member.{MemberState}
use Rattle.mx_member.specs.Steps.{start_of}
use Rattle.mx_plan.specs.Fields.{Fields}
use Rattle.mx_stations.specs.declared.worker.Worked.{Worked}
use Rattle.mx_stations.specs.declared.worker.Worked.TheVariants.{Done}
use Rattle.mx_stations.specs.Entries.{Entry}
use Rattle.mx_stations.specs.Gathered.{OfOneTable}
use Rattle.mx_stations.specs.Opened.{AreFresh}
use Rattle.mx_stations.specs.Running.{fresh}
use Rattle.mx_stations.specs.Turns.{Station}
use Rattle.mx_stations.specs.Works.{IsWithin}
use Rattle.mx_stations.proofs.Rounding.{rounds_kept, rounds_node, rounds_some}
use Rattle.mx_cli.specs.declared.request.LiveOptions.{LiveOptions}
use Rattle.mx_live.specs.Stations.{AreAtRest}
use Rattle.mx_live.specs.declared.threads.NodeWorker.{NodeWorker}
use Rattle.mx_live.specs.Workers.{AreDone, AreLeft, HaveRun, IsLeft, stations_of, worker_of}
use Rattle.mx_live.proofs.StationLemmas.{first_and_more, nil_is_no_more, there, unmapped, zip_at, zip_many}

module _ {H S M : Type 0} (core : Core H S M) where
  -- what workers with these orders left
  pub left_by : (orders : LiveOptions) (works : List (NodeWorker (Station core) Climate)) (stations : List (Station core)) (left : List (Station core × Worked)) → works ≡ map (worker_of orders) stations
      → AllZip (λ (w : NodeWorker (Station core) Climate) ended. IsLeft core w.orders w.station ended) works left → AreLeft core orders stations left
  left_by orders works [] [] same all = tt
  left_by orders [] [] (e ∷ left) same all = absurd all
  left_by orders (w ∷ works) [] (e ∷ left) same all = absurd (nil_is_no_more (sym same))
  left_by orders [] (s ∷ stations) left same all = absurd (nil_is_no_more same)
  left_by orders (w ∷ works) (s ∷ stations) [] same all = absurd all
  left_by orders (w ∷ works) (s ∷ stations) (e ∷ left) same all =
      let both = first_and_more same in (
        subst (λ (x : NodeWorker (Station core) Climate). IsLeft core x.orders x.station e) both.0 all.0,
        left_by orders works stations left both.1 all.1,
      )

  -- what a worker left is of the station at its place
  pub left_at : (orders : LiveOptions) (stations : List (Station core)) (left : List (Station core × Worked)) → AreLeft core orders stations left → (k : ℕ) (ended : Station core × Worked) → get_elem? left k ≡ some ended
      → (from : Station core) × (get_elem? stations k ≡ some from) × IsLeft core orders from ended
  left_at orders stations left all k ended at = zip_at (IsLeft core orders) stations left all k ended at

  within_most : (most : ℕ) (s : Station core) → IsWithin core most s → length s.me.receipts ≤ most
  within_most most s (inl low) = omega (arith, low)
  within_most most s (inr full) = (let same = full.0 in omega (arith, same))

  rests_within : KeepsPhases core → (most : ℕ) (from : Station core) (shape : H) (i origin limit registers : ℕ) → from.me ≡ fresh i (start_of core shape i origin limit registers) → IsWithin core most from
  rests_within phases zero from shape i origin limit registers rest =
      inr (ap (λ (e : Entry (MemberState S) (Parcel M)). length e.receipts) rest, ap (λ (e : Entry (MemberState S) (Parcel M)). core.phase e.member.core) rest ∙ phases.started_idle shape i origin limit)
  rests_within phases (suc n) from shape i origin limit registers rest =
      let none : length from.me.receipts ≡ 0 = ap (λ (e : Entry (MemberState S) (Parcel M)). length e.receipts) rest in
      inl (omega (arith, none))

  -- from rest no section too many is left
  pub none_more : KeepsPhases core → (most : ℕ) (from to : Station core) → (IsWithin core most from → IsWithin core most to)
      → (shape : H) (i origin limit registers : ℕ) → from.me ≡ fresh i (start_of core shape i origin limit registers) → length to.me.receipts ≤ most
  none_more phases most from to within shape i origin limit registers rest = within_most most to (within (rests_within phases most from shape i origin limit registers rest))

module _ {H S M : Type 0} (core : Core H S M) (shape : H) (p : Fields) (orders : LiveOptions) where
  -- where what was left is: at the plan's table, each station at its node's place
  pub left_home : (left : List (Station core × Worked)) (run : HaveRun core shape p orders left) (k : ℕ) (ended : Station core × Worked) → get_elem? left k ≡ some ended
      → (ended.0.table ≡ run.rested.table) × (ended.0.nodes ≡ length p.nodes) × (ended.0.me.node ≡ k)
  left_home left run k ended at =
      let one = left_at core orders run.stations left run.worked k ended at in
      let rest = run.rested.each k one.0 one.1 in
      let works = rounds_some core 0 orders.settle orders.turns one.0 ended.0 one.2.works in
      let kept = rounds_kept core 0 orders.settle one.0 ended.0 works in
      (kept.0 ∙ rest.here, kept.1 ∙ rest.nodes, rounds_node core 0 orders.settle one.0 ended.0 works ∙ ap (λ (e : Entry (MemberState S) (Parcel M)). e.node) rest.me)

  pub left_many : (left : List (Station core × Worked)) → HaveRun core shape p orders left → length (stations_of left) ≡ length p.nodes
  left_many left run = length-map left (λ (ended : Station core × Worked). ended.0) ∙ zip_many (IsLeft core orders) run.stations left run.worked ∙ run.rested.many

  -- stations at one table
  pub of_one_table : (left : List (Station core × Worked)) → HaveRun core shape p orders left → OfOneTable (stations_of left)
  of_one_table left run = (
    run.rested.table,
    length p.nodes,
    λ k s at.
        let one = unmapped (λ (ended : Station core × Worked). ended.0) left k s at in
        let home = left_home left run k one.0 one.1 in
        (ap (λ (z : Station core). z.table) one.2 ∙ home.0, ap (λ (z : Station core). z.nodes) one.2 ∙ home.1),
  )

  -- a worker that is done has just its sections
  pub done_just : (left : List (Station core × Worked)) → HaveRun core shape p orders left → AreDone left → (k : ℕ) (ended : Station core × Worked) → get_elem? left k ≡ some ended → length ended.0.me.receipts ≡ orders.sections
  done_just left run done k ended at =
      let one = left_at core orders run.stations left run.worked k ended at in
      let place = there left k ended at in
      let is = subst (λ (e : Station core × Worked). e.1 ≡ Done) place.1 (done k ended place.0) in
      let enough = one.2.done is in
      let most = one.2.most shape k p.origin p.sections (length p.registers) (run.rested.each k one.0 one.1).me in
      omega (arith, enough, most)

module _ {H S M : Type 0} (core : Core H S M) (shape : H) (p : Fields) where
  abbrev started : ℕ → ℕ → ℕ → ℕ → Entry (MemberState S) (Parcel M)
  started i origin limit registers = fresh i (start_of core shape i origin limit registers)

  -- a fresh node of a table that is told what the plan says
  started_as : (me : Entry (MemberState S) (Parcel M)) (i origin limit registers : ℕ) → me ≡ started i origin limit registers → origin ≡ p.origin → limit ≡ p.sections → registers ≡ length p.registers
      → me ≡ started i p.origin p.sections (length p.registers)
  started_as me i origin limit registers is o l r =
      is ∙ ap (λ (x : ℕ). started i x limit registers) o ∙ ap (λ (x : ℕ). started i p.origin x registers) l ∙ ap (λ (x : ℕ). started i p.origin p.sections x) r

  -- the stations of a new table, of a call that may fail
  pub stations_rest : {E : Type 0} (n origin limit registers : ℕ) (r : Result (Vec (Station core) Global) E) → n ≡ length p.nodes → origin ≡ p.origin → limit ≡ p.sections → registers ≡ length p.registers
      → IfOk r (λ all. AreFresh n (λ i. start_of core shape i origin limit registers) all.items) → IfOk r (λ all. AreAtRest core shape p all.items)
  stations_rest n origin limit registers (Ok all) many o l g new =
      record {
        table = new.1.0;
        many = new.0 ∙ many;
        each = λ k s at.
            let is = new.1.1 k s at in
            record { here = is.0; nodes = is.1 ∙ many; me = started_as s.me k origin limit registers is.2 o l g; empty = is.3 };
      }
  stations_rest n origin limit registers (Err e) many o l g new = tt

use Rattle.std.specs.Prelude.{◌≡◌, ℕ, ◌*◌, ◌<◌, List, length, ◌==◌}
use Rattle.std.specs.List.{count_by}
use Rattle.mx_journal.specs.declared.receipts.Receipt.{Receipt}
use Rattle.mx_journal.specs.Settled.{JournalState}
use Rattle.mx_nodelaws.specs.Core.{Core}
use Rattle.mx_plan.specs.Fields.{Fields}
use Rattle.mx_plan.specs.declared.shape.Shape.{Shape}
use Rattle.mx_plan.specs.declared.shape.Shape.TheVariants as planned
use Rattle.mx_ricart.specs.Step.{ricart_core}
use Rattle.mx_maekawa.specs.Step.{maekawa_core}
use Rattle.mx_raymond.specs.Step.{raymond_core}
use Rattle.mx_stations.specs.declared.worker.Worked.{Worked}
use Rattle.mx_stations.specs.Gathered.{IsGathered}
use Rattle.mx_stations.specs.Turns.{Station}
use Rattle.mx_cli.specs.declared.request.LiveOptions.{LiveOptions}
use Rattle.mx_live.specs.Workers.{AreDone, HaveRun, stations_of}

-- each of these nodes has exactly this number of the receipts, and there are no others
pub record HaveSections (nodes sections : ℕ) (receipts : List Receipt) : Type 0 where
  pub each : (i : ℕ) → i < nodes → count_by (λ (r : Receipt). r.node == i) receipts ≡ sections
  pub all : length receipts ≡ nodes * sections

-- All workers of a run of this plan are done, and the receipts and the journal were gathered from
-- their stations.
pub record AreGathered {H S M : Type 0} (core : Core H S M) (shape : H) (p : Fields)
    (orders : LiveOptions) (receipts : List Receipt) (journal : JournalState) : Type 0 where
  pub left : List (Station core × Worked)
  pub run : HaveRun core shape p orders left
  pub done : AreDone left
  pub gathered : IsGathered (stations_of left) journal receipts

-- the same, with the algorithm of this shape
abbrev pub GatheredBy : Shape → Fields → LiveOptions → List Receipt → JournalState → Type 0
GatheredBy (planned.Ricart count) p orders receipts journal =
    AreGathered ricart_core count p orders receipts journal
GatheredBy (planned.Maekawa family) p orders receipts journal =
    AreGathered maekawa_core family p orders receipts journal
GatheredBy (planned.Raymond tree) p orders receipts journal =
    AreGathered raymond_core tree p orders receipts journal

-- the same, with the plan's shape
abbrev pub ComeOf : Fields → LiveOptions → List Receipt → JournalState → Type 0
ComeOf p orders receipts journal = GatheredBy p.shape p orders receipts journal

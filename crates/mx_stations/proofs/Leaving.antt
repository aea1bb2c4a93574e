-- A worker's turn: acts by which no section is left, and then one by which one may be.
use Rattle.std.proofs.Common.{◌≡◌, inl, inr, ℕ, List, [], ◌++◌, length, Result, Ok, Err, IfOk, OnOk, OnErr, ap, ◌∙◌}
use Rattle.std.proofs.lemmas.List.{append-nil}
use Rattle.mx_journal.specs.declared.receipts.Receipt.{Receipt}
use Rattle.mx_nodelaws.specs.Core.{Core}
use Rattle.mx_member.specs.declared.acts.Act.{Act}
use Rattle.mx_member.specs.declared.acts.Act.TheVariants.{Leave}
use Rattle.mx_member.specs.Acts.{act_of}
use Rattle.mx_member.specs.Receipts.{closed_by}
use Rattle.mx_stations.specs.declared.answers.TurnReport.{TurnReport}
use Rattle.mx_stations.specs.Posts.{does}
use Rattle.mx_stations.specs.Turns.{Goes, HoldsUnknown, Station, Turns}
use Rattle.mx_stations.specs.Works.{Acts, ActsOnce, HasTurned, IsWorkers, LeavesNone, MayLeave, TakesTurn, Toils, Works}
use Rattle.mx_stations.proofs.Going.{leads_keep, leads_none, leads_on, leads_once}
use Rattle.mx_stations.proofs.Toils.{works_on, works_turning}

module _ {H S M : Type 0} (core : Core H S M) (IsKind : ℕ → Act M → Type 0) where
  pub acts_on : (s t u : Station core) → Acts core IsKind s t → Acts core IsKind t u → Acts core IsKind s u
  acts_on = leads_on (ActsOnce core IsKind)

  pub no_act : (s t : Station core) → t ≡ s → Acts core IsKind s t
  no_act = leads_none (ActsOnce core IsKind)

  pub one_act : (a : Act M) (s t : Station core) → IsKind s.nodes a → t ≡ does core a s → Acts core IsKind s t
  one_act a s t own did = leads_once (ActsOnce core IsKind) s t (a, own, did)

  -- an act that may be refused
  pub tried_act : {A F : Type 0} (a : Act M) (r : Result A F) (s t : Station core) → IsKind s.nodes a → OnOk r (t ≡ does core a s) → OnErr r (t ≡ s) → Acts core IsKind s t
  tried_act a (Ok x) s t own did same = one_act a s t own did
  tried_act a (Err e) s t own did same = no_act s t same

module _ {H S M : Type 0} (core : Core H S M) (register : ℕ) where
  abbrev OfWorker : ℕ → Act M → Type 0
  OfWorker n a = IsWorkers register n a

  acting_works : (s t : Station core) → Acts core OfWorker s t → Works core register s t
  acting_works = leads_keep (ActsOnce core OfWorker) (Works core register) (leads_none (Toils core register)) (works_on core register) (λ s t did. leads_once (Toils core register) s t (inr did))

  pub none_resting : (s t : Station core) → t ≡ s → LeavesNone core register s t
  none_resting s t same = (no_act core OfWorker s t same, ap (λ (z : Station core). length z.me.receipts) same)

  pub none_on : (s t u : Station core) → LeavesNone core register s t → LeavesNone core register t u → LeavesNone core register s u
  none_on s t u a b = (acts_on core OfWorker s t u a.0 b.0, b.1 ∙ a.1)

  -- an act that answers no receipt, and may be refused
  pub none_trying : {A F : Type 0} (a : Act M) (r : Result A F) (s t : Station core) → IsWorkers register s.nodes a → closed_by (act_of core a s.me.member).answer ≡ [] → OnOk r (t ≡ does core a s) → OnErr r (t ≡ s) → LeavesNone core register s t
  none_trying a (Ok x) s t own none did same = (
    one_act core OfWorker a s t own did,
    ap (λ (z : Station core). length z.me.receipts) did
        ∙ ap (λ (rs : List Receipt). length (s.me.receipts ++ rs)) none
        ∙ ap (λ (rs : List Receipt). length rs) (append-nil s.me.receipts),
  )
  none_trying a (Err e) s t own none did same = none_resting s t same

  left_works : (s t : Station core) → MayLeave core s t → Works core register s t
  left_works s t (inl same) = leads_none (Toils core register) s t same
  left_works s t (inr did) = leads_once (Toils core register) s t (inr (Leave, tt, did))

  -- a worker's turn is work
  pub turn_works : (s t : Station core) → TakesTurn core register s t → Works core register s t
  turn_works s t did =
      works_on core register s did.0 t (acting_works s did.0 did.2.0)
      (works_on core register did.0 did.1 t (left_works did.0 did.1 did.3) (works_turning core register did.1 t did.4.0))

module _ {H S M : Type 0} (core : Core H S M) where
  pub leave_trying : {A F : Type 0} (r : Result A F) (s t : Station core) → OnOk r (t ≡ does core Leave s) → OnErr r (t ≡ s) → MayLeave core s t
  leave_trying (Ok x) s t did same = inr did
  leave_trying (Err e) s t did same = inl same

  -- a turn that tells of itself, or in which memory was refused
  pub has_turned : {F : Type 0} (r : Result TurnReport F) (s t : Station core) → IfOk r (λ report. Turns core s report t) → Goes core s t → OnErr r (HoldsUnknown core t) → HasTurned core s t
  has_turned (Ok report) s t told goes kept = (goes, inl (report, told))
  has_turned (Err e) s t told goes kept = (goes, inr kept)

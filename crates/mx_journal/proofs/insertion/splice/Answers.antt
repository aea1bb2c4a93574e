use Rattle.std.proofs.Common.{Global, List, Vec, ◌≡◌, ◌+◌, ◌-◌, ◌≤◌, ◌++◌, [], get_or, length, slice_set, sym, ◌∙◌, ap, subst, arith}
use Rattle.std.specs.Vec.{vec_capacity, vec_len}
use Rattle.mx_journal.specs.declared.records.Record.{Record}
use Rattle.mx_journal.specs.Runs.{TouchesBelow, first_number, sewn}
use Rattle.mx_journal.proofs.Answering.{not_true}
use Rattle.mx_journal.proofs.Seams.{sewn_by_gap, sewn_by_touch}
use Rattle.mx_journal.proofs.insertion.splice.Goals.{then-continues+in_ok-splice_first, else-continues}
use Rattle.mx_journal.proofs.insertion.splice.Goals as goal

pub add_all-requires : goal.add_all-requires
add_all-requires c = elim c.if-continues.branch [
  | then-continues+in_ok-splice_first w ↦
      subst (λ (r : Vec (List Record) Global). vec_len r + vec_len c.if-continues.others ≤ vec_capacity r) (sym w.runs-is)
      (subst (λ (o : Vec (List Record) Global). vec_len w.splice_first.new.runs + vec_len o ≤ vec_capacity w.splice_first.new.runs) (sym w.others-is) (omega (arith, w.splice_first.ensures, c.in_ok-reserve.ensures.len, c.in_ok-reserve.ensures.ok, c.in_ok-reserve.ensures.capacity)))
  | else-continues w ↦
      subst (λ (r : Vec (List Record) Global). vec_len r + vec_len c.if-continues.others ≤ vec_capacity r) (sym w.runs-is)
      (subst (λ (o : Vec (List Record) Global). vec_len c.reserve.new.self + vec_len o ≤ vec_capacity c.reserve.new.self) (sym w.others-is) (omega (arith, c.in_ok-reserve.ensures.ok, c.in_ok-reserve.ensures.capacity)))
]

pub returns-clause-ok : goal.returns-clause-ok
returns-clause-ok c =
    let runs = c.reserve.new.self.items in
    let others = c.args.others.now.items in
    let both : c.if-continues.runs.items ++ c.if-continues.others.items ≡ sewn runs others = elim c.if-continues.branch [
      | then-continues+in_ok-splice_first w ↦
          let s = subst (λ l. (1 ≤ length c.deref-2.result.now) × TouchesBelow (first_number (get_or c.deref-2.result.now 0 [])) (length l) l) c.deref.ensures.value (c.continues.ensures.0 w.if-continues.true) in
          let t = subst (λ l. (1 ≤ length l) × TouchesBelow (first_number (get_or l 0 [])) (length runs) runs) c.deref-2.ensures.value s in
          ap (λ (r : Vec (List Record) Global). r.items ++ c.if-continues.others.items) w.runs-is
          ∙ ap (λ (o : Vec (List Record) Global). w.splice_first.new.runs.items ++ o.items) w.others-is
          ∙ ap (λ l. l ++ w.splice_first.new.others.items) w.in_ok-splice_first.ensures.ok
          ∙ ap (λ l. slice_set runs (length runs - 1) (get_or runs (length runs - 1) [] ++ get_or others 0 []) ++ l) w.in_ok-splice_first.ensures.rest
          ∙ sewn_by_touch runs others t.0 t.1
      | else-continues w ↦
          ap (λ (r : Vec (List Record) Global). r.items ++ c.if-continues.others.items) w.runs-is
          ∙ ap (λ (o : Vec (List Record) Global). runs ++ o.items) w.others-is
          ∙ sewn_by_gap runs others (λ t.
          let s = subst (λ l. (1 ≤ length l) × TouchesBelow (first_number (get_or l 0 [])) (length runs) runs) (sym c.deref-2.ensures.value) t in
          let e = c.continues.ensures.1 (subst (λ l. (1 ≤ length c.deref-2.result.now) × TouchesBelow (first_number (get_or c.deref-2.result.now 0 [])) (length l) l) (sym c.deref.ensures.value) s) in
          not_true c.continues.result e w.if-continues.false)
    ] in
    c.add_all.ensures.items ∙ both ∙ ap (λ l. sewn l others) c.in_ok-reserve.ensures.items

pub returns-clause-capacity : goal.returns-clause-capacity
returns-clause-capacity c =
    let grown : vec_capacity c.args.runs.now ≤ vec_capacity c.if-continues.runs = elim c.if-continues.branch [
      | then-continues+in_ok-splice_first w ↦ subst (λ (r : Vec (List Record) Global). vec_capacity c.args.runs.now ≤ vec_capacity r) (sym w.runs-is) (omega (arith, w.splice_first.ensures))
      | else-continues w ↦ subst (λ (r : Vec (List Record) Global). vec_capacity c.args.runs.now ≤ vec_capacity r) (sym w.runs-is) (omega arith)
    ] in
    omega arith

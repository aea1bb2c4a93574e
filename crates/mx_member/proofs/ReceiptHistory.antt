-- What a history of receipts tells of the nodes that hold them, and of the journal of their records.
use Rattle.std.proofs.Common.{ℕ, zero, suc, ◌<◌, ◌≤◌, ◌≡◌, ◌≢◌, inl, inr, List, [], ◌∷◌, ◌++◌, Some, length, nat_eq, slice_get, refl, sym, ◌∙◌, ap, subst, arith}
use Rattle.mx_stamps.specs.Lists.{IsIn}
use Rattle.mx_stamps.proofs.Lists.{in_append, in_get, in_left, in_right}
use Rattle.mx_journal.specs.declared.records.Record.{Record}
use Rattle.mx_journal.specs.declared.receipts.Read.{Read}
use Rattle.mx_journal.specs.declared.receipts.Receipt.{Receipt}
use Rattle.mx_journal.specs.Drafted.{record_of}
use Rattle.mx_journal.specs.Records.{record_at}
use Rattle.mx_journal.proofs.Choices.{cond_true, cond_false, eq_is, eq_not}
use Rattle.mx_journal.proofs.Maps.{record_at_case}
use Rattle.mx_registers.specs.Registers.{writes_of, writes_to}
use Rattle.mx_member.specs.Receipts.{StandInOrder, own_in, receipt_writes, records_of}
use Rattle.mx_member.specs.Running.{IsHistory, IsNode, IsReceiptAt, Owned, receipt_count}
use Rattle.mx_trace.specs.Serial.{IsSerialRead}
use Rattle.mx_member.proofs.OwnReceipts.{in_own, own_ascends, own_count, own_has, own_place, place_in, sum_below}
use Rattle.mx_member.proofs.ReceiptLists.{ordered_each, ordered_same, ordered_within}

-- each place below the length has its element
node_at : {X : Type 0} (xs : List X) (i : ℕ) → i < length xs → (x : X) × (slice_get xs i ≡ Some x)
node_at [] i lt = absurd (omega arith)
node_at (x ∷ xs) zero lt = (x, refl)
node_at (x ∷ xs) (suc i) lt = node_at xs i (omega arith)

-- the nodes' receipts are as many as their numbers say
count_by : {S : Type 0} (nodes : List (Owned S)) (f : ℕ → ℕ) → ((i : ℕ) (o : Owned S) → IsNode nodes i o → length o.receipts ≡ f i) → receipt_count nodes ≡ sum_below f (length nodes)
count_by [] f h = refl
count_by (o ∷ os) f h =
    let a : length o.receipts ≡ f 0 = h 0 o refl in
    let b : receipt_count os ≡ sum_below (λ i. f (suc i)) (length os) = count_by os (λ i. f (suc i)) (λ i p at. h (suc i) p at) in
    omega arith

module _ {S : Type 0} (nodes : List (Owned S)) (rs : List Receipt) (history : IsHistory nodes rs) where
  pub history_count : receipt_count nodes ≡ length rs
  history_count = count_by nodes (λ i. length (own_in i rs)) (λ i o at. ap length (history.own i o at)) ∙ own_count rs (length nodes) history.placed

  -- each receipt of the history is held by its node
  pub history_held : (r : Receipt) → IsIn r rs → (k : ℕ) × IsReceiptAt nodes r.node k r
  history_held r h =
      let node = node_at nodes r.node (history.placed r h) in
      let there : IsIn r node.0.receipts = subst (λ l. IsIn r l) (sym (history.own r.node node.0 node.1)) (own_has r.node rs r h refl) in
      let place = place_in node.0.receipts r there in
      (place.0, (node.0, node.1, place.1))

  -- and each that a node holds is the node's, of the history
  pub history_has : (i k : ℕ) (r : Receipt) → IsReceiptAt nodes i k r → IsIn r rs × (r.node ≡ i)
  history_has i k r (o, node, at) = in_own i rs r (subst (λ l. IsIn r l) (history.own i o node) (in_get o.receipts k r at))

  -- their numbers are those from 1 to how many there are
  pub history_within : (i k : ℕ) (r : Receipt) → IsReceiptAt nodes i k r → (r.node ≡ i) × (1 ≤ r.number) × (r.number ≤ receipt_count nodes)
  history_within i k r at =
      let h = history_has i k r at in
      let w = ordered_within rs history.ordered r h.0 in
      let e = history_count in
      (h.1, w.0, omega (arith, w.1))

  -- each of these numbers is borne
  pub history_each : (n : ℕ) → 1 ≤ n → n ≤ receipt_count nodes → (i : ℕ) × (k : ℕ) × (r : Receipt) × IsReceiptAt nodes i k r × (r.number ≡ n)
  history_each n low high =
      let e = history_count in
      let each = ordered_each rs history.ordered n low (omega arith) in
      let held = history_held each.0 each.1 in
      (each.0.node, held.0, each.0, held.1, each.2)

  -- and by one receipt, at one place
  pub history_once : (i k j l : ℕ) (r s : Receipt) → IsReceiptAt nodes i k r → IsReceiptAt nodes j l s → r.number ≡ s.number → (i ≡ j) × (k ≡ l) × (r ≡ s)
  history_once i k j l r s (o, here, a) (p, there, b) e =
      let x = history_has i k r (o, here, a) in
      let y = history_has j l s (p, there, b) in
      let same : r ≡ s = ordered_same rs history.ordered r s x.0 y.0 e in
      let node : i ≡ j = sym x.1 ∙ ap (λ (z : Receipt). z.node) same ∙ y.1 in
      let left : slice_get (own_in i rs) k ≡ Some r = subst (λ own. slice_get own k ≡ Some r) (history.own i o here) a in
      let right : slice_get (own_in j rs) l ≡ Some s = subst (λ own. slice_get own l ≡ Some s) (history.own j p there) b in
      (node, own_place i rs history.ordered k l r s left (subst (λ n. slice_get (own_in n rs) l ≡ Some s) (sym node) right) e, same)

-- a node's later receipts bear greater numbers
pub history_ascends : {S : Type 0} (nodes : List (Owned S)) (rs : List Receipt) → IsHistory nodes rs → (i k l : ℕ) (r s : Receipt) → IsReceiptAt nodes i k r → IsReceiptAt nodes i l s → k < l → r.number < s.number
history_ascends nodes rs history i k l r s (o, here, a) (p, there, b) lt =
    own_ascends i rs history.ordered k l r s
    (subst (λ own. slice_get own k ≡ Some r) (history.own i o here) a)
    (subst (λ own. slice_get own l ≡ Some s) (history.own i p there) b) lt

-- a record among those of receipts is of one of them
pub in_records : (rs : List Receipt) (x : Record) → IsIn x (records_of rs) → (r : Receipt) × IsIn r rs × (x ≡ record_of r)
in_records [] x h = absurd h
in_records (r ∷ rs) x h = elim (in_append x (records_of rs) (record_of r ∷ []) h) [
  | inl a ↦ let k = in_records rs x a in (k.0, inr k.1, k.2)
  | inr (inl e) ↦ (r, inl refl, e)
  | inr (inr bad) ↦ absurd bad
]

pub records_have : (rs : List Receipt) (r : Receipt) → IsIn r rs → IsIn (record_of r) (records_of rs)
records_have [] r h = absurd h
records_have (q ∷ rs) r (inl e) = in_right (record_of r) (records_of rs) (record_of q ∷ []) (inl (ap record_of e))
records_have (q ∷ rs) r (inr h) = in_left (record_of r) (records_of rs) (record_of q ∷ []) (records_have rs r h)

-- a record behind the others is found where none of them bears its number, and hides none of them
found_last : (n : ℕ) (xs : List Record) (y : Record) → y.number ≡ n → ((x : Record) → IsIn x xs → x.number ≢ n) → record_at n (xs ++ y ∷ []) ≡ Some y
found_last n [] y e none = cond_true (nat_eq y.number n) (Some y) (record_at n []) (eq_is y.number n e)
found_last n (x ∷ xs) y e none =
    cond_false (nat_eq x.number n) (Some x) (record_at n (xs ++ y ∷ [])) (eq_not x.number n (none x (inl refl)))
    ∙ found_last n xs y e (λ z h. none z (inr h))

found_before : (n : ℕ) (xs : List Record) (y : Record) → y.number ≢ n → record_at n (xs ++ y ∷ []) ≡ record_at n xs
found_before n [] y ne = cond_false (nat_eq y.number n) (Some y) (record_at n []) (eq_not y.number n ne)
found_before n (x ∷ xs) y ne =
    record_at_case (λ o. record_at n (x ∷ xs ++ y ∷ []) ≡ o) n x xs
    (λ e. cond_true (nat_eq x.number n) (Some x) (record_at n (xs ++ y ∷ [])) (eq_is x.number n e))
    (λ q. cond_false (nat_eq x.number n) (Some x) (record_at n (xs ++ y ∷ [])) (eq_not x.number n q) ∙ found_before n xs y ne)

-- so writes up to a lower number stay
writes_before : (n : ℕ) (xs : List Record) (y : Record) → n < y.number → writes_to n (xs ++ y ∷ []) ≡ writes_to n xs
writes_before zero xs y lt = refl
writes_before (suc n) xs y lt =
    ap (λ l. l ++ writes_of (record_at (suc n) (xs ++ y ∷ []))) (writes_before n xs y (omega arith))
    ∙ ap (λ o. writes_to n xs ++ writes_of o) (found_before (suc n) xs y (λ e. absurd (omega arith)))

-- the writes that the records of receipts in order tell are the receipts'
pub writes_ordered : (rs : List Receipt) → StandInOrder rs → writes_to (length rs) (records_of rs) ≡ receipt_writes rs
writes_ordered [] o = refl
writes_ordered (q ∷ rs) o =
    ap (λ l. l ++ writes_of (record_at (suc (length rs)) (records_of rs ++ record_of q ∷ []))) (writes_before (length rs) (records_of rs) (record_of q) (omega (arith, o.0)) ∙ writes_ordered rs o.2)
    ∙ ap (λ f. receipt_writes rs ++ writes_of f)
    (found_last (suc (length rs)) (records_of rs) (record_of q) o.0
    (λ x h e.
    let k = in_records rs x h in
    let low = ordered_within rs o.2 k.0 k.1 in
    let n : x.number ≡ k.0.number = ap (λ (z : Record). z.number) k.2 in
    absurd (omega (arith, low.1))))

-- each read has what the records before its receipt's, and its own first writes, leave
pub reads_ordered : (rs : List Receipt) → StandInOrder rs → (r : Receipt) → IsIn r rs → (n : ℕ) → r.number ≡ suc n → (x : Read) → IsIn x r.reads.items → IsSerialRead (writes_to n (records_of rs)) r.writes.items x
reads_ordered [] o r h n e x k = absurd h
reads_ordered (q ∷ rs) o r (inl is) n e x k =
    let size : n ≡ length rs = (let s : r.number ≡ suc (length rs) = ap (λ (z : Receipt). z.number) is ∙ o.0 in omega arith) in
    let same : writes_to n (records_of (q ∷ rs)) ≡ receipt_writes rs =
    ap (λ i. writes_to i (records_of (q ∷ rs))) size ∙ writes_before (length rs) (records_of rs) (record_of q) (omega (arith, o.0)) ∙ writes_ordered rs o.2 in
    subst (λ ws. IsSerialRead ws r.writes.items x) (sym same)
    (subst (λ (z : Receipt). IsSerialRead (receipt_writes rs) z.writes.items x) (sym is) (o.1 x (subst (λ (z : Receipt). IsIn x z.reads.items) is k)))
reads_ordered (q ∷ rs) o r (inr h) n e x k =
    let low = ordered_within rs o.2 r h in
    subst (λ ws. IsSerialRead ws r.writes.items x) (sym (writes_before n (records_of rs) (record_of q) (omega (arith, o.0, low.1))))
    (reads_ordered rs o.2 r h n e x k)

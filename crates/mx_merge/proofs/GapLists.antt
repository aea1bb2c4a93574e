-- The list of gaps has every gap, in order, and nothing else; its first eight are the least eight.
use Rattle.std.proofs.Common.{ℕ, zero, suc, ◌+◌, ◌-◌, ◌<◌, ◌≤◌, ◌≡◌, ◌⊎◌, inl, inr, List, [], ◌∷◌, ◌++◌, take, nat_lt, refl, sym, ap, subst, arith}
use Rattle.mx_stamps.specs.Lists.{IsIn}
use Rattle.mx_stamps.proofs.Lists.{in_append, in_left, in_right, in_first}
use Rattle.mx_stamps.proofs.Choices.{lt_true, lt_false, compared, cond_case, dec_le}
use Rattle.mx_journal.specs.declared.records.Record.{Record}
use Rattle.mx_journal.specs.declared.ranges.Range.{Range}
use Rattle.mx_journal.specs.Records.{Ascending, IsThere}
use Rattle.mx_journal.specs.Settled.{Covers, JournalState}
use Rattle.mx_journal.proofs.Maps.{ascending_above}
use Rattle.mx_merge.specs.Missing.{AscendingRanges, IsGap, IsLeftOut, IsListOfGaps, gap_after, gaps_above, gaps_in}

-- what holds of the range above `before` up to `last`
pub gap_after_case : (P : List Range → Type 0) (before last : ℕ) → (before < last → P (record { first = before + 1; last = last } ∷ [])) → (last ≤ before → P []) → P (gap_after before last)
gap_after_case P before last some none =
    cond_case P (nat_lt before last) (record { first = before + 1; last = last } ∷ []) [] (λ t. some (lt_true before last t)) (λ f. none (lt_false before last f))

-- and of the gaps above `before`, by whether the first record is within the limit
pub gaps_above_case : (P : List Range → Type 0) (before limit : ℕ) (x : Record) (xs : List Record) → (limit < x.number → P (gap_after before limit)) → (x.number ≤ limit → P (gap_after before (x.number - 1) ++ gaps_above x.number limit xs)) → P (gaps_above before limit (x ∷ xs))
gaps_above_case P before limit x xs past within =
    cond_case P (nat_lt limit x.number) (gap_after before limit) (gap_after before (x.number - 1) ++ gaps_above x.number limit xs)
    (λ t. past (lt_true limit x.number t)) (λ f. within (lt_false limit x.number f))

-- how a rest of a journal stands in it: it has all numbers above `before`, which is there or 0
pub record IsRest (before : ℕ) (rest : List Record) (journal : JournalState) : Type 0 where
  pub ascending : Ascending (suc before) rest
  pub inside : (x : Record) → IsIn x rest → Covers x.number journal
  pub whole : (n : ℕ) → before < n → Covers n journal → IsThere n rest
  pub edge : (before ≡ 0) ⊎ Covers before journal

-- the rest behind the first record stands in it in the same way
rest_more : (before : ℕ) (x : Record) (xs : List Record) (journal : JournalState) → IsRest before (x ∷ xs) journal → IsRest x.number xs journal
rest_more before x xs journal h = record {
  ascending = h.ascending.1;
  inside = λ y m. h.inside y (inr m);
  whole = λ n l t. let w = h.whole n (let low = h.ascending.0 in omega arith) t in elim w.1 [
    | inl e ↦ absurd (let q : w.0.number ≡ x.number = ap (λ (z : Record). z.number) e in let s = w.2 in omega arith)
    | inr m ↦ (w.0, m, w.2)
  ];
  edge = inr (h.inside x (inl refl));
}

-- no number above `before` and below the first record of the rest is there
none_between : (before : ℕ) (x : Record) (xs : List Record) (journal : JournalState) → IsRest before (x ∷ xs) journal → (n : ℕ) → before < n → n < x.number → Covers n journal → ⊥
none_between before x xs journal h n l u t =
    let w = h.whole n l t in
    let low = ascending_above x.number (x ∷ xs) ((omega arith), h.ascending.1) w.0 w.1 in
    let e = w.2 in absurd (omega arith)

-- the number before a gap's first is the edge
left_edge : (before : ℕ) (journal : JournalState) → (before ≡ 0) ⊎ Covers before journal → (before + 1 ≡ 1) ⊎ Covers (before + 1 - 1) journal
left_edge before journal (inl e) = inl (omega arith)
left_edge before journal (inr t) = inr (subst (λ n. Covers n journal) (omega arith) t)

-- a range up to the limit, with nothing behind `before`, is a gap
gap_to_limit : (limit before : ℕ) (journal : JournalState) (r : Range) → (before ≡ 0) ⊎ Covers before journal → ((n : ℕ) → before < n → n ≤ limit → Covers n journal → ⊥) → IsIn r (gap_after before limit) → IsGap limit journal r × (before < r.first)
gap_to_limit limit before journal r edge none was =
    gap_after_case (λ l. IsIn r l → IsGap limit journal r × (before < r.first)) before limit
    (λ t h. elim h [
      | inl e ↦ subst (λ q. IsGap limit journal q × (before < q.first)) (sym e) (
        record { low = omega arith; some = omega arith; high = omega arith; gone = λ n l u w. none n (omega arith) u w; left = left_edge before journal edge; right = inl refl },
        omega arith,
      )
      | inr bad ↦ absurd bad
    ])
    (λ _ h. absurd h) was

-- a range up to the number below a record is a gap
gap_to_record : (limit before : ℕ) (journal : JournalState) (x : Record) (r : Range) → (before ≡ 0) ⊎ Covers before journal → Covers x.number journal → before < x.number → x.number ≤ limit → ((n : ℕ) → before < n → n < x.number → Covers n journal → ⊥) → IsIn r (gap_after before (x.number - 1)) → IsGap limit journal r × (before < r.first)
gap_to_record limit before journal x r edge there above within none was =
    gap_after_case (λ l. IsIn r l → IsGap limit journal r × (before < r.first)) before (x.number - 1)
    (λ t h. elim h [
      | inl e ↦ subst (λ q. IsGap limit journal q × (before < q.first)) (sym e) (
        record { low = omega arith; some = omega arith; high = omega arith; gone = λ n l u w. none n (omega arith) (omega arith) w; left = left_edge before journal edge; right = inr (subst (λ n. Covers n journal) (let q : x.number ≡ x.number - 1 + 1 = omega arith in q) there) },
        omega arith,
      )
      | inr bad ↦ absurd bad
    ])
    (λ _ h. absurd h) was

-- each range of the list is a gap
pub all_gaps : (limit before : ℕ) (rest : List Record) (journal : JournalState) → IsRest before rest journal → (r : Range) → IsIn r (gaps_above before limit rest) → IsGap limit journal r × (before < r.first)
all_gaps limit before [] journal h r m =
    gap_to_limit limit before journal r h.edge (λ n l u t. let w = h.whole n l t in w.1) m
all_gaps limit before (x ∷ xs) journal h r was =
    gaps_above_case (λ l. IsIn r l → IsGap limit journal r × (before < r.first)) before limit x xs
    (λ past m. gap_to_limit limit before journal r h.edge (λ n l u t. none_between before x xs journal h n l (omega arith) t) m)
    (λ within m. elim (in_append r (gap_after before (x.number - 1)) (gaps_above x.number limit xs) m) [
      | inl k ↦ gap_to_record limit before journal x r h.edge (h.inside x (inl refl)) (let low = h.ascending.0 in omega arith) within (none_between before x xs journal h) k
      | inr k ↦ (let g = all_gaps limit x.number xs journal (rest_more before x xs journal h) r k in let low = h.ascending.0 in (g.0, omega (arith, g.1, low)))
    ]) was

-- a gap that begins above `before`, where nothing of `before` up to its last is there, begins there
begins_here : (limit before : ℕ) (journal : JournalState) (r : Range) → IsGap limit journal r → before < r.first → ((n : ℕ) → before < n → n < r.first → Covers n journal → ⊥) → r.first ≡ before + 1
begins_here limit before journal r g l none = elim (compared r.first (before + 1)) [
  | inl t ↦ absurd (omega arith)
  | inr (inl e) ↦ e
  | inr (inr t) ↦ absurd (elim g.left [
    | inl e ↦ absurd (omega arith)
    | inr w ↦ none (r.first - 1) (omega arith) (let s = g.low in omega arith) w
  ])
]

-- ranges with equal ends are one
same_range : (r q : Range) → r.first ≡ q.first → r.last ≡ q.last → r ≡ q
same_range r q e f = subst (λ n. r ≡ record { first = n; last = q.last }) e (subst (λ n. r ≡ record { first = r.first; last = n }) f refl)

-- where a range is what stands above `before`, the list has it
in_gap_after : (before last : ℕ) (r : Range) → r.first ≡ before + 1 → r.last ≡ last → r.first ≤ r.last → IsIn r (gap_after before last)
in_gap_after before last r e f some =
    gap_after_case (λ l. IsIn r l) before last
    (λ t. inl (same_range r (record { first = before + 1; last = last }) e f))
    (λ t. absurd (omega arith))

-- each gap above `before` is in the list
pub each_gap : (limit before : ℕ) (rest : List Record) (journal : JournalState) → IsRest before rest journal → (r : Range) → IsGap limit journal r → before < r.first → IsIn r (gaps_above before limit rest)
each_gap limit before [] journal h r g l =
    let none : (n : ℕ) → before < n → Covers n journal → ⊥ = λ n k t. (let w = h.whole n k t in w.1) in
    in_gap_after before limit r (begins_here limit before journal r g l (λ n k u t. none n k t))
    (elim g.right [ inl e ↦ e | inr t ↦ absurd (none (r.last + 1) (let s = g.some in omega arith) t) ]) g.some
each_gap limit before (x ∷ xs) journal h r g l =
    let low : before < x.number = (let a = h.ascending.0 in omega arith) in
    let here : Covers x.number journal = h.inside x (inl refl) in
    let none = none_between before x xs journal h in
    gaps_above_case (λ q. IsIn r q) before limit x xs
    (λ past.
    let first : r.first ≡ before + 1 = begins_here limit before journal r g l (λ n k u t. none n k (let s = g.some in let q = g.high in omega arith) t) in
    in_gap_after before limit r first
    (elim g.right [
      | inl e ↦ e
      | inr t ↦ elim (compared (r.last + 1) x.number) [
        | inl u ↦ absurd (none (r.last + 1) (let s = g.some in omega arith) u t)
        | inr (inl e) ↦ (let q = g.high in omega arith)
        | inr (inr u) ↦ (let q = g.high in omega arith)
      ]
    ]) g.some)
    (λ within. elim (compared x.number r.first) [
      | inl u ↦ in_right r (gap_after before (x.number - 1)) (gaps_above x.number limit xs) (each_gap limit x.number xs journal (rest_more before x xs journal h) r g u)
      | inr (inl e) ↦ absurd (g.gone x.number (omega arith) (let s = g.some in omega arith) here)
      | inr (inr u) ↦
          let end : r.last < x.number = elim (compared r.last x.number) [
            | inl k ↦ k
            | inr (inl e) ↦ absurd (g.gone x.number (omega arith) (omega arith) here)
            | inr (inr k) ↦ absurd (g.gone x.number (omega arith) (omega arith) here)
          ] in
          let first : r.first ≡ before + 1 = begins_here limit before journal r g l (λ n k v t. none n k (omega arith) t) in
          let last : r.last ≡ x.number - 1 = elim g.right [
            | inl e ↦ absurd (omega arith)
            | inr t ↦ elim (compared (r.last + 1) x.number) [
              | inl v ↦ absurd (none (r.last + 1) (let s = g.some in omega arith) v t)
              | inr (inl e) ↦ omega arith
              | inr (inr v) ↦ absurd (omega arith)
            ]
          ] in
          in_left r (gap_after before (x.number - 1)) (gaps_above x.number limit xs) (in_gap_after before (x.number - 1) r first last g.some)
    ])

-- ranges that ascend from a number on ascend from any lower one on
ranges_from : (j k : ℕ) (rs : List Range) → j ≤ k → AscendingRanges k rs → AscendingRanges j rs
ranges_from j k [] l a = tt
ranges_from j k (r ∷ rs) l a = (omega (arith, a.0), a.1)

-- the ranges ascend
gaps_ascend : (limit before : ℕ) (xs : List Record) → Ascending (suc before) xs → AscendingRanges (before + 1) (gaps_above before limit xs)
gaps_ascend limit before [] a = gap_after_case (λ l. AscendingRanges (before + 1) l) before limit (λ _. (omega arith, tt)) (λ _. tt)
gaps_ascend limit before (x ∷ xs) a =
    let low = a.0 in
    let more = gaps_ascend limit x.number xs a.1 in
    gaps_above_case (λ l. AscendingRanges (before + 1) l) before limit x xs
    (λ _. gap_after_case (λ l. AscendingRanges (before + 1) l) before limit (λ _. (omega arith, tt)) (λ _. tt))
    (λ _. gap_after_case (λ l. AscendingRanges (before + 1) (l ++ gaps_above x.number limit xs)) before (x.number - 1)
    (λ _. (omega arith, ranges_from (x.number - 1 + 1) (x.number + 1) (gaps_above x.number limit xs) (omega arith) more))
    (λ _. ranges_from (before + 1) (x.number + 1) (gaps_above x.number limit xs) (omega arith) more))

-- the first of them ascend too, and are members
ranges_first : (count k : ℕ) (rs : List Range) → AscendingRanges k rs → AscendingRanges k (take count rs)
ranges_first zero k rs a = tt
ranges_first (suc count) k [] a = tt
ranges_first (suc count) k (r ∷ rs) a = (a.0, ranges_first count (r.last + 1) rs a.1)

-- a range of a list whose ranges ascend is behind all of those before it
ranges_above : (k : ℕ) (rs : List Range) (q : Range) → AscendingRanges k rs → ((r : Range) → IsIn r rs → r.first ≤ r.last) → IsIn q rs → k ≤ q.first
ranges_above k [] q a some h = absurd h
ranges_above k (r ∷ rs) q a some (inl e) = let f : q.first ≡ r.first = ap (λ (z : Range). z.first) e in omega (arith, a.0)
ranges_above k (r ∷ rs) q a some (inr h) =
    let low = ranges_above (r.last + 1) rs q a.1 (λ z m. some z (inr m)) h in
    let one = some r (inl refl) in omega (arith, a.0)

-- a range is among the first, or they are full and it stands behind them
first_or_behind : (count k : ℕ) (rs : List Range) (q : Range) → AscendingRanges k rs → ((r : Range) → IsIn r rs → r.first ≤ r.last) → IsIn q rs → IsIn q (take count rs) ⊎ IsLeftOut count q (take count rs)
first_or_behind zero k rs q a some h = inr (refl, λ r m. absurd m)
first_or_behind (suc count) k [] q a some h = absurd h
first_or_behind (suc count) k (r ∷ rs) q a some (inl e) = inl (inl e)
first_or_behind (suc count) k (r ∷ rs) q a some (inr h) =
    let low = ranges_above (r.last + 1) rs q a.1 (λ z m. some z (inr m)) h in
    elim (first_or_behind count (r.last + 1) rs q a.1 (λ z m. some z (inr m)) h) [
      | inl m ↦ inl (inr m)
      | inr w ↦ inr (
        ap suc w.0,
        λ z m. elim m [
          | inl e ↦ (let f : z.last ≡ r.last = ap (λ (y : Range). y.last) e in omega arith)
          | inr t ↦ w.1 z t
        ],
      )
    ]

-- the first gaps of a journal are a list of its gaps
pub first_gaps : (count limit : ℕ) (journal : JournalState) → Ascending (suc journal.base.upto) journal.records → IsListOfGaps count limit journal (take count (gaps_in limit journal))
first_gaps count limit journal a =
    let base = journal.base.upto in
    let edge : (base ≡ 0) ⊎ Covers base journal = elim (dec_le 1 base) [ inl l ↦ inr (inl (l, omega arith)) | inr l ↦ inl (omega arith) ] in
    let whole : IsRest base journal.records journal = record {
      ascending = a;
      inside = λ x h. inr (x, h, refl);
      whole = λ n l t. elim t [ inl s ↦ absurd (let q = s.1 in omega arith) | inr there ↦ there ];
      edge = edge;
    } in
    let gaps = gaps_in limit journal in
    let gap : (r : Range) → IsIn r gaps → IsGap limit journal r = λ r m. (let g = all_gaps limit base journal.records journal whole r m in g.0) in
    let order : AscendingRanges 1 gaps = ranges_from 1 (base + 1) gaps (omega arith) (gaps_ascend limit base journal.records a) in
    let behind : (r : Range) → IsGap limit journal r → base < r.first = λ r g. elim (dec_le r.first base) [
      | inl l ↦ absurd (g.gone r.first (omega arith) g.some (inl (g.low, l)))
      | inr l ↦ l
    ] in
    record {
      gaps = λ r m. gap r (in_first count gaps r m);
      ascending = ranges_first count 1 gaps order;
      all = λ r g. first_or_behind count 1 gaps r order (λ q m. let w = gap q m in w.some) (each_gap limit base journal.records journal whole r g (behind r g));
    }

-- What a station knows of its node before and after an act.
use Rattle.std.proofs.Common.{◌≡◌, ◌≢◌, inl, inr, ℕ, ◌<◌, List, [], ◌∷◌, ◌++◌, Bool, true, false, MatchBool, MatchOption, Option, Some, None, Result, Ok, Err, OnErr, refl, sym, ap, ◌∙◌, subst}
use Rattle.atomic_table.specs.Table.{Me}
use Rattle.atomic_table.specs.Seated.{TableId}
use Rattle.mx_stamps.specs.Lists.{IsIn}
use Rattle.mx_journal.specs.declared.receipts.Receipt.{Receipt}
use Rattle.mx_nodelaws.specs.Core.{Core}
use Rattle.mx_member.specs.declared.acts.Act.{Act}
use Rattle.mx_member.specs.declared.parcel.Parcel.{Parcel}
use Rattle.mx_member.specs.Acts.{act_of}
use Rattle.mx_member.specs.Member.{MemberState}
use Rattle.mx_member.specs.Receipts.{closed_by}
use Rattle.mx_stations.specs.Entries.{Entry, Node}
use Rattle.mx_stations.specs.Running.{DidAct, GoToNodes, IsIdle, Keeps, MayDo, acted, acted_view, fresh}
use Rattle.mx_stations.specs.Posts.{Post, Waits, after_act, does, left_in, post, sent_in, shown, waiting_after}
use Rattle.mx_stations.proofs.Waits.{waits_after}

pub on_err : {A E : Type 0} (r : Result A E) (P : Type 0) → P → OnErr r P
on_err (Ok a) P p = tt
on_err (Err e) P p = p

pub match_none : {A X : Type 0} (Y : A → Type 0) (o : Option A) → o ≡ None → X → MatchOption o X Y
match_none Y None e x = x
match_none Y (Some a) e x = absurd (cc)

pub match_true : {X : Type 0} (Y : Type 0) (b : Bool) → MatchBool b X Y → b ≡ true → X
match_true Y true x e = x
match_true Y false y e = absurd (cc)

pub match_false : (X : Type 0) {Y : Type 0} (b : Bool) → MatchBool b X Y → b ≡ false → Y
match_false X true x e = absurd (cc)
match_false X false y e = y

pub no_none : {A : Type 0} {o : Option A} (a : A) → o ≡ Some a → o ≢ None
no_none a e n = let both : Some a ≡ None = sym e ∙ n in absurd (cc)

-- the hand after a delivery is as it was, or empty
pub keeps_left : {P : Type 0} (again : Bool) (hand left : Option (ℕ × P)) → left ≡ left_in again hand → Keeps hand left
keeps_left true hand left is = inl is
keeps_left false hand left is = inr is

module _ {T P : Type 0} where
  -- the seat knows this node, and the station shows it
  pub settled : (i : ℕ) (y : T) (hand : Option (ℕ × P)) (r : List Receipt) (m : Me (Option P) (List (Entry T P))) (x : Entry T P) → m ≡ (x ∷ [], []) → x ≡ shown i y hand r (x ∷ [])
      → (m ≡ (shown i y hand r m.0 ∷ [], [])) × (shown i y hand r m.0 ≡ x)
  settled i y hand r m x is same =
      let at : shown i y hand r m.0 ≡ x = ap (λ (z : Me (Option P) (List (Entry T P))). shown i y hand r z.0) is ∙ sym same in
      (is ∙ ap (λ (z : Entry T P). (z ∷ [], [])) (sym at), at)

  -- a node at rest
  pub opened : (starts : ℕ → T) (k i : ℕ) (m : Me (Option P) (List (Entry T P))) (x : T) (r : List Receipt) → m ≡ (fresh k (starts k) ∷ [], []) → i ≡ k → x ≡ starts k → r ≡ []
      → (m ≡ (shown i x None r m.0 ∷ [], [])) × (shown i x None r m.0 ≡ fresh k (starts k))
  opened starts k i m x r is same start none = settled i x None r m (fresh k (starts k)) is (λ j. shown (sym same j) (sym start j) None (sym none j) (fresh k (starts k) ∷ []))

  module _ (i : ℕ) (x : T) (held : Option (ℕ × P)) (r : List Receipt) (m : Me (Option P) (List (Entry T P))) (is : m ≡ (shown i x held r m.0 ∷ [], [])) where
    abbrev me : Entry T P
    me = shown i x held r m.0

    pub one_node : (e : Entry T P) × (m.0 ≡ e ∷ []) × (e.node ≡ i)
    one_node = (me, ap (λ (z : Me (Option P) (List (Entry T P))). z.0) is, refl)

    pub idle : IsIdle m i
    idle = (me, is, refl, refl)

    after_view : (m' : Me (Option P) (List (Entry T P))) (y : T) (out : List (ℕ × P)) (hand : Option (ℕ × P)) (r' : List Receipt) → m' ≡ (acted_view m.0 y out hand r', []) → m' ≡ (acted me y out hand r' ∷ [], [])
    after_view m' y out hand r' view = view ∙ ap (λ (z : Me (Option P) (List (Entry T P))). (acted_view z.0 y out hand r', [])) is

    -- the seat after an act, as the station shows it
    pub acted_seat : (m' : Me (Option P) (List (Entry T P))) (y : T) (out : List (ℕ × P)) (hand : Option (ℕ × P)) (r' : List Receipt) → m' ≡ (acted_view m.0 y out hand r', [])
        → (m' ≡ (shown i y hand r' m'.0 ∷ [], [])) × (shown i y hand r' m'.0 ≡ acted me y out hand r')
    acted_seat m' y out hand r' view = settled i y hand r' m' (acted me y out hand r') (after_view m' y out hand r' view) refl

    pub acted_waits : (m' : Me (Option P) (List (Entry T P))) (y : T) (out : List (ℕ × P)) (hand : Option (ℕ × P)) (r' : List Receipt) (n : ℕ) (w w' : List (ℕ × P)) → m' ≡ (acted_view m.0 y out hand r', [])
        → Waits n (sent_in m.0) w → GoToNodes n m'.0 → w' ≡ waiting_after w out → Waits n (sent_in m'.0) w'
    acted_waits m' y out hand r' n w w' view waits goes wait =
        let now = after_view m' y out hand r' view in
        let within : (z : ℕ × P) → IsIn z (sent_in m'.0) → z.0 < n = λ z h.
        goes (acted me y out hand r') (subst (λ (v : Me (Option P) (List (Entry T P))). IsIn (acted me y out hand r') v.0) (sym now) (inl refl)) z (subst (λ (v : Me (Option P) (List (Entry T P))). IsIn z (sent_in v.0)) now h) in
        waits_after n (sent_in m.0) (sent_in m'.0) w w' out waits within (ap (λ (z : Me (Option P) (List (Entry T P))). sent_in z.0) now) wait

    -- a step that changed nothing
    pub same_seat : (m1 : Me (Option P) (List (Entry T P))) → m1 ≡ m → m1 ≡ (shown i x held r m1.0 ∷ [], [])
    same_seat m1 same = subst (λ (z : Me (Option P) (List (Entry T P))). z ≡ (shown i x held r z.0 ∷ [], [])) (sym same) is

module _ {H S M : Type 0} (core : Core H S M) (i : ℕ) (x : MemberState S) (held : Option (ℕ × Parcel M)) (r : List Receipt) (m : Me (Option (Parcel M)) (List (Node S M))) (is : m ≡ (shown i x held r m.0 ∷ [], [])) where
  -- an act that the hand allows: what its step asks for
  pub ready : (table at : TableId) (count n : ℕ) (a : Act M) (y : MemberState S) (out : List (ℕ × Parcel M)) (hand : Option (ℕ × Parcel M)) (r' : List Receipt) → table ≡ at → count ≡ n → i < n → MayDo count held a → Keeps held hand
      → y ≡ (act_of core a x).state → out ≡ (act_of core a x).letters → r' ≡ r ++ closed_by (act_of core a x).answer
      → (table ≡ at) × ((m.1 ≡ []) × ((i < count) × (((e : Node S M) × (m.0 ≡ e ∷ []) × (e.node ≡ i)) × DidAct core count m.0 y out hand r')))
  ready table at count n a y out hand r' same is_count low may kept state letters closes =
      let did : DidAct core count m.0 y out hand r' = record {
        node = shown i x held r m.0;
        act = a;
        alone = ap (λ (z : Me (Option (Parcel M)) (List (Node S M))). z.0) is;
        may = may;
        state = state;
        letters = letters;
        closes = closes;
        kept = kept;
      } in
      (same, (ap (λ (z : Me (Option (Parcel M)) (List (Node S M))). z.1) is, (subst (λ (k : ℕ). i < k) (sym is_count) low, (one_node i x held r m is, did))))

  -- and what the station is after it
  pub happens : (a : Act M) (m' : Me (Option (Parcel M)) (List (Node S M))) (y : MemberState S) (out : List (ℕ × Parcel M)) (hand : Option (ℕ × Parcel M)) (r' : List Receipt) (table table' : TableId) (n : ℕ) (w w' : List (ℕ × Parcel M)) (s : Post (MemberState S) (Parcel M))
      → post table n (shown i x held r m.0) w ≡ s → table' ≡ table → m' ≡ (acted_view m.0 y out hand r', []) → w' ≡ waiting_after w out
      → y ≡ (act_of core a x).state → out ≡ (act_of core a x).letters → r' ≡ r ++ closed_by (act_of core a x).answer
      → post table' n (shown i y hand r' m'.0) w' ≡ after_act core a hand s
  happens a m' y out hand r' table table' n w w' s same same_table view wait state letters closes =
      (λ j. post (same_table j) n ((acted_seat i x held r m is m' y out hand r' view).1 j) (wait j))
      ∙ (λ j. post table n (acted (shown i x held r m.0) (state j) (letters j) hand (closes j)) (waiting_after w (letters j)))
      ∙ ap (after_act core a hand) same

  -- an act that keeps the hand
  pub acts_so : (a : Act M) (m' : Me (Option (Parcel M)) (List (Node S M))) (y : MemberState S) (out : List (ℕ × Parcel M)) (r' : List Receipt) (table table' : TableId) (n : ℕ) (w w' : List (ℕ × Parcel M)) (s : Post (MemberState S) (Parcel M))
      → post table n (shown i x held r m.0) w ≡ s → table' ≡ table → m' ≡ (acted_view m.0 y out held r', []) → w' ≡ waiting_after w out
      → y ≡ (act_of core a x).state → out ≡ (act_of core a x).letters → r' ≡ r ++ closed_by (act_of core a x).answer
      → post table' n (shown i y held r' m'.0) w' ≡ does core a s
  acts_so a m' y out r' table table' n w w' s same same_table view wait state letters closes =
      happens a m' y out held r' table table' n w w' (post table n (shown i x held r m.0) w) refl same_table view wait state letters closes ∙ ap (does core a) same

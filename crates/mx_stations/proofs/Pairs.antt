-- How one node's change keeps the slots.
use Rattle.std.proofs.Common.{◌≡◌, ◌≢◌, ⊎_elim, ℕ, ◌+◌, ◌*◌, ◌<◌, ◌/◌, ◌%◌, List, [], ◌∷◌, ◌++◌, length, set, Option, Bool, true, false, cond, eqb, eq-eqb, ne_eqb, refl, sym, ap, ◌∙◌, subst, arith, length-set}
use Rattle.std.proofs.lemmas.Nat.{div-mul-add, mod-mul-add, mul-add-lt}
use mathlib.Core.Option.{some}
use mathlib.Core.Option as maybe
use mathlib.Core.Logic.{dite}
use native.Mathlib.Decide.{ℕ_discrete}
use lib.ListN.{get_elem?}
use Rattle.atomic_table.proofs.Lists.{at_set, set_else}
use Rattle.mx_stamps.specs.Lists.{IsIn}
use Rattle.mx_stations.specs.Entries.{Entry}
use Rattle.mx_stations.specs.Links.{SlotState, empty, claimed, filled, taken, of, Writes, Reads, lying, Lies, WasSent, IsSlot, Links, slot_at}
use Rattle.mx_stations.proofs.Places.{within}

one_pair : (n a b c d : ℕ) → b < n → d < n → a * n + b ≡ c * n + d → (a ≡ c) × (b ≡ d)
one_pair n a b c d hb hd e =
    (sym (div-mul-add a n b hb) ∙ ap (λ (z : ℕ). z / n) e ∙ div-mul-add c n d hd, sym (mod-mul-add a n b hb) ∙ ap (λ (z : ℕ). z % n) e ∙ mod-mul-add c n d hd)

one_of_four : (k l i j : ℕ) → i < 4 → j < 4 → k * 4 + i ≡ l * 4 + j → (k ≡ l) × (i ≡ j)
one_of_four k l i j hi hj e = (omega arith, omega arith)

-- a slot belongs to one pair of nodes, and has one index there
pub one_slot : (n a b i c d j : ℕ) → b < n → d < n → i < 4 → j < 4 → slot_at n a b i ≡ slot_at n c d j → (a ≡ c) × (b ≡ d) × (i ≡ j)
one_slot n a b i c d j hb hd hi hj e =
    let four = one_of_four (a * n + b) (c * n + d) i j hi hj e in let pair = one_pair n a b c d hb hd four.0 in
    (pair.0, pair.1, four.1)

four_low : (k m i : ℕ) → k < m → i < 4 → k * 4 + i < m * 4
four_low k m i low h = omega arith

-- each slot is one of them all
pub slot_low : (n a b i : ℕ) → a < n → b < n → i < 4 → slot_at n a b i < n * n * 4
slot_low n a b i ha hb hi = four_low (a * n + b) (n * n) i (mul-add-lt a n b n ha hb) hi

-- f, but for k
abbrev pub but : {A : Type 0} → (ℕ → A) → ℕ → A → ℕ → A
but f k new i = cond (eqb i k) new (f i)

pub but_here : {A : Type 0} (f : ℕ → A) (k : ℕ) (new : A) → but f k new k ≡ new
but_here f k new = ap (λ b. cond b new (f k)) (eq-eqb k k refl)

pub but_else : {A : Type 0} (f : ℕ → A) (k : ℕ) (new : A) (i : ℕ) → i ≢ k → but f k new i ≡ f i
but_else f k new i e = ap (λ b. cond b new (f i)) (ne_eqb i k e)

module _ {P : Type 0} where
  pub of_more : (k : ℕ) (xs : List (ℕ × P)) (p : P) → of k (xs ++ (k, p) ∷ []) ≡ of k xs ++ p ∷ []
  of_more k [] p = ap (λ b. cond b (p ∷ []) []) (eq-eqb k k refl)
  of_more k (x ∷ xs) p = with_bool (eqb x.0 k) (of_more k xs p)
    where
      with_bool : (b : Bool) → of k (xs ++ (k, p) ∷ []) ≡ of k xs ++ p ∷ [] → cond b (x.1 ∷ of k (xs ++ (k, p) ∷ [])) (of k (xs ++ (k, p) ∷ [])) ≡ cond b (x.1 ∷ of k xs) (of k xs) ++ p ∷ []
      with_bool true r = ap (λ (z : List P). x.1 ∷ z) r
      with_bool false r = r

  pub of_other : (k j : ℕ) (xs : List (ℕ × P)) (p : P) → j ≢ k → of k (xs ++ (j, p) ∷ []) ≡ of k xs
  of_other k j [] p ne = ap (λ b. cond b (p ∷ []) []) (ne_eqb j k ne)
  of_other k j (x ∷ xs) p ne = ap (λ (z : List P). cond (eqb x.0 k) (x.1 ∷ z) z) (of_other k j xs p ne)

  lies_else : (homes homes' : List (maybe.Option (Option P))) (k : ℕ) (st : SlotState P) → get_elem? homes' k ≡ get_elem? homes k → Lies homes k st → Lies homes' k st
  lies_else homes homes' k empty e h = e ∙ h
  lies_else homes homes' k claimed e h = tt
  lies_else homes homes' k (filled p) e h = e ∙ h
  lies_else homes homes' k taken e h = tt

  sent_still : (to : ℕ) (xs ys : List (ℕ × P)) (st : SlotState P) → ((x : ℕ × P) → IsIn x xs → IsIn x ys) → WasSent to xs st → WasSent to ys st
  sent_still to xs ys empty more h = tt
  sent_still to xs ys claimed more h = tt
  sent_still to xs ys (filled p) more h = more (to, p) h
  sent_still to xs ys taken more h = tt

module _ {T P : Type 0} where
  -- a node's change, as far as the slot k sees it
  pub record Keeps (k : ℕ) (e e' : Entry T P) : Type 0 where
    pub placed : of k e'.placed ≡ of k e.placed
    pub taken : of k e'.taken ≡ of k e.taken
    pub sent : (x : ℕ × P) → IsIn x e.sent → IsIn x e'.sent
    pub writes : (Writes k e'.stage → Writes k e.stage) × (Writes k e.stage → Writes k e'.stage)
    pub reads : (Reads k e'.stage → Reads k e.stage) × (Reads k e.stage → Reads k e'.stage)

  pub unchanged : (k : ℕ) (e : Entry T P) → Keeps k e e
  unchanged k e = record { placed = refl; taken = refl; sent = (λ x h. h); writes = ((λ h. h), (λ h. h)); reads = ((λ h. h), (λ h. h)) }

  link_stays : (n : ℕ) (words words' : List ℕ) (homes homes' : List (maybe.Option (Option P))) (k to : ℕ) (e f e' f' : Entry T P) (st : SlotState P)
      → IsSlot n words homes k to e f st → get_elem? words' (n + k) ≡ get_elem? words (n + k) → get_elem? homes' k ≡ get_elem? homes k → Keeps k e e' → Keeps k f f' → IsSlot n words' homes' k to e' f' st
  link_stays n words words' homes homes' k to e f e' f' st l w h ke kf =
      record {
        word = w ∙ l.word;
        lies = lies_else homes homes' k st h l.lies;
        log = ke.placed ∙ l.log ∙ ap (λ (z : List P). z ++ lying st) (sym kf.taken);
        sent = sent_still to e.sent e'.sent st ke.sent l.sent;
        writer = ((λ x. l.writer.0 (ke.writes.0 x)), (λ x. ke.writes.1 (l.writer.1 x)));
        reader = ((λ x. l.reader.0 (kf.reads.0 x)), (λ x. kf.reads.1 (l.reader.1 x)));
        used = (λ r none. l.used r (sym kf.taken ∙ none));
      }

  -- what a world has at a place after one node's change
  after : (world : List (Entry T P)) (i : ℕ) (e e' : Entry T P) (Q : Entry T P → Entry T P → Type 0) → get_elem? world i ≡ some e → Q e e' → ((f : Entry T P) → Q f f)
      → (j : ℕ) (f : Entry T P) → get_elem? (set world i e') j ≡ some f → (old : Entry T P) × (get_elem? world j ≡ some old) × Q old f
  after world i e e' Q at changed same j f is =
      ⊎_elim
      (λ t. (e, ap (λ (z : ℕ). get_elem? world z) t.0 ∙ at, subst (λ (z : Entry T P). Q e z) t.1 changed))
      (λ t. (f, t.1, same f))
      (at_set world i j e' f is)

  -- a change that no slot sees, at words that are no slot's
  pub links_still : (n : ℕ) (words words' : List ℕ) (homes : List (maybe.Option (Option P))) (world : List (Entry T P)) (i : ℕ) (e e' : Entry T P)
      → Links n words homes world → get_elem? world i ≡ some e → ((k : ℕ) → get_elem? words' (n + k) ≡ get_elem? words (n + k)) → ((k : ℕ) → Keeps k e e') → Links n words' homes (set world i e')
  links_still n words words' homes world i e e' ls at same_words changed =
      record {
        state = ls.state;
        wide = ls.wide;
        each = (λ a b v x y low ax by.
            let k : ℕ = slot_at n a b v in
            let ox = after world i e e' (Keeps k) at (changed k) (unchanged k) a x ax in
            let oy = after world i e e' (Keeps k) at (changed k) (unchanged k) b y by in
            link_stays n words words' homes homes k b ox.0 oy.0 x y (ls.state k) (ls.each a b v ox.0 oy.0 low ox.1 oy.1) (same_words k) refl ox.2 oy.2);
      }

  -- a change of the one slot from c to d with the index u
  pub links_step : (n : ℕ) (words : List ℕ) (homes homes' : List (maybe.Option (Option P))) (world : List (Entry T P)) (i : ℕ) (e e' : Entry T P) (c d u : ℕ) (w : ℕ) (st : SlotState P)
      → Links n words homes world → length world ≡ n → get_elem? world i ≡ some e → d < n → u < 4
      → length homes' ≡ length homes → ((k : ℕ) → k ≢ slot_at n c d u → get_elem? homes' k ≡ get_elem? homes k) → ((k : ℕ) → k ≢ slot_at n c d u → Keeps k e e')
      → ((x y : Entry T P) → get_elem? (set world i e') c ≡ some x → get_elem? (set world i e') d ≡ some y → IsSlot n (set words (n + slot_at n c d u) w) homes' (slot_at n c d u) d x y st)
      → Links n (set words (n + slot_at n c d u) w) homes' (set world i e')
  links_step n words homes homes' world i e e' c d u w st ls long at in_n in_four homes_long homes_else changed new =
      let s : ℕ = slot_at n c d u in
      record {
        state = but ls.state s st;
        wide = homes_long ∙ ls.wide;
        each = (λ a b v x y low ax by.
            let k : ℕ = slot_at n a b v in
            let now : List (Entry T P) = set world i e' in
            let len : length now ≡ n = length-set world i e' ∙ long in
            let bn : b < n = subst (λ (z : ℕ). b < z) len (within now b y by) in
            dite (ℕ_discrete k s)
            (λ is. let p = one_slot n a b v c d u bn in_n low in_four is in
            subst (λ (z : ℕ × ℕ × ℕ). IsSlot n (set words (n + s) w) homes' (slot_at n z.0 z.1 z.2) z.1 x y (but ls.state s st (slot_at n z.0 z.1 z.2))) (λ j. (sym p.0 j, sym p.1 j, sym p.2 j))
            (subst (λ (z : SlotState P). IsSlot n (set words (n + s) w) homes' s d x y z) (sym (but_here ls.state s st))
            (new x y (ap (λ (z : ℕ). get_elem? now z) (sym p.0) ∙ ax) (ap (λ (z : ℕ). get_elem? now z) (sym p.1) ∙ by))))
            (λ ne.
            let ox = after world i e e' (Keeps k) at (changed k ne) (unchanged k) a x ax in
            let oy = after world i e e' (Keeps k) at (changed k ne) (unchanged k) b y by in
            subst (λ (z : SlotState P). IsSlot n (set words (n + s) w) homes' k b x y z) (sym (but_else ls.state s st k ne))
            (link_stays n words (set words (n + s) w) homes homes' k b ox.0 oy.0 x y (ls.state k) (ls.each a b v ox.0 oy.0 low ox.1 oy.1)
            (set_else words (n + s) (n + k) w (λ e. ne (omega arith))) (homes_else k ne) ox.2 oy.2)));
      }

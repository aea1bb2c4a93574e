-- The four steps of a parcel keep the rule.
use Rattle.std.proofs.Common.{◌≡◌, ◌≢◌, ◌⊎◌, inl, inr, ⊎_elim, ℕ, zero, suc, ◌+◌, ◌<◌, List, [], ◌∷◌, ◌++◌, map, length, set, get_or, Option, Some, None, eqb, refl, sym, ap, ◌∙◌, subst, arith, length-set, length-append, append-nil}
use mathlib.Core.Option.{none, some, some-injective, some-ne-none}
use mathlib.Core.Option as maybe
use lib.ListN.{get_elem?}
use prog.Atomic.{either}
use Rattle.atomic_table.specs.Table.{State, Me, Act, keeps, takes, gives, Allows, Valid, stepped, carried_after, rest}
use Rattle.atomic_table.proofs.Lists.{at_set, set_here, set_else, exchanged}
use Rattle.mx_stamps.specs.Lists.{IsIn}
use Rattle.mx_nodelaws.specs.World.{World, sent_by}
use Rattle.mx_nodelaws.specs.Core.{Core}
use Rattle.mx_member.specs.declared.parcel.Parcel.{Parcel}
use Rattle.mx_member.specs.Running.{IsRunning, Owned}
use Rattle.mx_stations.specs.Entries.{Entry, Node, owned_of}
use Rattle.mx_stations.specs.Entries.{Stage}
use Rattle.mx_stations.specs.Entries.{Idle, Writing, Reading}
use Rattle.mx_stations.specs.Links.{SlotState, empty, claimed, filled, taken, of, Writes, Reads, word_for, lying, IsClaimed, IsTaken, Lies, WasSent, IsSlot, slot_at}
use Rattle.mx_stations.specs.Running.{Holds, IsIdle, Shown, sent_of, word_of}
use Rattle.mx_stations.specs.Slides.{claiming, placing, taking, releasing, Sees, TriesClaim, TriesTake, placed_view, released_view, IsFilling, IsHolding, KeepsHand}
use Rattle.mx_stations.proofs.Places.{within, one_at, sent_in_world, moves, again}
use Rattle.mx_stations.proofs.Pairs.{links_step, Keeps, of_more, of_other, slot_low}

pub word_read : (ns : List ℕ) (i a : ℕ) → get_elem? ns i ≡ some a → get_or ns i 0 ≡ a
word_read [] i a e = absurd (some-ne-none a (sym e))
word_read (n ∷ ns) zero a e = some-injective n a e
word_read (n ∷ ns) (suc i) a e = word_read ns i a e

map_same : {A B : Type 0} (f : A → B) (l : List A) (i : ℕ) (a b : A) → get_elem? l i ≡ some a → f b ≡ f a → map f (set l i b) ≡ map f l
map_same f [] i a b at e = refl
map_same f (x ∷ xs) zero a b at e = λ k. (e ∙ ap f (sym (some-injective x a at))) k ∷ map f xs
map_same f (x ∷ xs) (suc i) a b at e = λ k. f x ∷ map_same f xs i a b at e k

letters_same : {T P : Type 0} (l : List (Entry T P)) (i : ℕ) (a b : Entry T P) → get_elem? l i ≡ some a → b.node ≡ a.node → b.sent ≡ a.sent → sent_of (set l i b) ≡ sent_of l
letters_same [] i a b at e h = refl
letters_same {T} {P} (x ∷ xs) zero a b at e h =
    let is = some-injective x a at in
    (λ k. sent_by (e k) (h k) ++ sent_of xs) ∙ ap (λ (z : Entry T P). sent_by z.node z.sent ++ sent_of xs) (sym is)
letters_same (x ∷ xs) (suc i) a b at e h = λ k. sent_by x.node x.sent ++ letters_same xs i a b at e h k

module _ {H S M : Type 0} (core : Core H S M) (Good : World S M → Type 0) where
  -- a node that keeps its state and what it sent, at a word that is no node's
  shown_still : (n : ℕ) (words : List ℕ) (world : List (Node S M)) (i : ℕ) (e e' : Node S M) (k w : ℕ) → Shown core Good words world → length world ≡ n → get_elem? world i ≡ some e → e'.node ≡ e.node → owned_of e' ≡ owned_of e → e'.sent ≡ e.sent
      → ((x : ℕ × Parcel M) → e'.hand ≡ Some x → IsIn (x.0, i, x.1) (sent_of world))
      → Shown core Good (set words (n + k) w) (set world i e')
  shown_still n words world i e e' k w sh long at node state sent held =
      let same = letters_same world i e e' at node sent in
      record {
        shows = (λ j f is. let low = within (set world i e') j f is in let len = length-set world i e' in
            set_else words (n + k) j w (λ h. absurd (omega arith))
            ∙ ⊎_elim
            (λ t. sh.shows j e (ap (λ (z : ℕ). get_elem? world z) t.0 ∙ at) ∙ ap (λ (z : Owned S). some (word_of core z.member)) (sym state ∙ ap owned_of t.1))
            (λ t. sh.shows j f t.1)
            (at_set world i j e' f is));
        runs = subst (λ (z : List (Owned S)). IsRunning core Good z (sent_of (set world i e'))) (sym (map_same owned_of world i e e' at state)) (subst (λ (z : List (ℕ × ℕ × Parcel M)). IsRunning core Good (map owned_of world) z) (sym same) sh.runs);
        held = (λ j f x is h. subst (λ (z : List (ℕ × ℕ × Parcel M)). IsIn (x.0, j, x.1) z) (sym same)
            (⊎_elim
            (λ t. subst (λ (z : ℕ). IsIn (x.0, z, x.1) (sent_of world)) (sym t.0) (held x (ap (λ (z : Node S M). z.hand) t.1 ∙ h)))
            (λ t. sh.held j f x t.1 h)
            (at_set world i j e' f is)));
      }

  -- one step of a parcel: the seat's node changes, and one slot with its word
  slides : (n : ℕ) (s : State (Option (Parcel M)) (List (Node S M))) (id : ℕ) (e e' : Node S M) (c d u w : ℕ) (homes' : List (maybe.Option (Option (Parcel M)))) (st : SlotState (Parcel M))
      → (h : Holds core Good n s) → get_elem? s.views id ≡ some (e ∷ []) → d < n → u < 4 → e'.node ≡ e.node → owned_of e' ≡ owned_of e → e'.sent ≡ e.sent
      → ((x : ℕ × Parcel M) → e'.hand ≡ Some x → IsIn (x.0, e.node, x.1) (sent_of h.world))
      → length homes' ≡ length s.homes → ((k : ℕ) → k ≢ slot_at n c d u → get_elem? homes' k ≡ get_elem? s.homes k) → ((k : ℕ) → k ≢ slot_at n c d u → Keeps k e e')
      → ((x y : Node S M) → get_elem? (set h.world e.node e') c ≡ some x → get_elem? (set h.world e.node e') d ≡ some y → IsSlot n (set s.words (n + slot_at n c d u) w) homes' (slot_at n c d u) d x y st)
      → Holds core Good n record { words = set s.words (n + slot_at n c d u) w; homes = homes'; views = set s.views id (e' ∷ []) }
  slides n s id e e' c d u w homes' st h at dn un node state sent held homes_long homes_else changed new =
      let here = (h.stands.known id (e ∷ []) e at (inl refl)).0 in
      record {
        world = set h.world e.node e';
        stands = moves n s.views h.world id e e' h.stands at node;
        shown = shown_still n s.words h.world e.node e e' (slot_at n c d u) w h.shown h.stands.long here node state sent held;
        links = links_step n s.words s.homes homes' h.world e.node e e' c d u w st h.links h.stands.long here dn un homes_long homes_else changed new;
      }

pub some_at : {A : Type 0} (l : List A) (i : ℕ) → i < length l → (a : A) × (get_elem? l i ≡ some a)
some_at [] i h = absurd (omega arith)
some_at (x ∷ xs) zero h = (x, refl)
some_at (x ∷ xs) (suc i) h = some_at xs i (omega arith)

pub some_is : {A : Type 0} (a b : A) → Some a ≡ Some b → a ≡ b
some_is a b e = some-injective a b (ap to_maybe e)
  where
    to_maybe : {A : Type 0} → Option A → maybe.Option A
    to_maybe None = none
    to_maybe (Some x) = some x

pub held_one : {S : Type 0} (l : List (ℕ × S)) (x : ℕ × S) → l ≡ x ∷ [] → l ≡ x ∷ rest l
held_one l x is = is ∙ ap (λ z. x ∷ z) (sym (ap rest is))

-- the seat holds the slot k
pub held_at : {S : Type 0} (l : List (ℕ × S)) (k j : ℕ) (x : S) → l ≡ (j, x) ∷ [] → k ≡ j → l ≡ (k, x) ∷ rest l
held_at l k j x is same = held_one l (k, x) (is ∙ (λ i. (sym same i, x) ∷ []))

-- the slot k does not see that the node is at this stage
abbrev Quiet : ℕ → Stage → Type 0
Quiet k st = (Writes k st → ⊥) × (Reads k st → ⊥)

quiet_idle : (k : ℕ) (st : Stage) → st ≡ Idle → Quiet k st
quiet_idle k st is = subst (Quiet k) (sym is) ((λ h. h), (λ h. h))

quiet_writing : (k j : ℕ) (st : Stage) → k ≢ j → st ≡ Writing j → Quiet k st
quiet_writing k j st ne is = subst (Quiet k) (sym is) ((λ h. ne (sym h)), (λ h. h))

quiet_reading : (k j : ℕ) (st : Stage) → k ≢ j → st ≡ Reading j → Quiet k st
quiet_reading k j st ne is = subst (Quiet k) (sym is) ((λ h. h), (λ h. ne (sym h)))

module _ {T P : Type 0} where
  keeps_quiet : (k : ℕ) (e e' : Entry T P) → Quiet k e.stage → Quiet k e'.stage → of k e'.placed ≡ of k e.placed → of k e'.taken ≡ of k e.taken → e'.sent ≡ e.sent → Keeps k e e'
  keeps_quiet k e e' q q' p t s =
      record {
        placed = p;
        taken = t;
        sent = (λ x h. subst (λ (z : List (ℕ × P)). IsIn x z) (sym s) h);
        writes = ((λ h. absurd (q'.0 h)), (λ h. absurd (q.0 h)));
        reads = ((λ h. absurd (q'.1 h)), (λ h. absurd (q.1 h)));
      }

  -- a node of the world after e has become e'
  was : (world : List (Entry T P)) (i : ℕ) (e e' : Entry T P) (j : ℕ) (y : Entry T P) → get_elem? world i ≡ some e → get_elem? (set world i e') j ≡ some y → (old : Entry T P) × (get_elem? world j ≡ some old) × (((y ≡ e') × (old ≡ e)) ⊎ (y ≡ old))
  was world i e e' j y at is = ⊎_elim (λ t. (e, ap (λ (z : ℕ). get_elem? world z) t.0 ∙ at, inl (sym t.1, refl))) (λ t. (y, t.1, inr refl)) (at_set world i j e' y is)

module _ {P : Type 0} where
  empty_there : (homes : List (maybe.Option (Option P))) (k : ℕ) (st : SlotState P) → word_for st ≡ 0 → Lies homes k st → get_elem? homes k ≡ some (some None)
  empty_there homes k empty e h = h
  empty_there homes k claimed e h = absurd (omega arith)
  empty_there homes k (filled p) e h = absurd (omega arith)
  empty_there homes k taken e h = absurd (omega arith)

  empty_lies : (st : SlotState P) → word_for st ≡ 0 → (lying st ≡ []) × (IsTaken st → ⊥)
  empty_lies empty e = (refl, λ h. h)
  empty_lies claimed e = absurd (omega arith)
  empty_lies (filled p) e = absurd (omega arith)
  empty_lies taken e = absurd (omega arith)

  filled_is : (st : SlotState P) → word_for st ≡ 2 → (p : P) × (st ≡ filled p)
  filled_is empty e = absurd (omega arith)
  filled_is claimed e = absurd (omega arith)
  filled_is (filled p) e = (p, refl)
  filled_is taken e = absurd (omega arith)

  claimed_lies : (st : SlotState P) → IsClaimed st → (lying st ≡ []) × (IsTaken st → ⊥)
  claimed_lies empty h = absurd h
  claimed_lies claimed h = (refl, λ r. r)
  claimed_lies (filled p) h = absurd h
  claimed_lies taken h = absurd h

  taken_lies : (st : SlotState P) → IsTaken st → (lying st ≡ []) × (IsClaimed st → ⊥)
  taken_lies empty h = absurd h
  taken_lies claimed h = absurd h
  taken_lies (filled p) h = absurd h
  taken_lies taken h = (refl, λ r. r)

  not_nil : (xs : List P) (p : P) → xs ++ p ∷ [] ≡ [] → ⊥
  not_nil xs p e = let n : length (xs ++ p ∷ []) ≡ 0 = ap length e in let m = length-append xs (p ∷ []) in absurd (omega arith)

  -- a slot in use that its sender is not filling has been used
  was_used : (xs ys : List P) (st : SlotState P) → xs ≡ ys ++ lying st → word_for st ≢ 0 → (IsClaimed st → ⊥) → (IsTaken st → ys ≢ []) → xs ≢ []
  was_used xs ys empty log busy writes reads nil = busy refl
  was_used xs ys claimed log busy writes reads nil = writes tt
  was_used xs ys (filled p) log busy writes reads nil = not_nil ys p (sym log ∙ nil)
  was_used xs ys taken log busy writes reads nil = reads tt (sym (append-nil ys) ∙ sym log ∙ nil)

  none_lies : (st : SlotState P) → word_for st ≢ 2 → lying st ≡ []
  none_lies empty ne = refl
  none_lies claimed ne = refl
  none_lies (filled p) ne = absurd (ne refl)
  none_lies taken ne = refl

-- where nothing lies in a slot of a node's own link, all that was placed there was taken
own_emptied : {T P : Type 0} (n : ℕ) (words : List ℕ) (homes : List (maybe.Option (Option P))) (world : List (Entry T P)) (k a b : ℕ) (e f : Entry T P) (st : SlotState P) → IsSlot n words homes k b f e st → get_elem? world a ≡ some f → get_elem? world b ≡ some e → word_for st ≢ 2 → a ≡ b → of k e.placed ≡ of k e.taken
own_emptied {T} {P} n words homes world k a b e f st l there here miss own =
    ap (λ (z : Entry T P). of k z.placed) (one_at world b e f here (ap (λ (z : ℕ). get_elem? world z) (sym own) ∙ there)) ∙ l.log ∙ ap (λ (z : List P). of k e.taken ++ z) (none_lies st miss) ∙ append-nil (of k e.taken)

module _ {H S M : Type 0} (core : Core H S M) (Good : World S M → Type 0) where
  abbrev Rule : ℕ → State (Option (Parcel M)) (List (Node S M)) → Type 0
  Rule n = Holds core Good n

  -- the sender takes an empty slot
  pub claims : (n slots id b u : ℕ) (e : Node S M) → b < n → u < 4 → e.stage ≡ Idle
      → Allows (Rule n) slots id (e ∷ [], []) (n + slot_at n e.node b u) (λ m. either (eqb m 0) 1 m) (TriesClaim (slot_at n e.node b u) (e ∷ [], []))
  claims n slots id b u e bn un idle s h homes at small =
      let a : ℕ = e.node in let k : ℕ = slot_at n a b u in let e' : Node S M = claiming k e in
      let here = (h.stands.known id (e ∷ []) e at (inl refl)).0 in
      let fb = some_at h.world b (subst (λ (z : ℕ). b < z) (sym h.stands.long) bn) in
      let st = h.links.state k in let l = h.links.each a b u e fb.0 un here fb.1 in
      let found : ℕ = get_or s.words (n + k) 0 in
      let found_is : found ≡ word_for st = word_read s.words (n + k) (word_for st) l.word in
      let in_words = within s.words (n + k) (word_for st) l.word in
      exchanged found 0 1
      (λ m. (w : List (Node S M)) × (act : Act (Option (Parcel M))) × Valid s.homes [] act × Rule n (stepped s (n + k) m id [] w act) × TriesClaim k (e ∷ [], []) found (w, carried_after [] act))
      (λ hit. let is_empty = sym found_is ∙ hit in let waits = empty_lies st is_empty in (
        e' ∷ [],
        takes k None,
        empty_there s.homes k st is_empty l.lies,
        slides core Good n s id e e' a b u 1 (set s.homes k none) claimed h at bn un refl refl refl (λ x held. h.shown.held a e x here held)
            (length-set s.homes k none) (λ j ne. set_else s.homes k j none ne)
            (λ j ne. keeps_quiet j e e' (quiet_idle j e.stage idle) (quiet_writing j k (Writing k) ne refl) refl refl refl)
            (λ x y ax by. let x_is = one_at (set h.world a e') a x e' ax (set_here h.world a e' (within h.world a e here)) in
            let oy = was h.world a e e' b y here by in
            let old_y : oy.0 ≡ fb.0 = one_at h.world b oy.0 fb.0 oy.1 fb.1 in
            let taken_is : of k y.taken ≡ of k fb.0.taken = ⊎_elim (λ t. ap (λ (z : Node S M). of k z.taken) t.0 ∙ ap (λ (z : Node S M). of k z.taken) (sym t.1 ∙ old_y)) (λ t. ap (λ (z : Node S M). of k z.taken) (t ∙ old_y)) oy.2 in
            let not_reading : Reads k y.stage → ⊥ = ⊎_elim (λ t r. subst (λ (z : Node S M). Reads k z.stage) t.0 r) (λ t r. waits.1 (l.reader.0 (subst (λ (z : Node S M). Reads k z.stage) (t ∙ old_y) r))) oy.2 in
            record {
              word = set_here s.words (n + k) 1 in_words;
              lies = tt;
              log = ap (λ (z : Node S M). of k z.placed) x_is ∙ l.log ∙ (λ i. sym taken_is i ++ waits.0 i);
              sent = tt;
              writer = ((λ w. tt), (λ w. subst (λ (z : Node S M). Writes k z.stage) (sym x_is) refl));
              reader = (not_reading, (λ r. absurd r));
              used = (λ r. absurd r);
            }),
        ((λ _. (e, refl, refl)), (λ no_hit. absurd (no_hit hit))),
      ))
      (λ miss. (
        e ∷ [],
        keeps,
        tt,
        again (Rule n) s (n + k) id (e ∷ []) at h,
        ((λ hit. absurd (miss hit)), (λ _. (refl, (e, refl, was_used (of k e.placed) (of k fb.0.taken) st l.log (λ z. miss (found_is ∙ z)) (λ w. (quiet_idle k e.stage idle).0 (l.writer.1 w)) l.used)))),
      ))

  -- the sender gives the slot back, with a parcel that it has sent
  pub places : (n slots id b u : ℕ) (e : Node S M) (p : Parcel M) → b < n → u < 4 → e.stage ≡ Writing (slot_at n e.node b u) → IsIn (b, p) e.sent
      → Allows (Rule n) slots id (e ∷ [], (slot_at n e.node b u, Some p) ∷ []) (n + slot_at n e.node b u) (λ _. 2) (λ _ m. m ≡ (placing (slot_at n e.node b u) p e ∷ [], []))
  places n slots id b u e p bn un stage was_sent s h homes at small =
      let a : ℕ = e.node in let k : ℕ = slot_at n a b u in let e' : Node S M = placing k p e in
      let here = (h.stands.known id (e ∷ []) e at (inl refl)).0 in
      let an : a < n = subst (λ (z : ℕ). a < z) h.stands.long (within h.world a e here) in
      let fb = some_at h.world b (subst (λ (z : ℕ). b < z) (sym h.stands.long) bn) in
      let st = h.links.state k in let l = h.links.each a b u e fb.0 un here fb.1 in
      let is_writing = claimed_lies st (l.writer.0 (subst (Writes k) (sym stage) refl)) in
      let in_homes : k < length s.homes = subst (λ (z : ℕ). k < z) (sym h.links.wide) (slot_low n a b u an bn un) in (
        e' ∷ [],
        gives,
        tt,
        slides core Good n s id e e' a b u 2 (set s.homes k (some (Some p))) (filled p) h at bn un refl refl refl (λ x held. h.shown.held a e x here held)
            (length-set s.homes k (some (Some p))) (λ j ne. set_else s.homes k j (some (Some p)) ne)
            (λ j ne. keeps_quiet j e e' (quiet_writing j k e.stage ne stage) (quiet_idle j Idle refl) (of_other j k e.placed p (λ q. ne (sym q))) refl refl)
            (λ x y ax by. let x_is = one_at (set h.world a e') a x e' ax (set_here h.world a e' (within h.world a e here)) in
            let oy = was h.world a e e' b y here by in
            let old_y : oy.0 ≡ fb.0 = one_at h.world b oy.0 fb.0 oy.1 fb.1 in
            let taken_is : of k y.taken ≡ of k fb.0.taken = ⊎_elim (λ t. ap (λ (z : Node S M). of k z.taken) t.0 ∙ ap (λ (z : Node S M). of k z.taken) (sym t.1 ∙ old_y)) (λ t. ap (λ (z : Node S M). of k z.taken) (t ∙ old_y)) oy.2 in
            let not_reading : Reads k y.stage → ⊥ = ⊎_elim (λ t r. subst (λ (z : Node S M). Reads k z.stage) t.0 r) (λ t r. is_writing.1 (l.reader.0 (subst (λ (z : Node S M). Reads k z.stage) (t ∙ old_y) r))) oy.2 in
            record {
              word = set_here s.words (n + k) 2 (within s.words (n + k) (word_for st) l.word);
              lies = set_here s.homes k (some (Some p)) in_homes;
              log = ap (λ (z : Node S M). of k z.placed) x_is ∙ of_more k e.placed p ∙ ap (λ (z : List (Parcel M)). z ++ p ∷ []) (l.log ∙ ap (λ (z : List (Parcel M)). of k fb.0.taken ++ z) is_writing.0 ∙ append-nil (of k fb.0.taken)) ∙ ap (λ (z : List (Parcel M)). z ++ p ∷ []) (sym taken_is);
              sent = subst (λ (z : Node S M). IsIn (b, p) z.sent) (sym x_is) was_sent;
              writer = ((λ w. subst (λ (z : Node S M). Writes k z.stage) x_is w), (λ w. absurd w));
              reader = (not_reading, (λ r. absurd r));
              used = (λ r. absurd r);
            }),
        refl,
      )

  -- the receiver looks at a slot
  pub sees : (n slots id a u : ℕ) (e : Node S M) → a < n → u < 4
      → Allows (Rule n) slots id (e ∷ [], []) (n + slot_at n a e.node u) (λ m. m) (Sees (slot_at n a e.node u) a (e ∷ [], []))
  sees n slots id a u e an un s h homes at small =
      let b : ℕ = e.node in let k : ℕ = slot_at n a b u in
      let here = (h.stands.known id (e ∷ []) e at (inl refl)).0 in
      let fa = some_at h.world a (subst (λ (z : ℕ). a < z) (sym h.stands.long) an) in
      let st = h.links.state k in let l = h.links.each a b u fa.0 e un fa.1 here in
      let found_is : get_or s.words (n + k) 0 ≡ word_for st = word_read s.words (n + k) (word_for st) l.word in (
        e ∷ [],
        keeps,
        tt,
        again (Rule n) s (n + k) id (e ∷ []) at h,
        (refl, λ miss. (e, refl, own_emptied n s.words s.homes h.world k a b e fa.0 st l fa.1 here (λ z. miss (found_is ∙ z)))),
      )

  -- the receiver takes a filled slot
  pub grabs : (n slots id a u : ℕ) (e : Node S M) → a < n → u < 4 → e.stage ≡ Idle
      → Allows (Rule n) slots id (e ∷ [], []) (n + slot_at n a e.node u) (λ m. either (eqb m 2) 3 m) (TriesTake (slot_at n a e.node u) a (e ∷ [], []))
  grabs n slots id a u e an un idle s h homes at small =
      let b : ℕ = e.node in let k : ℕ = slot_at n a b u in
      let here = (h.stands.known id (e ∷ []) e at (inl refl)).0 in
      let bn : b < n = subst (λ (z : ℕ). b < z) h.stands.long (within h.world b e here) in
      let fa = some_at h.world a (subst (λ (z : ℕ). a < z) (sym h.stands.long) an) in
      let st = h.links.state k in let l = h.links.each a b u fa.0 e un fa.1 here in
      let in_words = within s.words (n + k) (word_for st) l.word in
      let found : ℕ = get_or s.words (n + k) 0 in
      let found_is : found ≡ word_for st = word_read s.words (n + k) (word_for st) l.word in
      exchanged found 2 3
      (λ m. (w : List (Node S M)) × (act : Act (Option (Parcel M))) × Valid s.homes [] act × Rule n (stepped s (n + k) m id [] w act) × TriesTake k a (e ∷ [], []) found (w, carried_after [] act))
      (λ hit. let fill = filled_is st (sym found_is ∙ hit) in let p : Parcel M = fill.0 in let e' : Node S M = taking k a p e in
      let old_log : of k fa.0.placed ≡ of k e.taken ++ p ∷ [] = l.log ∙ ap (λ (z : SlotState (Parcel M)). of k e.taken ++ lying z) fill.1 in
      let sent : IsIn (b, p) fa.0.sent = subst (WasSent b fa.0.sent) fill.1 l.sent in
      let letter : IsIn (a, b, p) (sent_of h.world) = subst (λ (z : ℕ). IsIn (z, b, p) (sent_of h.world)) (h.stands.numbered a fa.0 fa.1) (sent_in_world h.world a fa.0 (b, p) fa.1 sent) in (
        e' ∷ [],
        takes k (Some p),
        subst (Lies s.homes k) fill.1 l.lies,
        slides core Good n s id e e' a b u 3 (set s.homes k none) taken h at bn un refl refl refl
            (λ x held. subst (λ (z : ℕ × Parcel M). IsIn (z.0, b, z.1) (sent_of h.world)) (some_is (a, p) x held) letter)
            (length-set s.homes k none) (λ j ne. set_else s.homes k j none ne)
            (λ j ne. keeps_quiet j e e' (quiet_idle j e.stage idle) (quiet_reading j k (Reading k) ne refl) refl (of_other j k e.taken p (λ q. ne (sym q))) refl)
            (λ x y ax by. let y_is = one_at (set h.world b e') b y e' by (set_here h.world b e' (within h.world b e here)) in
            let ox = was h.world b e e' a x here ax in
            let old_x : ox.0 ≡ fa.0 = one_at h.world a ox.0 fa.0 ox.1 fa.1 in
            let placed : of k x.placed ≡ of k fa.0.placed = ⊎_elim (λ t. ap (λ (z : Node S M). of k z.placed) t.0 ∙ ap (λ (z : Node S M). of k z.placed) (sym t.1 ∙ old_x)) (λ t. ap (λ (z : Node S M). of k z.placed) (t ∙ old_x)) ox.2 in
            let not_writing : Writes k x.stage → ⊥ = ⊎_elim (λ t w. subst (λ (z : Node S M). Writes k z.stage) t.0 w) (λ t w. subst IsClaimed fill.1 (l.writer.0 (subst (λ (z : Node S M). Writes k z.stage) (t ∙ old_x) w))) ox.2 in
            record {
              word = set_here s.words (n + k) 3 in_words;
              lies = tt;
              log = placed ∙ old_log ∙ sym (of_more k e.taken p) ∙ ap (λ (z : Node S M). of k z.taken) (sym y_is) ∙ sym (append-nil (of k y.taken));
              sent = tt;
              writer = (not_writing, (λ w. absurd w));
              reader = ((λ r. tt), (λ r. subst (λ (z : Node S M). Reads k z.stage) (sym y_is) refl));
              used = (λ r nil. not_nil (of k e.taken) p (sym (of_more k e.taken p) ∙ ap (λ (z : Node S M). of k z.taken) (sym y_is) ∙ nil));
            }),
        ((λ _. (e, refl, (p, refl))), (λ no_hit. absurd (no_hit hit))),
      ))
      (λ miss. (
        e ∷ [],
        keeps,
        tt,
        again (Rule n) s (n + k) id (e ∷ []) at h,
        ((λ hit. absurd (miss hit)), (λ _. (refl, (e, refl, own_emptied n s.words s.homes h.world k a b e fa.0 st l fa.1 here (λ z. miss (found_is ∙ z)))))),
      ))

  -- the receiver gives the emptied slot back
  pub releases : (n slots id a u : ℕ) (e : Node S M) (hand : Option (ℕ × Parcel M)) → a < n → u < 4 → e.stage ≡ Reading (slot_at n a e.node u) → (hand ≡ e.hand) ⊎ (hand ≡ None)
      → Allows (Rule n) slots id (e ∷ [], (slot_at n a e.node u, None) ∷ []) (n + slot_at n a e.node u) (λ _. 0) (λ _ m. m ≡ (releasing hand e ∷ [], []))
  releases n slots id a u e hand an un stage kept s h homes at small =
      let b : ℕ = e.node in let k : ℕ = slot_at n a b u in let e' : Node S M = releasing hand e in
      let here = (h.stands.known id (e ∷ []) e at (inl refl)).0 in
      let bn : b < n = subst (λ (z : ℕ). b < z) h.stands.long (within h.world b e here) in
      let fa = some_at h.world a (subst (λ (z : ℕ). a < z) (sym h.stands.long) an) in
      let st = h.links.state k in let l = h.links.each a b u fa.0 e un fa.1 here in
      let is_reading = taken_lies st (l.reader.0 (subst (Reads k) (sym stage) refl)) in
      let in_homes : k < length s.homes = subst (λ (z : ℕ). k < z) (sym h.links.wide) (slot_low n a b u an bn un) in (
        e' ∷ [],
        gives,
        tt,
        slides core Good n s id e e' a b u 0 (set s.homes k (some None)) empty h at bn un refl refl refl
            (λ x held. h.shown.held b e x here (⊎_elim (λ same. sym same ∙ held) (λ none. absurd (cc)) kept))
            (length-set s.homes k (some None)) (λ j ne. set_else s.homes k j (some None) ne)
            (λ j ne. keeps_quiet j e e' (quiet_reading j k e.stage ne stage) (quiet_idle j Idle refl) refl refl refl)
            (λ x y ax by. let y_is = one_at (set h.world b e') b y e' by (set_here h.world b e' (within h.world b e here)) in
            let ox = was h.world b e e' a x here ax in
            let old_x : ox.0 ≡ fa.0 = one_at h.world a ox.0 fa.0 ox.1 fa.1 in
            let placed : of k x.placed ≡ of k fa.0.placed = ⊎_elim (λ t. ap (λ (z : Node S M). of k z.placed) t.0 ∙ ap (λ (z : Node S M). of k z.placed) (sym t.1 ∙ old_x)) (λ t. ap (λ (z : Node S M). of k z.placed) (t ∙ old_x)) ox.2 in
            let not_writing : Writes k x.stage → ⊥ = ⊎_elim (λ t w. subst (λ (z : Node S M). Writes k z.stage) t.0 w) (λ t w. is_reading.1 (l.writer.0 (subst (λ (z : Node S M). Writes k z.stage) (t ∙ old_x) w))) ox.2 in
            record {
              word = set_here s.words (n + k) 0 (within s.words (n + k) (word_for st) l.word);
              lies = set_here s.homes k (some None) in_homes;
              log = placed ∙ l.log ∙ ap (λ (z : List (Parcel M)). of k e.taken ++ z) is_reading.0 ∙ ap (λ (z : Node S M). of k z.taken ++ []) (sym y_is);
              sent = tt;
              writer = (not_writing, (λ w. absurd w));
              reader = ((λ r. subst (λ (z : Node S M). Reads k z.stage) y_is r), (λ r. absurd r));
              used = (λ r. absurd r);
            }),
        refl,
      )

  -- the same at a seat whose view is known
  pub claims_at : (n key slots id : ℕ) (me : Me (Option (Parcel M)) (List (Node S M))) (node b u slot k : ℕ) → key ≡ n → IsIdle me node → b < n → u < 4 → slot ≡ slot_at n node b u → k ≡ slot_at n node b u
      → Allows (Rule key) slots id me (n + k) (λ m. either (eqb m 0) 1 m) (TriesClaim slot me)
  claims_at n key slots id me node b u slot k is_key idle bn un is_slot is_k =
      let e : Node S M = idle.0 in
      let slot_is : slot_at n e.node b u ≡ slot = ap (λ (z : ℕ). slot_at n z b u) idle.2 ∙ sym is_slot in
      subst (λ (z : ℕ × Me (Option (Parcel M)) (List (Node S M)) × ℕ × ℕ). Allows (Rule z.0) slots id z.1 (n + z.2) (λ m. either (eqb m 0) 1 m) (TriesClaim z.3 z.1)) (λ i. (sym is_key i, sym idle.1 i, (slot_is ∙ is_slot ∙ sym is_k) i, slot_is i))
      (claims n slots id b u e bn un idle.3)

  pub places_at : (n key slots id : ℕ) (me me0 : Me (Option (Parcel M)) (List (Node S M))) (node b u k : ℕ) (p : Parcel M) (after : List (Node S M)) → key ≡ n → b < n → u < 4 → IsFilling me0 (slot_at n node b u) node b p
      → me ≡ (me0.0, (k, Some p) ∷ rest me0.1) → k ≡ slot_at n node b u → after ≡ placed_view (slot_at n node b u) p me0.0
      → Allows (Rule key) slots id me (n + k) (λ _. 2) (λ _ m. m ≡ (after, rest me.1))
  places_at n key slots id me me0 node b u k p after is_key bn un fill found is_k next =
      let e : Node S M = fill.0 in let at : ℕ = slot_at n node b u in
      let is : me ≡ (me0.0, (at, Some p) ∷ rest me0.1) = found ∙ (λ i. (me0.0, (is_k i, Some p) ∷ rest me0.1)) in
      let k_is : slot_at n e.node b u ≡ at = ap (λ (z : ℕ). slot_at n z b u) fill.2 in
      let me_is : me ≡ (e ∷ [], (at, Some p) ∷ []) = is ∙ ap (λ (z : Me (Option (Parcel M)) (List (Node S M))). (z.0, (at, Some p) ∷ rest z.1)) fill.1 in
      let after_is : after ≡ placing at p e ∷ [] = next ∙ ap (λ (z : Me (Option (Parcel M)) (List (Node S M))). placed_view at p z.0) fill.1 in
      let base = places n slots id b u e p bn un (subst (λ (z : ℕ). e.stage ≡ Writing z) (sym k_is) fill.3) fill.4 in
      let at_k = subst (λ (k : ℕ). Allows (Rule n) slots id (e ∷ [], (k, Some p) ∷ []) (n + k) (λ _. 2) (λ _ m. m ≡ (placing k p e ∷ [], []))) k_is base in
      let at_after = subst (λ (v : List (Node S M)). Allows (Rule n) slots id (e ∷ [], (at, Some p) ∷ []) (n + at) (λ _. 2) (λ _ m. m ≡ (v, []))) (sym after_is) at_k in
      subst (λ (z : ℕ × Me (Option (Parcel M)) (List (Node S M)) × ℕ). Allows (Rule z.0) slots id z.1 (n + z.2) (λ _. 2) (λ _ m. m ≡ (after, rest z.1.1))) (λ i. (sym is_key i, sym me_is i, sym is_k i)) at_after

  pub sees_at : (n key slots id : ℕ) (me : Me (Option (Parcel M)) (List (Node S M))) (node a u slot from k : ℕ) → key ≡ n → IsIdle me node → a < n → u < 4 → slot ≡ slot_at n a node u → from ≡ a → k ≡ slot_at n a node u
      → Allows (Rule key) slots id me (n + k) (λ m. m) (Sees slot from me)
  sees_at n key slots id me node a u slot from k is_key idle an un is_slot is_from is_k =
      let e : Node S M = idle.0 in
      let slot_is : slot_at n a e.node u ≡ slot = ap (λ (z : ℕ). slot_at n a z u) idle.2 ∙ sym is_slot in
      subst (λ (z : ℕ × Me (Option (Parcel M)) (List (Node S M)) × ℕ × ℕ × ℕ). Allows (Rule z.0) slots id z.1 (n + z.2) (λ m. m) (Sees z.3 z.4 z.1)) (λ i. (sym is_key i, sym idle.1 i, (slot_is ∙ is_slot ∙ sym is_k) i, slot_is i, sym is_from i))
      (sees n slots id a u e an un)

  pub grabs_at : (n key slots id : ℕ) (me : Me (Option (Parcel M)) (List (Node S M))) (node a u slot from k : ℕ) → key ≡ n → IsIdle me node → a < n → u < 4 → slot ≡ slot_at n a node u → from ≡ a → k ≡ slot_at n a node u
      → Allows (Rule key) slots id me (n + k) (λ m. either (eqb m 2) 3 m) (TriesTake slot from me)
  grabs_at n key slots id me node a u slot from k is_key idle an un is_slot is_from is_k =
      let e : Node S M = idle.0 in
      let slot_is : slot_at n a e.node u ≡ slot = ap (λ (z : ℕ). slot_at n a z u) idle.2 ∙ sym is_slot in
      subst (λ (z : ℕ × Me (Option (Parcel M)) (List (Node S M)) × ℕ × ℕ × ℕ). Allows (Rule z.0) slots id z.1 (n + z.2) (λ m. either (eqb m 2) 3 m) (TriesTake z.3 z.4 z.1)) (λ i. (sym is_key i, sym idle.1 i, (slot_is ∙ is_slot ∙ sym is_k) i, slot_is i, sym is_from i))
      (grabs n slots id a u e an un idle.3)

  pub releases_at : (n key slots id : ℕ) (me : Me (Option (Parcel M)) (List (Node S M))) (node a u j : ℕ) (hand : Option (ℕ × Parcel M)) (after : List (Node S M)) → key ≡ n → a < n → u < 4 → IsHolding me (slot_at n a node u) node None
      → KeepsHand me.0 hand → j ≡ slot_at n a node u → after ≡ released_view hand me.0
      → Allows (Rule key) slots id me (n + j) (λ _. 0) (λ _ m. m ≡ (after, rest me.1))
  releases_at n key slots id me node a u j hand after is_key an un hold kept is_j next =
      let e : Node S M = hold.0 in
      let k : ℕ = slot_at n a node u in
      let k_is : slot_at n a e.node u ≡ k = ap (λ (z : ℕ). slot_at n a z u) hold.2 in
      let after_is : after ≡ releasing hand e ∷ [] = next ∙ ap (λ (z : Me (Option (Parcel M)) (List (Node S M))). released_view hand z.0) hold.1 in
      let base = releases n slots id a u e hand an un (subst (λ (z : ℕ). e.stage ≡ Reading z) (sym k_is) hold.3) (kept e (ap (λ (z : Me (Option (Parcel M)) (List (Node S M))). z.0) hold.1)) in
      let at_k = subst (λ (k : ℕ). Allows (Rule n) slots id (e ∷ [], (k, None) ∷ []) (n + k) (λ _. 0) (λ _ m. m ≡ (releasing hand e ∷ [], []))) k_is base in
      let at_after = subst (λ (v : List (Node S M)). Allows (Rule n) slots id (e ∷ [], (k, None) ∷ []) (n + k) (λ _. 0) (λ _ m. m ≡ (v, []))) (sym after_is) at_k in
      subst (λ (z : ℕ × Me (Option (Parcel M)) (List (Node S M)) × ℕ). Allows (Rule z.0) slots id z.1 (n + z.2) (λ _. 0) (λ _ m. m ≡ (after, rest z.1.1))) (λ i. (sym is_key i, sym hold.1 i, sym is_j i)) at_after

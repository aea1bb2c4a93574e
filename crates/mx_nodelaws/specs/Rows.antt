-- The rows of an algorithm's step table: what each accepted call does. The refusals by the phase,
-- and the numbers of sections, are the same for all algorithms: core_of adds them.
use Rattle.std.specs.Prelude.{ℕ, ◌+◌, ◌<◌, ◌≤◌, ◌^◌, ◌≡◌, ◌↔◌, ◌&&◌, Bool, true, List}
use Rattle.mx_stamps.specs.declared.limits.TheConstants.{MAX_SECTIONS}
use Rattle.mx_stamps.specs.declared.stamp.Stamp.{Stamp}
use Rattle.mx_stamps.specs.Lists.{IsIn, greatest}
use Rattle.mx_stamps.specs.Numbers.{last_number}
use Rattle.mx_nodelaws.specs.World.{World, Done, IsNode, WasSent, after, becoming}
use Rattle.mx_nodelaws.specs.Phases.{is_waiting}
use Rattle.mx_nodelaws.specs.Calls.{ask_by, enter_by, leave_by, cancel_by}
use Rattle.mx_nodelaws.specs.Core.{Core, IsInside}
use Rattle.mx_nodelaws.specs.Bounds.{IsBoundedDone, IsBoundedWorld}
use Rattle.mx_nodelaws.specs.Laws.{started}
use Rattle.mx_nodelaws.specs.declared.phase.Phase.{Phase}
use Rattle.mx_nodelaws.specs.declared.phase.Phase.TheVariants.{Idle, Waiting, Inside}

-- the rows of an algorithm: H are its shapes, S the states of a node, and M its letters
pub record Rows (H S M : Type 0) : Type 0 where
  pub count : H → ℕ
  -- the state of a node that has just been started, from the shape, the node, the origin (the
  -- algorithm may count its stamps and grants, or its hops, on from it) and the limit (the greatest
  -- section number)
  pub start : H → ℕ → ℕ → ℕ → S
  pub phase : S → Phase
  -- the number of the last section that the node entered, the highest section number that it knows,
  -- and the limit
  pub mine : S → ℕ
  pub top : S → ℕ
  pub limit : S → ℕ
  -- the counter from which `ask` draws: the highest stamp number that the node has drawn or seen,
  -- or the number of its requests that were accepted
  pub counter : S → ℕ
  -- whether every permission for the node's request has come
  pub is_granted : S → Bool
  -- an idle node asks; the result is the stamp of its request
  pub ask : S → Done S Stamp M
  -- a letter from a node is delivered
  pub deliver : ℕ → M → S → Done S (Unit {0}) M
  -- a waiting node enters the section whose number is one above `top`
  pub enter : S → S
  -- a node that is inside leaves
  pub leave : S → Done S (Unit {0}) M
  -- a waiting node withdraws its request
  pub cancel : S → Done S (Unit {0}) M
  -- outstanding letters are sent again
  pub tick : S → Done S (Unit {0}) M

-- the step table that the rows make
abbrev pub core_of : {H S M : Type 0} → Rows H S M → Core H S M
core_of rows = record {
  count = rows.count;
  start = rows.start;
  phase = rows.phase;
  mine = rows.mine;
  limit = rows.limit;
  can_enter = λ s. is_waiting (rows.phase s) && rows.is_granted s;
  ask = λ s. ask_by rows.counter rows.ask (rows.phase s) s;
  deliver = rows.deliver;
  enter = λ s. enter_by rows.is_granted rows.top rows.limit rows.enter (rows.phase s) s;
  leave = λ s. leave_by rows.leave (rows.phase s) s;
  cancel = λ s. cancel_by rows.cancel (rows.phase s) s;
  tick = rows.tick;
}

-- the part of a state that the promises on phases are about
pub record Course : Type 0 where
  pub phase : Phase
  pub mine : ℕ
  pub limit : ℕ

abbrev pub course : Phase → ℕ → ℕ → Course
course phase mine limit = record { phase = phase; mine = mine; limit = limit }

abbrev pub course_of : {H S M : Type 0} → Rows H S M → S → Course
course_of rows s = course (rows.phase s) (rows.mine s) (rows.limit s)

-- the course (phase, `mine` and limit) of a node after each row; KeepsPhases follows from this
pub record KeepsCourse {H S M : Type 0} (rows : Rows H S M) : Type 0 where
  pub start : (shape : H) (i origin limit : ℕ) →
      course_of rows (rows.start shape i origin limit) ≡ course Idle 0 limit
  pub ask : (s : S) →
      course_of rows (rows.ask s).state ≡ course Waiting (rows.mine s) (rows.limit s)
  pub deliver : (from : ℕ) (m : M) (s : S) →
      course_of rows (rows.deliver from m s).state ≡ course_of rows s
  pub enter : (s : S) → course_of rows (rows.enter s)
      ≡ course (Inside (rows.top s + 1)) (rows.top s + 1) (rows.limit s)
  pub leave : (s : S) →
      course_of rows (rows.leave s).state ≡ course Idle (rows.mine s) (rows.limit s)
  pub cancel : (s : S) →
      course_of rows (rows.cancel s).state ≡ course Idle (rows.mine s) (rows.limit s)
  pub tick : (s : S) → course_of rows (rows.tick s).state ≡ course_of rows s

-- each row keeps a world Safe; in a Safe world at most one node is inside, and sections are
-- numbered in order of entry
pub record KeepsSafe {H S M : Type 0} (rows : Rows H S M) (IsShape : H → Type 0)
    (Safe : World S M → Type 0) : Type 0 where
  pub start : (shape : H) (origin limit : ℕ) → IsShape shape →
      Safe (started (core_of rows) shape origin limit)
  pub ask : (w : World S M) (i : ℕ) (s : S) → Safe w → IsNode w i s → rows.phase s ≡ Idle →
      Safe (after w i (rows.ask s))
  pub deliver : (w : World S M) (i : ℕ) (s : S) → Safe w → IsNode w i s → (from : ℕ) (m : M) →
      WasSent w from i m → Safe (after w i (rows.deliver from m s))
  pub enter : (w : World S M) (i : ℕ) (s : S) → Safe w → IsNode w i s → rows.phase s ≡ Waiting →
      rows.is_granted s ≡ true → Safe (after w i (becoming (rows.enter s)))
  pub leave : (w : World S M) (i : ℕ) (s : S) → Safe w → IsNode w i s → (n : ℕ) →
      rows.phase s ≡ Inside n → Safe (after w i (rows.leave s))
  pub cancel : (w : World S M) (i : ℕ) (s : S) → Safe w → IsNode w i s → rows.phase s ≡ Waiting →
      Safe (after w i (rows.cancel s))
  pub tick : (w : World S M) (i : ℕ) (s : S) → Safe w → IsNode w i s →
      Safe (after w i (rows.tick s))
  pub by_membership : (w : World S M) (sent : List (ℕ × ℕ × M)) →
      ((x : ℕ × ℕ × M) → IsIn x w.sent ↔ IsIn x sent) → Safe w →
      Safe (record { nodes = w.nodes; sent = sent })
  pub one_inside : (w : World S M) (i j : ℕ) (s t : S) → Safe w → IsNode w i s → IsNode w j t →
      IsInside (core_of rows) s → IsInside (core_of rows) t → i ≡ j
  -- if a node may enter, nobody is inside, and the node's `top` is the greatest section number so
  -- far
  pub nobody_inside : (w : World S M) (i : ℕ) (s : S) → Safe w → IsNode w i s →
      rows.phase s ≡ Waiting → rows.is_granted s ≡ true → (j : ℕ) (t : S) → IsNode w j t →
      IsInside (core_of rows) t → ⊥
  pub top_greatest : (w : World S M) (i : ℕ) (s : S) → Safe w → IsNode w i s →
      rows.phase s ≡ Waiting → rows.is_granted s ≡ true → greatest rows.mine w.nodes ≡ rows.top s

-- each row keeps the properties Node of states and Letter of letters, which state that every number
-- is a u64 value, and every node named is one of n nodes
pub record KeepsBounds {H S M : Type 0} (rows : Rows H S M) (IsShape : H → Type 0)
    (Node : ℕ → S → Type 0) (Letter : ℕ → M → Type 0) : Type 0 where
  pub start : (shape : H) (origin limit i : ℕ) → IsShape shape → origin < 2 ^ 64 →
      limit ≤ MAX_SECTIONS → i < rows.count shape →
      Node (rows.count shape) (rows.start shape i origin limit)
  pub ask : (n : ℕ) (s : S) → Node n s → rows.counter s < last_number →
      IsBoundedDone Node Letter n (rows.ask s)
  pub deliver : (n : ℕ) (s : S) → Node n s → (from : ℕ) (m : M) → from < n → Letter n m →
      IsBoundedDone Node Letter n (rows.deliver from m s)
  pub enter : (n : ℕ) (s : S) → Node n s → rows.top s < rows.limit s → Node n (rows.enter s)
  pub leave : (n : ℕ) (s : S) → Node n s → IsBoundedDone Node Letter n (rows.leave s)
  pub cancel : (n : ℕ) (s : S) → Node n s → IsBoundedDone Node Letter n (rows.cancel s)
  pub tick : (n : ℕ) (s : S) → Node n s → IsBoundedDone Node Letter n (rows.tick s)

-- a Safe world in which every number is a u64 value, and every node named is one of the world
pub record IsGoodWorld {S M : Type 0} (Safe : World S M → Type 0) (Node : ℕ → S → Type 0)
    (Letter : ℕ → M → Type 0) (w : World S M) : Type 0 where
  pub safe : Safe w
  pub bounded : IsBoundedWorld Node Letter w

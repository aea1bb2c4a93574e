-- The arbiter's rows of the step table. Each says which part of it is published (Maekawa 1985) and
-- which is added here.
use Rattle.std.specs.Prelude.{ℕ, zero, suc, ◌+◌, ◌<◌, ◌≡◌, Bool, false, ◌||◌, ◌&&◌, List, [], ◌∷◌, Option, Some, None, max, nat_lt, nat_eq, if◌then◌else◌, slice_index_or, slice_set, replicate}
use Rattle.mx_stamps.specs.declared.limits.TheConstants.{MAX_NODES}
use Rattle.mx_stamps.specs.declared.stamp.Stamp.{Stamp}
use Rattle.mx_stamps.specs.Stamp.{Before, is_before_of, is_same_as}
use Rattle.mx_stamps.specs.Numbers.{last_number}
use Rattle.mx_letters.specs.declared.maekawa.MaekawaMsg.{MaekawaMsg}
use Rattle.mx_letters.specs.declared.maekawa.MaekawaMsg.TheVariants.{Locked, Failed, Inquire}
use Rattle.mx_nodelaws.specs.World.{Done, sending, becoming}
use Rattle.mx_maekawa.specs.declared.lock.Lock.{Lock}
use Rattle.mx_maekawa.specs.Node.{ArbiterState}

-- an arbiter that has just been started: from the count and the origin
abbrev pub start_arbiter : ℕ → ℕ → ArbiterState
start_arbiter count origin = record {
  count = count;
  lock = None;
  granted = origin;
  waiting = replicate MAX_NODES None;
  ended = replicate MAX_NODES origin;
  last = 0;
}

-- the request of node j, if it waits for a grant
abbrev pub waiting_at : ArbiterState → ℕ → Option Stamp
waiting_at a j = slice_index_or a.waiting j None

-- the greatest number of a stamp of node j that is known to have ended
abbrev pub ended_at : ArbiterState → ℕ → ℕ
ended_at a j = slice_index_or a.ended j 0

-- the lesser of two requests, or the only one
abbrev pub lesser : Option Stamp → Option Stamp → Option Stamp
lesser None y = y
lesser (Some x) None = Some x
lesser (Some x) (Some y) = if is_before_of y x then Some y else Some x

-- the least of the requests among f 0, f 1, .., f (n - 1), if there is any
abbrev pub IsLeastOf : (ℕ → Option Stamp) → ℕ → Option Stamp → Type 0
IsLeastOf f n None = (j : ℕ) → j < n → f j ≡ None
IsLeastOf f n (Some u) =
    ((j : ℕ) × (j < n) × (f j ≡ Some u))
    × ((j : ℕ) (v : Stamp) → j < n → f j ≡ Some v → Before v u → ⊥)

-- the least of these requests, found by going through the nodes
abbrev pub least_of : (ℕ → Option Stamp) → ℕ → Option Stamp
least_of f zero = None
least_of f (suc n) = lesser (least_of f n) (f n)

-- the waiting request of node j; for the node `but`, none
abbrev pub others_at : ArbiterState → ℕ → ℕ → Option Stamp
others_at a but j = if nat_eq j but then None else waiting_at a j

-- a step of the arbiter: its next state and its letters
abbrev pub ArbiterDone : Type 0
ArbiterDone = Done ArbiterState (Unit {0}) MaekawaMsg

-- the LOCKED of the lock, if there is a lock
abbrev pub lock_letter : Option Lock → List (ℕ × MaekawaMsg)
lock_letter None = []
lock_letter (Some lock) = (lock.stamp.node, Locked lock.stamp lock.grant lock.last) ∷ []

-- Grant: if there is no lock, the least of the waiting requests gets the next grant.
-- Published: an arbiter that is not locked locks for the waiting request that precedes all others,
-- and sends LOCKED.
-- Added: the grant's number, and `last`, the highest section number that the arbiter has received;
-- nothing is granted if no number remains.
abbrev pub locking : ArbiterState → Stamp → ArbiterState
locking a u = record a {
  waiting = slice_set a.waiting u.node None;
  granted = a.granted + 1;
  lock = Some (record { stamp = u; grant = a.granted + 1; last = a.last });
}

abbrev pub locked : ArbiterState → Stamp → ArbiterDone
locked a u = sending (locking a u) ((u.node, Locked u (a.granted + 1) a.last) ∷ [])

abbrev pub grant_to : Option Stamp → ArbiterState → ArbiterDone
grant_to None a = becoming a
grant_to (Some u) a = if nat_lt a.granted last_number then locked a u else becoming a

abbrev pub grant_in : Option Lock → ArbiterState → ArbiterDone
grant_in None a = grant_to (least_of (waiting_at a) a.count) a
grant_in (Some lock) a = becoming a

abbrev pub grant : ArbiterState → ArbiterDone
grant a = grant_in a.lock a

-- there is another request, and it comes before s
abbrev pub is_below : Option Stamp → Stamp → Bool
is_below None s = false
is_below (Some u) s = is_before_of u s

abbrev pub fail_least : Option Stamp → List (ℕ × MaekawaMsg)
fail_least None = []
fail_least (Some u) = (u.node, Failed u) ∷ []

-- Rank: the request s, which has to wait, is compared with the lock, and with the least of the
-- other waiting requests.
-- Published: if the lock's request or a waiting one precedes s, FAILED goes to the node of s.
-- Otherwise INQUIRE goes to the node of the lock's request; it need not be sent again while there
-- is no reply to the one before.
-- Added: INQUIRE is sent each time, as the one before may have been lost. A repeated reply does no
-- harm: the lock ends only for a RELINQUISH of the same stamp and grant. If the lock is for an
-- older stamp of the node of s, INQUIRE goes to that node, as the release of the older stamp may
-- have been lost. If s precedes the lock's request and all waiting ones, FAILED also goes to the
-- least of the other waiting requests, as that one may have had no reply so far.
abbrev pub overtaking : Lock → Option Stamp → List (ℕ × MaekawaMsg)
overtaking lock other = (lock.stamp.node, Inquire lock.stamp lock.grant) ∷ fail_least other

abbrev pub rank_against : Lock → Stamp → Option Stamp → List (ℕ × MaekawaMsg)
rank_against lock s other =
    if is_before_of lock.stamp s || is_below other s
    then (s.node, Failed s) ∷ []
    else overtaking lock other

abbrev pub rank_by : Lock → Stamp → Option Stamp → List (ℕ × MaekawaMsg)
rank_by lock s other =
    if nat_eq lock.stamp.node s.node
    then (s.node, Inquire lock.stamp lock.grant) ∷ []
    else rank_against lock s other

abbrev pub rank : Lock → Stamp → ArbiterState → ArbiterDone
rank lock s a = sending a (rank_by lock s (least_of (others_at a s.node) a.count))

-- REQUEST with stamp s.
-- Published: if there is no lock, the request is granted; otherwise it waits, and Rank follows.
-- Added: the request is ignored if s has ended, or if a later stamp of the same node has the lock
-- or waits. If the lock is for s, its LOCKED is sent again. The reason is that requests are sent
-- again, and may come late.
abbrev pub waiting_for : ArbiterState → Stamp → ArbiterState
waiting_for a s = record a { waiting = slice_set a.waiting s.node (Some s) }

abbrev pub queue : Option Lock → Stamp → ArbiterState → ArbiterDone
queue None s a = grant (waiting_for a s)
queue (Some lock) s a = rank lock s (waiting_for a s)

abbrev pub is_later : Option Stamp → Stamp → Bool
is_later None s = false
is_later (Some u) s = nat_eq u.node s.node && is_before_of s u

abbrev pub stamp_of : Option Lock → Option Stamp
stamp_of None = None
stamp_of (Some lock) = Some lock.stamp

abbrev pub is_for : Option Lock → Stamp → Bool
is_for None s = false
is_for (Some lock) s = is_same_as lock.stamp s

abbrev pub is_overtaken : ArbiterState → Stamp → Bool
is_overtaken a s = is_later (stamp_of a.lock) s || is_later (waiting_at a s.node) s

abbrev pub take_fresh : Stamp → ArbiterState → ArbiterDone
take_fresh s a = if is_overtaken a s then becoming a else queue a.lock s a

abbrev pub take_live : Stamp → ArbiterState → ArbiterDone
take_live s a = if is_for a.lock s then sending a (lock_letter a.lock) else take_fresh s a

abbrev pub take_request : Stamp → ArbiterState → ArbiterDone
take_request s a = if nat_lt (ended_at a s.node) s.number then take_live s a else becoming a

-- RELINQUISH from the node of s: if the lock is for exactly this stamp and grant, the lock ends,
-- and its request waits again.
-- Published: the same, and the first of the waiting requests is granted.
-- Added: the tests of stamp and grant number. If a later request of the same node waits already,
-- that one stays.
abbrev pub is_exactly : Option Lock → Stamp → ℕ → Bool
is_exactly None s g = false
is_exactly (Some lock) s g = is_same_as lock.stamp s && nat_eq lock.grant g

abbrev pub or_else : Option Stamp → Stamp → Option Stamp
or_else None s = Some s
or_else (Some u) s = Some u

abbrev pub taking_back : Stamp → ArbiterState → ArbiterState
taking_back s a = record a {
  lock = None;
  waiting = slice_set a.waiting s.node (or_else (waiting_at a s.node) s);
}

abbrev pub take_relinquish : Stamp → ℕ → ArbiterState → ArbiterDone
take_relinquish s g a = if is_exactly a.lock s g then grant (taking_back s a) else becoming a

-- RELEASE from the node of s: all its requests up to s have ended, and a lock for one of them ends.
-- Published: the lock ends, and the first of the waiting requests is granted.
-- Added: the release carries s. So the release ends no later request, and an older request that
-- comes late is known to have ended. `last` rises to the section number of the release, if that is
-- higher.
abbrev pub drop_up_to : Option Stamp → ℕ → Option Stamp
drop_up_to None number = None
drop_up_to (Some u) number = if nat_lt number u.number then Some u else None

abbrev pub ending : Stamp → ℕ → ArbiterState → ArbiterState
ending s t a = record a {
  last = max a.last t;
  ended = slice_set a.ended s.node (max (ended_at a s.node) s.number);
  waiting = slice_set a.waiting s.node (drop_up_to (waiting_at a s.node) s.number);
}

abbrev pub unlocking : ArbiterState → ArbiterState
unlocking a = record a { lock = None }

abbrev pub is_up_to : Option Lock → Stamp → Bool
is_up_to None s = false
is_up_to (Some lock) s = nat_eq lock.stamp.node s.node && nat_lt lock.stamp.number (s.number + 1)

abbrev pub take_release : Stamp → ℕ → ArbiterState → ArbiterDone
take_release s t a =
    if is_up_to a.lock s then grant (unlocking (ending s t a)) else becoming (ending s t a)

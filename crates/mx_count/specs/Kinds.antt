-- Which parcels, and which refusals, are counted together.
use Rattle.std.specs.Prelude.{ℕ, ◌&&◌, Bool, true, false, not, nat_eq}
use Rattle.std.specs.Str.{bytes_eq}
use Rattle.mx_member.specs.declared.parcel.Parcel.{Parcel}
use Rattle.mx_member.specs.declared.parcel.Parcel.TheVariants as parcel
use Rattle.mx_trace.specs.Causes.{cause_words}
use Rattle.mx_trace.specs.declared.cause.Cause.{Cause}
use Rattle.mx_trace.specs.declared.outcome.Outcome.{Outcome}
use Rattle.mx_trace.specs.declared.outcome.Outcome.TheVariants.{Refused}
use Rattle.mx_plan.specs.Text.{Text}
use Rattle.mx_count.specs.declared.kinds.Group.{Group}
use Rattle.mx_count.specs.declared.kinds.Group.TheVariants.{Letters, Kind, Own, Gossip, Want, Base, Records, SentBy}

-- the parcel is a letter from one node to another, neither gossip nor a letter to its own sender
abbrev pub is_between : {M : Type 0} → ℕ → ℕ → Parcel M → Bool
is_between from to (parcel.Guard letter) = not (nat_eq from to)
is_between from to _ = false

-- such a letter has this word
abbrev pub is_kind : {M : Type 0} → (M → Text) → Text → ℕ → ℕ → Parcel M → Bool
is_kind kind_text word from to (parcel.Guard letter) =
    not (nat_eq from to) && bytes_eq word (kind_text letter)
is_kind kind_text word from to _ = false

abbrev pub is_own : {M : Type 0} → ℕ → ℕ → Parcel M → Bool
is_own from to (parcel.Guard letter) = nat_eq from to
is_own from to _ = false

abbrev pub is_gossip : {M : Type 0} → Parcel M → Bool
is_gossip (parcel.Guard letter) = false
is_gossip _ = true

abbrev pub is_want : {M : Type 0} → Parcel M → Bool
is_want (parcel.Want ranges) = true
is_want _ = false

abbrev pub is_base : {M : Type 0} → Parcel M → Bool
is_base (parcel.Base base) = true
is_base _ = false

abbrev pub is_records : {M : Type 0} → Parcel M → Bool
is_records (parcel.Records records) = true
is_records _ = false

-- the parcel, with its sender and its addressee, is in this group
abbrev pub is_in : {M : Type 0} → (M → Text) → Group → ℕ × ℕ × Parcel M → Bool
is_in kind_text Letters x = is_between x.0 x.1 x.2
is_in kind_text (Kind word) x = is_kind kind_text word.now x.0 x.1 x.2
is_in kind_text Own x = is_own x.0 x.1 x.2
is_in kind_text Gossip x = is_gossip x.2
is_in kind_text Want x = is_want x.2
is_in kind_text Base x = is_base x.2
is_in kind_text Records x = is_records x.2
is_in kind_text (SentBy node) x = nat_eq x.0 node

-- the outcome is a refusal for this cause, whatever its number
abbrev pub is_refused_for : Cause → Outcome → Bool
is_refused_for cause (Refused other) = bytes_eq (cause_words other) (cause_words cause)
is_refused_for cause _ = false

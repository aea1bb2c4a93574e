-- Lines whose bytes come one after another.
use Rattle.std.proofs.Common.{◌≡◌, ◌≤◌, ◌<◌, ◌-◌, ◌+◌, ◌∙◌, ◌⊎◌, ◌==◌, ℕ, Bool, true, false, List, [], ◌∷◌, ◌++◌, Option, Some, None, Result, Ok, Err, IfOk, IfSome, length, take, get_or, refl, sym, ap, subst, inl, inr, arith}
use Rattle.std.proofs.lemmas.List.{length-append}
use Rattle.std.specs.Prelude.{if◌then◌else◌, option_map}
use Rattle.std.specs.Io.KnownBytes.{Consumes, IsAtEnd, Keeps}
use Rattle.std.proofs.KnownBytes.{Consumes-nil, Consumes-trans}
use Rattle.mx_stamps.proofs.Lists.{append_nil}
use Rattle.mx_plan.specs.Text.{Text}
use Rattle.mx_play.specs.Lines.{IsFirstLine, ReadsNext, before_lines, lines_of}
use Rattle.mx_play.specs.TypedLines.{AddsByte, Bytes, HasNoFeed, Holds, IsTaking, TakesOn, read_of}
use Rattle.mx_play.specs.declared.line_sources.LineRead.{LineRead}
use Rattle.mx_play.specs.declared.line_sources.TheConstants.{MAX_LINE}
use Rattle.mx_play.specs.declared.typed_lines.ByteRead.TheVariants as byte_read

-- ---- lines of bytes

-- a line that a line feed ends, and then the others
line_then : (taken rest : Text) → HasNoFeed taken → lines_of (taken ++ 10 ∷ rest) ≡ taken ∷ lines_of rest
line_then [] rest inner = refl
line_then (b ∷ bs) rest inner =
    subst (λ (c : Bool). (if c then [] ∷ lines_of (bs ++ 10 ∷ rest) else before_lines b (lines_of (bs ++ 10 ∷ rest))) ≡ (b ∷ bs) ∷ lines_of rest) (sym inner.0)
    (ap (before_lines b) (line_then bs rest inner.1))

-- a last line without a line feed
last_line : (b : ℕ) (bs : Text) → HasNoFeed (b ∷ bs) → lines_of (b ∷ bs) ≡ (b ∷ bs) ∷ []
last_line b [] inner = subst (λ (c : Bool). (if c then [] ∷ [] else before_lines b []) ≡ (b ∷ []) ∷ []) (sym inner.0) refl
last_line b (c ∷ cs) inner =
    subst (λ (d : Bool). (if d then [] ∷ lines_of (c ∷ cs) else before_lines b (lines_of (c ∷ cs))) ≡ (b ∷ c ∷ cs) ∷ []) (sym inner.0)
    (ap (before_lines b) (last_line c cs inner.1))

-- it is one of these bytes
no_feed_more : (taken : Text) (b : ℕ) → HasNoFeed taken → (b == 10) ≡ false → HasNoFeed (taken ++ b ∷ [])
no_feed_more [] b x y = (y, tt)
no_feed_more (a ∷ taken) b x y = (x.0, no_feed_more taken b x.1 y)

-- ---- a line that was read

held_read : (is_long : Bool) (buffer taken : Text) (lines rest : Option (List Text)) → Holds is_long buffer taken → IsFirstLine taken lines rest → ReadsNext lines (read_of is_long) buffer rest
held_read false buffer taken lines rest x first =
    (subst (λ (l : Text). length l ≤ MAX_LINE) (sym x.0) x.1, subst (λ (l : Text). IsFirstLine l lines rest) (sym x.0) first)
held_read true buffer taken lines rest x first = (taken, x.1, first)

abbrev lines_in : Bytes → Option (List Text)
lines_in bytes = option_map lines_of bytes

-- a line feed ends it
feed_first : (first now new : Bytes) (taken : Text) → HasNoFeed taken → Consumes first now taken → Consumes now new (10 ∷ []) → IsFirstLine taken (lines_in first) (lines_in new)
feed_first None now new taken inner x feed = tt
feed_first (Some all) None new taken inner x feed = absurd x
feed_first (Some all) (Some left) None taken inner x feed = absurd feed
feed_first (Some all) (Some left) (Some next) taken inner x feed =
    (lines_of next, ap lines_of (x ∙ ap (λ (l : Text). taken ++ l) feed) ∙ line_then taken next inner, refl)

pub feed_read : (first now new : Bytes) (is_long : Bool) (buffer : Text) → IsTaking first now is_long buffer → Consumes now new (10 ∷ []) → ReadsNext (lines_in first) (read_of is_long) buffer (lines_in new)
feed_read first now new is_long buffer x feed =
    held_read is_long buffer x.taken (lines_in first) (lines_in new) x.holds (feed_first first now new x.taken x.inner x.consumed feed)

some_taken : (is_long : Bool) (buffer : Text) → (buffer ≡ [] → ⊥) → Holds is_long buffer [] → ⊥
some_taken false buffer some x = some x.0
some_taken true buffer some x = omega (arith, x.1)

all_taken : (all taken left new : List ℕ) → all ≡ taken ++ left → new ≡ left → new ≡ [] → all ≡ taken
all_taken all taken left new is same end = is ∙ ap (λ (l : List ℕ). taken ++ l) (sym same ∙ end) ∙ append_nil taken

one_line : (taken : Text) → HasNoFeed taken → (taken ≡ [] → ⊥) → lines_of taken ≡ taken ∷ []
one_line [] inner some = absurd (some refl)
one_line (b ∷ bs) inner some = last_line b bs inner

end_first : (first now new : Bytes) (taken : Text) → HasNoFeed taken → (taken ≡ [] → ⊥) → Consumes first now taken → Keeps now new → IsAtEnd new → IsFirstLine taken (lines_in first) (lines_in new)
end_first None now new taken inner some x same end = tt
end_first (Some all) None new taken inner some x same end = absurd x
end_first (Some all) (Some left) None taken inner some x same end = absurd same
end_first (Some all) (Some left) (Some new) taken inner some x same end =
    ([], ap lines_of (all_taken all taken left new x same end) ∙ one_line taken inner some, ap (λ (l : Text). Some (lines_of l)) end)

end_read : (first now new : Bytes) (is_long : Bool) (buffer : Text) → IsTaking first now is_long buffer → Keeps now new → IsAtEnd new → (buffer ≡ [] → ⊥) → ReadsNext (lines_in first) (read_of is_long) buffer (lines_in new)
end_read first now new is_long buffer x same end some =
    held_read is_long buffer x.taken (lines_in first) (lines_in new) x.holds
    (end_first first now new x.taken x.inner (λ none. some_taken is_long buffer some (subst (λ (l : Text). Holds is_long buffer l) none x.holds)) x.consumed same end)

none_left : (first now new : Bytes) (taken : Text) → taken ≡ [] → Consumes first now taken → Keeps now new → IsAtEnd new → IfSome (lines_in first) (λ known. (known ≡ []) × (lines_in new ≡ Some []))
none_left None now new taken none x same end = tt
none_left (Some all) None new taken none x same end = absurd x
none_left (Some all) (Some left) None taken none x same end = absurd same
none_left (Some all) (Some left) (Some new) taken none x same end =
    (ap lines_of (all_taken all taken left new x same end ∙ none), ap (λ (l : Text). Some (lines_of l)) end)

-- ---- a byte more

held_more : (is_long : Bool) (buffer taken : Text) (b : ℕ) → Holds is_long buffer taken → length buffer < MAX_LINE → Holds is_long (buffer ++ b ∷ []) (taken ++ b ∷ [])
held_more false buffer taken b x short =
    let same : length buffer ≡ length taken = ap (λ (l : Text). length l) x.0 in
    let one = length-append taken (b ∷ []) in
    (ap (λ (l : Text). l ++ b ∷ []) x.0, omega (arith, same, one, short))
held_more true buffer taken b x short = absurd (let long = x.0 in omega (arith, long, short))

held_long : (is_long : Bool) (buffer taken : Text) (b : ℕ) → Holds is_long buffer taken → MAX_LINE ≤ length buffer → Holds true buffer (taken ++ b ∷ [])
held_long false buffer taken b x long =
    let same : length buffer ≡ length taken = ap (λ (l : Text). length l) x.0 in
    let one = length-append taken (b ∷ []) in
    (long, omega (arith, same, one, long))
held_long true buffer taken b x long =
    let one = length-append taken (b ∷ []) in
    let past = x.1 in
    (long, omega (arith, one, past))

pub taking_first : (first : Bytes) (buffer : Text) → buffer ≡ [] → IsTaking first first false buffer
taking_first first buffer empty = record { taken = []; inner = tt; consumed = Consumes-nil first; holds = (empty, omega arith) }

taking_more : (first now new : Bytes) (is_long is_long' : Bool) (b : ℕ) (buffer buffer' : Text) → IsTaking first now is_long buffer → Consumes now new (b ∷ []) → (b == 10) ≡ false
    → ((length buffer < MAX_LINE) × (is_long' ≡ is_long) × (buffer' ≡ buffer ++ b ∷ [])) ⊎ ((MAX_LINE ≤ length buffer) × (is_long' ≡ true) × (buffer' ≡ buffer))
    → IsTaking first new is_long' buffer'
taking_more first now new is_long is_long' b buffer buffer' x consumed plain (inl y) = record {
  taken = x.taken ++ b ∷ [];
  inner = no_feed_more x.taken b x.inner plain;
  consumed = Consumes-trans first now new x.taken (b ∷ []) x.consumed consumed;
  holds = subst (λ (l : Bool). Holds l buffer' (x.taken ++ b ∷ [])) (sym y.1)
      (subst (λ (l : Text). Holds is_long l (x.taken ++ b ∷ [])) (sym y.2) (held_more is_long buffer x.taken b x.holds y.0));
}
taking_more first now new is_long is_long' b buffer buffer' x consumed plain (inr y) = record {
  taken = x.taken ++ b ∷ [];
  inner = no_feed_more x.taken b x.inner plain;
  consumed = Consumes-trans first now new x.taken (b ∷ []) x.consumed consumed;
  holds = subst (λ (l : Bool). Holds l buffer' (x.taken ++ b ∷ [])) (sym y.1)
      (subst (λ (l : Text). Holds true l (x.taken ++ b ∷ [])) (sym y.2) (held_long is_long buffer x.taken b x.holds y.0));
}

-- what a byte comes to
pub byte_on : (read : Option LineRead) (first now new : Bytes) (is_long is_long' : Bool) (b : ℕ) (buffer buffer' : Text) → Consumes now new (b ∷ [])
    → AddsByte b is_long buffer read is_long' buffer' → IsTaking first now is_long buffer → TakesOn read first new is_long' buffer'
byte_on None first now new is_long is_long' b buffer buffer' consumed adds x = taking_more first now new is_long is_long' b buffer buffer' x consumed adds.0 adds.1
byte_on (Some read) first now new is_long is_long' b buffer buffer' consumed adds x =
    let feed = subst (λ (c : ℕ). Consumes now new (c ∷ [])) adds.0 consumed in
    subst (λ (r : LineRead). ReadsNext (lines_in first) r buffer' (lines_in new)) (sym adds.1)
    (subst (λ (l : Text). ReadsNext (lines_in first) (read_of is_long) l (lines_in new)) (sym adds.2) (feed_read first now new is_long buffer x feed))

pub bytes_on : {E : Type 0} (r : Result (Option LineRead) E) (now new : Bytes) (is_long is_long' : Bool) (b : ℕ) (buffer buffer' : Text) → Consumes now new (b ∷ [])
    → IfOk r (λ read. AddsByte b is_long buffer read is_long' buffer') → IfOk r (λ read. (first : Bytes) → IsTaking first now is_long buffer → TakesOn read first new is_long' buffer')
bytes_on (Ok read) now new is_long is_long' b buffer buffer' consumed adds = λ first x. byte_on read first now new is_long is_long' b buffer buffer' consumed adds x
bytes_on (Err e) now new is_long is_long' b buffer buffer' consumed adds = tt

zero_is : (0 == 0) ≡ false → ⊥
zero_is e = cc

none_counted : (buffer : Text) (count : ℕ) → count ≡ length buffer → (count == 0) ≡ false → buffer ≡ [] → ⊥
none_counted buffer count counts some empty =
    let zero : count ≡ 0 = counts ∙ ap (λ (l : Text). length l) empty in
    zero_is (subst (λ (n : ℕ). (n == 0) ≡ false) zero some)

-- how the end of the bytes ends a line
pub end_as : (first now new : Bytes) (is_long is_empty : Bool) (count : ℕ) (buffer : Text) (read : LineRead) → IsTaking first now is_long buffer → Keeps now new × IsAtEnd new → count ≡ length buffer
    → is_empty ≡ (count == 0) → is_empty ≡ false → read ≡ read_of is_long → ReadsNext (lines_in first) read buffer (lines_in new)
end_as first now new is_long is_empty count buffer read x end counts tests some is =
    subst (λ (r : LineRead). ReadsNext (lines_in first) r buffer (lines_in new)) (sym is)
    (end_read first now new is_long buffer x end.0 end.1 (λ empty. none_counted buffer count counts (sym tests ∙ some) empty))

-- ---- a byte that is read

first_taken : (bytes : List ℕ) (d : ℕ) → length bytes ≡ 1 → take 1 bytes ≡ get_or bytes 0 d ∷ []
first_taken [] d one = cc
first_taken (b ∷ bytes) d one = refl

-- one byte was read
pub one_read : (old new : Bytes) (bytes : List ℕ) (n b d : ℕ) → length bytes ≡ 1 → n ≤ 1 → (n ≡ 0 → ⊥) → b ≡ get_or bytes 0 d → Consumes old new (take n bytes) → Consumes old new (b ∷ [])
one_read old new bytes n b d one few some is x =
    let n_is : n ≡ 1 = omega (arith, few, some) in
    let taken : take n bytes ≡ b ∷ [] = ap (λ (m : ℕ). take m bytes) n_is ∙ first_taken bytes d one ∙ ap (λ (c : ℕ). c ∷ []) (sym is) in
    subst (λ (l : List ℕ). Consumes old new l) taken x

-- What lines make of a session.
use Rattle.std.proofs.Common.{◌≡◌, ◌≤◌, ◌-◌, ◌∙◌, ℕ, zero, suc, List, [], ◌∷◌, ◌++◌, length, take, drop, refl, sym, ap, ap₂, subst, append_assoc, arith, inl, inr, Vec}
use Rattle.std.specs.declared.alloc.Global.{Global}
use Rattle.std.proofs.lemmas.Grind.{flat_map-append}
use Rattle.std.specs.Prelude.{string_bytes, codes}
use Rattle.std.specs.Str.{IsUtf8, trim}
use Rattle.mx_stamps.proofs.Lists.{append_nil}
use Rattle.mx_nodelaws.specs.Core.{Core}
use Rattle.mx_events.proofs.WithinLemmas.{more_within, none_within}
use Rattle.mx_events.specs.Arguments.{AreEventsWithin}
use Rattle.mx_lines.specs.declared.line.Line.{Line}
use Rattle.mx_lines.specs.declared.orders.Order.{Order}
use Rattle.mx_plan.specs.Text.{Text}
use Rattle.mx_plan.specs.Fields.{Fields}
use Rattle.mx_driver.proofs.RunLemmas.{members_at_rest}
use Rattle.mx_scripts.specs.Lines.{Performs, Repeats}
use Rattle.mx_lines.specs.Within.{IsOrderWithin}
use Rattle.mx_scripts.specs.States.{IsEventWithin, RunState}
use Rattle.mx_scripts.specs.Told.{IsTold}
use Rattle.mx_scripts.specs.declared.state.SessionEvent.{SessionEvent}
use Rattle.mx_scripts.specs.declared.state.SessionEvent.TheVariants.{Happens, IsLost, LinksChange}
use Rattle.mx_scripts.proofs.LineLemmas.{next_within}
use Rattle.mx_play.specs.Histories.{CanLead, Leads, Makes, events_in, first_state}
use Rattle.mx_play.specs.Sessions.{AddsOne, IsSession, SessionState, Undone, all_lines, at_start, line_events, undone_in}
use Rattle.mx_play.specs.Executions.{IsDone, IsRedone, IsUndone, line_text}
use Rattle.mx_play.specs.Printed.{steps_text}
use Rattle.mx_play.specs.declared.printed_events.PrintedEvents.{PrintedEvents}
use Rattle.mx_play.specs.declared.session.DoneLine.{DoneLine}
use Rattle.mx_play.proofs.HistoryLemmas.{Adds, leads_append, leads_members, leads_one, leads_split, makes_leads, told_adds}

-- ---- what happened is over these nodes and registers

module _ (nodes registers : ℕ) where
  abbrev Over : List SessionEvent → Type 0
  Over es = AreEventsWithin nodes registers (events_in es)

  pub over_none : Over []
  over_none = none_within nodes registers

  over_cons : (e : SessionEvent) (es : List SessionEvent) → IsEventWithin nodes registers e → Over es → Over (e ∷ es)
  over_cons (Happens e) es drawn over = more_within nodes registers e (events_in es) drawn over
  over_cons (IsLost k) es drawn over = over
  over_cons (LinksChange change) es drawn over = over

  over_append : (es fs : List SessionEvent) → Over es → Over fs → Over (es ++ fs)
  over_append [] fs x y = y
  over_append (Happens e ∷ es) fs x y = more_within nodes registers e (events_in (es ++ fs)) (x e (inl refl)) (over_append es fs (λ f h. x f (inr h)) y)
  over_append (IsLost k ∷ es) fs x y = over_append es fs x y
  over_append (LinksChange change ∷ es) fs x y = over_append es fs x y

  over_first : (es fs : List SessionEvent) → Over (es ++ fs) → Over es
  over_first [] fs x = over_none
  over_first (Happens e ∷ es) fs x = more_within nodes registers e (events_in es) (x e (inl refl)) (over_first es fs (λ f h. x f (inr h)))
  over_first (IsLost k ∷ es) fs x = over_first es fs x
  over_first (LinksChange change ∷ es) fs x = over_first es fs x

  module _ {H S M : Type 0} (core : Core H S M) (o : Order) (of : IsOrderWithin nodes registers o) where
    performs_over : (done : ℕ) (es : List SessionEvent) (old new : RunState S M) → Performs core o done old es new → Over es
    performs_over done [] old new x = over_none
    performs_over done (e ∷ es) old new x =
        over_cons e es (next_within old.fates old.cluster.sent nodes registers o done e of x.1) (performs_over (suc done) es x.0 new x.4)

    repeats_over : (times : ℕ) (es : List SessionEvent) (old new : RunState S M) → Repeats core o times old es new → Over es
    repeats_over zero es old new x = subst (λ (l : List SessionEvent). Over l) (sym x.1) over_none
    repeats_over (suc times) es old new x =
        subst (λ (l : List SessionEvent). Over l) (sym x.4)
        (over_append x.1 x.2 (performs_over 0 x.1 old x.0 x.3) (repeats_over times x.2 x.0 new x.5))

take_and_drop : {X : Type 0} (n : ℕ) (xs : List X) → xs ≡ take n xs ++ drop n xs
take_and_drop zero xs = refl
take_and_drop (suc n) [] = refl
take_and_drop {X} (suc n) (x ∷ xs) = ap (λ (l : List X). x ∷ l) (take_and_drop n xs)

length_drop : {X : Type 0} (n : ℕ) (xs : List X) → length (drop n xs) ≡ length xs - n
length_drop zero xs = omega arith
length_drop (suc n) [] = omega arith
length_drop {X} (suc n) (x ∷ xs) = let rest = length_drop n xs in omega (arith, rest)

line_events_append : (xs ys : List DoneLine) → line_events (xs ++ ys) ≡ line_events xs ++ line_events ys
line_events_append xs ys = flat_map-append (λ (line : DoneLine). line.events.items) xs ys

-- the last undo is the first to be redone
undone_last : (us : List Undone) (u : Undone) → undone_in (us ++ u ∷ []) ≡ u.items ++ undone_in us
undone_last [] u = sym (append_nil u.items)
undone_last (v ∷ us) u = ap (λ (l : List DoneLine). l ++ v.items) (undone_last us u) ∙ append_assoc u.items (undone_in us) v.items

-- `undo` and `redo` keep all lines
all_kept : {S M : Type 0} (a b : SessionState S M) (u : Undone) → a.lines ≡ b.lines ++ u.items → b.undone ≡ a.undone ++ u ∷ [] → all_lines b ≡ all_lines a
all_kept a b u lines undone =
    ap (λ (us : List Undone). b.lines ++ undone_in us) undone
    ∙ ap (λ (l : List DoneLine). b.lines ++ l) (undone_last a.undone u)
    ∙ sym (append_assoc b.lines u.items (undone_in a.undone))
    ∙ ap (λ (l : List DoneLine). l ++ undone_in a.undone) (sym lines)

module _ {H S M : Type 0} (core : Core H S M) (p : Fields) (shape : H) where
  abbrev first : RunState S M
  first = first_state core p shape

  abbrev G : SessionState S M → Type 0
  G = IsSession core p shape

  abbrev O : List SessionEvent → Type 0
  O es = AreEventsWithin (length p.nodes) (length p.registers) (events_in es)

  -- lines, and then others
  parts : (xs ys : List DoneLine) (old last : RunState S M) → Leads core old (line_events (xs ++ ys)) last → (mid : RunState S M) × Leads core old (line_events xs) mid × Leads core mid (line_events ys) last
  parts xs ys old last x =
      leads_split core (line_events xs) (line_events ys) old last (subst (λ (es : List SessionEvent). Leads core old es last) (line_events_append xs ys) x)

  pub session_start : (s : SessionState S M) → s ≡ at_start core p shape → core.count shape ≡ length p.nodes → IsSession core p shape s
  session_start s is count = record {
    leads = subst (λ (x : SessionState S M). Leads core first (line_events x.lines) x.state) (sym is) refl;
    members = members_at_rest core p shape (length p.nodes) s.state.cluster (ap (λ (x : SessionState S M). x.state.cluster) is) count;
    redoes = subst (λ (x : SessionState S M). CanLead core first (line_events (all_lines x))) (sym is) (first, refl);
    over = subst (λ (x : SessionState S M). O (line_events (all_lines x))) (sym is) (over_none (length p.nodes) (length p.registers));
  }

  -- another session has as many nodes
  members_kept : (a b : SessionState S M) → G a → Leads core first (line_events b.lines) b.state → length b.state.cluster.members ≡ length p.nodes
  members_kept a b g leads =
      leads_members core (line_events b.lines) first b.state leads ∙ sym (leads_members core (line_events a.lines) first a.state g.leads) ∙ g.members

  -- a session of the same lines, done or undone
  session_of : (a b : SessionState S M) → G a → Leads core first (line_events b.lines) b.state → all_lines b ≡ all_lines a → IsSession core p shape b
  session_of a b g leads same = record {
    leads = leads;
    members = members_kept a b g leads;
    redoes = subst (λ (l : List DoneLine). CanLead core first (line_events l)) (sym same) g.redoes;
    over = subst (λ (l : List DoneLine). O (line_events l)) (sym same) g.over;
  }

  -- the lines that were done are over these nodes and registers
  pub over_done : (a : SessionState S M) → G a → O (line_events a.lines)
  over_done a g =
      over_first (length p.nodes) (length p.registers) (line_events a.lines) (line_events (undone_in a.undone)) (subst O (line_events_append a.lines (undone_in a.undone)) g.over)

  -- the first lines can be done again
  pub can_return : (n : ℕ) (a : SessionState S M) → G a → CanLead core first (line_events (take n a.lines))
  can_return n a g =
      let both = parts (take n a.lines) (drop n a.lines) first a.state (subst (λ (l : List DoneLine). Leads core first (line_events l) a.state) (take_and_drop n a.lines) g.leads) in
      (both.0, both.1)

  -- the lines after the first `left` were undone
  pub was_undone : (count left n : ℕ) (a b : SessionState S M) (u : Undone) (t text : Text) → G a → n ≡ length a.lines → count ≤ n → left ≡ n - count → b.lines ≡ take left a.lines
      → u.items ≡ drop left a.lines → b.undone ≡ a.undone ++ u ∷ [] → Leads core first (line_events b.lines) b.state → t ≡ []
      → text ≡ t ++ steps_text (codes "undone") u.items (length a.state.cluster.trace - length b.state.cluster.trace) → IsUndone core p shape count a b text × IsSession core p shape b
  was_undone count left n a b u t text g long few is listed tail undone leads empty printed =
      let lines : a.lines ≡ b.lines ++ u.items = take_and_drop left a.lines ∙ ap₂ (λ (x y : List DoneLine). x ++ y) (sym listed) (sym tail) in
      let short : length u.items ≡ length a.lines - left = ap (λ (l : List DoneLine). length l) tail ∙ length_drop left a.lines in
      let shown : Text = steps_text (codes "undone") u.items (length a.state.cluster.trace - length b.state.cluster.trace) in (
        record { last = u; lines = lines; counted = omega (arith, short, long, few, is); undone = undone; leads = leads; printed = printed ∙ ap (λ (l : Text). l ++ shown) empty },
        session_of a b g leads (all_kept a b u lines undone),
      )

  module _ (a : SessionState S M) (us : List Undone) (u : Undone) (g : G a) (popped : a.undone ≡ us ++ u ∷ []) where
    -- what was undone last can be done again
    pub can_redo : CanLead core a.state (line_events u.items)
    can_redo =
        let all : all_lines a ≡ a.lines ++ (u.items ++ undone_in us) =
        ap (λ (l : List Undone). a.lines ++ undone_in l) popped ∙ ap (λ (l : List DoneLine). a.lines ++ l) (undone_last us u) in
        let last : RunState S M = g.redoes.0 in
        let both = parts a.lines (u.items ++ undone_in us) first last (subst (λ (l : List DoneLine). Leads core first (line_events l) last) all g.redoes.1) in
        let next = parts u.items (undone_in us) both.0 last both.2 in
        subst (λ (m : RunState S M). CanLead core m (line_events u.items)) (leads_one core (line_events a.lines) first both.0 a.state both.1 g.leads) (next.0, next.1)

    -- it was
    pub was_redone : (b : SessionState S M) (t text : Text) → b.undone ≡ us → b.lines ≡ a.lines ++ u.items → Leads core a.state (line_events u.items) b.state → t ≡ []
        → text ≡ t ++ steps_text (codes "redone") u.items (length b.state.cluster.trace - length a.state.cluster.trace) → IsRedone core a b text × IsSession core p shape b
    was_redone b t text rest lines leads empty printed =
        let shown : Text = steps_text (codes "redone") u.items (length b.state.cluster.trace - length a.state.cluster.trace) in
        let undone : a.undone ≡ b.undone ++ u ∷ [] = popped ∙ ap (λ (l : List Undone). l ++ u ∷ []) (sym rest) in
        let events : line_events b.lines ≡ line_events a.lines ++ line_events u.items = ap line_events lines ∙ line_events_append a.lines u.items in (
          record { last = u; undone = undone; lines = lines; leads = leads; printed = printed ∙ ap (λ (l : Text). l ++ shown) empty },
          session_of a b g
              (subst (λ (es : List SessionEvent). Leads core first es b.state) (sym events) (leads_append core (line_events a.lines) (line_events u.items) first a.state b.state g.leads leads))
              (sym (all_kept b a u lines undone)),
        )

  -- its lines were done again, and all is as before
  pub is_as_before : (a b : SessionState S M) → G a → b.lines ≡ a.lines → b.undone ≡ a.undone → Leads core first (line_events a.lines) b.state → b ≡ a
  is_as_before a b g lines undone leads =
      let state = leads_one core (line_events a.lines) first b.state a.state leads g.leads in
      rw (state, lines, undone) refl

  pub same_holds : (a b : SessionState S M) → b ≡ a → G a → IsSession core p shape b
  same_holds a b same g = subst G (sym same) g

  module _ (letter_text : Fields → M → Text) (line : Line) (from : Text) (a c : SessionState S M) (now : RunState S M) (last : DoneLine) (es : List SessionEvent) (start printed : PrintedEvents) (t t' : Text)
      (over : IsOrderWithin (length p.nodes) (length p.registers) line.order) (repeats : Repeats core line.order line.times a.state es now) (told : IsTold core (AddsOne core letter_text p) es a.state now start printed)
      (no_events : start.events.items ≡ []) (no_text : string_bytes start.text ≡ []) (empty : t ≡ [])
      (state : c.state ≡ now) (typed : IsUtf8 from → string_bytes last.text ≡ trim from) (done : last.events ≡ printed.events) (lines : c.lines ≡ a.lines ++ last ∷ []) (undone : c.undone ≡ [])
      (text : t' ≡ t ++ line_text printed.events.items (string_bytes printed.text)) where
    adds : Adds core letter_text p es a.state now start printed
    adds = told_adds core letter_text p es a.state now start printed told

    listed : printed.events.items ≡ es
    listed = adds.listed ∙ ap (λ (l : List SessionEvent). l ++ es) no_events

    its_events : last.events.items ≡ es
    its_events = ap (λ (v : Vec SessionEvent Global). v.items) done ∙ listed

    its_text : string_bytes printed.text ≡ adds.made
    its_text = adds.printed ∙ ap (λ (l : Text). l ++ adds.made) no_text

    makes_here : Makes core letter_text p a.state last.events.items c.state adds.made
    makes_here =
        subst (λ (s : RunState S M). Makes core letter_text p a.state last.events.items s adds.made) (sym state)
        (subst (λ (l : List SessionEvent). Makes core letter_text p a.state l now adds.made) (sym its_events) adds.makes)

    repeats_here : Repeats core line.order line.times a.state last.events.items c.state
    repeats_here =
        subst (λ (s : RunState S M). Repeats core line.order line.times a.state last.events.items s) (sym state)
        (subst (λ (l : List SessionEvent). Repeats core line.order line.times a.state l now) (sym its_events) repeats)

    events_over : O last.events.items
    events_over = repeats_over (length p.nodes) (length p.registers) core line.order over line.times last.events.items a.state c.state repeats_here

    is_done : IsDone core letter_text p line from a c t'
    is_done = record {
      last = last;
      typed = typed;
      repeats = repeats_here;
      made = adds.made;
      makes = makes_here;
      printed = text ∙ ap (λ (l : Text). l ++ line_text printed.events.items (string_bytes printed.text)) empty
          ∙ ap (λ (l : List SessionEvent). line_text l (string_bytes printed.text)) (listed ∙ sym its_events) ∙ ap (line_text last.events.items) its_text;
      over = events_over;
      lines = lines;
      undone = undone;
    }

    -- a line was done, and this is a session
    pub line_done : G a → IsDone core letter_text p line from a c t' × IsSession core p shape c
    line_done g =
        let events : line_events c.lines ≡ line_events a.lines ++ last.events.items =
        ap line_events lines ∙ line_events_append a.lines (last ∷ []) ∙ ap (λ (l : List SessionEvent). line_events a.lines ++ l) (append_nil last.events.items) in
        let leads : Leads core first (line_events c.lines) c.state =
        subst (λ (l : List SessionEvent). Leads core first l c.state) (sym events)
        (leads_append core (line_events a.lines) last.events.items first a.state c.state g.leads (makes_leads core letter_text p last.events.items a.state c.state adds.made makes_here)) in
        let all : all_lines c ≡ c.lines = ap (λ (us : List Undone). c.lines ++ undone_in us) undone ∙ append_nil c.lines in (
          is_done,
          record {
            leads = leads;
            members = members_kept a c g leads;
            redoes = subst (λ (l : List DoneLine). CanLead core first (line_events l)) (sym all) (c.state, leads);
            over = subst (λ (l : List DoneLine). O (line_events l)) (sym all)
                (subst O (sym events) (over_append (length p.nodes) (length p.registers) (line_events a.lines) last.events.items (over_done a g) events_over));
          },
        )

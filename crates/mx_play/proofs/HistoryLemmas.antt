-- What happens, one event after another.
use Rattle.std.proofs.Common.{◌≡◌, ◌≤◌, ◌<◌, ◌∙◌, ℕ, List, [], ◌∷◌, ◌++◌, Result, Ok, Err, OnOk, length, drop, get_or, drop-cons, add-one, ◌+◌, refl, sym, ap, subst, append_assoc}
use Rattle.std.proofs.lemmas.List.{drop_all}
use Rattle.std.specs.Prelude.{string_bytes}
use Rattle.mx_stamps.proofs.Lists.{append_nil}
use Rattle.mx_nodelaws.specs.Core.{Core}
use Rattle.mx_network.specs.Step.{ClusterState, RunsTo}
use Rattle.mx_plan.specs.Text.{Text}
use Rattle.mx_plan.specs.Fields.{Fields}
use Rattle.mx_scripts.specs.States.{Brings, IsAllowed, RunState}
use Rattle.mx_scripts.specs.declared.state.SessionEvent.{SessionEvent}
use Rattle.mx_scripts.specs.declared.state.SessionEvent.TheVariants.{Happens, IsLost, LinksChange}
use Rattle.mx_scripts.specs.Told.{IsTold}
use Rattle.mx_scripts.proofs.StateLemmas.{brings_members, brings_one}
use Rattle.mx_play.specs.Histories.{CanLead, Leads, Makes, events_in, made_text}
use Rattle.mx_play.specs.Sessions.{AddsOne, line_events}
use Rattle.mx_play.specs.declared.session.DoneLine.{DoneLine}
use Rattle.mx_play.specs.declared.printed_events.PrintedEvents.{PrintedEvents}

module _ {H S M : Type 0} (core : Core H S M) where
  pub leads_one : (es : List SessionEvent) (old a b : RunState S M) → Leads core old es a → Leads core old es b → a ≡ b
  leads_one [] old a b x y = x ∙ sym y
  leads_one (e ∷ es) old a b x y =
      let same = brings_one core e old x.0 y.0 x.2 y.2 in
      leads_one es x.0 a b x.3 (subst (λ (m : RunState S M). Leads core m es b) (sym same) y.3)

  pub leads_append : (es fs : List SessionEvent) (old mid new : RunState S M) → Leads core old es mid → Leads core mid fs new → Leads core old (es ++ fs) new
  leads_append [] fs old mid new x y = subst (λ (m : RunState S M). Leads core m fs new) x y
  leads_append (e ∷ es) fs old mid new x y = (x.0, x.1, x.2, leads_append es fs x.0 mid new x.3 y)

  pub leads_split : (es fs : List SessionEvent) (old new : RunState S M) → Leads core old (es ++ fs) new → (mid : RunState S M) × Leads core old es mid × Leads core mid fs new
  leads_split [] fs old new x = (old, refl, x)
  leads_split (e ∷ es) fs old new x =
      let rest = leads_split es fs x.0 new x.3 in
      (rest.0, (x.0, x.1, x.2, rest.1), rest.2)

  -- the cluster has as many nodes
  pub leads_members : (es : List SessionEvent) (old new : RunState S M) → Leads core old es new → length new.cluster.members ≡ length old.cluster.members
  leads_members [] old new x = ap (λ (m : RunState S M). length m.cluster.members) x
  leads_members (e ∷ es) old new x = leads_members es x.0 new x.3 ∙ brings_members core e old x.0 x.2

  -- the events among them lead to the cluster
  pub leads_runs : (es : List SessionEvent) (old new : RunState S M) → Leads core old es new → RunsTo core old.cluster (events_in es) new.cluster
  leads_runs [] old new x = ap (λ (m : RunState S M). m.cluster) x
  leads_runs (Happens e ∷ es) old new x =
      let mid : RunState S M = x.0 in
      (mid.cluster, x.2.0, leads_runs es mid new x.3)
  leads_runs (IsLost k ∷ es) old new x =
      let mid : RunState S M = x.0 in
      subst (λ (g : ClusterState S M). RunsTo core g (events_in es) new.cluster) x.2.0 (leads_runs es mid new x.3)
  leads_runs (LinksChange change ∷ es) old new x =
      let mid : RunState S M = x.0 in
      subst (λ (g : ClusterState S M). RunsTo core g (events_in es) new.cluster) x.2.0 (leads_runs es mid new x.3)

  module _ (done : List SessionEvent) (i : ℕ) (d : SessionEvent) (now last : RunState S M) (lt : i < length done) (x : Leads core now (drop i done) last) where
    at_place : Leads core now (get_or done i d ∷ drop (i + 1) done) last
    at_place =
        subst (λ (l : List SessionEvent). Leads core now l last)
        (drop-cons done i d lt ∙ ap (λ (n : ℕ). get_or done i d ∷ drop n done) (sym (add-one i))) x

    -- what stands at a place of the list is allowed
    pub allowed_at : IsAllowed now (get_or done i d)
    allowed_at = at_place.1

    -- and then the rest of it can happen
    pub leads_at : (next : RunState S M) → Brings core now (get_or done i d) next → Leads core next (drop (i + 1) done) last
    leads_at next y =
        subst (λ (m : RunState S M). Leads core m (drop (i + 1) done) last) (brings_one core (get_or done i d) now at_place.0 next at_place.2 y) at_place.3

  -- all of them happened
  pub leads_end : (done : List SessionEvent) (i : ℕ) (now last : RunState S M) → length done ≤ i → Leads core now (drop i done) last → last ≡ now
  leads_end done i now last le x = subst (λ (l : List SessionEvent). Leads core now l last) (drop_all i done le) x

  module _ (lines : List DoneLine) (i : ℕ) (d : DoneLine) (now last : RunState S M) (lt : i < length lines) (x : Leads core now (line_events (drop i lines)) last) where
    abbrev its_events : List SessionEvent
    its_events = (get_or lines i d).events.items

    line_parts : (mid : RunState S M) × Leads core now its_events mid × Leads core mid (line_events (drop (i + 1) lines)) last
    line_parts =
        leads_split its_events (line_events (drop (i + 1) lines)) now last
        (subst (λ (l : List DoneLine). Leads core now (line_events l) last)
        (drop-cons lines i d lt ∙ ap (λ (n : ℕ). get_or lines i d ∷ drop n lines) (sym (add-one i))) x)

    -- the line at a place can be done
    pub can_do_line : CanLead core now its_events
    can_do_line = (line_parts.0, line_parts.1)

    -- and then the rest of the lines can be
    pub leads_on : (next : RunState S M) → Leads core now its_events next → Leads core next (line_events (drop (i + 1) lines)) last
    leads_on next y =
        subst (λ (m : RunState S M). Leads core m (line_events (drop (i + 1) lines)) last) (leads_one its_events now line_parts.0 next line_parts.1 y) line_parts.2

  -- all of them were done
  pub lines_end : (lines : List DoneLine) (i : ℕ) (now last : RunState S M) → length lines ≤ i → Leads core now (line_events (drop i lines)) last → last ≡ now
  lines_end lines i now last le x = subst (λ (l : List DoneLine). Leads core now (line_events l) last) (drop_all i lines le) x

  module _ (letter_text : Fields → M → Text) (p : Fields) where
    pub makes_leads : (es : List SessionEvent) (old new : RunState S M) (t : Text) → Makes core letter_text p old es new t → Leads core old es new
    makes_leads [] old new t x = x.0
    makes_leads (e ∷ es) old new t x = (x.0, x.2, x.3, makes_leads es x.0 new x.1 x.5)

    -- ---- the events of a line, and what is printed of them

    pub adds_one : {T E : Type 0} (r : Result T E) (line next : PrintedEvents) (e : SessionEvent) (old new : RunState S M) → next.events.items ≡ line.events.items ++ e ∷ []
        → OnOk r (string_bytes next.text ≡ string_bytes line.text ++ made_text core letter_text p e old new) → OnOk r (AddsOne core letter_text p line e old new next)
    adds_one (Ok t) line next e old new listed printed = record { listed = listed; printed = printed }
    adds_one (Err why) line next e old new listed printed = tt

    -- these events were added to those of a line, with what is printed of them
    pub record Adds (es : List SessionEvent) (old new : RunState S M) (line last : PrintedEvents) : Type 0 where
      pub made : Text
      pub makes : Makes core letter_text p old es new made
      pub listed : last.events.items ≡ line.events.items ++ es
      pub printed : string_bytes last.text ≡ string_bytes line.text ++ made

    pub told_adds : (es : List SessionEvent) (old new : RunState S M) (line last : PrintedEvents) → IsTold core (AddsOne core letter_text p) es old new line last → Adds es old new line last
    told_adds [] old new line last x = record {
      made = [];
      makes = (x.0, refl);
      listed = ap (λ (l : PrintedEvents). l.events.items) x.1 ∙ sym (append_nil line.events.items);
      printed = ap (λ (l : PrintedEvents). string_bytes l.text) x.1 ∙ sym (append_nil (string_bytes line.text));
    }
    told_adds (e ∷ es) old new line last x =
        let mid : RunState S M = x.0 in
        let next : PrintedEvents = x.1 in
        let one = x.4 in
        let rest = told_adds es mid new next last x.5 in
        let first : Text = made_text core letter_text p e old mid in
        record {
          made = first ++ rest.made;
          makes = (mid, rest.made, x.2, x.3, refl, rest.makes);
          listed = rest.listed ∙ ap (λ (l : List SessionEvent). l ++ es) one.listed ∙ append_assoc line.events.items (e ∷ []) es;
          printed = rest.printed ∙ ap (λ (l : Text). l ++ rest.made) one.printed ∙ append_assoc (string_bytes line.text) first rest.made;
        }

    none_is_some : (e : SessionEvent) (es : List SessionEvent) → [] ≡ e ∷ es → ⊥
    none_is_some e es is = cc

    -- if none was added to a line that has none, nothing happened
    pub told_none : (es : List SessionEvent) (old new : RunState S M) (line last : PrintedEvents) → IsTold core (AddsOne core letter_text p) es old new line last → line.events.items ≡ [] → last.events.items ≡ [] → new ≡ old
    told_none [] old new line last x none empty = x.0
    told_none (e ∷ es) old new line last x none empty =
        let some = (told_adds (e ∷ es) old new line last x).listed ∙ ap (λ (l : List SessionEvent). l ++ e ∷ es) none in
        absurd (none_is_some e es (sym empty ∙ some))

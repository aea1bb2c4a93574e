use Rattle.std.proofs.Common.{ℕ, ◌≡◌, ◌∙◌, List, [], ◌∷◌, ◌++◌, ap, length, refl, subst, sym}
use Rattle.mx_nodelaws.specs.Core.{Core}
use Rattle.mx_member.specs.declared.parcel.Parcel.{Parcel}
use Rattle.mx_member.specs.Member.{MemberState}
use Rattle.mx_events.specs.declared.event.Event.{Event}
use Rattle.mx_events.specs.declared.event.Event.TheVariants as event
use Rattle.mx_trace.specs.declared.outcome.Entry.{Entry}
use Rattle.mx_trace.specs.declared.outcome.Outcome.TheVariants.{Sent}
use Rattle.mx_network.specs.Step.{own_act, NotesAct}
use Rattle.mx_network.proofs.parts.do_and_note.Goals as goal

-- what an event asks for is done and noted, once it is known which event it is
noted : {H S M : Type 0} (core : Core H S M) (e is : Event) (old new : MemberState S) (before after : List Entry) (out : List (ℕ × Parcel M)) → e ≡ is → NotesAct core is (own_act is) old before new out after → NotesAct core e (own_act e) old before new out after
noted core e is old new before after out same done = subst (λ x. NotesAct core x (own_act x) old before new out after) (sym same) done

-- the item tells how many were sent
told : (e is : Event) (before after : List Entry) (n k : ℕ) → e ≡ is → n ≡ k → after ≡ before ++ (record { event = e; outcome = Sent n }) ∷ [] → after ≡ before ++ (record { event = is; outcome = Sent k }) ∷ []
told e is before after n k same count has = has ∙ ap (λ x. before ++ (record { event = x; outcome = Sent n }) ∷ []) same ∙ ap (λ x. before ++ (record { event = is; outcome = Sent x }) ∷ []) count

pub returns-in-Tick-clause-ok : goal.returns-in-Tick-clause-ok
returns-in-Tick-clause-ok g c =
    noted g.C.Exclusion.core c.args.event.now (event.Tick c.in-Tick.field-0) c.args.member.now _ c.args.trace.now.items _ _ c.in-Tick.is (record {
      state = c.tick.ensures.state;
      letters = c.tick.ensures.letters;
      noted = told _ _ _ _ _ _ c.in-Tick.is (c.len.ensures ∙ ap length c.tick.ensures.letters) c.note-in-Tick.ensures;
    })

pub returns-in-Want-clause-ok : goal.returns-in-Want-clause-ok
returns-in-Want-clause-ok g c =
    noted g.C.Exclusion.core c.args.event.now (event.Want c.in-Want.field-0 c.in-Want.to) c.args.member.now _ c.args.trace.now.items _ _ c.in-Want.is (record {
      state = refl;
      letters = c.want.ensures.letters;
      noted = told _ _ _ _ _ _ c.in-Want.is (c.len-in-Want.ensures ∙ ap length c.want.ensures.letters) c.note-in-Want.ensures;
    })

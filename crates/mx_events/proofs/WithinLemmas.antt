-- What an event is made of names what the event names.
use Rattle.std.proofs.Common.{◌≡◌, ◌⊎◌, ℕ, List, [], ◌∷◌, Option, Some, None, IfSome, inl, inr, refl, rules, subst, sym}
use Rattle.mx_stamps.specs.Lists.{IsIn}
use Rattle.mx_events.specs.Arguments.{AreEventsWithin, AreWithin, IsWithin, event_of, given}
use Rattle.mx_events.specs.declared.argument.Argument.{Argument}
use Rattle.mx_events.specs.declared.argument.Argument.TheVariants as argument
use Rattle.mx_events.specs.declared.event.Event.{Event}
use Rattle.mx_events.specs.declared.kind.EventKind.{EventKind}
use Rattle.mx_events.specs.declared.kind.EventKind.TheVariants as kind

-- the event of these arguments has just these arguments
pub given_of : (kind : EventKind) (arguments : List Argument) → IfSome (event_of kind arguments) (λ e. given e ≡ arguments)
given_of kind.Read (argument.Node i ∷ argument.Register j ∷ []) = refl
given_of kind.Write (argument.Node i ∷ argument.Register j ∷ argument.Number v ∷ []) = refl
given_of _ _ = search rules

module _ (nodes registers : ℕ) where
  within_if : (o : Option Event) (arguments : List Argument) → IfSome o (λ e. given e ≡ arguments) → AreWithin nodes registers arguments → IfSome o (IsWithin nodes registers)
  within_if None arguments is h = tt
  within_if (Some e) arguments is h = subst (λ (l : List Argument). AreWithin nodes registers l) (sym is) h

  -- an event is within what its arguments are within
  pub event_within : (kind : EventKind) (arguments : List Argument) → AreWithin nodes registers arguments → IfSome (event_of kind arguments) (IsWithin nodes registers)
  event_within kind arguments h = within_if (event_of kind arguments) arguments (given_of kind arguments) h

  -- ---- lists of events

  pub none_within : AreEventsWithin nodes registers []
  none_within = λ e h. absurd h

  one_within : (x e : Event) (es : List Event) → IsWithin nodes registers e → AreEventsWithin nodes registers es → (x ≡ e) ⊎ IsIn x es → IsWithin nodes registers x
  one_within x e es here there (inl is) = subst (λ (y : Event). IsWithin nodes registers y) (sym is) here
  one_within x e es here there (inr h) = there x h

  pub more_within : (e : Event) (es : List Event) → IsWithin nodes registers e → AreEventsWithin nodes registers es → AreEventsWithin nodes registers (e ∷ es)
  more_within e es here there = λ x h. one_within x e es here there h

-- Sessions that were played, of what was read.
use Rattle.std.proofs.Common.{◌≡◌, ◌++◌, List, [], Option, Some, None, IfSome, subst}
use Rattle.std.specs.Io.KnownBytes.{Appends, Keeps}
use Rattle.mx_nodelaws.specs.Core.{Core}
use Rattle.mx_knowledge.specs.Facts.{Known}
use Rattle.mx_ricart.specs.Step.{ricart_core}
use Rattle.mx_ricart.specs.Knows.{known_of as ricart_known}
use Rattle.mx_maekawa.specs.Step.{maekawa_core}
use Rattle.mx_maekawa.specs.Knows.{known_of as maekawa_known}
use Rattle.mx_raymond.specs.Step.{raymond_core}
use Rattle.mx_raymond.specs.Knows.{known_of as raymond_known}
use Rattle.mx_plan.specs.Text.{Text}
use Rattle.mx_plan.specs.Fields.{Fields}
use Rattle.mx_plan.specs.declared.shape.Shape.{Shape}
use Rattle.mx_plan.specs.declared.shape.Shape.TheVariants.{Ricart, Maekawa, Raymond}
use Rattle.mx_format.specs.LetterTexts.{ricart_text, maekawa_text, raymond_text}
use Rattle.mx_cli.specs.Reports.{Seen}
use Rattle.mx_io.specs.Stored.{Stored}
use Rattle.mx_cli.proofs.OutputLemmas.{Appends-keeps, Appends-trans}
use Rattle.mx_stamps.proofs.Lists.{append_nil}
use Rattle.mx_driver.specs.Runs.{closing_text}
use Rattle.mx_play.specs.Lines.{AreLeft}
use Rattle.mx_play.specs.Played.{IsPlayedBy}
use Rattle.mx_play.specs.Plays.{IsPlayed}

module _ {H S M : Type 0} (core : Core H S M) (letter_text : Fields → M → Text) (knows : S → List Known) (p : Fields) (shape : H) (script : Text) (a b c : Seen) (w w' : Stored) where
  played_keeps : (lines : Option (List Text)) → IsPlayed core letter_text knows p shape script lines a b w w' → Keeps b.out c.out → Appends b.err c.err [] → IsPlayed core letter_text knows p shape script lines a c w w'
  played_keeps lines x same none = record {
    others = x.others;
    are = x.are;
    next = x.next;
    last = x.last;
    text = x.text;
    told = x.told;
    saved = x.saved;
    plays = x.plays;
    stores = x.stores;
    replays = x.replays;
    over = x.over;
    printed = Appends-keeps a.out b.out c.out (x.text ++ closing_text core letter_text p x.last.state.cluster) x.printed same;
    reports = subst (λ (l : Text). Appends a.err c.err l) (append_nil x.told) (Appends-trans a.err b.err c.err x.told [] x.reports none);
  }

  left_are : (lines rest : Option (List Text)) (others : List Text) → AreLeft lines rest → IfSome rest (λ known. others ≡ known) → IfSome lines (λ known. others ≡ known)
  left_are None rest others left x = tt
  left_are (Some known) rest others left x = subst (λ (r : Option (List Text)). IfSome r (λ l. others ≡ l)) left x

  played_left : (lines rest : Option (List Text)) → AreLeft lines rest → IsPlayed core letter_text knows p shape script rest a b w w' → IsPlayed core letter_text knows p shape script lines a b w w'
  played_left lines rest left x = record {
    others = x.others;
    are = left_are lines rest x.others left x.are;
    next = x.next;
    last = x.last;
    text = x.text;
    told = x.told;
    saved = x.saved;
    plays = x.plays;
    stores = x.stores;
    replays = x.replays;
    over = x.over;
    printed = x.printed;
    reports = x.reports;
  }

module _ (p : Fields) (script : Text) (a b c : Seen) (w w' : Stored) where
  pub by_keeps : (lines : Option (List Text)) (shape : Shape) → IsPlayedBy p script lines a b w w' shape → Keeps b.out c.out → Appends b.err c.err [] → IsPlayedBy p script lines a c w w' shape
  by_keeps lines (Ricart count) = played_keeps ricart_core ricart_text ricart_known p count script a b c w w' lines
  by_keeps lines (Maekawa family) = played_keeps maekawa_core maekawa_text maekawa_known p family script a b c w w' lines
  by_keeps lines (Raymond tree) = played_keeps raymond_core raymond_text raymond_known p tree script a b c w w' lines

  -- the lines that were left are those of the session
  pub by_left : (lines rest : Option (List Text)) (shape : Shape) → AreLeft lines rest → IsPlayedBy p script rest a b w w' shape → IsPlayedBy p script lines a b w w' shape
  by_left lines rest (Ricart count) = played_left ricart_core ricart_text ricart_known p count script a b c w w' lines rest
  by_left lines rest (Maekawa family) = played_left maekawa_core maekawa_text maekawa_known p family script a b c w w' lines rest
  by_left lines rest (Raymond tree) = played_left raymond_core raymond_text raymond_known p tree script a b c w w' lines rest

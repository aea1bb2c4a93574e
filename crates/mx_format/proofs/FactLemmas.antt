-- Lists of facts, as the code has them and as lists of values.
use Rattle.std.proofs.Common.{◌≡◌, ◌∙◌, ◌++◌, ℕ, Bool, true, false, cond, List, [], ◌∷◌, Option, Some, ap, find, refl}
use Rattle.std.specs.Option.{option_map_or}
use Rattle.std.specs.Prelude.{map}
use Rattle.mx_knowledge.specs.declared.fact.Fact.{Fact}
use Rattle.mx_knowledge.specs.Facts.{Known, fact_of}
use Rattle.mx_plan.specs.Text.{Text}
use Rattle.mx_format.specs.Lines.{each_text, joined}
use Rattle.mx_format.specs.StuckTexts.{names_others, nodes_in, others_in}

module _ (between : Text) (f : Known → Text) where
  each_seen : (facts : List Fact) → each_text (λ fact. between ++ f (fact_of fact)) facts ≡ each_text (λ known. between ++ f known) (map fact_of facts)
  each_seen [] = refl
  each_seen (fact ∷ facts) = ap (λ (l : Text). (between ++ f (fact_of fact)) ++ l) (each_seen facts)

  joined_seen : (facts : List Fact) → joined between (λ fact. f (fact_of fact)) facts ≡ joined between f (map fact_of facts)
  joined_seen [] = refl
  joined_seen (fact ∷ facts) = ap (λ (l : Text). f (fact_of fact) ++ l) (each_seen facts)

  pub facts_seen : (facts : List Fact) (known : List Known) → map fact_of facts ≡ known → joined between (λ fact. f (fact_of fact)) facts ≡ joined between f known
  facts_seen facts known is = joined_seen facts ∙ ap (joined between f) is

-- ---- the fact that names the nodes for which a node waits

abbrev pub nodes_of : Option Fact → List ℕ
nodes_of = λ fact. option_map_or (λ f. nodes_in f.items.items) fact []

abbrev nodes_known : Option Known → List ℕ
nodes_known = λ fact. option_map_or (λ f. nodes_in f.items) fact []

abbrev pub names_them : Fact → Bool
names_them fact = names_others fact.name.now

one_found : (is : Bool) (fact : Fact) (found : Option Fact) (known : Option Known) → nodes_of found ≡ nodes_known known → nodes_of (cond is (Some fact) found) ≡ nodes_known (cond is (Some (fact_of fact)) known)
one_found true fact found known same = refl
one_found false fact found known same = same

others_found : (facts : List Fact) → nodes_of (find names_them facts) ≡ others_in (map fact_of facts)
others_found [] = refl
others_found (fact ∷ facts) = one_found (names_them fact) fact (find names_them facts) (find (λ (f : Known). names_others f.name) (map fact_of facts)) (others_found facts)

-- its nodes, among facts that are known
pub others_seen : (facts : List Fact) (known : List Known) (found : Option Fact) → map fact_of facts ≡ known → found ≡ find names_them facts → nodes_of found ≡ others_in known
others_seen facts known found is there = ap nodes_of there ∙ others_found facts ∙ ap others_in is

-- Bytes that are appended in turn.
use Rattle.std.proofs.Common.{◌∙◌, inl, Bool, sym, Option, IfSome, ℕ, List, [], ◌∷◌, ◌++◌, length, take, ap, refl, append_assoc, append-nil, Some, None, subst, arith}
use Rattle.std.specs.Io.KnownBytes.{Appends, Keeps}
use Rattle.std.specs.List.{concat}
use Rattle.std.proofs.lemmas.List.{take_all}
use Rattle.std.proofs.lemmas.List.Folds.{concat-append}
use Rattle.mx_stamps.proofs.Lists.{append_nil}
use Rattle.mx_plan.specs.Text.{Text}
use Rattle.mx_io.specs.Outputs.{Held}
use Rattle.mx_cli.specs.Printing.{AppendsSome}
use Rattle.mx_cli.specs.Reports.{ReportsFault}

pub Appends-nil : (a : Held) → Appends a a []
Appends-nil None = tt
Appends-nil (Some x) = sym (append-nil x)

pub Appends-trans : (a b c : Held) (bs cs : List ℕ) → Appends a b bs → Appends b c cs → Appends a c (bs ++ cs)
Appends-trans None b c bs cs p q = tt
Appends-trans (Some x) None c bs cs p q = absurd p
Appends-trans (Some x) (Some y) None bs cs p q = absurd q
Appends-trans (Some x) (Some y) (Some z) bs cs p q = q ∙ ap (λ l. l ++ cs) p ∙ append_assoc x bs cs

pub Appends-keeps : (a b c : Held) (bs : List ℕ) → Appends a b bs → Keeps b c → Appends a c bs
Appends-keeps None b c bs p q = tt
Appends-keeps (Some x) None c bs p q = absurd p
Appends-keeps (Some x) (Some y) None bs p q = absurd q
Appends-keeps (Some x) (Some y) (Some z) bs p q = q ∙ p

pub keeps_on : (a b c : Held) → Keeps a b → Keeps b c → Keeps a c
keeps_on None b c p q = tt
keeps_on (Some x) None c p q = absurd p
keeps_on (Some x) (Some y) None p q = absurd q
keeps_on (Some x) (Some y) (Some z) p q = q ∙ p

pub Keeps-refl : (a : Held) → Keeps a a
Keeps-refl None = tt
Keeps-refl (Some x) = refl

-- one more text
pub appends_more : (a b c : Held) (done : List Text) (t : Text) → Appends a b (concat done) → Appends b c t → Appends a c (concat (done ++ t ∷ []))
appends_more a b c done t p q =
    subst (λ (l : List ℕ). Appends a c l) (ap (λ l. concat done ++ l) (sym (append_nil t)) ∙ sym (concat-append done (t ∷ []))) (Appends-trans a b c (concat done) t p q)

pub some_keeps : (a b c : Held) (texts : List Text) → AppendsSome a b texts → Keeps b c → AppendsSome a c texts
some_keeps a b c texts p q = (p.0, Appends-keeps a b c (concat (take p.0 texts)) p.1 q)

-- all of them are some of them
pub all_some : (a b : Held) (texts : List Text) → Appends a b (concat texts) → AppendsSome a b texts
all_some a b texts p = (length texts, subst (λ (l : List Text). Appends a b (concat l)) (sym (take_all (length texts) texts (omega arith))) p)

-- a line that was written whole
pub told_ok : (o : Option Text) (takes : Bool) (a b : Held) → IfSome o (Appends a b) → IfSome o (λ text. ReportsFault takes text a b 1)
told_ok None takes a b h = tt
told_ok (Some text) takes a b h = inl (refl, h)

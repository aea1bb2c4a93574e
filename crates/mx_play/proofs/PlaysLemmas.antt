-- Lines of a session, one after another.
use Rattle.std.proofs.Common.{◌≡◌, ◌∙◌, ◌+◌, ℕ, Bool, true, false, List, [], ◌∷◌, ◌++◌, Result, Ok, Err, Option, Some, None, IfOk, IfSome, refl, sym, ap, subst, append_assoc, append-nil, inl, inr}
use Rattle.std.specs.Io.KnownBytes.{Appends}
use Rattle.mx_stamps.proofs.Lists.{append_nil}
use Rattle.mx_nodelaws.specs.Core.{Core}
use Rattle.mx_knowledge.specs.Facts.{Known}
use Rattle.mx_plan.specs.Text.{Text}
use Rattle.mx_plan.specs.Fields.{Fields}
use Rattle.mx_io.specs.Outputs.{Held}
use Rattle.mx_io.specs.Stored.{Stored, Stores}
use Rattle.mx_cli.specs.Reports.{Seen}
use Rattle.mx_cli.proofs.OutputLemmas.{Appends-nil, Appends-trans}
use Rattle.mx_driver.specs.Runs.{closing_text}
use Rattle.mx_play.specs.Commands.{IsInputOf, ReadsInput, is_end}
use Rattle.mx_play.specs.Executions.{Saved}
use Rattle.mx_play.specs.Histories.{first_state}
use Rattle.mx_play.specs.Lines.{IsFirstLine, lines_of}
use Rattle.mx_play.specs.Plays.{ArePlayed, Does, IsPlayed, Plays, PlaysLine}
use Rattle.mx_play.specs.Printed.{AreAsides, GetsAsides, GetsReport}
use Rattle.mx_play.specs.Sessions.{IsSession, SessionState, at_start, line_events}
use Rattle.mx_play.specs.declared.input.Input.{Input}
use Rattle.mx_play.specs.declared.input.Input.TheVariants as input
use Rattle.mx_play.specs.declared.input_fault.InputFault.{InputFault}
use Rattle.mx_play.proofs.HistoryLemmas.{leads_runs}
use Rattle.mx_play.proofs.ReportLemmas.{are_asides}
use Rattle.mx_play.proofs.SessionLemmas.{over_done}
use Rattle.mx_play.proofs.StoreLemmas.{Stores-nil, Stores-trans}

some_is_none : (n : ℕ) → ◌≡◌ {A = Option ℕ} (Some n) None → ⊥
some_is_none n e = cc

same_some : (m n : ℕ) → ◌≡◌ {A = Option ℕ} (Some m) (Some n) → m ≡ n
same_some m n e = cc

module _ {H S M : Type 0} (core : Core H S M) (letter_text : Fields → M → Text) (knows : S → List Known) (p : Fields) (shape : H) where
  abbrev P : ℕ → List Text → Option ℕ → SessionState S M → SessionState S M → Text → Text → Saved → Type 0
  P k lines next old new out err saved = Plays core letter_text knows p shape k lines next old new out err saved

  abbrev L : ℕ → Text → Bool → SessionState S M → SessionState S M → Text → Text → Saved → Type 0
  L k line is_last old new out err saved = PlaysLine core letter_text knows p shape k line is_last old new out err saved

  -- ---- prompts before a line

  line_prompted : (k : ℕ) (line : Text) (is_last : Bool) (a b : SessionState S M) (out err before : Text) (saved : Saved) → AreAsides before → L k line is_last a b out err saved → L k line is_last a b out (before ++ err) saved
  line_prompted k line is_last a b out err before saved x y = record {
    fault = y.fault;
    does = y.does;
    prompts = before ++ y.prompts;
    asides = are_asides before y.prompts x y.asides;
    said = y.said;
    reported = y.reported;
    errors = ap (λ (l : Text). before ++ l) y.errors ∙ sym (append_assoc before y.prompts y.said);
  }

  prompted : (lines : List Text) (k : ℕ) (next : Option ℕ) (a b : SessionState S M) (out err before : Text) (saved : Saved) → AreAsides before → P k lines next a b out err saved → P k lines next a b out (before ++ err) saved
  prompted [] k next a b out err before saved x y = (y.0, y.1, y.2, are_asides before err x y.3, y.4)
  prompted (line ∷ lines) k next a b out err before saved x (inl y) = inl (y.0, line_prompted k line true a b out err before saved x y.1)
  prompted (line ∷ lines) k next a b out err before saved x (inr y) =
      let mid : SessionState S M = y.0 in
      let first : Text = y.1 in
      let told : Text = y.3 in
      let more : Text = y.4 in
      let one : Saved = y.5 in
      inr (mid, first, y.2, before ++ told, more, one, y.6, line_prompted k line false a mid first told before one x y.7, y.8, ap (λ (l : Text). before ++ l) y.9 ∙ sym (append_assoc before told more), y.10, y.11)

  -- ---- lines after lines

  -- the others follow, if no line ended the session
  plays_on : (lines others : List Text) (k n : ℕ) (next : Option ℕ) (a b c : SessionState S M) (out err out' err' : Text) (saved saved' : Saved) → P k lines (Some n) a b out err saved → P n others next b c out' err' saved'
      → P k (lines ++ others) next a c (out ++ out') (err ++ err') (saved ++ saved')
  plays_on [] others k n next a b c out err out' err' saved saved' x y =
      subst (λ (t : Text). P k others next a c (t ++ out') (err ++ err') (saved ++ saved')) (sym x.2)
      (subst (λ (t : Saved). P k others next a c out' (err ++ err') (t ++ saved')) (sym x.4)
      (prompted others k next a c out' err' err saved' x.3
      (subst (λ (s : SessionState S M). P k others next s c out' err' saved') x.1 (subst (λ (m : ℕ). P m others next b c out' err' saved') (same_some n k x.0) y))))
  plays_on (line ∷ lines) others k n next a b c out err out' err' saved saved' (inl x) y = absurd (some_is_none n x.0)
  plays_on (line ∷ lines) others k n next a b c out err out' err' saved saved' (inr x) y =
      let mid : SessionState S M = x.0 in
      let first : Text = x.1 in
      let rest : Text = x.2 in
      let told : Text = x.3 in
      let more : Text = x.4 in
      let one : Saved = x.5 in
      let after : Saved = x.6 in
      inr (
        mid,
        first,
        rest ++ out',
        told,
        more ++ err',
        one,
        after ++ saved',
        x.7,
        ap (λ (l : Text). l ++ out') x.8 ∙ append_assoc first rest out',
        ap (λ (l : Text). l ++ err') x.9 ∙ append_assoc told more err',
        ap (λ (l : Saved). l ++ saved') x.10 ∙ append_assoc one after saved',
        plays_on lines others (k + 1) n next mid b c rest more out' err' after saved' x.11 y,
      )

  -- if one ended it, they do nothing
  plays_no_more : (lines others : List Text) (k : ℕ) (a b : SessionState S M) (out err : Text) (saved : Saved) → P k lines None a b out err saved → P k (lines ++ others) None a b out err saved
  plays_no_more [] others k a b out err saved x = absurd (some_is_none k (sym x.0))
  plays_no_more (line ∷ lines) others k a b out err saved (inl x) = inl x
  plays_no_more (line ∷ lines) others k a b out err saved (inr x) = inr (x.0, x.1, x.2, x.3, x.4, x.5, x.6, x.7, x.8, x.9, x.10, plays_no_more lines others (k + 1) x.0 b x.2 x.4 x.6 x.11)

  -- ---- a loop over lines

  -- the lines from k up to `number` are done, and `rest` is left: whatever the rest does extends what
  -- was done
  pub record Running (k number : ℕ) (lines rest : Option (List Text)) (old new : SessionState S M) (out out' : Seen) (store store' : Stored) : Type 0 where
    pub done : List Text
    pub leaves : IfSome lines (λ known. (left : List Text) × (rest ≡ Some left) × (known ≡ done ++ left))
    pub text : Text
    pub told : Text
    pub saved : Saved
    pub goes : (left : List Text) (next : Option ℕ) (last : SessionState S M) (more others : Text) (after : Saved) → P number left next new last more others after
        → P k (done ++ left) next old last (text ++ more) (told ++ others) (saved ++ after)
    pub stores : Stores store store' saved
    pub printed : Appends out.out out'.out text
    pub reports : Appends out.err out'.err told

  all_left : (lines : Option (List Text)) → IfSome lines (λ known. (left : List Text) × (lines ≡ Some left) × (known ≡ left))
  all_left None = tt
  all_left (Some known) = (known, refl, refl)

  pub running_first : (k : ℕ) (lines : Option (List Text)) (s : SessionState S M) (o : Seen) (w : Stored) → Running k k lines lines s s o o w w
  running_first k lines s o w = record {
    done = [];
    leaves = all_left lines;
    text = [];
    told = [];
    saved = [];
    goes = λ left next last more others after x. x;
    stores = Stores-nil w;
    printed = Appends-nil o.out;
    reports = Appends-nil o.err;
  }

  some_line : (rest rest' : Option (List Text)) (of : Input) (buffer : Text) → ReadsInput p rest of buffer rest' → (of ≡ input.Eof → ⊥) → (line : Text) × IsInputOf p line of buffer × IsFirstLine line rest rest'
  some_line rest rest' (input.Command command) buffer x some = x
  some_line rest rest' (input.Fault fault) buffer x some = x
  some_line rest rest' input.Eof buffer x some = absurd (some refl)

  abbrev Leaves : List Text → Option (List Text) → Option (List Text) → Type 0
  Leaves done lines rest = IfSome lines (λ known. (left : List Text) × (rest ≡ Some left) × (known ≡ done ++ left))

  first_left : (line : Text) (rest rest' : Option (List Text)) (left : List Text) → IsFirstLine line rest rest' → rest ≡ Some left → IsFirstLine line (Some left) rest'
  first_left line rest rest' left x is = subst (λ (r : Option (List Text)). IsFirstLine line r rest') is x

  next_left : (done : List Text) (line : Text) (lines rest rest' : Option (List Text)) → Leaves done lines rest → IsFirstLine line rest rest' → Leaves (done ++ line ∷ []) lines rest'
  next_left done line None rest rest' x y = tt
  next_left done line (Some known) rest rest' x y =
      let first = first_left line rest rest' x.0 y x.1 in
      let others : List Text = first.0 in
      (others, first.2, x.2 ∙ ap (λ (l : List Text). done ++ l) first.1 ∙ sym (append_assoc done (line ∷ []) others))

  -- all lines, if this one is the last that is read
  with_last : (done : List Text) (line : Text) (lines rest rest' : Option (List Text)) → Leaves done lines rest → IsFirstLine line rest rest' → (others : List Text) × IfSome lines (λ known. done ++ line ∷ others ≡ known)
  with_last done line None rest rest' x y = ([], tt)
  with_last done line (Some known) rest rest' x y =
      let first = first_left line rest rest' x.0 y x.1 in
      (first.0, sym (x.2 ∙ ap (λ (l : List Text). done ++ l) first.1))

  none_left : (left : List Text) (rest : Option (List Text)) → rest ≡ Some left → IfSome rest (λ known. known ≡ []) → left ≡ []
  none_left left rest is x = subst (λ (r : Option (List Text)). IfSome r (λ known. known ≡ [])) is x

  with_none : (done : List Text) (lines rest : Option (List Text)) → Leaves done lines rest → IfSome rest (λ known. known ≡ []) → IfSome lines (λ known. done ++ [] ≡ known)
  with_none done None rest x y = tt
  with_none done (Some known) rest x y = sym (x.2 ∙ ap (λ (l : List Text). done ++ l) (none_left x.0 rest x.1 y))

  -- an input was read, perhaps after a prompt
  module _ (k number : ℕ) (lines rest rest' : Option (List Text)) (of : Input) (buffer : Text) (a b : SessionState S M) (o o' m : Seen) (w w' : Stored)
      (reads : ReadsInput p rest of buffer rest') (x : Running k number lines rest a b o o' w w') (same : m.out ≡ o'.out) (asks : GetsAsides o'.err m.err) where
    printed_before : Appends o.out m.out x.text
    printed_before = subst (λ (h : Held). Appends o.out h x.text) (sym same) x.printed

    -- its line was executed, and reported
    module _ (c : SessionState S M) (o'' : Seen) (w'' : Stored) (fault : Option InputFault) (text : Text) (some : of ≡ input.Eof → ⊥)
        (does : (line : Text) → IsInputOf p line of buffer → (saved : Saved) × Stores w' w'' saved × Does core letter_text knows p shape line fault (is_end of) b c text saved)
        (printed : Appends m.out o''.out text) (reported : GetsReport number fault m.err o''.err) where
      abbrev found : (line : Text) × IsInputOf p line of buffer × IsFirstLine line rest rest'
      found = some_line rest rest' of buffer reads some

      abbrev line : Text
      line = found.0

      abbrev said : Text
      said = asks.0 ++ reported.0

      abbrev done_so : (saved : Saved) × Stores w' w'' saved × Does core letter_text knows p shape line fault (is_end of) b c text saved
      done_so = does line found.1

      abbrev saved : Saved
      saved = done_so.0

      plays_line : L number line (is_end of) b c text said saved
      plays_line = record {
        fault = fault;
        does = done_so.2;
        prompts = asks.0;
        asides = asks.1;
        said = reported.0;
        reported = reported.1;
        errors = refl;
      }

      printed_so : Appends o.out o''.out (x.text ++ text)
      printed_so = Appends-trans o.out m.out o''.out x.text text printed_before printed

      reports_so : Appends o.err o''.err (x.told ++ said)
      reports_so =
          Appends-trans o.err o'.err o''.err x.told said x.reports (Appends-trans o'.err m.err o''.err asks.0 reported.0 asks.2 reported.2)

      stores_so : Stores w w'' (x.saved ++ saved)
      stores_so = Stores-trans w w' w'' x.saved saved x.stores done_so.1

      -- and the session goes on
      pub running_next : is_end of ≡ false → Running k (number + 1) lines rest' a c o o'' w w''
      running_next on = record {
        done = x.done ++ line ∷ [];
        leaves = next_left x.done line lines rest rest' x.leaves found.2;
        text = x.text ++ text;
        told = x.told ++ said;
        saved = x.saved ++ saved;
        stores = stores_so;
        goes = λ left next last more others after y.
            subst (λ (l : List Text). P k l next a last ((x.text ++ text) ++ more) ((x.told ++ said) ++ others) ((x.saved ++ saved) ++ after)) (sym (append_assoc x.done (line ∷ []) left))
            (subst (λ (t : Text). P k (x.done ++ line ∷ left) next a last t ((x.told ++ said) ++ others) ((x.saved ++ saved) ++ after)) (sym (append_assoc x.text text more))
            (subst (λ (t : Text). P k (x.done ++ line ∷ left) next a last (x.text ++ (text ++ more)) t ((x.saved ++ saved) ++ after)) (sym (append_assoc x.told said others))
            (subst (λ (t : Saved). P k (x.done ++ line ∷ left) next a last (x.text ++ (text ++ more)) (x.told ++ (said ++ others)) t) (sym (append_assoc x.saved saved after))
            (x.goes (line ∷ left) next last (text ++ more) (said ++ others) (saved ++ after)
            (inr (c, text, more, said, others, saved, after, subst (λ (q : Bool). L number line q b c text said saved) on plays_line, refl, refl, refl, y))))));
        printed = printed_so;
        reports = reports_so;
      }

      -- or it ends
      pub run_ended : is_end of ≡ true → ArePlayed core letter_text knows p shape k lines None a c o o'' w w''
      run_ended end =
          let last = with_last x.done line lines rest rest' x.leaves found.2 in
          record {
            all = x.done ++ line ∷ last.0;
            are = last.1;
            text = x.text ++ text;
            told = x.told ++ said;
            saved = x.saved ++ saved;
            plays = x.goes (line ∷ last.0) None c text said saved (inl (refl, subst (λ (q : Bool). L number line q b c text said saved) end plays_line));
            stores = stores_so;
            printed = printed_so;
            reports = reports_so;
          }

    -- there are no more lines
    pub run_out : of ≡ input.Eof → ArePlayed core letter_text knows p shape k lines (Some number) a b o m w w'
    run_out eof = record {
      all = x.done ++ [];
      are = with_none x.done lines rest x.leaves (subst (λ (i : Input). ReadsInput p rest i buffer rest') eof reads);
      text = x.text ++ [];
      told = x.told ++ asks.0;
      saved = x.saved ++ [];
      plays = x.goes [] (Some number) b [] asks.0 [] (refl, refl, refl, asks.1, refl);
      stores = subst (λ (l : Saved). Stores w w' l) (sym (append-nil x.saved)) x.stores;
      printed = subst (λ (t : Text). Appends o.out m.out t) (sym (append_nil x.text)) printed_before;
      reports = Appends-trans o.err o'.err m.err x.told asks.0 x.reports asks.2;
    }

  -- ---- the lines of a script, and those that come

  abbrev A : ℕ → Option (List Text) → Option ℕ → SessionState S M → SessionState S M → Seen → Seen → Stored → Stored → Type 0
  A k lines next old new out out' store store' = ArePlayed core letter_text knows p shape k lines next old new out out' store store'

  -- some lines that are the known ones
  some_known : (lines : Option (List Text)) → (others : List Text) × IfSome lines (λ known. others ≡ known)
  some_known None = ([], tt)
  some_known (Some known) = (known, refl)

  module _ (script : Text) (lines : Option (List Text)) (s last : SessionState S M) (o o'' end : Seen) (w w'' : Stored) (is : s ≡ at_start core p shape) (g : IsSession core p shape last) (same : end.err ≡ o''.err) where
    abbrev Closes : Type 0
    Closes = Appends o''.out end.out (closing_text core letter_text p last.state.cluster)

    abbrev W : Type 0
    W = IsPlayed core letter_text knows p shape script lines o end w w''

    whole : (others : List Text) (next : Option ℕ) (text told : Text) (saved : Saved) → IfSome lines (λ known. others ≡ known) → P 1 (lines_of script ++ others) next s last text told saved → Stores w w'' saved → Appends o.out o''.out text → Appends o.err o''.err told → Closes → W
    whole others next text told saved are plays stores printed reports closes = record {
      others = others;
      are = are;
      next = next;
      last = last;
      text = text;
      told = told;
      saved = saved;
      plays = subst (λ (q : SessionState S M). P 1 (lines_of script ++ others) next q last text told saved) is plays;
      stores = stores;
      replays = leads_runs core (line_events last.lines) (first_state core p shape) last.state g.leads;
      over = over_done core p shape last g;
      printed = Appends-trans o.out o''.out end.out text (closing_text core letter_text p last.state.cluster) printed closes;
      reports = subst (λ (h : Held). Appends o.err h told) (sym same) reports;
    }

    -- the script ended the session
    pub whole_on_ok : {T E : Type 0} (r : Result T E) → IfOk r (λ _. Closes) → A 1 (Some (lines_of script)) None s last o o'' w w'' → IfOk r (λ _. W)
    whole_on_ok (Ok t) closes x =
        let known = some_known lines in
        whole known.0 None x.text x.told x.saved known.1
        (subst (λ (l : List Text). P 1 (l ++ known.0) None s last x.text x.told x.saved) x.are (plays_no_more x.all known.0 1 s last x.text x.told x.saved x.plays)) x.stores x.printed x.reports closes
    whole_on_ok (Err e) closes x = tt

    -- or the others followed
    pub rest_on_ok : {T E : Type 0} (r : Result T E) → IfOk r (λ _. Closes) → (n : ℕ) (next : Option ℕ) (m : SessionState S M) (o' q : Seen) (w' : Stored) → A 1 (Some (lines_of script)) (Some n) s m o o' w w' → q.out ≡ o'.out → GetsAsides o'.err q.err
        → A n lines next m last q o'' w' w'' → IfOk r (λ _. W)
    rest_on_ok (Ok t) closes n next m o' q w' x kept asks y =
        let told : Text = asks.0 ++ y.told in
        let plays = plays_on x.all y.all 1 n next s m last x.text x.told y.text told x.saved y.saved x.plays (prompted y.all n next m last y.text y.told asks.0 y.saved asks.1 y.plays) in
        let printed = subst (λ (h : Held). Appends h o''.out y.text) kept y.printed in
        whole y.all next (x.text ++ y.text) (x.told ++ told) (x.saved ++ y.saved) y.are
        (subst (λ (l : List Text). P 1 (l ++ y.all) next s last (x.text ++ y.text) (x.told ++ told) (x.saved ++ y.saved)) x.are plays)
        (Stores-trans w w' w'' x.saved y.saved x.stores y.stores)
        (Appends-trans o.out o'.out o''.out x.text y.text x.printed printed)
        (Appends-trans o.err o'.err o''.err x.told told x.reports (Appends-trans o'.err q.err o''.err asks.0 y.told asks.2 y.reports)) closes
    rest_on_ok (Err e) closes n next m o' q w' x kept asks y = tt

use Rattle.std.proofs.Common.{◌≡◌, ◌∙◌, ◌++◌, [], List, ap, arith, refl, rules, string_bytes, subst, ℕ}
use Rattle.std.specs.Io.KnownBytes.{Appends}
use Rattle.mx_plan.specs.Text.{Text}
use Rattle.mx_cli.specs.Printing.{comes_to, ends, has_status, sight}
use Rattle.mx_driver.proofs.RunLemmas.{run_ends, run_goes_on}
use Rattle.mx_shown_scripts.specs.ShownScripts.{closing_shown, happening_text, starts_shown}
use Rattle.mx_scripts.specs.States.{RunState}
use Rattle.mx_event_files.specs.declared.happening.Happening.{Happening}
use Rattle.mx_shown_scripts.proofs.ShownLemmas.{lacks, left, nothing_printed, refuses, shown_at, shown_end, shown_next}
use Rattle.mx_scripts.proofs.StateLemmas.{brings_members}
use Rattle.mx_shown_scripts.proofs.shown_script.Showing.print.Goals as goal

pub returns-in_err-add_starts : goal.returns-in_err-add_starts
returns-in_err-add_starts g c =
    record { prints = λ last texts shows. lacks (nothing_printed (sight g.O.Output c.args.out.now) _) c.from_residual.result c.from_residual.ensures.1 }

pub returns-in_err-put : goal.returns-in_err-put
returns-in_err-put g c =
    let put = c.in_err-put.ensures in
    record {
      prints = λ last texts shows.
          refuses (nothing_printed (sight g.O.Output c.args.out.now) _) (sight g.O.Output c.put.new.self) c.in_err-put.field-0.0 c.from_residual-in_err-put.result c.from_residual-in_err-put.ensures.1
          put.err put.refused put.stays put.takes;
    }

pub loop-happening-init : goal.loop-happening-init
loop-happening-init g c =
    let core = g.C.Exclusion.core in
    let knows = g.C.Knowledge.knows in
    let p = c.args.self.now.plan.now in
    let view = c.args.self.now.view.now in
    let starts : Text = starts_shown core p view knows c.args.state.now in
    let first = c.in_ok-put.ensures in
    let begun : Appends (g.O.Output.written c.args.out.now) (g.O.Output.written c.put.new.self) starts =
    subst (λ (l : List ℕ). Appends (g.O.Output.written c.args.out.now) (g.O.Output.written c.put.new.self) l)
    (c.as_bytes.ensures.value ∙ c.in_ok-add_starts.ensures ∙ ap (λ (l : Text). l ++ starts) c.new-text.ensures.bytes) first.ok in
    record {
      members = c.requires.members;
      shown = λ last texts shows. (
        texts,
        shows,
        run_goes_on (nothing_printed (sight g.O.Output c.args.out.now) _) (sight g.O.Output c.put.new.self) starts (left core p view knows c.args.fault.now last texts) begun first.refused first.stays refl,
      );
    }

pub do_and_add-requires : goal.do_and_add-requires
do_and_add-requires g c =
    let l = c.loop-happening in
    let can = c.requires.happened in
    let x = l.invariant.shown can.0 can.1 can.2 in
    let here = shown_at g.C.Exclusion.core g.C.Msg.Letter.parts c.args.self.now.plan.now c.args.self.now.view.now g.C.Knowledge.knows c.args.happened.now l.happening-index c.happening-item.result l.state can.0 x.0
    c.happening-item.is c.loop-happening-test.true x.1 in
    (first_of (search rules, search (rules, c.requires-raw)), here.2)

pub returns-in_err-do_and_add : goal.returns-in_err-do_and_add
returns-in_err-do_and_add g c =
    record { prints = λ last texts shows. lacks (c.loop-happening.invariant.shown last texts shows).2 c.from_residual-in_err-do_and_add.result c.from_residual-in_err-do_and_add.ensures.1 }

pub returns-in_err-put-2 : goal.returns-in_err-put-2
returns-in_err-put-2 g c =
    let put = c.in_err-put-2.ensures in
    record {
      prints = λ last texts shows.
          refuses (c.loop-happening.invariant.shown last texts shows).2 (sight g.O.Output c.put-in-loop-happening.new.self) c.in_err-put-2.field-0.0 c.from_residual-in_err-put-2.result c.from_residual-in_err-put-2.ensures.1
          put.err put.refused put.stays put.takes;
    }

pub loop-happening-preserved : goal.loop-happening-preserved
loop-happening-preserved g c =
    let l = c.loop-happening in
    let core = g.C.Exclusion.core in
    let parts = g.C.Msg.Letter.parts in
    let knows = g.C.Knowledge.knows in
    let p = c.args.self.now.plan.now in
    let view = c.args.self.now.view.now in
    let h : Happening = c.happening-item.result in
    let new = c.do_and_add.new.state in
    let did = c.in_ok-do_and_add.ensures in
    let text : Text = happening_text core parts p view knows h l.state new in
    let put = c.in_ok-put-2.ensures in
    let n = sight g.O.Output c.put-in-loop-happening.new.self in
    let bytes : c.as_bytes-in-loop-happening.result.now ≡ text = c.as_bytes-in-loop-happening.ensures.value ∙ did.text ∙ ap (λ (t : Text). t ++ text) c.clear.ensures.bytes in
    let appended = subst (λ (t : List ℕ). Appends (g.O.Output.written l.out) (g.O.Output.written c.put-in-loop-happening.new.self) t) bytes put.ok in
    record {
      members = brings_members core h.event l.state new did.brings ∙ l.invariant.members;
      shown = λ last texts shows.
          let x = l.invariant.shown last texts shows in
          let here = shown_at core parts p view knows c.args.happened.now l.happening-index h l.state last x.0 c.happening-item.is c.loop-happening-test.true x.1 in
          let more = shown_next core parts p view knows h _ l.state new last x.0 did.brings here in (
            more.0,
            more.2,
            run_goes_on x.2 n text (left core p view knows c.args.fault.now last more.0) appended put.refused put.stays (ap (left core p view knows c.args.fault.now last) more.1),
          );
    }

pub returns-in_err-push_str : goal.returns-in_err-push_str
returns-in_err-push_str g c =
    record { prints = λ last texts shows. lacks (c.loop-happening.invariant.shown last texts shows).2 c.from_residual-in_err-push_str.result c.from_residual-in_err-push_str.ensures.1 }

pub add_closing-requires : goal.add_closing-requires
add_closing-requires g c = (first_of (omega arith, search rules, search (rules, c.requires-raw)), c.loop-happening.invariant.members)

pub returns-in_err-status : goal.returns-in_err-status
returns-in_err-status g c =
    record { prints = λ last texts shows. lacks (c.loop-happening.invariant.shown last texts shows).2 c.from_residual-in_err-status.result c.from_residual-in_err-status.ensures.1 }

pub returns-in_err-put-3 : goal.returns-in_err-put-3
returns-in_err-put-3 g c =
    let put = c.in_err-put-3.ensures in
    record {
      prints = λ last texts shows.
          refuses (c.loop-happening.invariant.shown last texts shows).2 (sight g.O.Output c.put-2.new.self) c.in_err-put-3.field-0.0 c.from_residual-in_err-put-3.result c.from_residual-in_err-put-3.ensures.1
          put.err put.refused put.stays put.takes;
    }

pub returns : goal.returns
returns g c =
    let core = g.C.Exclusion.core in
    let parts = g.C.Msg.Letter.parts in
    let knows = g.C.Knowledge.knows in
    let p = c.args.self.now.plan.now in
    let view = c.args.self.now.view.now in
    let l = c.loop-happening in
    let fault : Text = c.args.fault.now in
    let closing : Text = closing_shown core p view knows l.state in
    let put = c.in_ok-put-3.ensures in
    let before : string_bytes c.push_str.new.self ≡ fault = c.in_ok-push_str.ensures.bytes ∙ ap (λ (t : Text). t ++ fault) c.clear-2.ensures.bytes in
    let bytes : c.as_bytes-2.result.now ≡ fault ++ closing = c.as_bytes-2.ensures.value ∙ c.in_ok-status.ensures.text ∙ ap (λ (t : Text). t ++ closing) before in
    let appended = subst (λ (t : List ℕ). Appends (g.O.Output.written l.out) (g.O.Output.written c.put-2.new.self) t) bytes put.ok in
    record {
      prints = λ last texts shows.
          let x = l.invariant.shown last texts shows in
          let ended = shown_end core parts p view knows c.args.happened.now l.happening-index l.state last x.0 c.loop-happening-test.false x.1 in
          let whole = ap (left core p view knows fault last) ended.1 ∙ ap (λ (s : RunState g.row.C.Denot g.row.C-Msg.Denot). left core p view knows fault s []) ended.0 in
          run_ends (run_goes_on x.2 (sight g.O.Output c.put-2.new.self) (fault ++ closing) (ends (has_status 0)) appended put.refused put.stays whole)
          (has_status 0) _ (ap (λ (status : ℕ). comes_to (has_status status)) c.in_ok-status.ensures.zero) refl;
    }

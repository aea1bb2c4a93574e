use Rattle.std.proofs.Common.{◌≡◌, ◌∙◌, ◌++◌, ◌+◌, [], ap, sym, subst, refl, rules, ℕ, List, Err, length, string_bytes}
use Rattle.std.specs.Io.KnownBytes.{Appends}
use Rattle.mx_stamps.proofs.Lists.{in_at}
use Rattle.mx_network.specs.Step.{step_of}
use Rattle.mx_events.specs.declared.event.Event.{Event}
use Rattle.mx_plan.specs.Text.{Text}
use Rattle.mx_plan.specs.Fields.{Fields}
use Rattle.mx_events.specs.Arguments.{IsWithin}
use Rattle.mx_driver.specs.Runs.{StopsAt, Texts, report_from}
use Rattle.mx_cli.specs.Printing.{comes_to, ends, has_status, sight, stop_of}
use Rattle.mx_cli.specs.declared.stop.Stop.TheVariants as stop
use Rattle.mx_cli.proofs.OutputLemmas.{Appends-nil}
use Rattle.mx_cli.proofs.ReadLemmas.{err_is}
use Rattle.mx_driver.proofs.RunLemmas.{grows, remaining, remaining_end, remaining_ok, run_ends, run_goes_on, run_lacks, run_refused, run_stops, told_end, told_more}
use Rattle.mx_driver.proofs.driver.drive_events.Goals as goal

pub loop-index-init : goal.loop-index-init
loop-index-init g c = record {
  sink = refl;
  members = c.requires.members;
  printed = record { done = []; held = Appends-nil (g.O.Output.written c.args.out.now); splits = refl; refused = refl; stays = refl };
  told = λ last told. told;
}

pub drive_event-requires : goal.drive_event-requires
drive_event-requires g c =
    let p = c.args.plan.now in
    let event = c.index-events-index.result in
    let named = c.requires.named event (in_at c.args.events.now c.loop-index.index event c.loop-index-test.true c.index-events-index.is) in
    let there = subst (λ (n : ℕ). IsWithin n (length p.registers) event) (sym c.loop-index.invariant.members) named in
    (search rules, (there, c.clear.ensures.bytes))

pub returns-in_err-drive_event : goal.returns-in_err-drive_event
returns-in_err-drive_event g c =
    let core = g.C.Exclusion.core in
    let texts = g.K.Sink.texts c.args.sink.now c.args.plan.now in
    let es = c.args.events.now in
    let k = c.loop-index.index in
    let r = report_from core texts 0 c.args.cluster es in
    let s = c.in_err-drive_event.field-0.0 in
    let at_event = subst (λ (x : Event). StopsAt k (step_of core c.loop-index.cluster x) s) c.index-events-index.is c.in_err-drive_event.ensures.err in
    let is : c.from_residual.result ≡ Err s = err_is c.from_residual.result s c.from_residual.ensures.1 in
    record {
      prints = rw is (run_stops core texts es k c.loop-index.cluster (sight g.O.Output c.args.out.now) (sight g.O.Output c.loop-index.out) r c.loop-index.invariant.printed
          c.index-events-index.result s c.loop-index-test.true at_event);
      told = rw is tt;
    }

pub returns-in_err-put : goal.returns-in_err-put
returns-in_err-put g c =
    let f = c.in_err-put.field-0.0 in
    let put = c.in_err-put.ensures in
    let is : c.from_residual-in_err-put.result ≡ Err (stop_of f) = err_is c.from_residual-in_err-put.result (stop_of f) c.from_residual-in_err-put.ensures.1 in
    record { prints = rw is (run_refused c.loop-index.invariant.printed (sight g.O.Output c.put.new.self) f put.err put.refused put.stays put.takes); told = rw is tt }

pub returns-in_err-put-2 : goal.returns-in_err-put-2
returns-in_err-put-2 g c =
    let f = c.in_err-put-2.field-0.0 in
    let put = c.in_err-put-2.ensures in
    let is : c.from_residual-in_err-put-2.result ≡ Err (stop_of f) = err_is c.from_residual-in_err-put-2.result (stop_of f) c.from_residual-in_err-put-2.ensures.1 in
    record { prints = rw is (run_refused c.loop-index.invariant.printed (sight g.O.Output c.put-2.new.self) f put.err put.refused put.stays put.takes); told = rw is tt }

pub loop-index-preserved : goal.loop-index-preserved
loop-index-preserved g c =
    let i = c.loop-index.invariant in
    let core = g.C.Exclusion.core in
    let texts = g.K.Sink.texts c.args.sink.now c.args.plan.now in
    let p = c.args.plan.now in
    let es = c.args.events.now in
    let k = c.loop-index.index in
    let old = c.loop-index.cluster in
    let new = c.drive_event.new.cluster in
    let event = c.index-events-index.result in
    let text : Text = texts.event k old new in
    let bytes : c.as_bytes.result.now ≡ text = c.as_bytes.ensures.value ∙ c.in_ok-drive_event.ensures.text
    ∙ ap (λ (x : Fields → Texts g.row.C.Denot g.row.C-Msg.Denot). (x p).event k old new) i.sink in
    let put = c.in_ok-put.ensures in
    let appended = subst (λ (l : List ℕ). Appends (g.O.Output.written c.loop-index.out) (g.O.Output.written c.put.new.self) l) bytes put.ok in
    let stepped = ap (step_of core old) (sym c.index-events-index.is) ∙ c.in_ok-drive_event.ensures.ok in
    record {
      sink = c.in_ok-drive_event.ensures.stays ∙ i.sink;
      members = (grows core old new event c.in_ok-drive_event.ensures.ok).0 ∙ i.members;
      printed = run_goes_on i.printed (sight g.O.Output c.put.new.self) text (remaining core texts es (k + 1) new) appended put.refused put.stays (remaining_ok core texts es k old new event c.loop-index-test.true stepped);
      told = λ last rest. i.told last (told_more core (g.K.Sink.tells p) es k old c.loop-index.sink last event c.loop-index-test.true (new, stepped, c.drive_event.new.sink, c.in_ok-drive_event.ensures.heard, rest));
    }

pub end-requires : goal.end-requires
end-requires g c = record { members = c.loop-index.invariant.members }

pub returns-in_err-status : goal.returns-in_err-status
returns-in_err-status g c =
    let is : c.from_residual-in_err-status.result ≡ Err stop.Memory = err_is c.from_residual-in_err-status.result stop.Memory c.from_residual-in_err-status.ensures.1 in
    record { prints = rw is (run_lacks c.loop-index.invariant.printed); told = rw is tt }

pub returns : goal.returns
returns g c =
    let i = c.loop-index.invariant in
    let core = g.C.Exclusion.core in
    let p = c.args.plan.now in
    let texts = g.K.Sink.texts c.args.sink.now p in
    let es = c.args.events.now in
    let k = c.loop-index.index in
    let put = c.in_ok-put-2.ensures in
    let text : Text = texts.closing c.loop-index.cluster in
    let bytes : c.as_bytes-2.result.now ≡ text = c.as_bytes-2.ensures.value ∙ c.in_ok-status.ensures.text
    ∙ ap (λ (x : Fields → Texts g.row.C.Denot g.row.C-Msg.Denot). string_bytes c.clear-2.new.self ++ (x p).closing c.loop-index.cluster) i.sink
    ∙ ap (λ (l : Text). l ++ text) c.clear-2.ensures.bytes in
    let appended = subst (λ (l : List ℕ). Appends (g.O.Output.written c.loop-index.out) (g.O.Output.written c.put-2.new.self) l) bytes put.ok in
    let printed = run_goes_on i.printed (sight g.O.Output c.put-2.new.self) text (ends (has_status 0)) appended put.refused put.stays (remaining_end core texts es k c.loop-index.cluster c.loop-index-test.false) in
    record {
      prints = run_ends printed (has_status 0) _ (ap (λ (status : ℕ). comes_to (has_status status)) c.in_ok-status.ensures.zero) refl;
      told = i.told c.end.new.self (told_end core (g.K.Sink.tells p) es k c.loop-index.cluster c.loop-index.sink c.end.new.self c.loop-index-test.false c.in_ok-status.ensures.closed);
    }

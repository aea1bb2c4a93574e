use Rattle.std.proofs.Common.{◌≡◌, ◌∙◌, ◌++◌, List, OnOk, ap, rules, string_bytes, subst}
use Rattle.mx_network.specs.Step.{ClusterState}
use Rattle.mx_trace.specs.declared.outcome.Entry.{Entry}
use Rattle.mx_format.specs.Files.{file_text, events_of}
use Rattle.mx_play.proofs.run_texts.add_events.Goals as goal

pub cluster-requires : goal.cluster-requires
cluster-requires g c = (search rules, search rules)

pub trace-requires : goal.trace-requires
trace-requires g c = search rules

pub returns : goal.returns
returns g c =
    let is = c.trace.ensures.value ∙ ap (λ (x : ClusterState g.row.C.Denot g.row.C-Msg.Denot). x.trace) c.cluster.ensures in
    subst (λ (t : List Entry). OnOk c.add_file.result (string_bytes c.add_file.new.text ≡ string_bytes c.args.text.now ++ file_text c.args.plan.now (events_of t))) is c.add_file.ensures

use Rattle.std.proofs.Common.{string_bytes}
use Rattle.mx_format.proofs.FileLemmas.{file_whole}
use Rattle.mx_format.proofs.files.add_file.Goals as goal

pub returns : goal.returns
returns c =
    file_whole c.args.plan.now c.args.trace.now c.in-Some.rest.now c.in-Some.first.now (string_bytes c.args.text.now) (string_bytes c.push_str-2.new.self)
    (string_bytes c.add_event_array.new.text) (string_bytes c.add_next.new.text) (string_bytes c.push_str-3.new.self) c.push_str-3.result c.in-Some.ensures.cases.0
    c.in_ok-push_str.ensures.bytes c.in_ok-add_event_array.ensures c.in_ok-add_next.ensures c.push_str-3.ensures.bytes

use Rattle.std.proofs.Common.{string_bytes}
use Rattle.mx_picture.proofs.PictureLemmas.{trace_title_is}
use Rattle.mx_picture.proofs.opening.trace_title.Goals as goal

pub returns : goal.returns
returns c =
    trace_title_is c.args.plan.now c.args.judgement.now
    (string_bytes c.new-text.result) (string_bytes c.push_str.new.self) (string_bytes c.add_names.new.text) (string_bytes c.push_str-2.new.self) (string_bytes c.push_str-3.new.self) (string_bytes c.push_str-4.new.self)
    c.new-text.ensures.bytes c.in_ok-push_str.ensures.bytes c.in_ok-add_names.ensures c.in_ok-push_str-2.ensures.bytes c.in_ok-push_str-3.ensures.bytes c.in_ok-push_str-4.ensures.bytes

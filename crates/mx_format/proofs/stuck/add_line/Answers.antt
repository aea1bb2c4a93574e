use Rattle.std.proofs.Common.{◌++◌, codes, string_bytes}
use Rattle.mx_plan.specs.Text.{line_feed}
use Rattle.mx_format.specs.Lines.{each_text}
use Rattle.mx_format.specs.StuckTexts.{waiter_text}
use Rattle.mx_format.proofs.NodeLemmas.{three}
use Rattle.mx_format.proofs.stuck.add_line.Goals as goal

pub returns : goal.returns
returns c =
    three c.push_str-2.result (string_bytes c.args.text.now) (string_bytes c.push_str.new.self) (string_bytes c.add_each.new.text) (string_bytes c.push_str-2.new.self)
    (codes "stuck: nothing under way") (each_text (λ w. codes "; " ++ waiter_text c.args.plan.now w) c.args.waiters.now) line_feed
    c.in_ok-push_str.ensures.bytes c.in_ok-add_each.ensures c.push_str-2.ensures.bytes

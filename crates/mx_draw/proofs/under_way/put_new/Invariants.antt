use Rattle.std.proofs.Common.{◌≡◌, ◌++◌, ◌-◌}
use Rattle.std.specs.List.{range_with_len}
use Rattle.mx_draw.proofs.under_way.put_new.Given as goal

abbrev pub invariant-loop-number : goal.invariant-loop-number
invariant-loop-number l =
    l.flying.items ++ range_with_len l.number (l.sent - l.number) ≡ l.initial.flying.items ++ range_with_len l.seen (l.sent - l.seen)

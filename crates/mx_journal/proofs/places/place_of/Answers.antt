use Rattle.std.proofs.Common.{◌+◌, ◌-◌, ◌/◌, ◌<◌, length, arith}
use Rattle.mx_journal.proofs.Flat.{among_up_to, not_among_up_to, up_to_within}
use Rattle.mx_journal.proofs.places.place_of.Goals as goal

pub loop-low-init : goal.loop-low-init
loop-low-init c = record { ended = omega arith; goes_on = up_to_within c.args.number c.args.runs.now; inside = omega arith }

pub loop-low-preserved-then-last-number : goal.loop-low-preserved-then-last-number
loop-low-preserved-then-last-number c =
    let runs = c.args.runs.now in
    let middle = c.loop-low.low + (c.loop-low.high - c.loop-low.low) / 2 in
    let inside : middle < length runs = omega (arith, c.loop-low-test.true, c.loop-low.invariant.inside) in
    let more = among_up_to c.args.number 1 runs middle c.index-runs-middle.result c.requires inside c.index-runs-middle.is (omega (arith, c.last.ensures, c.if-last-number.true)) in
    record { ended = omega arith; goes_on = c.loop-low.invariant.goes_on; inside = c.loop-low.invariant.inside }

pub loop-low-preserved : goal.loop-low-preserved
loop-low-preserved c =
    let runs = c.args.runs.now in
    let middle = c.loop-low.low + (c.loop-low.high - c.loop-low.low) / 2 in
    let inside : middle < length runs = omega (arith, c.loop-low-test.true, c.loop-low.invariant.inside) in
    let less = not_among_up_to c.args.number runs middle c.index-runs-middle.result inside c.index-runs-middle.is (omega (arith, c.last.ensures, c.if-last-number.false)) in
    record { ended = c.loop-low.invariant.ended; goes_on = less; inside = omega (arith, inside) }

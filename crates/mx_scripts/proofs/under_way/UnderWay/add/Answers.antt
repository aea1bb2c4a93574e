use Rattle.std.proofs.Common.{◌≡◌, length, rules}
use Rattle.mx_scripts.proofs.UnderWayLemmas.{end_later, next_more, parcel_more}
use Rattle.mx_scripts.proofs.under_way.UnderWay.add.Goals as goal

pub invariant_of-self-in_err-push-2 : goal.invariant_of-self-in_err-push-2
invariant_of-self-in_err-push-2 c =
    let i = c.self.inside in
    let count : c.len-2.result ≡ length i.parcels.items = search rules in
    let more = next_more i.parcels.items i.next.items i.first i.end i.oldest c.self.invariant c.push.new.self.items _ c.in_ok-push.ensures.items (search rules) in
    rw (c.in_err-push-2.ensures.items, count) (end_later i.parcels.items c.push.new.self.items i.first i.end i.oldest more c.args.link c.requires)

pub invariant_of-self-2 : goal.invariant_of-self-2
invariant_of-self-2 c =
    let i = c.self.inside in
    let count : c.len-2.result ≡ length i.parcels.items = search rules in
    let more = next_more i.parcels.items i.next.items i.first i.end i.oldest c.self.invariant c.push.new.self.items _ c.in_ok-push.ensures.items (search rules) in
    rw (c.in_ok-push-2.ensures.items, count) (parcel_more i.parcels.items c.push.new.self.items i.first i.end i.oldest more c.args.link c.requires)

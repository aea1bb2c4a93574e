use Rattle.std.proofs.Common.{ℕ, ◌∙◌, [], ◌∷◌, ◌++◌, List, ap, arith, append_assoc, length, sym, take}
use Rattle.std.proofs.lemmas.List.{take_all}
use Rattle.mx_nodelaws.specs.World.{sent_by}
use Rattle.mx_member.specs.declared.parcel.Parcel.{Parcel}
use Rattle.mx_nodelaws.proofs.Worlds.{sent_by-more}
use Rattle.mx_stamps.proofs.Lists.{append_nil}
use Rattle.mx_network.proofs.parcel_log.ParcelLog.send_all.Goals as goal

pub loop-to-init : goal.loop-to-init
loop-to-init g c = record {
  added = sym (append_nil c.args.self.now.sent);
  room = (let fits = c.requires in let few = c.as_slice-to-items.ensures.bound in let same = ap length c.as_slice-to-items.ensures.value in omega arith);
}

pub loop-to-preserved : goal.loop-to-preserved
loop-to-preserved g c =
    let more = sent_by-more c.args.from c.as_slice-to-items.result.now c.loop-to.to-index c.loop-to-item.result c.loop-to-test.true c.loop-to-item.is in
    record {
      added = c.send.ensures.sent
          ∙ ap (λ (l : List (ℕ × ℕ × Parcel g.row.C-Msg.Denot)). l ++ (c.args.from, c.loop-to-item.result.0, c.loop-to-item.result.1) ∷ []) c.loop-to.invariant.added
          ∙ append_assoc c.args.self.now.sent (sent_by c.args.from (take c.loop-to.to-index c.as_slice-to-items.result.now)) ((c.args.from, c.loop-to-item.result.0, c.loop-to-item.result.1) ∷ [])
          ∙ ap (λ (l : List (ℕ × ℕ × Parcel g.row.C-Msg.Denot)). c.args.self.now.sent ++ l) (sym more);
      room = (let left = c.loop-to.invariant.room in let less = c.send.ensures.room in omega arith);
    }

pub send-requires : goal.send-requires
send-requires g c = (let t = c.loop-to-test.true in let r = c.loop-to.invariant.room in omega arith)

pub returns-clause-sent : goal.returns-clause-sent
returns-clause-sent g c =
    c.loop-to.invariant.added
    ∙ ap (λ (l : List (ℕ × Parcel g.row.C-Msg.Denot)). c.args.self.now.sent ++ sent_by c.args.from l)
    (take_all c.loop-to.to-index c.as_slice-to-items.result.now c.loop-to-test.false ∙ c.as_slice-to-items.ensures.value)

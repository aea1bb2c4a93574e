use Rattle.std.proofs.Common.{inl, inr, refl}
use Rattle.mx_cli.proofs.OutputLemmas.{Keeps-refl}
use Rattle.mx_dispatch.proofs.dispatch.do_task.Goals as goal

pub returns-in-Check : goal.returns-in-Check
returns-in-Check g c = rw c.in-Check.is (record { does = c.front.ensures.runs; asks = inr c.front.ensures.asks })

pub returns-in-Replay : goal.returns-in-Replay
returns-in-Replay g c = rw c.in-Replay.is (record { does = c.front-in-Replay.ensures.runs; asks = inr c.front-in-Replay.ensures.asks })

pub returns-in-ReplayScript : goal.returns-in-ReplayScript
returns-in-ReplayScript g c = rw c.in-ReplayScript.is (record { does = c.front-in-ReplayScript.ensures.runs; asks = inr c.front-in-ReplayScript.ensures.asks })

pub returns-in-Explore : goal.returns-in-Explore
returns-in-Explore g c = rw c.in-Explore.is (record { does = c.front-in-Explore.ensures.runs; asks = inr c.front-in-Explore.ensures.asks })

pub returns-in-Draw : goal.returns-in-Draw
returns-in-Draw g c = rw c.in-Draw.is (record { does = c.front-in-Draw.ensures.runs; asks = inr c.front-in-Draw.ensures.asks })

pub returns-in-Script : goal.returns-in-Script
returns-in-Script g c = rw c.in-Script.is (record { does = c.front-in-Script.ensures.runs; asks = inr c.front-in-Script.ensures.asks })

pub returns-in-Picture : goal.returns-in-Picture
returns-in-Picture g c = rw c.in-Picture.is (record { does = c.front-in-Picture.ensures.runs; asks = inr c.front-in-Picture.ensures.asks })

pub returns-in-PictureScript : goal.returns-in-PictureScript
returns-in-PictureScript g c = rw c.in-PictureScript.is (record { does = c.front-in-PictureScript.ensures.runs; asks = inr c.front-in-PictureScript.ensures.asks })

pub returns-in-PictureTrace : goal.returns-in-PictureTrace
returns-in-PictureTrace g c = rw c.in-PictureTrace.is (record { does = c.front-in-PictureTrace.ensures.runs; asks = inr c.front-in-PictureTrace.ensures.asks })

pub returns-in-Count : goal.returns-in-Count
returns-in-Count g c = rw c.in-Count.is (record { does = c.front-in-Count.ensures.runs; asks = inr c.front-in-Count.ensures.asks })

pub returns-in-CountScript : goal.returns-in-CountScript
returns-in-CountScript g c = rw c.in-CountScript.is (record { does = c.front-in-CountScript.ensures.runs; asks = inr c.front-in-CountScript.ensures.asks })

pub returns-in-Judge : goal.returns-in-Judge
returns-in-Judge g c = rw c.in-Judge.is (record { does = c.front-in-Judge.ensures.runs; asks = inr c.front-in-Judge.ensures.asks })

pub returns-in-Explain : goal.returns-in-Explain
returns-in-Explain g c = rw c.in-Explain.is (record { does = c.explain.ensures.explains; asks = inr tt })

pub returns-in-Live : goal.returns-in-Live
returns-in-Live g c =
    let out = g.O.Output.written c.args.out.now in
    let err = g.E.Output.written c.args.err.now in
    elim c.in-Live.is [
      | inl live ↦ rw live.1 (record { does = (Keeps-refl out, inl (refl, Keeps-refl err)); asks = inl refl })
      | inr play ↦ rw play (record { does = (Keeps-refl out, inl (refl, Keeps-refl err)); asks = inl refl })
    ]

use Rattle.std.proofs.Common.{◌∷◌, arith}
use Rattle.gtp_v2.specs.reading.Headed.{headed_of}
use Rattle.gtp_v2.proofs.Lies.{viewed_lies, fault_place}
use Rattle.gtp_v2.proofs.viewing.view_opened.Goals as goal

pub returns-clause-lies : goal.returns-clause-lies
returns-clause-lies c =
    viewed_lies (c.args.first ∷ c.args.kind ∷ c.args.high ∷ c.args.low ∷ c.args.rest.now) (headed_of c.in-Ok.header) c.in-Ok-view_content.elements
    c.in-Ok.ensures (record { reads = c.in-Ok-view_content.ensures.reads; walked = c.in-Ok-view_content.ensures.elements })

pub returns-in-Err-view_content-clause-place : goal.returns-in-Err-view_content-clause-place
returns-in-Err-view_content-clause-place c =
    let within =
    fault_place (c.args.first ∷ c.args.kind ∷ c.args.high ∷ c.args.low ∷ c.args.rest.now) (headed_of c.in-Ok.header) c.in-Err-view_content.fault
    c.in-Ok.ensures c.in-Err-view_content.ensures.reads in
    omega (arith, within)

use Rattle.std.proofs.Common.{ap}
use Rattle.gtp_capture.specs.Outcome.{frame_of, piece_of}
use Rattle.gtp_capture.proofs.reading.hand_on_piece.Goals as goal

pub returns-in-Err-clause-err : goal.returns-in-Err-clause-err
returns-in-Err-clause-err g c =
    let err = c.in-Err.ensures.err in
    (err.0, frame_of c.in-Frame.head c.args.room.now, ap (λ i. piece_of i c.args.room.now) c.in-Frame.is, err.1)

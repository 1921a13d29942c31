use Rattle.std.proofs.Common.{ℕ, take, arith, length-take}
use Rattle.gtp_replay.proofs.Moved.{more_read}
use Rattle.gtp_replay.proofs.streams.read_octets.Goals as goal

pub returns-in_err-extend_from_slice-in-Ok-clause-consumed : goal.returns-in_err-extend_from_slice-in-Ok-clause-consumed
returns-in_err-extend_from_slice-in-Ok-clause-consumed g c =
    more_read c.args.most _ _ _ c.loop-chunk.octets.items (take c.in-Ok.n c.read.new.buf) c.loop-chunk.invariant.consumed c.in-Ok.ensures.bytes.0 (omega (arith, length-take {A = ℕ}))

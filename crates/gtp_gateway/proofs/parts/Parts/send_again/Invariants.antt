use Rattle.std.proofs.Common.{◌≡◌, map, ◌++◌, length}
use Rattle.std.specs.Vec.Iter.{into_iter_items, into_iter_len}
use Rattle.gtp_reliable.specs.Due.{message_of}
use Rattle.gtp_gateway.specs.messages.Sent.{datagram_by}
use Rattle.gtp_gateway.specs.Tick.{datagram_again}
use Rattle.gtp_gateway.proofs.parts.Parts.send_again.Given as goal

-- what was sent so far and what is left are all
abbrev pub invariant-loop-resend : goal.invariant-loop-resend
invariant-loop-resend l =
    let again = datagram_again l.self.config.config in
    record {
      all : map datagram_by l.sent.items ++ map again (map message_of (into_iter_items l.resend-iterator)) ≡ map again (map message_of l.fn.resends.items);
      left : into_iter_len l.resend-iterator ≡ length (into_iter_items l.resend-iterator);
    }

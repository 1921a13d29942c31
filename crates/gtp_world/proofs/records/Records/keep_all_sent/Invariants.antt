use Rattle.std.proofs.Common.{◌≡◌, ◌+◌, ◌≤◌, map, ◌++◌, length, vec_len, vec_capacity}
use Rattle.std.specs.Vec.Iter.{into_iter_items, into_iter_len}
use Rattle.gtp_machine.specs.World.{signed}
use Rattle.gtp_gateway.specs.messages.Sent.{datagram_by}
use Rattle.gtp_world.specs.Record.{sent_by}
use Rattle.gtp_world.proofs.records.Records.keep_all_sent.Given as goal

-- what is kept so far and what is left are all, and there is room for what is left
abbrev pub invariant-loop-sent : goal.invariant-loop-sent
invariant-loop-sent l =
    record {
      all : map sent_by l.self.datagrams.items ++ signed l.fn.node (map datagram_by (into_iter_items l.sent-iterator))
          ≡ map sent_by l.fn.self.datagrams.items ++ signed l.fn.node (map datagram_by l.fn.resent.items);
      left : into_iter_len l.sent-iterator ≡ length (into_iter_items l.sent-iterator);
      room : vec_len l.self.datagrams + into_iter_len l.sent-iterator ≤ vec_capacity l.self.datagrams;
      rest : l.self ≡ record l.fn.self { datagrams = l.self.datagrams };
    }

use Rattle.std.proofs.Common.{◌≡◌, ◌++◌, map, drop}
use Rattle.std.specs.List.{flat_map}
use Rattle.json.specs.Tree.{json_tokens}
use Rattle.gtp_gateway.specs.messages.Sent.{datagram_by}
use Rattle.gtp_serve.specs.Replies.{sent_json}
use Rattle.gtp_serve.proofs.reply.put_all_datagrams.Given as goal

-- the objects so far, and those of what is left
abbrev pub invariant-loop-datagram : goal.invariant-loop-datagram
invariant-loop-datagram l = l.out ++ flat_map json_tokens (map sent_json (map datagram_by (drop l.datagram-index l.sent))) ≡ l.fn.out ++ flat_map json_tokens (map sent_json (map datagram_by l.sent))

use Rattle.std.proofs.Common.{◌≡◌, map, take}
use Rattle.std.specs.List.{filter_map}
use Rattle.gtp_reliable.specs.Waiting.{sent_again, given_up}
use Rattle.gtp_reliable.specs.Due.{message_of}
use Rattle.gtp_reliable.specs.Rows.{seen, rows_of}
use Rattle.gtp_reliable.proofs.rows.due_of.Given as goal

abbrev pub invariant-loop-at : goal.invariant-loop-at
invariant-loop-at g l = record {
  resend : map message_of l.resend.items ≡ filter_map (sent_again l.t3 l.n3) (map (seen l.now) (rows_of (take l.at l.slots.items)));
  gave_up : l.gave_up.items ≡ filter_map (given_up l.t3 l.n3) (map (seen l.now) (rows_of (take l.at l.slots.items)));
}

use Rattle.std.proofs.Common.{◌≡◌, ◌+◌, ◌*◌, ◌≤◌, map, drop}
use Rattle.gtp_v2.specs.Room.{several_length}
use Rattle.gtp_v2.proofs.encoded_length.after_several.Given as goal

-- the values that are left take as much less as the room has shrunk, and each took at most 259 octets
abbrev pub invariant-loop-value : goal.invariant-loop-value
invariant-loop-value g l =
    (l.room + several_length (map g.T.IeValue.value (drop l.value-index l.values)) ≡ several_length (map g.T.IeValue.value l.values) + l.left)
    × (l.room ≤ 259 * l.value-index + l.left)

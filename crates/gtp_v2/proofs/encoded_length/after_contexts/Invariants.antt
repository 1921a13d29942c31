use Rattle.std.proofs.Common.{◌≡◌, ◌+◌, ◌*◌, ◌≤◌, length, map, drop}
use Rattle.gtp_ie.specs.Form.{bearer_context}
use Rattle.gtp_v2.specs.Room.{most_of_group}
use Rattle.gtp_v2.specs.Text.{groups_encoding}
use Rattle.gtp_v2.proofs.encoded_length.after_contexts.Given as goal

-- the contexts that are left take as much less as the room has shrunk, and each took at most what a group can take
abbrev pub invariant-loop-context : goal.invariant-loop-context
invariant-loop-context g l =
    (l.room + length (groups_encoding bearer_context 0 g.C.Context.rows (map g.C.Context.values (drop l.context-index l.contexts)))
    ≡ length (groups_encoding bearer_context 0 g.C.Context.rows (map g.C.Context.values l.contexts)) + l.left)
    × (l.room ≤ most_of_group g.C.Context.rows * l.context-index + l.left)

use Rattle.std.proofs.Common.{◌≡◌, ◌+◌, ◌≤◌, length}
use Rattle.gtp_lines.specs.All.{context_among}
use Rattle.gtp_lines.proofs.contexts.context_among.Given as goal

-- there are so many contexts before what is left, and what is left decides
abbrev pub invariant-loop-view : goal.invariant-loop-view
invariant-loop-view l =
    (l.number + length l.view-iterator ≤ length l.elements)
    × (context_among l.at l.number l.view-iterator ≡ context_among l.at 0 l.elements)

use Rattle.std.proofs.Common.{◌≡◌, map, length}
use Rattle.gtp_user.specs.Chain.{extension_of}
use Rattle.gtp_lines.specs.Fronts.{after_headers, front_of}
use Rattle.gtp_lines.proofs.extension_front.chain_front.Given as goal

-- the headers so far, and those of the octets that are left
abbrev pub invariant-loop-begun : goal.invariant-loop-begun
invariant-loop-begun l = record {
  front : after_headers (map extension_of l.headers.items) (front_of l.kind l.rest) ≡ front_of l.first l.octets;
}

abbrev pub decreases-loop-begun : goal.decreases-loop-begun
decreases-loop-begun l = length l.rest

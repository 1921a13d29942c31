use Rattle.std.proofs.Common.{◌≡◌, ◌+◌, length}
use Rattle.gtp_ie.specs.Element.{elements_of}
use Rattle.gtp_ie.specs.reading.View.{stop_of}
use Rattle.gtp_ie.proofs.elements.walk_from.Given as goal

abbrev pub invariant-loop-rest : goal.invariant-loop-rest
invariant-loop-rest l = record {
  stop : stop_of (elements_of l.at l.rest) ≡ stop_of (elements_of l.base l.octets);
  place : l.at + length l.rest ≡ l.base + length l.octets;
}

abbrev pub decreases-loop-rest : goal.decreases-loop-rest
decreases-loop-rest l = length l.rest

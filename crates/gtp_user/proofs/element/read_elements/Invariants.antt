use Rattle.std.proofs.Common.{◌≡◌, ◌≤◌, length}
use Rattle.gtp_user.specs.reading.Elements.{elements_at}
use Rattle.gtp_user.specs.reading.Gathered.{found_of, found_at}
use Rattle.gtp_user.proofs.Gathers.{found_before}
use Rattle.gtp_user.proofs.element.read_elements.Given as goal

abbrev pub invariant-loop-rest : goal.invariant-loop-rest
invariant-loop-rest l = record {
  within : length l.rest ≤ length l.octets;
  found : found_before (found_of l.found) (elements_at l.end l.rest) ≡ found_at l.end l.octets;
}

abbrev pub decreases-loop-rest : goal.decreases-loop-rest
decreases-loop-rest l = length l.rest

use Rattle.std.proofs.Common.{◌≤◌, List, length}
use Rattle.gtp_user.specs.Chain.{Extension, Leads}
use Rattle.gtp_user.proofs.extension.read_chain.Given as goal

abbrev pub invariant-loop-kind : goal.invariant-loop-kind
invariant-loop-kind l = record {
  within : length l.rest ≤ length l.octets;
  so_far : (es : List Extension) × Leads l.first l.octets es l.kind l.rest;
}

abbrev pub decreases-loop-kind : goal.decreases-loop-kind
decreases-loop-kind l = length l.rest

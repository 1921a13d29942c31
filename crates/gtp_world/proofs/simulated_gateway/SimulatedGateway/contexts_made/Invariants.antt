use Rattle.std.proofs.Common.{◌≤◌, take}
use Rattle.gtp_gateway.specs.Parts.{arrival_of}
use Rattle.gtp_gateway.specs.Tick.{arrivals_of}
use Rattle.gtp_world.specs.Views.{IsCount}
use Rattle.gtp_world.proofs.simulated_gateway.SimulatedGateway.contexts_made.Given as goal

-- those so far are counted
abbrev pub invariant-loop-request : goal.invariant-loop-request
invariant-loop-request l = record { so_far : IsCount (arrival_of l.source l.octets) (arrivals_of (take l.request-index l.self.made.items)) l.count; few : l.count ≤ l.request-index }

use Rattle.std.proofs.Common.{◌≡◌, drop}
use Rattle.gtp_gateway.specs.receive.DeleteBearerRequest.{without_each}
use Rattle.gtp_gateway.specs.Parts.{node_of}
use Rattle.gtp_gateway.specs.GatewayState.{state_of}
use Rattle.gtp_gateway.specs.user.Receive.{RequestsWaitOn}
use Rattle.gtp_gateway.specs.tables.Stays.{OnlyTablesChange}
use Rattle.gtp_gateway.proofs.parts.Parts.end_each.Given as goal

-- what is left once the others go, too, is what is left of all
abbrev pub invariant-loop-n : goal.invariant-loop-n
invariant-loop-n l =
    record {
      node : without_each (drop l.n-index l.named) (node_of l.self) ≡ without_each l.named (node_of l.fn.self);
      waits : RequestsWaitOn (state_of l.fn.self) (state_of l.self);
      only : OnlyTablesChange l.fn.self l.self;
    }

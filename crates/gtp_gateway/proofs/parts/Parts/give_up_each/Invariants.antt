use Rattle.std.proofs.Common.{◌+◌, ◌≤◌, ℕ, List, ◌++◌, map, drop, length, vec_len, vec_capacity}
use Rattle.gtp_machine.specs.Node.{Node}
use Rattle.gtp_gateway.specs.declared.command.purpose.Purpose.{Purpose}
use Rattle.gtp_gateway.specs.Parts.{node_of}
use Rattle.gtp_gateway.specs.GatewayState.{state_of}
use Rattle.gtp_gateway.specs.Tick.{GivesUpEach}
use Rattle.gtp_gateway.specs.user.Receive.{RequestsWaitOn}
use Rattle.gtp_gateway.specs.tables.Stays.{OnlyTablesChange}
use Rattle.gtp_gateway.proofs.parts.Parts.give_up_each.Given as goal

-- what was given up so far and what is given up of the rest are all
abbrev pub invariant-loop-entry : goal.invariant-loop-entry
invariant-loop-entry l =
    let number : ℕ × Purpose → ℕ = λ g. g.0 in
    record {
      each : (others : List ℕ) (new : Node) → GivesUpEach (node_of l.self) (map number (drop l.entry-index l.due)) others new
          → GivesUpEach (node_of l.fn.self) (map number l.due) (l.gave_up.items ++ others) new;
      waits : RequestsWaitOn (state_of l.fn.self) (state_of l.self);
      room : vec_len l.gave_up + length (drop l.entry-index l.due) ≤ vec_capacity l.gave_up;
      only : OnlyTablesChange l.fn.self l.self;
    }

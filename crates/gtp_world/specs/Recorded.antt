-- The log of what both gateways did.
use Rattle.std.specs.Prelude.{ℕ, ◌+◌, ◌<◌, ◌≤◌, option_to_list, Bool, [], ◌∷◌, ◌++◌, map, length, None, option_map, vec_len, vec_capacity}
use Rattle.gtp_machine.specs.declared.role.Role.{Role}
use Rattle.gtp_machine.specs.World.{Came_to, Ticked, signed}
use Rattle.gtp_gateway.specs.messages.Sent.{datagram_by}
use Rattle.gtp_gateway.specs.receive.Taken.{datagrams}
use Rattle.gtp_gateway.specs.Tick.{arrivals_of}
use Rattle.gtp_gateway.specs.declared.tick.Ticked.{Ticked as Tick}
use Rattle.gtp_world.specs.Record.{Log, counted}
use Rattle.gtp_world.specs.Inputs.{entries}
use Rattle.gtp_world.specs.declared.records.Records.{Records}
use Rattle.gtp_world.specs.declared.simulated_gateway.StepRecord.{StepRecord}

-- nothing was done yet
abbrev pub empty_log : Log
empty_log = record { datagrams = []; handed = []; accepted = []; late = 0; notes = [] }

-- room for so many datagrams, and for one more of all else
pub record HasRoom (count : ℕ) (r : Records) : Type 0 where
  pub datagrams : vec_len r.datagrams + count ≤ vec_capacity r.datagrams
  pub handed : 0 < r.handed.room
  pub accepted : vec_len r.accepted + 1 ≤ vec_capacity r.accepted
  pub notes : vec_len r.notes + 1 ≤ vec_capacity r.notes

-- the log, after what came of an input of that gateway
abbrev pub log_of_came : Log → Role → StepRecord → Bool → Log
log_of_came log role came late =
    record {
      datagrams = log.datagrams ++ signed role (datagrams came.out);
      handed = log.handed ++ option_to_list came.handed;
      accepted = log.accepted ++ entries came.accepted;
      late = counted late log.late;
      notes = log.notes ++ (record {
        outcome = Came_to came.outcome;
        second = came.second;
        learned = option_map (λ c. c.0) came.restart;
        sent = length (datagrams came.out);
        gave_up = [];
        forgot = [];
      } ∷ []);
    }

-- the log, after a tick of that gateway
abbrev pub log_of_tick : Log → Role → Tick → Log
log_of_tick log role ticked =
    record log {
      datagrams = log.datagrams ++ signed role (map datagram_by ticked.resent.items);
      notes = log.notes ++ (record {
        outcome = Ticked;
        second = None;
        learned = None;
        sent = length ticked.resent.items;
        gave_up = ticked.gave_up.items;
        forgot = arrivals_of ticked.forgotten.items;
      } ∷ []);
    }

-- What tunnel safety says of all that is kept.
use Rattle.std.proofs.Common.{List, sym, ◌∙◌, subst}
use Rattle.gtp_machine.specs.declared.role.Role.{Role}
use Rattle.gtp_machine.specs.declared.role.Role.TheVariants.{Serving, Packet}
use Rattle.gtp_machine.specs.Input.{Entry}
use Rattle.gtp_machine.specs.Safety.{SessionsAgree, BearersAgree, EachOwed, NoneOutlivesRestart}
use Rattle.gtp_machine.specs.Node.{Node}
use Rattle.gtp_machine.specs.World.{World, Event, By, HasBy, other, side_of}
use Rattle.gtp_values.specs.FiniteMap.{Among}
use Rattle.gtp_machine.proofs.Worlds.Safety.{always_sessions, always_bearers, always_owed, always_none_over}
use Rattle.gtp_world.specs.Record.{WorldRecord, gateway_in}
use Rattle.gtp_world.specs.Runs.{Setup, StandsFor, LeftByRun, IsSafe}
use Rattle.gtp_world.proofs.Lists.{among_oldest}

module _ (setup : Setup) (v : WorldRecord) (w : World) (stands : StandsFor setup v w) where
  -- what holds of both nodes of the world holds of those that are kept
  of_nodes : (P : Node → Node → Type 0) → P w.serving.node w.packet.node → P v.serving.state.node v.packet.state.node
  of_nodes P holds = subst (λ (n : Node). P n v.packet.state.node) (sym stands.serving.node) (subst (λ (n : Node). P w.serving.node n) (sym stands.packet.node) holds)

  each_owed : EachOwed w.late w.handed w.accepted → EachOwed v.log.late v.log.handed v.log.accepted
  each_owed law none role entry has =
      subst (λ (log : List (By Entry)). HasBy log (other role) entry) (sym stands.handed)
      (law (sym stands.late ∙ none) role entry (subst (λ (log : List (By Entry)). HasBy log role entry) stands.accepted has))

  none_over : ((role : Role) → NoneOutlivesRestart (side_of w role).node (side_of w role).seen) → (role : Role) → NoneOutlivesRestart (gateway_in v role).state.node (gateway_in v role).seen
  none_over law Serving = subst (λ (n : Node). NoneOutlivesRestart n v.serving.seen) (sym stands.serving.node) (λ t s there over.
      law Serving t s there (record {
        remote = over.remote;
        has = over.has;
        counter = over.counter;
        was_heard = among_oldest over.counter
            w.serving.seen (subst (λ l. Among over.counter l) stands.serving.seen over.was_heard);
        heard_is_later = over.heard_is_later;
      }))
  none_over law Packet = subst (λ (n : Node). NoneOutlivesRestart n v.packet.seen) (sym stands.packet.node) (λ t s there over.
      law Packet t s there (record {
        remote = over.remote;
        has = over.has;
        counter = over.counter;
        was_heard = among_oldest over.counter
            w.packet.seen (subst (λ l. Among over.counter l) stands.packet.seen over.was_heard);
        heard_is_later = over.heard_is_later;
      }))

-- at the end of each run
pub run_safe : (setup : Setup) (events : List Event) (v : WorldRecord) → LeftByRun setup events v → IsSafe v
run_safe setup events v r =
    record {
      sessions = of_nodes setup v r.world r.stands SessionsAgree (always_sessions setup.serving.config setup.packet.config setup.serving_counter setup.packet_counter events r.world r.run);
      bearers = of_nodes setup v r.world r.stands BearersAgree (always_bearers setup.serving.config setup.packet.config setup.serving_counter setup.packet_counter events r.world r.run);
      owed = each_owed setup v r.world r.stands (always_owed setup.serving.config setup.packet.config setup.serving_counter setup.packet_counter events r.world r.run);
      none_over = none_over setup v r.world r.stands (always_none_over setup.serving.config setup.packet.config setup.serving_counter setup.packet_counter events r.world r.run);
    }

-- How a gateway is set up stays so in each run.
use Rattle.std.proofs.Common.{◌≡◌, ℕ, List, [], refl, ◌∙◌, ap}
use Rattle.gtp_machine.specs.Config.{Addresses, Config}
use Rattle.gtp_machine.specs.Message.{Create_session_response, Create_bearer_request}
use Rattle.gtp_machine.specs.declared.role.Role.{Role}
use Rattle.gtp_machine.specs.declared.role.Role.TheVariants.{Serving, Packet}
use Rattle.gtp_machine.specs.Node.{Arrival}
use Rattle.gtp_machine.specs.Input.{Effect}
use Rattle.gtp_machine.specs.Tick.{ticked}
use Rattle.gtp_machine.specs.Step.{Done}
use Rattle.gtp_machine.specs.World.{World, Note, Event, first_came, second_came, note_of_both, Run, side_of, with_side, with_steps, noted, moved, logged, marked_late, restarted, start}
use Rattle.gtp_machine.proofs.Worlds.Coming.{both_steps, Walks}
use Rattle.gtp_machine.proofs.Exchange.Held.{tick_config}
use Rattle.gtp_machine.proofs.Worlds.Runs as run

-- both gateways are set up as before
abbrev pub SetUpAs : World → World → Type 0
SetUpAs old new = (role : Role) → (side_of new role).node.config ≡ (side_of old role).node.config

stepped : (w : World) (role : Role) (e : Effect) (note : Note) (steps : List Done) → e.node.config ≡ (side_of w role).node.config → SetUpAs w (logged (noted (moved w role e) note) role steps)
stepped w Serving e note steps same Serving = same
stepped w Serving e note steps same Packet = refl
stepped w Packet e note steps same Serving = refl
stepped w Packet e note steps same Packet = same

same_noted : (w : World) (note : Note) → SetUpAs w (noted w note)
same_noted w note Serving = refl
same_noted w note Packet = refl

same_late : (w : World) (role : Role) (a : Arrival) → SetUpAs w (marked_late w role a)
same_late w Serving a Serving = refl
same_late w Serving a Packet = refl
same_late w Packet a Serving = refl
same_late w Packet a Packet = refl

same_restarted : (w : World) (role : Role) (note : Note) → SetUpAs w (with_steps (noted (with_side w role (restarted (side_of w role))) note) role [])
same_restarted w Serving note Serving = refl
same_restarted w Serving note Packet = refl
same_restarted w Packet note Serving = refl
same_restarted w Packet note Packet = refl

to_new : (first w new k : World) → k ≡ new → SetUpAs first w → SetUpAs w new → SetUpAs first k
to_new first w new k is before same role = ap (λ (v : World). (side_of v role).node.config) is ∙ same role ∙ before role

two_steps : (w : World) (e next : Effect) → e.node.config ≡ w.serving.node.config → next.node.config ≡ e.node.config → (note : Note) (steps : List Done)
    → SetUpAs w (logged (noted (moved (moved w Serving e) Serving next) note) Serving steps)
two_steps w e next first second note steps Serving = second ∙ first
two_steps w e next first second note steps Packet = refl

walks : (own : Addresses) (first : World) → Walks (run.Invariant own) (SetUpAs first)
walks own first = record {
  notes = λ w note same role. same_noted w note role ∙ same role;
  late = λ w role request inv same by. same_late w role request by ∙ same by;
  restarts = λ w role note inv same few by. same_restarted w role note by ∙ same by;
  ticks = λ w role new inv same t. to_new first w _ new t.becomes same (stepped w role (ticked t.out t.after) _ _ (tick_config (side_of w role).node t.moves t.out t.after t.tick));
  moves =
      λ w role input new inv same b m. to_new first w _ new m.becomes same
      (stepped w role m.effect _ _ (run.config_stays own w inv role input m.effect (run.brings_carried own w inv role input b) m.step));
  pairs = λ w a r new inv same a_sent r_sent timely m.
      let first_input = first_came w.packet.node.config.own (Create_session_response a) in
      let second_input = second_came w.packet.node.config.own (Create_bearer_request r) in
      let now = run.config_stays own w inv Serving first_input m.effect (run.first_carried own w inv a r a_sent r_sent) m.step in
      let next =
      run.config_stays own (moved w Serving m.effect) (run.after_first own w inv a r a_sent r_sent m.effect m.step) Serving second_input m.next
      (run.second_carried own w inv a r a_sent r_sent m.effect m.step) m.follows in
      to_new first w _ new m.becomes same (two_steps w m.effect m.next now next (note_of_both m.effect m.next) (both_steps w.serving.node first_input second_input m.effect m.next));
}

-- in each run from a start
pub set_up : (serving packet : Config) (serving_counter packet_counter : ℕ) (events : List Event) (w : World)
    → Run (start serving packet serving_counter packet_counter) events w → SetUpAs (start serving packet serving_counter packet_counter) w
set_up serving packet sc pc = run.from_start serving packet sc pc (SetUpAs (start serving packet sc pc)) (walks packet.own (start serving packet sc pc)) (λ role. refl)

-- What is kept stands for the machine's world after a step, as it did before.
use Rattle.std.proofs.Common.{◌≡◌, ℕ, ◌+◌, ◌%◌, Bool, true, false, List, [], ◌∷◌, ◌++◌, map, Option, Some, None, option_to_list, length, refl, sym, ◌∙◌, ap, append-nil, length-append}
use Rattle.gtp_machine.specs.Config.{Config}
use Rattle.gtp_machine.specs.declared.role.Role.{Role}
use Rattle.gtp_machine.specs.declared.role.Role.TheVariants.{Serving, Packet}
use Rattle.gtp_machine.specs.Node.{Arrival, Node, fresh_node}
use Rattle.gtp_machine.specs.Input.{Sending, Out, Effect, nothing, datagrams}
use Rattle.gtp_machine.specs.Spelling.{Datagram, datagram_of}
use Rattle.gtp_machine.specs.Step.{Done}
use Rattle.gtp_machine.specs.World as machine
use Rattle.gtp_machine.specs.World.{By, World, Side, EventOutcome, Restarted, Note, note_of, note_of_both, outcome_in, quiet_note, noted, moved}
use Rattle.gtp_machine.specs.World.{stepped, with_heard, logged, with_steps, with_side, marked_late, side_of, restarted, next_counter, signed}
use Rattle.gtp_gateway.specs.GatewayState.{GatewayState}
use Rattle.gtp_world.specs.Record.{oldest_first, GatewayRecord, EventRecord, WorldRecord, gateway_in, with_gateway, counted}
use Rattle.gtp_world.specs.Runs.{Setup, config_in, AreFor, told_in, GatewayStandsFor, StandsFor}
use Rattle.gtp_world.specs.Stepped.{gateway_after, told_of, told_of_both, log_moved, log_with, kept_after, kept_after_both, sent_at, AreReadable, passed_over, counter_after, gateway_restarted}
use Rattle.gtp_world.proofs.Lists.{oldest_append, as_many, for_append, sent_for}

-- the gateway of a role
pub gateway_stands : (setup : Setup) (v : WorldRecord) (w : World) → StandsFor setup v w → (role : Role) → GatewayStandsFor (config_in setup role) role (gateway_in v role) (side_of w role)
gateway_stands setup v w stands Serving = stands.serving
gateway_stands setup v w stands Packet = stands.packet

heard_after : (heard : Option ℕ) (gateway side : List ℕ) → gateway ≡ oldest_first side → gateway ++ option_to_list heard ≡ oldest_first (with_heard heard side)
heard_after None gateway side is = append-nil gateway ∙ is
heard_after (Some counter) gateway side is = ap (λ k. k ++ (counter ∷ [])) is

gateway_stepped : (config : Config) (role : Role) (gateway : GatewayRecord) (side : Side) (state : GatewayState) (e : Effect)
    → GatewayStandsFor config role gateway side → state.node ≡ e.node → state.role ≡ gateway.state.role
    → GatewayStandsFor config role (gateway_after gateway state e.out) (stepped side e)
gateway_stepped config role gateway side state e stands node stays = record {
  set_up = stands.set_up;
  role = stays ∙ stands.role;
  node = node;
  first = stands.first;
  restarts = stands.restarts;
  seen = heard_after e.out.heard gateway.seen side.seen stands.seen;
  forgotten = ap (λ k. k ++ e.out.forgot) stands.forgotten;
  made = ap (λ k. k ++ oldest_first e.out.made) stands.made ∙ sym (oldest_append e.out.made side.made);
}

counted_so : (config : Config) (role : Role) (gateway : GatewayRecord) (side : Side) → GatewayStandsFor config role gateway side → counter_after gateway ≡ next_counter side
counted_so config role gateway side stands = ap (λ n. (n + (gateway.restarts + 1)) % 256) stands.first ∙ ap (λ n. (side.first + (n + 1)) % 256) stands.restarts

gateway_begins : (config : Config) (role : Role) (gateway : GatewayRecord) (side : Side) → GatewayStandsFor config role gateway side → side.node.config ≡ config
    → GatewayStandsFor config role (gateway_restarted role gateway) (restarted side)
gateway_begins config role gateway side stands same = record {
  set_up = stands.set_up;
  role = refl;
  node = λ i. fresh_node ((stands.set_up ∙ sym same) i) (counted_so config role gateway side stands i);
  first = stands.first;
  restarts = ap (λ n. n + 1) stands.restarts;
  seen = refl;
  forgotten = refl;
  made = refl;
}

-- the world where this delivery was late, or not
abbrev pub lates : Bool → World → Role → Arrival → World
lates false w role a = w
lates true w role a = marked_late w role a

-- the world after a step, with what is told of it
abbrev pub world_after : World → Role → Effect → EventOutcome → List Done → World
world_after w role e outcome steps = logged (noted (moved w role e) (note_of outcome e.out)) role steps

-- the world after a step for each of two messages
abbrev pub world_after_both : World → Role → Effect → Effect → List Done → World
world_after_both w role first second steps = logged (noted (moved (moved w role first) role second) (note_of_both first second)) role steps

told_so : (outcome : EventOutcome) (out : Out) (config : Config) → told_of outcome out (map (datagram_of config) out.sent) ≡ told_in (note_of outcome out)
told_so outcome out config = λ i. record { outcome = outcome; second = None; learned = out.learned; sent = as_many (datagram_of config) out.sent i; gave_up = out.gave_up; forgot = out.forgot }

both_many : (config : Config) (first more : List Sending) → length (map (datagram_of config) first ++ map (datagram_of config) more) ≡ length (datagrams first ++ datagrams more)
both_many config first more =
    length-append (map (datagram_of config) first) (map (datagram_of config) more)
    ∙ ((λ i. as_many (datagram_of config) first i + as_many (datagram_of config) more i) ∙ sym (length-append (datagrams first) (datagrams more)))

told_both_so : (first second : Effect) (config : Config)
    → told_of_both first second (map (datagram_of config) first.out.sent ++ map (datagram_of config) second.out.sent)
    ≡ told_in (note_of_both first second)
told_both_so first second config =
    λ i. record {
      outcome = first.outcome;
      second = outcome_in second.outcome;
      learned = first.out.learned;
      sent = both_many config first.out.sent second.out.sent i;
      gave_up = first.out.gave_up;
      forgot = first.out.forgot;
    }

notes_after : (notes : List EventRecord) (before : List Note) (told : EventRecord) (note : Note) → notes ≡ oldest_first (map told_in before)
    → told ≡ told_in note → notes ++ (told ∷ []) ≡ oldest_first (map told_in (note ∷ before))
notes_after notes before told note is same = λ i. is i ++ (same i ∷ [])

datagrams_after : (setup : Setup) (role : Role) (config : Config) (log : List (By Datagram)) (all : List machine.SentDatagram) (out : Out)
    → config ≡ config_in setup role → AreFor setup log all → AreReadable out
    → AreFor setup (log ++ signed role (map (datagram_of config) out.sent)) (all ++ signed role (datagrams out.sent))
datagrams_after setup role config log all out same are read = for_append setup log all _ _ are (sent_for setup role config out.sent same read)

-- where one more delivery was late, or none
late_stands : (setup : Setup) (v : WorldRecord) (w : World) (role : Role) (a : Arrival) (late : Bool) → StandsFor setup v w
    → StandsFor setup (record v { log = record v.log { late = counted late v.log.late } }) (lates late w role a)
late_stands setup v w role a false stands = stands
late_stands setup v w Serving a true stands = record {
  serving =
      record {
        set_up = stands.serving.set_up;
        role = stands.serving.role;
        node = stands.serving.node;
        first = stands.serving.first;
        restarts = stands.serving.restarts;
        seen = stands.serving.seen;
        forgotten = stands.serving.forgotten;
        made = stands.serving.made;
      };
  packet = stands.packet;
  datagrams = stands.datagrams;
  handed = stands.handed;
  accepted = stands.accepted;
  late = ap (λ n. 1 + n) stands.late;
  notes = stands.notes;
}
late_stands setup v w Packet a true stands = record {
  serving = stands.serving;
  packet =
      record {
        set_up = stands.packet.set_up;
        role = stands.packet.role;
        node = stands.packet.node;
        first = stands.packet.first;
        restarts = stands.packet.restarts;
        seen = stands.packet.seen;
        forgotten = stands.packet.forgotten;
        made = stands.packet.made;
      };
  datagrams = stands.datagrams;
  handed = stands.handed;
  accepted = stands.accepted;
  late = ap (λ n. 1 + n) stands.late;
  notes = stands.notes;
}

-- what a step sends, hands in and accepts
abbrev moved_kept : WorldRecord → Role → GatewayState → Config → Out → WorldRecord
moved_kept v role state config out = record (with_gateway v role (gateway_after (gateway_in v role) state out)) { log = log_moved v.log role out (map (datagram_of config) out.sent) }

moved_stands : (setup : Setup) (v : WorldRecord) (w : World) (role : Role) (state : GatewayState) (config : Config) (e : Effect) → config ≡ config_in setup role
    → StandsFor setup v w → AreReadable e.out → state.node ≡ e.node → state.role ≡ (gateway_in v role).state.role
    → StandsFor setup (moved_kept v role state config e.out) (moved w role e)
moved_stands setup v w Serving state config e same stands read node stays = record {
  serving = gateway_stepped setup.serving.config Serving v.serving w.serving state e stands.serving node stays;
  packet = stands.packet;
  datagrams = datagrams_after setup Serving config v.log.datagrams w.datagrams e.out same stands.datagrams read;
  handed = ap (λ k. k ++ signed Serving e.out.handed) stands.handed;
  accepted = ap (λ k. k ++ signed Serving e.out.accepted) stands.accepted;
  late = stands.late;
  notes = stands.notes;
}
moved_stands setup v w Packet state config e same stands read node stays = record {
  serving = stands.serving;
  packet = gateway_stepped setup.packet.config Packet v.packet w.packet state e stands.packet node stays;
  datagrams = datagrams_after setup Packet config v.log.datagrams w.datagrams e.out same stands.datagrams read;
  handed = ap (λ k. k ++ signed Packet e.out.handed) stands.handed;
  accepted = ap (λ k. k ++ signed Packet e.out.accepted) stands.accepted;
  late = stands.late;
  notes = stands.notes;
}

-- what is told, and the steps that are logged
noted_stands : (setup : Setup) (v : WorldRecord) (w : World) (role : Role) (told : EventRecord) (note : Note) (steps : List Done) → told ≡ told_in note
    → StandsFor setup v w
    → StandsFor setup (record v { log = record v.log { notes = v.log.notes ++ (told ∷ []) } }) (logged (noted w note) role steps)
noted_stands setup v w Serving told note steps same stands =
    record {
      serving = stands.serving;
      packet = stands.packet;
      datagrams = stands.datagrams;
      handed = stands.handed;
      accepted = stands.accepted;
      late = stands.late;
      notes = notes_after v.log.notes w.notes told note stands.notes same;
    }
noted_stands setup v w Packet told note steps same stands =
    record {
      serving = stands.serving;
      packet = stands.packet;
      datagrams = stands.datagrams;
      handed = stands.handed;
      accepted = stands.accepted;
      late = stands.late;
      notes = notes_after v.log.notes w.notes told note stands.notes same;
    }

-- how the gateway of what is kept is set up
kept_config : (setup : Setup) (v : WorldRecord) (w : World) (role : Role) → (side_of w role).node.config ≡ config_in setup role → StandsFor setup v w
    → (gateway_in v role).state.node.config ≡ config_in setup role
kept_config setup v w role same stands = ap (λ (n : Node). n.config) (gateway_stands setup v w stands role).node ∙ same

-- after a step of a gateway
pub after_step : (setup : Setup) (v : WorldRecord) (w : World) (role : Role) (state : GatewayState) (e : Effect) (outcome : EventOutcome) (late : Bool)
    (a : Arrival) (steps : List Done) → (side_of w role).node.config ≡ config_in setup role → StandsFor setup v w → AreReadable e.out
    → state.node ≡ e.node → state.role ≡ (gateway_in v role).state.role
    → StandsFor setup (kept_after v role state e.out (sent_at (gateway_in v role) e.out) outcome late)
    (world_after (lates late w role a) role e outcome steps)
after_step setup v w Serving state e outcome late a steps same stands read node stays =
    let config = v.serving.state.node.config in
    let was = late_stands setup v w Serving a late stands in
    noted_stands setup _ _ Serving _ (note_of outcome e.out) steps (told_so outcome e.out config)
    (moved_stands setup _ (lates late w Serving a) Serving state config e (kept_config setup v w Serving same stands) was read node stays)
after_step setup v w Packet state e outcome late a steps same stands read node stays =
    let config = v.packet.state.node.config in
    let was = late_stands setup v w Packet a late stands in
    noted_stands setup _ _ Packet _ (note_of outcome e.out) steps (told_so outcome e.out config)
    (moved_stands setup _ (lates late w Packet a) Packet state config e (kept_config setup v w Packet same stands) was read node stays)

-- a gateway between two steps
abbrev between : GatewayState → Effect → GatewayState
between state e = record state { node = e.node }

-- after a step of a gateway for each of two messages
pub after_both : (setup : Setup) (v : WorldRecord) (w : World) (role : Role) (state : GatewayState) (first second : Effect) (late : Bool) (a : Arrival)
    (steps : List Done) → (side_of w role).node.config ≡ config_in setup role → StandsFor setup v w → AreReadable first.out → AreReadable second.out
    → state.node ≡ second.node → state.role ≡ (gateway_in v role).state.role → StandsFor setup
    (kept_after_both v role state first second (sent_at (gateway_in v role) first.out) (sent_at (gateway_in v role) second.out) late)
    (world_after_both (lates late w role a) role first second steps)
after_both setup v w Serving state first second late a steps same stands read read_too node stays =
    let config = v.serving.state.node.config in
    let config_is = kept_config setup v w Serving same stands in
    let was = late_stands setup v w Serving a late stands in
    let mid = moved_stands setup _ (lates late w Serving a) Serving (between state first) config first config_is was read refl stays in
    noted_stands setup _ _ Serving _ (note_of_both first second) steps (told_both_so first second config)
    (moved_stands setup _ (moved (lates late w Serving a) Serving first) Serving state config second config_is mid read_too node refl)
after_both setup v w Packet state first second late a steps same stands read read_too node stays =
    let config = v.packet.state.node.config in
    let config_is = kept_config setup v w Packet same stands in
    let was = late_stands setup v w Packet a late stands in
    let mid = moved_stands setup _ (lates late w Packet a) Packet (between state first) config first config_is was read refl stays in
    noted_stands setup _ _ Packet _ (note_of_both first second) steps (told_both_so first second config)
    (moved_stands setup _ (moved (lates late w Packet a) Packet first) Packet state config second config_is mid read_too node refl)

-- an event that is passed over
pub after_none : (setup : Setup) (v : WorldRecord) (w : World) (outcome : EventOutcome) → StandsFor setup v w → StandsFor setup (passed_over v outcome) (noted w (quiet_note outcome))
after_none setup v w outcome stands = record {
  serving = stands.serving;
  packet = stands.packet;
  datagrams = stands.datagrams;
  handed = stands.handed;
  accepted = stands.accepted;
  late = stands.late;
  notes = notes_after v.log.notes w.notes _ (quiet_note outcome) stands.notes refl;
}

-- a restart
pub after_restart : (setup : Setup) (v : WorldRecord) (w : World) (role : Role) → (side_of w role).node.config ≡ config_in setup role → StandsFor setup v w
    → StandsFor setup (record (with_gateway v role (gateway_restarted role (gateway_in v role)))
    { log = log_with v.log (Restarted (counter_after (gateway_in v role))) })
    (with_steps (noted (with_side w role (restarted (side_of w role))) (quiet_note (Restarted (next_counter (side_of w role))))) role [])
after_restart setup v w Serving same stands = record {
  serving = gateway_begins setup.serving.config Serving v.serving w.serving stands.serving same;
  packet = stands.packet;
  datagrams = stands.datagrams;
  handed = stands.handed;
  accepted = stands.accepted;
  late = stands.late;
  notes =
      notes_after v.log.notes w.notes _ (quiet_note (Restarted (next_counter w.serving))) stands.notes
      (ap (λ n. told_of (Restarted n) nothing []) (counted_so setup.serving.config Serving v.serving w.serving stands.serving));
}
after_restart setup v w Packet same stands = record {
  serving = stands.serving;
  packet = gateway_begins setup.packet.config Packet v.packet w.packet stands.packet same;
  datagrams = stands.datagrams;
  handed = stands.handed;
  accepted = stands.accepted;
  late = stands.late;
  notes =
      notes_after v.log.notes w.notes _ (quiet_note (Restarted (next_counter w.packet))) stands.notes
      (ap (λ n. told_of (Restarted n) nothing []) (counted_so setup.packet.config Packet v.packet w.packet stands.packet));
}

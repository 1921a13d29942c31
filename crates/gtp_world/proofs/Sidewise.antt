-- What comes of an input or a tick at one of both gateways, for all that is kept.
use Rattle.std.proofs.Common.{◌≡◌, inl, inr, ℕ, List, Bool, false, [], ◌∷◌, ◌++◌, length, None, refl, sym, ◌∙◌, ap, subst, append-nil, append_assoc}
use Rattle.std.proofs.lemmas.List.{length-map}
use Rattle.gtp_values.specs.declared.address.Endpoint.{Endpoint}
use Rattle.gtp_machine.specs.Input.{Input, Out}
use Rattle.gtp_machine.specs.Message.{CreateSessionResponse, CreateBearerRequest, Plane, Control, User}
use Rattle.gtp_machine.proofs.Basics.Datagrams.{both_signed}
use Rattle.gtp_machine.specs.declared.role.Role.{Role}
use Rattle.gtp_machine.specs.declared.role.Role.TheVariants.{Serving, Packet}
use Rattle.gtp_machine.specs.Spelling.{Datagram}
use Rattle.gtp_machine.specs.World.{EventOutcome, Ticked, signed}
use Rattle.gtp_gateway.specs.GatewayState.{GatewayState}
use Rattle.gtp_gateway.specs.messages.Sent.{datagram_by}
use Rattle.gtp_gateway.specs.declared.tick.Ticked.{Ticked as Tick}
use Rattle.gtp_world.specs.Gateways.{side_of, with_side}
use Rattle.gtp_world.specs.Record.{GatewayRecord, Log, WorldRecord, gateway_in, with_gateway, counted, gateway_record_of, log_of, world_record_of}
use Rattle.gtp_world.specs.Recorded.{log_of_came, log_of_tick}
use Rattle.gtp_world.specs.Inputs.{IsInput, AreInputs, IsBrought, IsTick}
use Rattle.gtp_world.specs.Stepped.{StepsOn, TakesBoth, TakesOn, TicksBy, log_after, log_after_both, sent_at}
use Rattle.gtp_world.specs.declared.records.Records.{Records}
use Rattle.gtp_world.specs.declared.simulated_gateway.StepRecord.{StepRecord}
use Rattle.gtp_world.specs.declared.simulated_gateway.SimulatedGateway.{SimulatedGateway}
use Rattle.gtp_world.specs.declared.simulation.Simulation.{Simulation}
use Rattle.gtp_machine.specs.Node.{Arrival}
use Rattle.gtp_gateway.specs.Parts.{arrival_of}

-- the log, after what came of an input
came_log : (log : Log) (role : Role) (input : Input) (Timed : List Datagram → EventOutcome → GatewayState → GatewayState → Type 0) (old : GatewayRecord)
    (came : StepRecord) (new : GatewayRecord) (late : Bool) (t : IsInput role input Timed old came new)
    → log_of_came log role came late ≡ log_after log role t.effect.out (sent_at old t.effect.out) t.effect.outcome late
came_log log role input Timed old came new late t =
    let out = t.effect.out in
    λ i. record {
      datagrams = log.datagrams ++ signed role (t.tells.sent i);
      handed = log.handed ++ t.tells.handed i;
      accepted = log.accepted ++ t.tells.accepted i;
      late = counted late log.late;
      notes =
          log.notes ++ (record {
            outcome = t.tells.outcome i;
            second = t.tells.alone i;
            learned = t.tells.learned i;
            sent = length (t.tells.sent i);
            gave_up = sym t.tells.gave_up i;
            forgot = sym t.tells.forgot i;
          } ∷ []);
    }

pub takes_by : (v : WorldRecord) (role : Role) (input : Input) (Timed : List Datagram → EventOutcome → GatewayState → GatewayState → Type 0) (came : StepRecord)
    (gateway : GatewayRecord) (log : Log) (late : Bool) (new : WorldRecord) → IsInput role input Timed (gateway_in v role) came gateway
    → log ≡ log_of_came v.log role came late → new ≡ record (with_gateway v role gateway) { log = log } → StepsOn v role input Timed late new
takes_by v role input Timed came gateway log late new t is becomes =
    let logs = is ∙ came_log v.log role input Timed (gateway_in v role) came gateway late t in
    record {
      effect = t.effect;
      step = t.step;
      readable = t.readable;
      state = gateway.state;
      node = t.node;
      role_stays = t.role_stays;
      lowest = t.lowest;
      timed = t.timed;
      becomes = becomes ∙ (λ i. record (with_gateway v role (t.becomes i)) { log = logs i });
    }

-- the log, after what came of two messages of one datagram
both_log : (log : Log) (role : Role) (arrival : Arrival) (answer : CreateSessionResponse) (asked : CreateBearerRequest) (old : GatewayRecord)
    (came : StepRecord) (new : GatewayRecord) (late : Bool) (t : AreInputs role arrival answer asked old came new)
    → log_of_came log role came late ≡ log_after_both log role t.first t.second (sent_at old t.first.out) (sent_at old t.second.out) late
both_log log role arrival answer asked old came new late t =
    let first = t.first.out in
    let second = t.second.out in
    let datagrams =
    ap (λ l. log.datagrams ++ signed role l) t.tells.sent ∙ ap (λ l. log.datagrams ++ l) (both_signed role (sent_at old first) (sent_at old second))
    ∙ sym (append_assoc log.datagrams (signed role (sent_at old first)) (signed role (sent_at old second))) in
    let handed = ap (λ l. log.handed ++ l) t.tells.handed ∙ sym (append_assoc log.handed (signed role first.handed) (signed role second.handed)) in
    let accepted = ap (λ l. log.accepted ++ l) t.tells.accepted ∙ sym (append_assoc log.accepted (signed role first.accepted) (signed role second.accepted)) in
    λ i. record {
      datagrams = datagrams i;
      handed = handed i;
      accepted = accepted i;
      late = counted late log.late;
      notes =
          log.notes ++ (record {
            outcome = t.tells.outcome i;
            second = t.tells.next i;
            learned = t.tells.learned i;
            sent = length (t.tells.sent i);
            gave_up = sym t.tells.gave_up i;
            forgot = sym t.tells.forgot i;
          } ∷ []);
    }

both_by : (v : WorldRecord) (role : Role) (arrival : Arrival) (answer : CreateSessionResponse) (asked : CreateBearerRequest) (came : StepRecord)
    (gateway : GatewayRecord) (log : Log) (late : Bool) (new : WorldRecord) → AreInputs role arrival answer asked (gateway_in v role) came gateway
    → log ≡ log_of_came v.log role came late → new ≡ record (with_gateway v role gateway) { log = log }
    → TakesBoth v role arrival answer asked late new
both_by v role arrival answer asked came gateway log late new t is becomes =
    let logs = is ∙ both_log v.log role arrival answer asked (gateway_in v role) came gateway late t in
    record {
      first = t.first;
      step = t.step;
      silent = t.silent;
      second = t.second;
      follows = t.follows;
      readable = t.readable;
      state = gateway.state;
      node = t.node;
      role_stays = t.role_stays;
      lowest = t.lowest;
      timed = t.timed;
      becomes = becomes ∙ (λ i. record (with_gateway v role (t.becomes i)) { log = logs i });
    }

-- a datagram of a plane
brought_by : (v : WorldRecord) (role : Role) (plane : Plane) (source : Endpoint) (octets : List ℕ) (came : StepRecord) (gateway : GatewayRecord) (log : Log)
    (late : Bool) (new : WorldRecord) → IsBrought role plane source octets (gateway_in v role) came gateway → log ≡ log_of_came v.log role came late
    → new ≡ record (with_gateway v role gateway) { log = log } → TakesOn v role plane source octets late new
brought_by v role Control source octets came gateway log late new (inl (none, t)) is becomes = inl (none, takes_by v role _ _ came gateway log late new t is becomes)
brought_by v role Control source octets came gateway log late new (inr (pair, t)) is becomes =
    inr (pair, both_by v role (arrival_of source octets) pair.answer pair.asked came gateway log late new t is becomes)
brought_by v role User source octets came gateway log late new t is becomes = takes_by v role _ _ came gateway log late new t is becomes

-- the log, after a tick
tick_log : (log : Log) (role : Role) (old : GatewayRecord) (ticked : Tick) (new : GatewayRecord) (t : IsTick old ticked new)
    → log_of_tick log role ticked ≡ log_after log role t.out (sent_at old t.out) Ticked false
tick_log log role old ticked new t =
    let handed = sym (append-nil log.handed) ∙ ap (λ (o : Out). log.handed ++ signed role o.handed) (sym t.all) in
    let accepted = sym (append-nil log.accepted) ∙ ap (λ (o : Out). log.accepted ++ signed role o.accepted) (sym t.all) in
    let learned = ap (λ (o : Out). o.learned) (sym t.all) in
    let sent = sym (length-map ticked.resent.items datagram_by) ∙ ap length t.sent in
    λ i. record {
      datagrams = log.datagrams ++ signed role (t.sent i);
      handed = handed i;
      accepted = accepted i;
      late = log.late;
      notes = log.notes ++ (record { outcome = Ticked; second = None; learned = learned i; sent = sent i; gave_up = t.gave_up i; forgot = t.forgot i } ∷ []);
    }

pub ticks_by : (v : WorldRecord) (role : Role) (ticked : Tick) (gateway : GatewayRecord) (log : Log) (new : WorldRecord)
    → IsTick (gateway_in v role) ticked gateway → log ≡ log_of_tick v.log role ticked → new ≡ record (with_gateway v role gateway) { log = log }
    → TicksBy v role new
ticks_by v role ticked gateway log new t is becomes =
    let logs = is ∙ tick_log v.log role (gateway_in v role) ticked gateway t in
    record {
      out = t.out;
      state = gateway.state;
      ticks = t.ticks;
      readable = t.readable;
      role_stays = t.role_stays;
      counts = t.counts;
      becomes = becomes ∙ (λ i. record (with_gateway v role (t.becomes i)) { log = logs i });
    }

-- the gateway of a role, as it was
pub was_at : (old : Simulation) (role : Role) (before : SimulatedGateway) → before ≡ side_of role old.gateways → gateway_record_of before ≡ gateway_in (world_record_of old) role
was_at old Serving before is = ap gateway_record_of is
was_at old Packet before is = ap gateway_record_of is

-- it stands as this, the other is as before, and the log is another
stands_at : (old : Simulation) (role : Role) (side : SimulatedGateway) (settled : Records)
    → world_record_of (record { gateways = with_side role old.gateways side; records = settled })
    ≡ record (with_gateway (world_record_of old) role (gateway_record_of side)) { log = log_of settled }
stands_at old Serving side settled = refl
stands_at old Packet side settled = refl

-- One gateway of both took what came to it, and stands as another; there is room in the log.
module _ (old : Simulation) (role : Role) (before after : SimulatedGateway) (is : before ≡ side_of role old.gateways) (room settled : Records) (same : log_of room ≡ log_of old.records) where
  abbrev later : Simulation
  later = record { gateways = with_side role old.gateways after; records = settled }

  pub takes_at : (input : Input) (Timed : List Datagram → EventOutcome → GatewayState → GatewayState → Type 0) (came : StepRecord) (late : Bool)
      → IsInput role input Timed (gateway_record_of before) came (gateway_record_of after) → log_of settled ≡ log_of_came (log_of room) role came late
      → StepsOn (world_record_of old) role input Timed late (world_record_of later)
  takes_at input Timed came late t logs =
      takes_by (world_record_of old) role input Timed came (gateway_record_of after) (log_of settled) late _
      (subst (λ h. IsInput role input Timed h came (gateway_record_of after)) (was_at old role before is) t)
      (logs ∙ ap (λ l. log_of_came l role came late) same) (stands_at old role after settled)

  pub brought_at : (plane : Plane) (source : Endpoint) (octets : List ℕ) (came : StepRecord) (late : Bool)
      → IsBrought role plane source octets (gateway_record_of before) came (gateway_record_of after)
      → log_of settled ≡ log_of_came (log_of room) role came late
      → TakesOn (world_record_of old) role plane source octets late (world_record_of later)
  brought_at plane source octets came late t logs =
      brought_by (world_record_of old) role plane source octets came (gateway_record_of after) (log_of settled) late _
      (subst (λ h. IsBrought role plane source octets h came (gateway_record_of after)) (was_at old role before is) t)
      (logs ∙ ap (λ l. log_of_came l role came late) same) (stands_at old role after settled)

  pub ticks_at : (ticked : Tick) → IsTick (gateway_record_of before) ticked (gateway_record_of after) → log_of settled ≡ log_of_tick (log_of room) role ticked
      → TicksBy (world_record_of old) role (world_record_of later)
  ticks_at ticked t logs =
      ticks_by (world_record_of old) role ticked (gateway_record_of after) (log_of settled) _
      (subst (λ h. IsTick h ticked (gateway_record_of after)) (was_at old role before is) t) (logs ∙ ap (λ l. log_of_tick l role ticked) same)
      (stands_at old role after settled)

-- a gateway that is as it was leaves all as it was
pub unchanged_at : (old : Simulation) (role : Role) (before after : SimulatedGateway) (room : Records) → before ≡ side_of role old.gateways
    → gateway_record_of after ≡ gateway_record_of before → log_of room ≡ log_of old.records
    → world_record_of (record { gateways = with_side role old.gateways after; records = room }) ≡ world_record_of old
unchanged_at old Serving before after room is same log = let stays = same ∙ ap gateway_record_of is in λ i. record (world_record_of old) { serving = stays i; log = log i }
unchanged_at old Packet before after room is same log = let stays = same ∙ ap gateway_record_of is in λ i. record (world_record_of old) { packet = stays i; log = log i }

use Rattle.std.proofs.Common.{◌++◌, map, option_to_list, sym, ◌∙◌, ap, subst}
use Rattle.gtp_values.specs.declared.counter.Counter.{Counter}
use Rattle.gtp_gateway.specs.Parts.{arrival_of}
use Rattle.gtp_gateway.specs.receive.Taken.{made_for}
use Rattle.gtp_gateway.specs.Tick.{arrivals_of}
use Rattle.gtp_world.specs.Record.{GatewayRecord, gateway_record_of}
use Rattle.gtp_world.specs.Inputs.{IsBrought}
use Rattle.gtp_world.specs.declared.simulated_gateway.SimulatedGateway.{SimulatedGateway}
use Rattle.gtp_world.proofs.Telling.{taken, heard_kept, came_of_step}
use Rattle.gtp_world.proofs.simulated_gateway.SimulatedGateway.receive.Goals as goal

pub returns-clause-taken : goal.returns-clause-taken
returns-clause-taken c =
    let old = c.args.self.now in
    let step = c.in_ok-step.step in
    let heard = step.report.heard in
    let octets = c.args.octets.now in
    let both = c.make.ensures.rest ∙ ap (λ (s : SimulatedGateway). record s { made = c.make.new.self.made }) c.hear.ensures.rest in
    let seen = ap (map (λ (k : Counter). k.0)) (c.hear.ensures.seen ∙ ap (λ l. l ++ option_to_list heard) c.try_reserve.ensures.items) ∙ heard_kept old.seen.items heard in
    let made =
    c.make.ensures.made
    ∙ ap (λ (s : SimulatedGateway). arrivals_of s.made.items ++ made_for (arrival_of c.args.source c.in_ok-from_slice.field-0.items) step.report.made) c.hear.ensures.rest
    ∙ ap (λ l. arrivals_of l ++ made_for (arrival_of c.args.source c.in_ok-from_slice.field-0.items) step.report.made) c.try_reserve-2.ensures.items
    ∙ ap (λ l. arrivals_of old.made.items ++ made_for (arrival_of c.args.source l) step.report.made) (c.in_ok-from_slice.ensures.items ∙ c.requires.last) in
    let after = ap gateway_record_of both ∙ (λ i. record (gateway_record_of old) { state = c.receive.new.self; seen = seen i; made = made i }) in
    subst (λ (h : GatewayRecord). IsBrought c.args.node c.args.plane c.args.source octets (gateway_record_of old) (came_of_step step c.in_ok-accepted.accepted) h) (sym after)
    (taken c.args.node c.args.plane c.args.source octets (gateway_record_of old) step c.receive.new.self c.in_ok-accepted.accepted
    c.in_ok-step.ensures.received c.in_ok-step.ensures.queues c.in_ok-step.ensures.choices c.in_ok-step.ensures.packet
    c.in_ok-accepted.ensures.accepted)

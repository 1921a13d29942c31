use Rattle.std.proofs.Common.{◌<◌, ℕ, List, length, sym, ◌∙◌, ap, subst, refl}
use Rattle.std.proofs.lemmas.Option.{slice_get_read}
use Rattle.gtp_machine.specs.Spelling.{Datagram}
use Rattle.gtp_machine.specs.World.{By, other}
use Rattle.gtp_gateway.specs.Parts.{arrival_of}
use Rattle.gtp_world.specs.Last.{last_octets}
use Rattle.gtp_world.specs.Record.{GatewayRecord, world_record_of, gateway_record_of, gateway_in}
use Rattle.gtp_world.specs.Views.{IsMade, IsCount, as_it_came}
use Rattle.gtp_world.proofs.Finding.{there, found_at}
use Rattle.gtp_world.proofs.simulation.Simulation.made.Goals as goal

pub returns-clause-some : goal.returns-clause-some
returns-clause-some c =
    let v = world_record_of c.args.self.now in
    let count = c.contexts_made.result in
    let is = c.in_ok-index.ensures.some in
    let i = c.in_ok-index.index in
    let datagrams = c.args.self.now.records.datagrams.items in
    let within = subst (λ n. n < length datagrams) (sym is.0) is.1 in
    let d = c.index-datagram.result.now in
    let found = there datagrams i within in
    let at = slice_get_read datagrams _ i d refl within c.index-datagram.ensures in
    let receiver = c.side-receiver.result.now in
    let of_octets =
    subst (λ (l : List ℕ). IsCount (arrival_of d.sent.from l) (gateway_record_of receiver).made count)
    (c.last_message-request.ensures ∙ ap last_octets c.as_slice.ensures.value) c.contexts_made.ensures in
    let at_receiver =
    subst (λ (h : GatewayRecord). IsCount (arrival_of d.sent.from (last_octets d.sent.octets.items)) h.made count)
    (c.side-receiver.ensures ∙ ap (gateway_in v) c.other.ensures) of_octets in
    let counts = subst (λ (b : By Datagram). IsCount (as_it_came b) (gateway_in v (other b.role)).made count) (sym (found_at datagrams i d found at)) at_receiver in
    subst (λ n. IsMade v n count) is.0 (record { found = found; counts = counts })

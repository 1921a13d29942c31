use Rattle.std.proofs.Common.{rules, ◌≡◌, ◌<◌, length, Some, refl, sym, ap, ◌∙◌}
use Rattle.std.proofs.lemmas.Option.{slice_get-get_or}
use Rattle.std.specs.Prelude.{slice_get}
use Rattle.gtp_node.proofs.node.Node.receive.Goals as goal

pub returns-in-Ok-clause-routed : goal.returns-in-Ok-clause-routed
returns-in-Ok-clause-routed c =
    let within : c.in-Some.place < length c.args.self.now.gateways.items = search rules in
    let stands : slice_get c.args.self.now.gateways.items c.in-Some.place ≡ Some c.in-Some-get_mut.gateway.now =
    slice_get-get_or c.args.self.now.gateways.items c.in-Some.place c.in-Some-get_mut.gateway.now within ∙ ap Some (sym c.in-Some-get_mut.ensures.value) in
    record {
      before = c.in-Some-get_mut.gateway.now;
      after = c.receive.new.self;
      from = record { from = c.in-Some.ensures.some; stands = stands };
      received = c.in-Ok.ensures.received;
      queues = c.in-Ok.ensures.queues;
      choices = c.in-Ok.ensures.choices;
      changes = refl;
    }

pub returns-in-Err-clause-memory : goal.returns-in-Err-clause-memory
returns-in-Err-clause-memory c =
    let within : c.in-Some.place < length c.args.self.now.gateways.items = search rules in
    let stands : slice_get c.args.self.now.gateways.items c.in-Some.place ≡ Some c.in-Some-get_mut.gateway.now =
    slice_get-get_or c.args.self.now.gateways.items c.in-Some.place c.in-Some-get_mut.gateway.now within ∙ ap Some (sym c.in-Some-get_mut.ensures.value) in
    record {
      place = c.in-Some.place;
      gateway = c.in-Some-get_mut.gateway.now;
      from = record { from = c.in-Some.ensures.some; stands = stands };
      runs_out = c.in-Err.ensures.memory;
    }

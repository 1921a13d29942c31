use Rattle.std.proofs.Common.{ℕ, List, ◌++◌, map, option_to_list, sym, ◌∙◌, ap, append-nil}
use Rattle.gtp_machine.specs.Input.{Out}
use Rattle.gtp_gateway.specs.Tick.{arrivals_of}
use Rattle.gtp_world.specs.Record.{oldest_first}
use Rattle.gtp_world.proofs.Forgets.{forgets_due}
use Rattle.gtp_world.proofs.simulated_gateway.SimulatedGateway.tick.Goals as goal

pub returns-clause-ticked : goal.returns-clause-ticked
returns-clause-ticked c =
    let old = c.args.self.now in
    let t = c.in_ok-ticked.ensures.ticked in
    let seen : List ℕ = map (λ k. k.0) old.seen.items in
    let made = arrivals_of old.made.items in
    let forgotten =
    c.append.ensures ∙ ap (λ l. l ++ c.in_ok-forgotten.forgotten.list) c.make_room_for.ensures.same
    ∙ ap (λ l. old.forgotten.list ++ l) (c.in_ok-forgotten.ensures ∙ c.in_ok-forgets.ensures.forgets ∙ sym (forgets_due _ _ t.out _ t.ticks)) in
    let heard = sym (append-nil seen) ∙ ap (λ (o : Out). seen ++ option_to_list o.heard) (sym t.tells.all) in
    let none_made = sym (append-nil made) ∙ ap (λ (o : Out). made ++ oldest_first o.made) (sym t.tells.all) in
    record {
      out = t.out;
      ticks = t.ticks;
      readable = t.tells.sent.read;
      role_stays = t.role;
      counts = c.in_ok-ticked.ensures.counts;
      becomes = λ i. record { settings = old.config; state = c.tick.new.self; first = old.first.0; restarts = old.restarts; seen = heard i; forgotten = forgotten i; made = none_made i };
      sent = t.tells.sent.octets;
      gave_up = t.tells.gave_up;
      forgot = t.tells.forgot;
      all = t.tells.all;
    }

use Rattle.std.proofs.Common.{◌≡◌, true, false, ◌+◌, ◌<◌, List, length, get_or, take, sym, ◌∙◌, subst, arith}
use Rattle.std.proofs.lemmas.List.{take_all}
use Rattle.gtp_reliable.specs.declared.held.Request.{Request}
use Rattle.gtp_gateway.specs.Parts.{arrival_of}
use Rattle.gtp_gateway.specs.Tick.{arrivals_of}
use Rattle.gtp_world.specs.Views.{IsCount}
use Rattle.gtp_world.proofs.Counts.{one_more, none_more}
use Rattle.gtp_world.proofs.simulated_gateway.SimulatedGateway.contexts_made.Goals as goal
use Rattle.gtp_world.proofs.simulated_gateway.SimulatedGateway.contexts_made.Goals.{then-is_from, else-is_from}

pub loop-request-preserved : goal.loop-request-preserved
loop-request-preserved c =
    let a = arrival_of c.args.source c.args.octets.now in
    let requests = c.args.self.now.made.items in
    let i = c.loop-request.request-index in
    let r = c.request-item.result in
    let same = c.as_slice-request-items.ensures.value in
    let within = subst (λ (l : List Request). i < length l) same c.loop-request-test.true in
    let at = subst (λ (l : List Request). get_or l i r ≡ r) same (sym c.request-item.is) in
    let so_far = c.loop-request.invariant.so_far in
    elim c.if-is_from.branch [
      | then-is_from w ↦
          record {
            so_far = subst (IsCount a (arrivals_of (take (i + 1) requests))) (sym w.count-is)
                (one_more a requests i r _ within at so_far (c.is_from.ensures.0 w.if-is_from.true));
            few = omega (arith, w.count-is, c.loop-request.invariant.few);
          }
      | else-is_from w ↦
          record {
            so_far = subst (IsCount a (arrivals_of (take (i + 1) requests))) (sym w.count-is) (none_more a requests i r _ within at so_far
                (λ is. let e : true ≡ false = sym (c.is_from.ensures.1 is) ∙ w.if-is_from.false in absurd (cc e)));
            few = omega (arith, w.count-is, c.loop-request.invariant.few);
          }
    ]

pub returns : goal.returns
returns c =
    let a = arrival_of c.args.source c.args.octets.now in
    let requests = c.args.self.now.made.items in
    let whole : take c.loop-request.request-index requests ≡ requests = take_all c.loop-request.request-index requests (omega arith) in
    subst (λ (l : List Request). IsCount a (arrivals_of l) c.loop-request.count) whole c.loop-request.invariant.so_far

use Rattle.std.proofs.Common.{false, true, ◌≡◌, refl, arith}
use Rattle.gtp_gateway.specs.Parts.{node_of}
use Rattle.gtp_gateway.specs.GatewayState.{state_of}
use Rattle.gtp_gateway.proofs.Teids.{has_none, one_drawn}
use Rattle.gtp_gateway.proofs.parts.Parts.draw_one.Goals as goal

pub returns-in-Ok-clause-some : goal.returns-in-Ok-clause-some
returns-in-Ok-clause-some c =
    let old = c.args.self.now in
    let e = c.in-Ok.ensures in
    one_drawn (state_of old) c.requires.whole old.draws.count refl c.draw.new.self c.in-Ok.teid
    (record { small = e.ok.0 refl; value = e.value; counted = e.counted; numbered = e.numbered; undrawn = e.undrawn; drawn = e.drawn })

pub returns-in-Err-clause-none : goal.returns-in-Err-clause-none
returns-in-Err-clause-none c =
    let old = c.args.self.now in
    has_none (node_of old) old.draws.count 1 refl (λ few. let no : false ≡ true = c.in-Err.ensures.ok.1 (omega (arith, few)) in cc)

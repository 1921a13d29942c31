use Rattle.std.proofs.Common.{false, true, ◌≡◌, refl, ap, arith}
use Rattle.gtp_tables.specs.Drawn.{Drawn}
use Rattle.gtp_gateway.specs.Parts.{node_of}
use Rattle.gtp_gateway.specs.GatewayState.{state_of}
use Rattle.gtp_gateway.proofs.Teids.{has_none, two_drawn}
use Rattle.gtp_gateway.proofs.parts.Parts.draw_two.Goals as goal

pub returns-clause-some : goal.returns-clause-some
returns-clause-some c =
    let old = c.args.self.now in
    let e = c.in-Ok.ensures in
    let f = c.in-Ok-draw.ensures in
    two_drawn (state_of old) c.requires.whole old.draws.count refl c.draw.new.self c.draw-2.new.self c.in-Ok.control c.in-Ok-draw.user
    (record { small = e.ok.0 refl; value = e.value; counted = e.counted; numbered = e.numbered; undrawn = e.undrawn; drawn = e.drawn })
    (record { small = f.ok.0 refl; value = f.value; counted = f.counted; numbered = f.numbered; undrawn = f.undrawn; drawn = f.drawn })

pub returns-in_default-clause-none : goal.returns-in_default-clause-none
returns-in_default-clause-none c =
    let old = c.args.self.now in
    has_none (node_of old) old.draws.count 2 refl (λ few. let no : false ≡ true = c.in_default.ensures.ok.1 (omega (arith, few)) in cc)

pub returns-in_default-draw-clause-none : goal.returns-in_default-draw-clause-none
returns-in_default-draw-clause-none c =
    let old = c.args.self.now in
    let more = ap (λ (x : Drawn). x.count) c.in-Ok.ensures.drawn in
    has_none (node_of old) old.draws.count 2 refl (λ few. let no : false ≡ true = c.in_default-draw.ensures.ok.1 (omega (arith, few, more)) in cc)

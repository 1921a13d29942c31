use Rattle.std.proofs.Common.{false, true, ◌≡◌, refl}
use Rattle.gtp_gateway.specs.Parts.{node_of}
use Rattle.gtp_gateway.proofs.Teids.{third_drawn, no_third}
use Rattle.gtp_gateway.proofs.parts.Parts.draw_third.Goals as goal

pub returns-in-Ok-clause-some : goal.returns-in-Ok-clause-some
returns-in-Ok-clause-some c =
    let e = c.in-Ok.ensures in
    third_drawn (node_of c.args.self.now) c.args.two.now c.requires c.draw.new.self c.in-Ok.teid
    (record { small = e.ok.0 refl; value = e.value; counted = e.counted; numbered = e.numbered; undrawn = e.undrawn; drawn = e.drawn })

pub returns-in-Err-clause-none : goal.returns-in-Err-clause-none
returns-in-Err-clause-none c = no_third (node_of c.args.self.now) c.args.two.now c.requires (λ few. let no : false ≡ true = c.in-Err.ensures.ok.1 few in cc)

use Rattle.std.proofs.Common.{Some, None, refl}
use Rattle.gtp_v2.specs.reading.Headed.{headed_of}
use Rattle.gtp_v2.proofs.Carried.{raw_is}
use Rattle.gtp_v2.proofs.viewing.MessageView.raw.Goals as goal

pub returns-in-Some : goal.returns-in-Some
returns-in-Some c = raw_is (headed_of c.self.inside.header) c.self.inside.elements None c.args.self.now c.self.view_is c.self.invariant (λ none. absurd cc) (λ es some. refl)

pub returns-in-None : goal.returns-in-None
returns-in-None c =
    raw_is (headed_of c.self.inside.header) c.self.inside.elements (Some c.self.inside.header.rest.now) c.args.self.now c.self.view_is c.self.invariant (λ none. refl) (λ es some. absurd cc)

use Rattle.std.proofs.Common.{◌≡◌, ◌∷◌, Ok, sym}
use Rattle.gtp_v2.specs.Body.{content_of, kind_of}
use Rattle.gtp_v2.specs.reading.Headed.{headed_of}
use Rattle.gtp_v2.specs.reading.Message.{content_at}
use Rattle.gtp_v2.proofs.Given.{content_given, message_given}
use Rattle.gtp_v2.proofs.decoding.plain.read_plain.Goals as goal

pub returns-clause-message : goal.returns-clause-message
returns-clause-message c =
    let h = c.in-Ok.header in
    let m = c.of.result.message in
    let content : content_at (headed_of h) ≡ Ok (content_of m.body) =
    rw c.of.ensures.body (content_given (headed_of h) c.in-Ok-indexed_at.elements c.is_some.result (content_of c.in-Some.body) (sym c.is_some.ensures)
    c.in-Ok-indexed_at.ensures.walked c.in-Some.ensures.content) in
    let kind : kind_of m.body ≡ h.kind = rw c.of.ensures.body c.in-Some.ensures.kind in
    message_given (c.args.first ∷ c.args.kind ∷ c.args.high ∷ c.args.low ∷ c.args.rest.now) h m c.in-Ok.ensures content kind c.of.ensures.header

use Rattle.std.proofs.Common.{◌-◌, drop, length, arith}
use Rattle.gtp_user.specs.reading.Headed.{headed_of}
use Rattle.gtp_user.specs.Message.{content_of}
use Rattle.gtp_user.proofs.Viewed.{tail_placed, viewed_is, viewed_read}
use Rattle.gtp_user.proofs.viewing.view_message.Goals as goal

pub invariant_of-result : goal.invariant_of-result
invariant_of-result c =
    viewed_is c.args.octets.now (length c.args.octets.now - length c.in_ok-tail.tail.now) (omega arith)
    (tail_placed c.args.octets.now (headed_of c.in-Ok.header) _ (content_of c.in-Ok-read_body.field-0) c.in-Ok.ensures.header c.in_ok-tail.ensures.chain c.in-Ok-read_body.ensures)

pub returns-in-Ok-read_body : goal.returns-in-Ok-read_body
returns-in-Ok-read_body c =
    viewed_read c.args.octets.now (drop (length c.args.octets.now - length c.in_ok-tail.tail.now) c.args.octets.now)
    (tail_placed c.args.octets.now (headed_of c.in-Ok.header) _ (content_of c.in-Ok-read_body.field-0) c.in-Ok.ensures.header c.in_ok-tail.ensures.chain c.in-Ok-read_body.ensures)

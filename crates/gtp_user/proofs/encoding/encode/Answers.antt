use Rattle.std.proofs.Common.{◌≡◌, ◌<◌, length, arith}
use Rattle.gtp_user.specs.Message.{message_value}
use Rattle.gtp_user.specs.Encoding.{encoding, rest_encoding}
use Rattle.gtp_user.proofs.Appends.{appending}
use Rattle.gtp_user.proofs.Again.{written_again}
use Rattle.gtp_user.proofs.encoding.encode.Goals as goal

pub returns-clause-read_again : goal.returns-clause-read_again
returns-clause-read_again c =
    let m = message_value c.args.message.now in
    let written : c.write_body.new.out.items ≡ encoding (message_value c.args.message.now) = grind (arith, appending) in
    let short : length (rest_encoding (message_value c.args.message.now)) < 65536 = omega arith in
    written_again (message_value c.args.message.now) c.write_body.new.out.items
    (record {
      encodable = c.requires;
      seq = c.in_ok-write_options.ensures.seq;
      ext = c.octets.ensures.headers;
      teid = c.in_ok-write_opening.ensures.teid;
      range = c.in_ok-write_body.ensures.range;
      short = short;
    }) written

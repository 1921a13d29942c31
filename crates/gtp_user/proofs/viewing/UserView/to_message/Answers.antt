use Rattle.std.proofs.Common.{◌∙◌, sym, drop}
use Rattle.gtp_values.proofs.Outcomes.{apart}
use Rattle.gtp_user.specs.reading.Viewed.{viewed}
use Rattle.gtp_user.proofs.Viewed.{viewed_read}
use Rattle.gtp_user.proofs.viewing.UserView.to_message.Goals as goal

pub unreachable-requires : goal.unreachable-requires
unreachable-requires c =
    let octets = c.self.inside.octets.now in
    apart (viewed octets) c.in-Err.field-0 (sym (viewed_read octets (drop c.self.inside.start octets) c.self.invariant.tail) ∙ c.in-Err.ensures)

use Rattle.std.proofs.Common.{◌∙◌, ap}
use Rattle.std.specs.Prelude.{unwrap_or}
use Rattle.gtp_c.proofs.Carrying.{packet_at_end, packet_carried}
use Rattle.gtp_c.proofs.user.UserHead.put.Goals as goal

pub last_at-requires : goal.last_at-requires
last_at-requires c = packet_at_end c.args.octets.now c.args.view.now c.in-Some.field-0-0 c.in-Some.payload.now c.requires c.in-Some.ensures

pub of-requires : goal.of-requires
of-requires c =
    packet_carried c.args.view.now.content c.carried_in-carried.result c.in-Some.field-0-0 c.unwrap_or-teid.result c.in-Some.payload.now c.in-Some.ensures
    (c.unwrap_or-teid.ensures ∙ ap (λ o. unwrap_or o 0) c.teid.ensures) c.carried_in-carried.ensures

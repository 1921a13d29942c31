use Rattle.std.proofs.Common.{rules, inl, inr, refl}
use Rattle.gtp_user.specs.Message.{message_value}
use Rattle.gtp_lines.specs.Fronts.{chain_at}
use Rattle.gtp_lines.specs.All.{user_head_at}
use Rattle.gtp_json.specs.All.{user_shown}
use Rattle.gtp_json.specs.Named.{named_user_members}
use Rattle.gtp_json.proofs.datagram.put_user_message.Goals as goal

pub returns-in_ok-put_named_message-in-Ok : goal.returns-in_ok-put_named_message-in-Ok
returns-in_ok-put_named_message-in-Ok c =
    let m = message_value c.in-Ok.message in
    record { ok = (named_user_members c.args.names.now m, inl (m, c.in-Ok.ensures.found, refl), c.in_ok-put_named_message-in-Ok.ensures.ok) }

pub returns-in_ok-put_user_shown-in-Err : goal.returns-in_ok-put_user_shown-in-Err
returns-in_ok-put_user_shown-in-Err c =
    let octets = c.args.octets.now in
    let shown = user_shown c.args.names.now (user_head_at octets) (chain_at octets) in
    record { ok = (shown, inr (λ m spelled. c.in-Err.ensures.only m spelled, refl), search rules) }

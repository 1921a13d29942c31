use Rattle.std.proofs.Common.{◌≡◌, ◌∙◌, ℕ, List, Some, ap, sym, subst}
use Rattle.std.proofs.lemmas.Option.{same_Some}
use Rattle.std.specs.Prelude.{option_map}
use Rattle.gtp_user.specs.Message as users
use Rattle.gtp_machine.specs.Reading.{user_content_message}
use Rattle.gtp_machine.specs.User.{UserTaken}
use Rattle.gtp_gateway.specs.GatewayState.{state_of}
use Rattle.gtp_gateway.specs.user.Receive.{IsJudgedBy}
use Rattle.gtp_gateway.proofs.parts.Parts.judge_seen.Goals as goal

is_packet : (content : users.Content) (teid : ℕ) (payload : List ℕ) → users.packet_in content ≡ Some (teid, payload) → users.Packet teid payload ≡ content
is_packet (users.Packet t p) teid payload is = ap (λ (x : ℕ × List ℕ). users.Packet x.0 x.1) (sym (same_Some (t, p) (teid, payload) is))
is_packet content teid payload is = absurd cc

pub returns-in-Some : goal.returns-in-Some
returns-in-Some c =
    let old = state_of c.args.self.now in
    let m = c.args.seen.now in
    let said : users.packet_in m.content ≡ Some (c.in-Some.packet.0, c.in-Some.packet.1.now) = sym c.packet.ensures ∙ ap (option_map (λ p. (p.0, p.1.now))) c.in-Some.is in
    subst
    (λ (content : users.Content). IsJudgedBy (UserTaken old.role c.args.source.now (user_content_message m.seq content)) old c.judge_packet.result old)
    (is_packet m.content c.in-Some.packet.0 c.in-Some.packet.1.now said) c.judge_packet.ensures

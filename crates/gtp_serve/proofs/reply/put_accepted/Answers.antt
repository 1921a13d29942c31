use Rattle.std.proofs.Common.{◌≡◌, ◌∙◌, List, ℕ, ◌++◌, Some, OnOk, codes, sym, ap, append_assoc}
use Rattle.std.proofs.lemmas.Result.{on_ok_weaker}
use Rattle.json.specs.Json.{Json}
use Rattle.json.specs.Token.{Token}
use Rattle.json.specs.Tree.{json_tokens}
use Rattle.gtp_json.specs.reading.Tokens.{written, keyed}
use Rattle.gtp_json.proofs.Tokens.{member_tokens_are}
use Rattle.gtp_gateway.specs.user.Accepted.{Accepted}
use Rattle.gtp_serve.specs.Replies.{packet_of, accepted_json, accepted_members}
use Rattle.gtp_serve.proofs.reply.put_accepted.Goals as goal

pub returns : goal.returns
returns c =
    let packet : ℕ × List ℕ = (c.accepted.inside.bearer, c.accepted.inside.payload.now) in
    let json = accepted_json packet in
    let told : accepted_members (Some packet) ≡ accepted_members (Some (packet_of c.in-Some.accepted.now)) = ap (λ (a : Accepted). accepted_members (Some (packet_of a))) c.accepted.view_is in
    let after : c.key.new.self ++ json_tokens json ≡ c.args.out.now ++ written (accepted_members (Some packet)) =
    ap (λ (ts : List Token). ts ++ json_tokens json) c.in_ok-key.ensures.ok
    ∙ (append_assoc c.args.out.now (keyed (codes "accepted")) (json_tokens json)
    ∙ ap (λ (ts : List Token). c.args.out.now ++ ts) (sym (member_tokens_are (codes "accepted") json))) in
    let all : OnOk c.put_packet.result (c.put_packet.new.out ≡ c.args.out.now ++ written (accepted_members (Some (packet_of c.in-Some.accepted.now)))) =
    on_ok_weaker c.put_packet.result (λ e. e ∙ (after ∙ ap (λ (ms : List (List ℕ × Json)). c.args.out.now ++ written ms) told)) c.put_packet.ensures.ok in
    record { ok = rw c.in-Some.is all }

use Rattle.std.proofs.Common.{◌≡◌, Bool, true, false, ℕ, List, drop, sym, ◌∙◌, ap, cond}
use Rattle.gtp_machine.specs.Reading.{announces}
use Rattle.gtp_gateway.specs.receive.TwoMessages.{second_part}
use Rattle.gtp_gateway.proofs.TwoMessages.{parts_of, none_announced}
use Rattle.gtp_world.specs.Last.{last_octets, LastIsSecond, LastIsWhole}
use Rattle.gtp_world.proofs.laws.last_messages.Goals as goal

second : LastIsSecond
unfolding last_octets
second octets place at =
    let parts = parts_of octets at.front at.back at.announced in
    ap (λ (told : Bool). cond told (second_part octets) octets) parts.told ∙ parts.second ∙ sym at.rest

alone : LastIsWhole
unfolding last_octets
alone octets m is = ap (λ (told : Bool). cond told (second_part octets) octets) (none_announced octets m is)

pub returns : goal.returns
returns c = record { second = second; alone = alone }

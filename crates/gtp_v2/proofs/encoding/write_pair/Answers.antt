use Rattle.std.proofs.Common.{◌≡◌, ℕ, List, sym, subst}
use Rattle.gtp_v2.specs.Body.{message_value}
use Rattle.gtp_v2.specs.Pair.{IsDatagram, both, paired}
use Rattle.gtp_v2.proofs.Joined.{read_again}
use Rattle.gtp_v2.proofs.encoding.write_pair.Goals as goal

pub returns-clause-read_again : goal.returns-clause-read_again
returns-clause-read_again c first second =
    let a = message_value c.args.first.now in
    let b = message_value c.args.second.now in
    let is : c.in_ok-octets.octets.items ≡ paired c.in_ok-front.front.items c.in_ok-back.back.items = cc (c.in_ok-octets.ensures, c.deref.ensures.value, c.deref-2.ensures.value) in
    subst (λ (xs : List ℕ). IsDatagram xs (both a b)) (sym is)
    (read_again c.in_ok-front.front.items c.in_ok-back.back.items a b (c.in_ok-front.ensures.read_again.0 first)
    (c.in_ok-back.ensures.read_again.0 second))

use Rattle.std.proofs.Common.{◌≡◌, ◌++◌, Bool, refl, subst}
use Rattle.gtp_json.specs.Control.{fault_member}
use Rattle.gtp_json.specs.reading.Tokens.{written}
use Rattle.gtp_json.specs.Places.{user_members_at}
use Rattle.gtp_json.specs.Datagram.{has_places}
use Rattle.gtp_json.proofs.Tokens.{twice}
use Rattle.gtp_json.proofs.datagram.put_user_fault.Goals as goal

pub returns : goal.returns
returns c =
    let before = c.in_ok-put_before.ensures.ok in
    let told = λ (places : Bool). user_members_at places c.args.fault.now in
    let fault = told (has_places c.args.members) in
    let is = subst (λ places. c.put_fault.new.out ≡ c.put_before.new.out ++ written (fault_member (told places))) c.has_places.ensures c.in_ok-put_fault.ensures.ok in
    record {
      ok = (
        before.0 ++ fault_member fault,
        (before.0, before.1, refl),
        twice c.args.out.now c.put_before.new.out c.put_fault.new.out before.0 (fault_member fault) before.2 is,
      );
    }

use Rattle.std.proofs.Common.{ℕ, List, ◌++◌, refl, ap, subst, ◌∙◌}
use Rattle.json.specs.Json.{Json}
use Rattle.gtp_json.specs.reading.Tokens.{written}
use Rattle.gtp_json.specs.Places.{FaultMembers}
use Rattle.gtp_json.specs.Control.{fault_member}
use Rattle.gtp_json.proofs.Tokens.{twice}
use Rattle.gtp_json.proofs.datagram.put_control_fault.Goals as goal

pub returns : goal.returns
returns c =
    let before = c.in_ok-put_before.ensures.ok in
    let (shown, (fault, its, shown_is), is) = c.in_ok-put_fault.ensures.ok in
    let its_are = subst (λ places. FaultMembers places c.args.octets.now c.args.fault.now fault) c.has_places.ensures its in
    let written_is = is ∙ ap (λ (ms : List (List ℕ × Json)). c.put_before.new.out ++ written ms) shown_is in
    record {
      ok = (
        before.0 ++ fault_member fault,
        (fault, its_are, (before.0, before.1, refl)),
        twice c.args.out.now c.put_before.new.out c.put_fault.new.out before.0 (fault_member fault) before.2 written_is,
      );
    }

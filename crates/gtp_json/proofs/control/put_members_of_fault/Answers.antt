use Rattle.std.proofs.Common.{◌≡◌, ◌++◌, true, refl, codes, sym, subst, rules}
use Rattle.gtp_json.specs.Control.{placed_members}
use Rattle.gtp_json.specs.User.{some_member}
use Rattle.gtp_json.specs.Places.{FaultMembers}
use Rattle.gtp_json.proofs.Tokens.{twice}
use Rattle.gtp_json.proofs.control.put_members_of_fault.Goals as goal

pub returns : goal.returns
returns c =
    let octets = c.args.octets.now in
    let fault = c.args.fault.now in
    let placed = placed_members octets fault in
    let at = some_member (codes "at") c.fault_place.result in
    let asked : c.args.places ≡ true = search rules in
    let its = subst (λ places. FaultMembers places octets fault (placed ++ at)) (sym asked) (c.fault_place.result, c.fault_place.ensures, refl) in
    record { ok = (placed ++ at, its, twice c.args.out.now c.put_placed.new.out c.put_at.new.out placed at c.in_ok-put_placed.ensures.ok c.in_ok-put_at.ensures.ok) }

use Rattle.std.proofs.Common.{◌≡◌, ◌↔◌, ◌+◌, IsTrue, length, take, sym, ap, subst, ◌∙◌, arith}
use Rattle.gtp_v2.specs.declared.fault.V2Fault.TheVariants as faults
use Rattle.gtp_v2.specs.Pair.{IsDatagramFault}
use Rattle.gtp_json.specs.reading.Second.{IsSecondPlace}
use Rattle.gtp_json.proofs.FaultPlaces.{second_by}
use Rattle.gtp_json.proofs.places.second_place.Goals as goal

pub returns : goal.returns
returns c =
    let octets = c.args.octets.now in
    let size = c.size_of-size.result in
    let lacks = c.lacks_second.result in
    let (low, fits, front_is, whole) = c.in_ok-front.ensures.lookup.0 in
    let front : c.in_ok-front.front.now ≡ take (4 + size) octets = front_is ∙ ap (λ n. take n octets) (omega arith) in
    let decides = subst (λ f. IsTrue lacks ↔ IsDatagramFault f (faults.BadPiggyback (length f))) front c.lacks_second.ensures in
    subst (IsSecondPlace octets) (sym c.then_some.ensures) (second_by octets size lacks c.in-len4-up.len_at_least c.size_of-size.ensures fits decides)

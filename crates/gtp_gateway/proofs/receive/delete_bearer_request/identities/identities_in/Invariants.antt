use Rattle.std.proofs.Common.{◌≡◌, ◌++◌, map}
use Rattle.gtp_ie.specs.declared.value.ebi.EbiValue.{EbiValue}
use Rattle.gtp_ie.specs.Element.{all_of}
use Rattle.gtp_ie.specs.Value.{OfEbi}
use Rattle.gtp_v2.specs.Viewed.{values_of}
use Rattle.gtp_gateway.proofs.receive.delete_bearer_request.identities.identities_in.Given as goal

-- those that were read, and those that are left
abbrev pub invariant-loop-identity : goal.invariant-loop-identity
invariant-loop-identity l = map (λ (i : EbiValue). OfEbi i.0) l.identities.items ++ l.identity-iterator ≡ values_of 73 (all_of 73 1 l.view.elements)

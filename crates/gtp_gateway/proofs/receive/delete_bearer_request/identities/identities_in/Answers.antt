use Rattle.std.proofs.Common.{◌≡◌, ◌++◌, ◌∷◌, [], List, map, unwrap_or, sym, ap, ◌∙◌, append_assoc}
use Rattle.std.proofs.lemmas.List.{map_push, append-nil}
use Rattle.gtp_ie.specs.declared.value.ebi.EbiValue.{EbiValue}
use Rattle.gtp_ie.specs.Value.{Value, OfEbi}
use Rattle.gtp_v2.specs.Viewed.{has_several}
use Rattle.gtp_machine.specs.Decoded.{number_of}
use Rattle.gtp_gateway.proofs.DeleteBearerRequests.{numbers_read}
use Rattle.gtp_gateway.proofs.receive.delete_bearer_request.identities.identities_in.Goals as goal

abbrev says : EbiValue → Value
says i = OfEbi i.0

pub loop-identity-preserved : goal.loop-identity-preserved
loop-identity-preserved c =
    let items : List EbiValue = c.loop-identity.identities.items in
    let left : List Value = c.next.new.self in
    ap (λ (xs : List EbiValue). map says xs ++ left) c.in_ok-push.ensures.items ∙ ap (λ (vs : List Value). vs ++ left) (map_push says items c.in-Some.identity)
    ∙ append_assoc (map says items) (says c.in-Some.identity ∷ []) left ∙ ap (λ (vs : List Value). map says items ++ vs) (sym c.in-Some.ensures.steps) ∙ c.loop-identity.invariant

pub returns : goal.returns
returns c =
    let items : List EbiValue = c.loop-identity.identities.items in
    let all : map says items ≡ c.values-identity-items.result =
    sym (append-nil (map says items)) ∙ ap (λ (vs : List Value). map says items ++ vs) (sym c.in-None.ensures.steps.0) ∙ c.loop-identity.invariant ∙ sym c.values-identity-items.ensures.elements in
    sym (numbers_read items) ∙ ap (map (λ (v : Value). unwrap_or (number_of v) 0)) (all ∙ c.values-identity-items.ensures.row (ap (λ k. has_several k 73 1) c.requires))

-- Create Bearer Requests, where they lie and as they are judged.
use Rattle.std.proofs.Common.{◌≡◌, ◌↔◌, ℕ, Bool, true, false, IsTrue, List, [], ◌∷◌, map, Option, Some, None, refl, sym, ◌∙◌, ap}
use Rattle.std.specs.Prelude.{MatchOption, is_some, not}
use Rattle.gtp_ie.specs.Value.{Value}
use Rattle.gtp_tables.specs.Identity.{HasAll}
use Rattle.gtp_v2.specs.Datagram.{IsMessage}
use Rattle.gtp_v2.specs.Message.{MessageValue}
use Rattle.gtp_machine.specs.Choice.{HasFreeIdentity}
use Rattle.gtp_machine.specs.Decoded.{row_in, contexts_in, number_at, end_at, wanted, bearer_request_in, message_of}
use Rattle.gtp_machine.specs.Message.{CreateBearerRequest, Create_bearer_request}
use Rattle.gtp_machine.specs.Node.{Node}
use Rattle.gtp_machine.proofs.Octets.Readings.{reads_as}
use Rattle.gtp_gateway.specs.declared.receive.create_bearer_request.BearerRequest.{BearerRequest}
use Rattle.gtp_machine.specs.declared.message_type.MessageType.TheVariants as types
use Rattle.gtp_gateway.specs.receive.CreateBearerRequest.{ReadsCreateBearer, SaysCreateBearer}
use Rattle.gtp_machine.specs.MessageType.{type_at}

-- no further item came
pub none_further : {X : Type 0} (o : Option X) (left after : List X) (none : Bool) → is_some o ≡ not none
    → MatchOption o ((left ≡ []) × (after ≡ [])) (λ x. left ≡ x ∷ after) → IsTrue none ↔ (left ≡ [])
none_further None left after true is steps = (λ _. steps.0, λ _. refl)
none_further (Some x) left after false is steps = (λ yes. absurd (let no : false ≡ true = yes in cc), λ empty. absurd (let some : x ∷ after ≡ [] = sym steps ∙ empty in cc))
none_further o left after none is steps = absurd cc

-- where bearers of the session have all identities, none is free
pub none_free : (node : Node) (session : ℕ) → HasAll node.bearers session → HasFreeIdentity node session → ⊥
none_free node session all free =
    let has = all free.identity (record { least = free.free.range.low; most = free.free.range.high }) in
    free.free.unused has.teid has.bearer has.stands has.of has.has

-- ---- the message, by what was read of it

pub record IsCreateBearer (m : MessageValue) (r : BearerRequest) : Type 0 where
  pub request : CreateBearerRequest
  pub is : message_of m ≡ Create_bearer_request request
  pub says : SaysCreateBearer r request

alone_so : (alone : Bool) (further : List (List (List Value))) → IsTrue alone ↔ (further ≡ []) → IsTrue alone ↔ (map wanted further ≡ [])
alone_so alone [] test = (λ _. refl, λ _. test.1 refl)
alone_so alone (g ∷ further) test = (λ yes. absurd (let some : g ∷ further ≡ [] = test.0 yes in cc), λ empty. absurd cc)

pub create_bearer_is : (octets : List ℕ) (m : MessageValue) (r : BearerRequest) → IsMessage octets m → type_at m.kind ≡ Some types.CreateBearerRequest → ReadsCreateBearer m r → IsCreateBearer m r
unfolding row_in contexts_in
create_bearer_is octets m r is at reads = record {
  request = _;
  is = reads_as types.CreateBearerRequest octets m is at ∙ ap (bearer_request_in m) reads.contexts;
  says = record {
    number = sym reads.number;
    header = sym reads.header;
    linked = ap number_at reads.linked;
    user = ap end_at reads.user;
    alone = alone_so r.is_alone reads.further reads.alone;
  };
}

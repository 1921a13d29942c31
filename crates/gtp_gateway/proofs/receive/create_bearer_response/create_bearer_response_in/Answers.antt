use Rattle.std.proofs.Common.{ℕ, sym, ap, subst}
use Rattle.gtp_v2.specs.Viewed.{contexts_of, context_rows}
use Rattle.gtp_machine.specs.Decoded.{row_in, contexts_in, cause_at}
use Rattle.gtp_machine.specs.declared.message_type.MessageType.TheVariants as types
use Rattle.gtp_machine.proofs.Basics.Types.{type_kind}
use Rattle.gtp_machine.proofs.Octets.Readings.{reads_as}
use Rattle.gtp_gateway.specs.receive.ResponseContext.{ReadsOnly}
use Rattle.gtp_gateway.proofs.CreateBearerResponses.{given_only}
use Rattle.gtp_gateway.proofs.receive.create_bearer_response.create_bearer_response_in.Goals as goal

pub returns : goal.returns
unfolding row_in contexts_in
returns c =
    let m = c.args.view.now.message in
    let of = type_kind m.kind types.CreateBearerResponse c.requires.of in
    let r = c.response_in in
    record {
      response = _;
      is = reads_as types.CreateBearerResponse c.requires.spelled.0 m c.requires.spelled.1 c.requires.of;
      says = record {
        number = sym r.ensures.seq;
        header = sym r.ensures.header;
        cause = ap cause_at r.ensures.cause;
        contexts = given_only (contexts_of m) c.only_context_in.result (subst (λ (k : ℕ). ReadsOnly (context_rows k) (contexts_of m) c.only_context_in.result) of c.only_context_in.ensures);
      };
    }

use Rattle.std.proofs.Common.{ℕ, refl, sym, ◌∙◌, ap, subst}
use Rattle.gtp_ie.specs.Value.{OfFTeid, OfPaa}
use Rattle.gtp_v2.specs.Viewed.{contexts_of, context_rows, has_row, row_of}
use Rattle.gtp_machine.specs.Decoded.{row_in, contexts_in, cause_at, end_in, paa_in}
use Rattle.gtp_machine.specs.Element.{address_of, teid_in}
use Rattle.gtp_machine.specs.declared.message_type.MessageType.TheVariants as types
use Rattle.gtp_machine.proofs.Basics.Types.{type_kind}
use Rattle.gtp_machine.proofs.Octets.Readings.{reads_as}
use Rattle.gtp_gateway.specs.receive.ResponseContext.{ReadsOnly}
use Rattle.gtp_gateway.proofs.CreateSessionResponses.{created_only}
use Rattle.gtp_gateway.proofs.InPlace.{row_said}
use Rattle.gtp_gateway.proofs.receive.create_session_response.create_session_response_in.Goals as goal

pub returns : goal.returns
unfolding row_in contexts_in
returns c =
    let m = c.args.view.now.message in
    let of = type_kind m.kind types.CreateSessionResponse c.requires.of in
    let r = c.response_in in
    record {
      response = _;
      is = reads_as types.CreateSessionResponse c.requires.spelled.0 m c.requires.spelled.1 c.requires.of;
      says = record {
        number = sym r.ensures.seq;
        header = sym r.ensures.header;
        cause = ap cause_at r.ensures.cause;
        control = ap teid_in (row_said OfFTeid end_in (λ e. refl) (row_of 87 1 m) c.value.result (c.value.ensures.row (ap (λ k. has_row k 87 1) of))) ∙ sym c.teid_of.ensures;
        address = ap address_of (row_said OfPaa paa_in (λ p. refl) (row_of 79 0 m) c.value-2.result (c.value-2.ensures.row (ap (λ k. has_row k 79 0) of))) ∙ sym c.address_of.ensures;
        contexts = created_only (contexts_of m) c.only_context_in.result (subst (λ (k : ℕ). ReadsOnly (context_rows k) (contexts_of m) c.only_context_in.result) of c.only_context_in.ensures);
      };
    }

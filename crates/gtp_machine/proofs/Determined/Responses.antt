-- Responses.
use Rattle.std.proofs.Common.{◌≡◌, ℕ}
use Rattle.gtp_machine.specs.Choice.{HasPending}
use Rattle.gtp_machine.specs.Response.{EndsRequest}
use Rattle.gtp_machine.specs.Element.{PdnAddress}
use Rattle.gtp_machine.specs.Message.{CreateSessionRequest, CreateSessionResponse, CreateBearerResponse}
use Rattle.gtp_machine.specs.Node.{Role, Session, Node}
use Rattle.gtp_machine.specs.Input.{Outcome, Input}
use Rattle.gtp_machine.specs.Serving.{OpensSession, CreateSessionAnswered}
use Rattle.gtp_machine.specs.Packet.{OpensBearer, CreateBearerAnswered}
use Rattle.gtp_machine.proofs.Basics.Facts.{one_value}
use Rattle.gtp_machine.proofs.Determined.Alike.{Alike, Determines, the_same, says_it, unless_plain, unless_moved, unless_one}
use Rattle.gtp_machine.proofs.Determined.Witnesses.{one_pending}

module _ {role : Role} {first : Node} {input : Input} (old : Node) where
  pub response_finishes : (number : ℕ) {Fits : HasPending old number → Type 0} {outcome : Outcome} → Determines (Alike role first input) (EndsRequest old number Fits outcome)
  response_finishes number = unless_one (one_pending old number) says_it (λ at. unless_plain says_it says_it)

  opens_session : (a : CreateSessionResponse) (q : CreateSessionRequest) (session : ℕ) (s : Session) (address : PdnAddress)
      → Determines (Alike role first input) (OpensSession old a q session s address)
  opens_session a q session at address e f r s =
      let bearer : r.default.bearer ≡ s.default.bearer = one_value _ _ _ r.default.stands s.default.stands in
      the_same e f cc

  pub create_session_answered : (a : CreateSessionResponse) → Determines (Alike role first input) (CreateSessionAnswered a old)
  create_session_answered a =
      unless_one (one_pending old a.number) says_it (λ at.
      unless_moved
      (λ fits other f s.
      let request : other.request ≡ fits.request = cc in
      let session : other.session ≡ fits.session = cc in
      rw (request, session) at s)
      says_it (λ fits.
      unless_plain says_it (
      unless_moved
      (λ new other f s.
      let context : other.context ≡ new.context = cc in
      let session : other.at.session ≡ new.at.session = one_value _ _ _ other.at.stands new.at.stands in
      let address : other.address ≡ new.address = cc in
      rw (context, session, address) at s)
      says_it (λ new.
      unless_plain says_it (opens_session a fits.request fits.session new.at.session new.address)))))

  opens_bearer : (x : CreateBearerResponse) (bearer : ℕ) → Determines (Alike role first input) (OpensBearer old x bearer)
  opens_bearer x bearer e f r s =
      let found : r.at.bearer ≡ s.at.bearer = one_value _ _ _ r.at.stands s.at.stands in
      the_same e f cc

  pub create_bearer_answered : (x : CreateBearerResponse) → Determines (Alike role first input) (CreateBearerAnswered x old)
  create_bearer_answered x =
      unless_one (one_pending old x.number) says_it (λ at.
      unless_moved
      (λ fits other f s.
      let session : other.session ≡ fits.session = cc in
      let bearer : other.bearer ≡ fits.bearer = cc in
      rw (session, bearer) at s)
      says_it (λ fits.
      unless_plain says_it (
      unless_moved
      (λ new other f s.
      let context : other.context ≡ new.context = cc in
      rw context at s)
      says_it (λ new.
      unless_plain says_it (unless_plain says_it (unless_plain says_it (opens_bearer x fits.bearer)))))))

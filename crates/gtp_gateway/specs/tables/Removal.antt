-- Requests that go with what they are about.
use Rattle.std.specs.Prelude.{ℕ, ◌==◌, ◌||◌, Bool, false}
use Rattle.gtp_machine.specs.Removal.{on}
use Rattle.gtp_gateway.specs.declared.command.purpose.Purpose.{Purpose}
use Rattle.gtp_gateway.specs.command.Purpose.{session_of, bearer_of}

-- whether a request is about the session
abbrev pub goes_with_session : ℕ → Purpose → Bool
goes_with_session session purpose = on (λ t. t == session) (session_of purpose) || on (λ t. false) (bearer_of purpose)

-- whether a request is about the bearer
abbrev pub goes_with_bearer : ℕ → Purpose → Bool
goes_with_bearer bearer purpose = on (λ t. false) (session_of purpose) || on (λ t. t == bearer) (bearer_of purpose)

-- What is sent reads as its message.
use Rattle.std.proofs.Common.{◌≡◌, [], ◌∷◌, refl}
use Rattle.std.proofs.lemmas.List.Elements.{All-nil, All-cons}
use Rattle.gtp_machine.specs.Config.{Config}
use Rattle.gtp_machine.specs.Input.{Sending}
use Rattle.gtp_machine.specs.Spelling.{Datagram, datagram_of}
use Rattle.gtp_gateway.specs.messages.Sent.{ReadsBack, SendingReads, AreSent}

-- nothing is sent
pub none_sent : (config : Config) → AreSent config [] []
none_sent config = record { octets = refl; read = All-nil SendingReads }

-- one datagram is sent
pub one_sent : (config : Config) (d : Datagram) (s : Sending) → d ≡ datagram_of config s → ReadsBack s.messages → AreSent config (d ∷ []) (s ∷ [])
one_sent config d s is back = record { octets = λ i. is i ∷ []; read = All-cons SendingReads s [] back (All-nil SendingReads) }

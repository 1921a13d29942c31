-- What is sent for datagrams of the user plane.
use Rattle.std.specs.Prelude.{◌≡◌, [], ◌∷◌, None}
use Rattle.gtp_machine.specs.Message.{Error_indication, User_echo_response, Supported_extensions}
use Rattle.gtp_machine.specs.Config.{Config, user_end}
use Rattle.gtp_machine.specs.Node.{Node}
use Rattle.gtp_machine.specs.Input.{Came_to, Sending, nothing, Effect}
use Rattle.gtp_machine.specs.User.{udp_port}
use Rattle.gtp_machine.specs.declared.outcome.DropReason.TheVariants.{UnknownContext, UnknownExtension}
use Rattle.gtp_machine.specs.declared.outcome.Outcome.{Outcome}
use Rattle.gtp_machine.specs.declared.outcome.Outcome.TheVariants.{Dropped, Echoed}
use Rattle.gtp_gateway.specs.declared.user.reply.Reply.{Reply}
use Rattle.gtp_gateway.specs.declared.user.reply.Reply.TheVariants.{ErrorIndication, Notification, EchoResponse}
use Rattle.gtp_gateway.specs.declared.step.Step.{Step}
use Rattle.gtp_gateway.specs.messages.Sent.{AreSent}
use Rattle.gtp_gateway.specs.receive.Taken.{datagrams, plain_report}

-- what is sent: an Echo Response goes to where the request came from, all else to the peer
abbrev pub sending_of : Reply → Config → Sending
sending_of (ErrorIndication teid) config = record { destination = user_end config.peer.user; messages = Error_indication teid config.own.user ∷ [] }
sending_of Notification config = record { destination = user_end config.peer.user; messages = Supported_extensions (udp_port ∷ []) ∷ [] }
sending_of (EchoResponse to number) config = record { destination = to; messages = User_echo_response number ∷ [] }

-- what the datagram comes to
abbrev pub outcome_of : Reply → Outcome
outcome_of (ErrorIndication teid) = Dropped UnknownContext
outcome_of Notification = Dropped UnknownExtension
outcome_of (EchoResponse to number) = Echoed

-- a datagram for which this is sent: nothing changes
abbrev pub replied : Reply → Node → Effect
replied reply old = record { out = record nothing { sent = sending_of reply old.config ∷ [] }; outcome = Came_to (outcome_of reply); node = old }

-- the reply is sent, and nothing else is told
pub record IsReplyBy (reply : Reply) (config : Config) (step : Step) : Type 0 where
  pub sent : AreSent config (datagrams step.out) (sending_of reply config ∷ [])
  pub report : step.report ≡ plain_report (outcome_of reply)
  pub none : step.accepted ≡ None

-- Where `==` of two messages is true, contracts see the same message.
use Rattle.std.proofs.Common.{◌≡◌, ℕ, Option, refl, ap, sym}
use Rattle.std.specs.Prelude.{nat_eq}
use Rattle.std.specs.Bool.{Decides}
use Rattle.std.proofs.lemmas.Bool.Decides.{Decides-eqb}
use Rattle.gtp_values.proofs.Same.{app, and_then, whole_by, options_same}
use Rattle.gtp_v2.specs.declared.message.Message.{Message}
use Rattle.gtp_v2.specs.contracts.message.MessagePartialEq.TheImpl as message_eq
use Rattle.gtp_v2.specs.Message.{MessageValue}
use Rattle.gtp_v2.specs.Body.{Said, message_value}
use Rattle.gtp_v2.proofs.SameBodies.{bodies_same, bodies_one}

abbrev message : Option ℕ → ℕ → Option ℕ → Said → MessageValue
message teid seq priority said = record { kind = said.kind; teid = teid; seq = seq; priority = priority; content = said.content }

abbrev said_in : MessageValue → Said
said_in m = record { kind = m.kind; content = m.content }

pub messages_same : (a b : Message) → Decides ((message_eq.ghosts).eq a b) (message_value a ≡ message_value b)
messages_same a b =
    whole_by (λ e. app (app (app (ap message e.0) e.1.0) e.1.1.0) e.1.1.1) (λ e. (ap (λ m. m.teid) e, (ap (λ m. m.seq) e, (ap (λ m. m.priority) e, ap said_in e))))
    (and_then (options_same nat_eq Decides-eqb a.teid b.teid) (and_then (Decides-eqb a.seq b.seq) (and_then (options_same nat_eq Decides-eqb a.priority b.priority) (bodies_same a.body b.body))))

-- ---- nothing is hidden

pub messages_one : (a b : Message) → message_value a ≡ message_value b → a ≡ b
messages_one a b e =
    let teid : a.teid ≡ b.teid = ap (λ m. m.teid) e in
    let seq : a.seq ≡ b.seq = ap (λ m. m.seq) e in
    let priority : a.priority ≡ b.priority = ap (λ m. m.priority) e in
    let body : a.body ≡ b.body = bodies_one a.body b.body (ap said_in e) in
    let whole : b ≡ record { teid = a.teid; seq = a.seq; priority = a.priority; body = a.body } = rw (teid, seq, priority, body) refl in
    sym whole

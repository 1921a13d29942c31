-- What the steps of commands do not tell.
use Rattle.std.proofs.Common.{◌≡◌, ◌⊎◌, inl, inr, ⊎_elim, ℕ, List, refl, sym, ◌∙◌, ap, subst}
use Rattle.gtp_values.specs.declared.qos.Qos.{Qos}
use Rattle.gtp_machine.specs.declared.role.Role.{Role}
use Rattle.gtp_machine.specs.declared.role.Role.TheVariants.{Serving, Packet}
use Rattle.gtp_machine.specs.Command.{CommandStep, SessionBegun, SessionDeleted, BearerBegun, BearerDeleted, SessionReleased, EndMarked, EchoBegun, SendsPacket}
use Rattle.gtp_machine.specs.Choice.{HasBearer}
use Rattle.gtp_machine.specs.Input.{Specification, Command, Create_session, Delete_session, Create_bearer, Delete_bearer, Release_session, Mark_end}
use Rattle.gtp_machine.specs.Input.{Send_echo, Send_user, Effect, Out, nothing, refused}
use Rattle.gtp_machine.specs.Node.{Node}
use Rattle.gtp_machine.specs.Ordered.{Unless}
use Rattle.gtp_machine.specs.declared.outcome.Refusal.{Refusal}

-- only datagrams and packets that are handed in are told
abbrev pub IsPlain : Effect → Type 0
IsPlain e = e.out ≡ record nothing { sent = e.out.sent; handed = e.out.handed }

-- the command is refused
pub record IsRefusal (old : Node) (e : Effect) : Type 0 where
  pub why : Refusal
  pub is : e ≡ refused old why

-- only datagrams are told
abbrev pub IsQuiet : Effect → Type 0
IsQuiet e = e.out ≡ record nothing { sent = e.out.sent }

by : (e k : Effect) → e ≡ k → IsQuiet k → IsQuiet e
by e k is quiet = subst IsQuiet (sym is) quiet

-- a row of a column: where its test fails the effect is this, and else the column goes on
row : {A : Type 0} {Rest : A → Type 0} (e k : Effect) → Unless A (e ≡ k) Rest → IsQuiet k → ((x : A) → Rest x → IsQuiet e) → IsQuiet e
row e k (inl (fails, is)) quiet rest = by e k is quiet
row e k (inr (x, r)) quiet rest = rest x r

session_begun : (role : Role) (spec : Specification) (old : Node) (e : Effect) → SessionBegun role spec old e → IsQuiet e
session_begun Packet spec old e is = by e _ is refl
session_begun Serving spec old e r = row e _ r refl (λ room r. row e _ r refl (λ draws r. row e _ r refl (λ few b. by e _ b.gives refl)))

session_deleted : (role : Role) (session : ℕ) (old : Node) (e : Effect) → SessionDeleted role session old e → IsQuiet e
session_deleted Packet session old e is = by e _ is refl
session_deleted Serving session old e r = row e _ r refl (λ at r. row e _ r refl (λ active r. row e _ r refl (λ few b. by e _ b.gives refl)))

bearer_begun : (role : Role) (session : ℕ) (tft : List ℕ) (qos : Qos) (old : Node) (e : Effect) → BearerBegun role session tft qos old e → IsQuiet e
bearer_begun Serving session tft qos old e is = by e _ is refl
bearer_begun Packet session tft qos old e r = row e _ r refl (λ at r. row e _ r refl (λ active r. row e _ r refl (λ draws r. row e _ r refl (λ few b. by e _ b.gives refl))))

bearer_deleted : (role : Role) (session identity : ℕ) (old : Node) (e : Effect) → BearerDeleted role session identity old e → IsQuiet e
bearer_deleted Serving session identity old e is = by e _ is refl
bearer_deleted Packet session identity old e r = row e _ r refl (λ at r. row e _ r refl (λ named r. row e _ r refl (λ active r. row e _ r refl (λ few b. by e _ b.gives refl))))

session_released : (role : Role) (session : ℕ) (old : Node) (e : Effect) → SessionReleased role session old e → IsQuiet e
session_released Serving session old e is = by e _ is refl
session_released Packet session old e r = row e _ r refl (λ at r. row e _ r refl (λ active r. row e _ r refl (λ few b. by e _ b.gives refl)))

end_marked : (role : Role) (bearer : ℕ) (old : Node) (e : Effect) → EndMarked role bearer old e → IsQuiet e
end_marked Serving bearer old e is = by e _ is refl
end_marked Packet bearer old e r = row e _ r refl (λ at r. row e _ r refl (λ active r. row e _ r refl (λ before is. by e _ is refl)))

echo_begun : (old : Node) (e : Effect) → EchoBegun old e → IsQuiet e
echo_begun old e r = row e _ r refl (λ few b. by e _ b.gives refl)

-- a packet is handed in, or the command tells nothing but datagrams
pub record Hands (old : Node) (bearer : ℕ) (payload : List ℕ) (e : Effect) : Type 0 where
  pub at : HasBearer old bearer
  pub sends : SendsPacket old at.bearer payload e

-- which packet a command hands in, if any
abbrev pub Handing : Role → Node → Command → Effect → Type 0
Handing role old (Send_user bearer payload) e = IsRefusal old e ⊎ Hands old bearer payload e
Handing role old command e = IsQuiet e

pub handing : (role : Role) (command : Command) (old : Node) (e : Effect) → CommandStep role command old e → Handing role old command e
handing role (Create_session spec) old e r = session_begun role spec old e r
handing role (Delete_session session) old e r = session_deleted role session old e r
handing role (Create_bearer session tft qos) old e r = bearer_begun role session tft qos old e r
handing role (Delete_bearer session identity) old e r = bearer_deleted role session identity old e r
handing role (Release_session session) old e r = session_released role session old e r
handing role (Mark_end bearer) old e r = end_marked role bearer old e r
handing role Send_echo old e r = echo_begun old e r
handing role (Send_user bearer payload) old e (inl (not_so, is)) = inl (record { why = _; is = is })
handing role (Send_user bearer payload) old e (inr (at, inl (not_so, is))) = inl (record { why = _; is = is })
handing role (Send_user bearer payload) old e (inr (at, inr (active, inl (not_so, is)))) = inl (record { why = _; is = is })
handing role (Send_user bearer payload) old e (inr (at, inr (active, inr (goes, inl (not_so, is))))) = inl (record { why = _; is = is })
handing role (Send_user bearer payload) old e (inr (at, inr (active, inr (goes, inr (short, s))))) = inr (record { at = at; sends = s })

quietly : (e : Effect) → IsQuiet e → IsPlain e
quietly e quiet = quiet ∙ ap (λ h. record nothing { sent = e.out.sent; handed = h }) (sym (ap (λ (o : Out). o.handed) quiet))

-- a command tells nothing but datagrams and packets that are handed in
pub plainly : (role : Role) (command : Command) (old : Node) (e : Effect) → CommandStep role command old e → IsPlain e
plainly role (Create_session spec) old e r = quietly e (session_begun role spec old e r)
plainly role (Delete_session session) old e r = quietly e (session_deleted role session old e r)
plainly role (Create_bearer session tft qos) old e r = quietly e (bearer_begun role session tft qos old e r)
plainly role (Delete_bearer session identity) old e r = quietly e (bearer_deleted role session identity old e r)
plainly role (Release_session session) old e r = quietly e (session_released role session old e r)
plainly role (Mark_end bearer) old e r = quietly e (end_marked role bearer old e r)
plainly role Send_echo old e r = quietly e (echo_begun old e r)
plainly role (Send_user bearer payload) old e r =
    ⊎_elim (λ refusal. subst IsPlain (sym refusal.is) refl) (λ hands. subst IsPlain (sym hands.sends.gives) refl)
    (handing role (Send_user bearer payload) old e r)

-- Whatever comes to a sound node, there is an effect.
use Rattle.std.proofs.Common.{◌≡◌, ◌≢◌, inl, inr, ⊎_elim, ℕ, ◌+◌, ◌≤◌, ◌<◌, Bool, true, false, List, [], ◌∷◌, length, Option, Some, None, refl, sym, ◌∙◌, ap, arith}
use Rattle.std.specs.Prelude.{IsTrue, is_some, ◌||◌}
use Rattle.std.specs.FinMap.{get, len}
use Rattle.gtp_values.specs.Counter.{age_of}
use Rattle.gtp_values.specs.declared.counter.Age.{Age}
use Rattle.gtp_values.specs.declared.counter.Age.TheVariants.{Same, Later, Earlier}
use Rattle.gtp_values.specs.declared.address.Endpoint.{Endpoint}
use Rattle.gtp_machine.specs.Ordered.{Unless}
use Rattle.gtp_machine.specs.Message.{Echo, CreateSessionRequest, CreateSessionResponse, CreateBearerRequest, CreateBearerResponse}
use Rattle.gtp_machine.specs.Message.{DeleteBearerRequest, RemovedBearer, Message, Packet_data, End_marker, Error_indication, recovery_of}
use Rattle.gtp_machine.specs.Node.{Role, Serving, Packet, Session, Arrival, Held, Node}
use Rattle.gtp_machine.specs.Input.{ControlReading, Control_message, Faulty, Control_fault, FaultyRequest, UserReading, User_message}
use Rattle.gtp_machine.specs.Input.{Extension_needed, User_fault, Command, Create_session, Delete_session, Create_bearer, Delete_bearer}
use Rattle.gtp_machine.specs.Input.{Release_session, Mark_end, Send_echo, Send_user, Move, Resend, Give_up, Forget, Commanded, Control_came}
use Rattle.gtp_machine.specs.Input.{User_came, Moves_on, Effect}
use Rattle.gtp_tables.specs.declared.pool.IpVersion.{IpVersion}
use Rattle.gtp_tables.specs.declared.pool.IpVersion.TheVariants.{V4, V6}
use Rattle.gtp_machine.specs.Choice.{IsFree, IsFreeNumber, HasFreeAddress, AsksFor, IsPart, CanGive, HasBearer}
use Rattle.gtp_machine.specs.Removal.{without_bearer}
use Rattle.gtp_machine.specs.Recovery.{peer_restarted, Judges, Weighs, Hears}
use Rattle.gtp_machine.specs.Move.{MoveStep, AreLeft}
use Rattle.gtp_machine.specs.Response.{EchoAnswered}
use Rattle.gtp_machine.specs.User.{UserTaken, UserRead}
use Rattle.gtp_machine.specs.Command.{NamesBearer, CommandStep}
use Rattle.gtp_machine.specs.Answer.{IsNew, Faulted, TakesReading, ControlStep}
use Rattle.gtp_machine.specs.MessageType.{answers_type}
use Rattle.gtp_machine.specs.Serving.{CreateSessionAnswered, CreateBearerAsked, RemovesEach, DeleteBearerTaken, DeleteBearerAsked, ServingTakes}
use Rattle.gtp_machine.specs.Config.{Template, template_asked}
use Rattle.gtp_machine.specs.Packet.{AnswersWith, CreateSessionAsked, CreateBearerAnswered, PacketTakes}
use Rattle.gtp_machine.specs.Sound.{IsSound, CanMove, IsNotEmpty, AlwaysSteps}
use Rattle.gtp_machine.proofs.Sound.Changes.{known_sound, is_session, is_bearer}
use Rattle.gtp_machine.proofs.Sound.Rows.{restarted_sound}
use Rattle.std.proofs.lemmas.Option.{same_Some as some_is}
use Rattle.gtp_machine.proofs.Sound.Free.{free_teid, free_key}
use Rattle.gtp_machine.proofs.Basics.Kinds.{by_serving, by_packet}

-- the row gives this effect
gives : (f : Effect) → IsNotEmpty (λ (e : Effect). e ≡ f)
gives f none = none f refl

-- where a condition fails there is an effect, and where it holds
tries : (P : Type 0) (Fails : Effect → Type 0) (Next : P → Effect → Type 0) → IsNotEmpty Fails → ((p : P) → IsNotEmpty (Next p)) → IsNotEmpty (λ e. Unless P (Fails e) (λ p. Next p e))
tries P Fails Next fails next none = fails (λ e f. none e (inl ((λ p. next p (λ e n. none e (inr (p, n)))), f)))

-- an effect of a record that names it
pub free_number : (old : Node) → len old.pending < 256 → (n : ℕ) × IsFreeNumber old n
free_number old few = let r = free_key old.pending few in (r.0, record { unused = r.2; small = r.1 })

one_free : (old : Node) → length old.drawn + 1 ≤ 16777215 → (t : ℕ) × IsFree old t
one_free old few = let r = free_teid old.counter old.drawn (omega (arith, few)) in (r.0, record { counted = r.1; numbered = r.2; undrawn = r.3 })

two_free : (old : Node) → length old.drawn + 2 ≤ 16777215 → (c : ℕ) × (u : ℕ) × IsFree old c × IsFree old u × (c ≢ u)
two_free old few =
    let c = free_teid old.counter old.drawn (omega (arith, few)) in
    let u = free_teid old.counter (c.0 ∷ old.drawn) (omega (arith, few)) in
    (c.0, u.0, record { counted = c.1; numbered = c.2; undrawn = c.3 }, record { counted = u.1; numbered = u.2; undrawn = λ was. u.3 (inr was) }, λ same. u.3 (inl (sym same)))

module _ (old : Node) where
  command : (role : Role) → IsSound role old → (c : Command) → IsNotEmpty (λ e. CommandStep role c old e)
  command Packet sound (Create_session spec) = gives _
  command Serving sound (Create_session spec) =
      tries _ _ _ (gives _) (λ room. tries _ _ _ (gives _) (λ draws. tries _ _ _ (gives _) (λ few none.
      let n = free_number old few.few in
      let t = two_free old draws.left in
      none _ (record { control = t.0; user = t.1; number = n.0; control_free = t.2; user_free = t.3; apart = t.4; number_free = n.1; gives = refl }))))
  command Packet sound (Delete_session session) = gives _
  command Serving sound (Delete_session session) =
      tries _ _ _ (gives _) (λ at. tries _ _ _ (gives _) (λ active. tries _ _ _ (gives _) (λ few none.
      let n = free_number old few.few in
      none _ (record { number = n.0; number_free = n.1; gives = refl }))))
  command Serving sound (Create_bearer session tft qos) = gives _
  command Packet sound (Create_bearer session tft qos) =
      tries _ _ _ (gives _) (λ at. tries _ _ _ (gives _) (λ active. tries _ _ _ (gives _) (λ draws. tries _ _ _ (gives _) (λ few none.
      let n = free_number old few.few in
      let t = one_free old draws.left in
      none _ (record { user = t.0; number = n.0; user_free = t.1; number_free = n.1; gives = refl })))))
  command Serving sound (Delete_bearer session identity) = gives _
  command Packet sound (Delete_bearer session identity) =
      tries _ _ _ (gives _) (λ at. tries _ _ _ (gives _) (λ named. tries _ _ _ (gives _) (λ active. tries _ _ _ (gives _) (λ few none.
      let n = free_number old few.few in
      none _ (record { number = n.0; number_free = n.1; gives = refl })))))
  command Serving sound (Release_session session) = gives _
  command Packet sound (Release_session session) =
      tries _ _ _ (gives _) (λ at. tries _ _ _ (gives _) (λ active. tries _ _ _ (gives _) (λ few none.
      let n = free_number old few.few in
      none _ (record { number = n.0; number_free = n.1; gives = refl }))))
  command Serving sound (Mark_end bearer) = gives _
  command Packet sound (Mark_end bearer) = tries _ _ _ (gives _) (λ at. tries _ _ _ (gives _) (λ active. tries _ _ _ (gives _) (λ before. gives _)))
  command role sound Send_echo = tries _ _ _ (gives _) (λ few none.
      let n = free_number old few.few in
      none _ (record { number = n.0; number_free = n.1; gives = refl }))
  command role sound (Send_user bearer payload) =
      tries _ _ _ (gives _) (λ at. tries _ _ _ (gives _) (λ active. tries _ _ _ (gives _) (λ goes. tries _ _ _ (gives _) (λ short none.
      let of = (sound.contexts.each_bearer bearer at.bearer at.stands).of in
      none _ (record { of = record { session = of.0; stands = of.1 }; gives = refl })))))

  user_taken : (role : Role) → IsSound role old → (source : Endpoint) (m : Message) → IsNotEmpty (λ e. UserTaken role source m old e)
  user_taken role sound source (Packet_data t p) =
      tries _ _ _ (gives _) (λ at. tries _ _ _ (gives _) (λ active. tries _ _ _ (gives _) (λ comes none.
      let of = (sound.contexts.each_bearer t at.bearer at.stands).of in
      none _ (record { of = record { session = of.0; stands = of.1 }; gives = refl }))))
  user_taken Packet sound source (End_marker t) = gives _
  user_taken Serving sound source (End_marker t) = tries _ _ _ (gives _) (λ at. tries _ _ _ (gives _) (λ active. gives _))
  user_taken role sound source (Error_indication t address) = tries _ _ _ (gives _) (λ named. gives _)
  user_taken role sound source _ = gives _

  user_read : (role : Role) → IsSound role old → (source : Endpoint) (reading : UserReading) → IsNotEmpty (λ e. UserRead role source reading old e)
  user_read role sound source (User_message m) = user_taken role sound source m
  user_read role sound source Extension_needed = gives _
  user_read role sound source (User_fault fault) = gives _

  create_session_answered : IsSound Serving old → (a : CreateSessionResponse) → IsNotEmpty (λ e. CreateSessionAnswered a old e)
  create_session_answered sound a =
      tries _ _ _ (gives _) (λ at. tries _ _ _ (gives _) (λ fits. tries _ _ _ (gives _) (λ accepts. tries _ _ _ (gives _) (λ new. tries _ _ _ (gives _) (λ both none.
      let ask = is_session Serving old sound a.number at.pending fits.request at.waits fits.asked in
      none _ (record {
        default = record {
          bearer = ask.0.default.0;
          stands = ap (λ (k : CreateSessionRequest). get old.bearers k.context.user.teid)
              (sym ask.1) ∙ ask.0.default.1;
        };
        gives = refl;
      }))))))

  create_bearer_answered : IsSound Packet old → (x : CreateBearerResponse) → IsNotEmpty (λ e. CreateBearerAnswered x old e)
  create_bearer_answered sound x =
      tries _ _ _ (gives _) (λ at. tries _ _ _ (gives _)
      (λ fits. tries _ _ _ (gives _) (λ accepts. tries _ _ _ (gives _)
      (λ new. tries _ _ _ (gives _) (λ both. tries _ _ _ (gives _) (λ returned. tries _ _ _ (gives _) (λ can none.
      let ask = (is_bearer Packet old sound x.number at.pending fits.request at.waits fits.asked).0 in
      let key : fits.bearer ≡ ask.request.context.user.teid = some_is fits.bearer ask.request.context.user.teid (sym fits.about_bearer ∙ ask.bearer) in
      let there : HasBearer old ask.request.context.user.teid = ⊎_elim (λ w. record { bearer = w.0; stands = w.1 }) (λ w. record { bearer = w.0.0; stands = w.0.1 }) ask.wanted in
      none _ (record { at = record { bearer = there.bearer; stands = ap (λ k. get old.bearers k) key ∙ there.stands }; gives = refl }))))))))

  create_bearer_asked : (request : Arrival) (q : CreateBearerRequest) → IsNotEmpty (λ e. CreateBearerAsked request q old e)
  create_bearer_asked request q =
      tries _ _ _ (gives _) (λ room. tries _ _ _ (gives _) (λ at. tries _ _ _ (gives _) (λ active. tries _ _ _ (gives _) (λ one. tries _ _ _ (gives _) (λ linked. tries _ _ _ (gives _) (λ free none.
      let t = one_free old free.1.left in
      none _ (record { user = t.0; identity = free.0.identity; user_free = t.1; identity_free = free.0.free; gives = refl })))))))

  -- of each version an address is given, or none
  part_given : (pdn : ℕ) (version : IpVersion) → ((o : Option (List ℕ)) → IsPart old pdn version o → ⊥) → ⊥
  part_given pdn version none = none None (λ h. none (Some h.1.address) (h.0, h.1.free))

  -- and of one of them, where one can be
  some_given : (pdn : ℕ) (v4 v6 : Option (List ℕ)) → IsPart old pdn V4 v4 → IsPart old pdn V6 v6 → CanGive old pdn → IsTrue (is_some v4 || is_some v6)
  some_given pdn (Some x) v6 r s can = refl
  some_given pdn None (Some y) r s can = refl
  some_given pdn None None r s can = absurd (by can.version can.asked can.free)
    where
      by : (version : IpVersion) → AsksFor pdn version → HasFreeAddress old version → ⊥
      by V4 asked free = r (asked, free)
      by V6 asked free = s (asked, free)

  answers_with : (found : Option Template) (request : Arrival) (a : CreateSessionResponse) (cause session : ℕ) (s : Session) (made : Node)
      → IsNotEmpty (λ e. AnswersWith found request a cause session s made e)
  answers_with None request a cause session s made = gives _
  answers_with (Some t) request a cause session s made =
      tries _ _ _ (gives _) (λ can none.
      let n = free_number made can.1.few in
      let t = one_free made can.0.left in
      none _ (record { user = t.0; number = n.0; user_free = t.1; number_free = n.1; gives = refl }))

  create_session_asked : (request : Arrival) (q : CreateSessionRequest) → IsNotEmpty (λ e. CreateSessionAsked request q old e)
  create_session_asked request q =
      tries _ _ _ (gives _) (λ room. tries _ _ _ (gives _)
      (λ one. tries _ _ _ (gives _) (λ identity. tries _ _ _ (gives _)
      (λ configured. tries _ _ _ (gives _) (λ served. tries _ _ _ (gives _) (λ few. tries _ _ _ (gives _) (λ can none.
      let t = two_free old few.1.left in
      part_given q.pdn V4 (λ v4 v4_given. part_given q.pdn V6 (λ v6 v6_given.
      answers_with (template_asked old.config q.access_point) request _ _ _ _ _ (λ e answer.
      none e (record {
        control = t.0;
        user = t.1;
        address = record { v4 = v4; v6 = v6 };
        control_free = t.2;
        user_free = t.3;
        apart = t.4;
        given =
            record { v4 = v4_given; v6 = v6_given; some_part = some_given q.pdn v4 v6 v4_given v6_given can };
        gives = answer;
      })))))))))))

removes_each : (session : ℕ) (identities : List ℕ) (from : Node) → ((contexts : List RemovedBearer) (new : Node) → RemovesEach session identities from contexts new → ⊥) → ⊥
removes_each session [] from none = none [] from (refl, refl)
removes_each session (identity ∷ rest) from none =
    let fails : NamesBearer from session identity → ⊥ = λ named. removes_each session rest (without_bearer from named.key) (λ contexts new r. none _ new (contexts, inr (named, (refl, r)))) in
    removes_each session rest from (λ contexts new r. none _ new (contexts, inl (fails, (refl, r))))

module _ (old : Node) where
  delete_bearer_taken : (request : Arrival) (d : DeleteBearerRequest) (linked : Option ℕ) (s : Session) → IsNotEmpty (λ e. DeleteBearerTaken request d linked old s e)
  delete_bearer_taken request d (Some identity) s = tries _ _ _ (gives _) (λ linked. gives _)
  delete_bearer_taken request d None s =
      tries _ _ _ (gives _) (λ few none.
      removes_each d.header d.identities old (λ contexts left r. none _ (record { contexts = contexts; left = left; removes = r; gives = refl })))

  delete_bearer_asked : (request : Arrival) (d : DeleteBearerRequest) → IsNotEmpty (λ e. DeleteBearerAsked request d old e)
  delete_bearer_asked request d = tries _ _ _ (gives _) (λ room. tries _ _ _ (gives _) (λ at. tries _ _ _ (gives _) (λ opened. delete_bearer_taken request d d.linked at.session)))

  echo_answered : (a : Echo) → IsNotEmpty (λ e. EchoAnswered a old e)
  echo_answered a = tries _ _ _ (gives _) (λ at. tries _ _ _ (gives _) (λ fits. gives _))

  serving_takes : IsSound Serving old → (request : Arrival) (m : Message) → IsNotEmpty (λ e. ServingTakes request m old e)
  serving_takes sound request =
      by_serving (λ m. IsNotEmpty (λ e. ServingTakes request m old e))
      (λ q. gives _)
      echo_answered
      (create_session_answered old sound)
      (λ d. tries _ _ _ (gives _) (λ at. tries _ _ _ (gives _) (λ fits. gives _)))
      (create_bearer_asked old request)
      (delete_bearer_asked request)
      (λ m drops none. none _ (drops.so request old _ refl))

  packet_takes : IsSound Packet old → (request : Arrival) (m : Message) → IsNotEmpty (λ e. PacketTakes request m old e)
  packet_takes sound request =
      by_packet (λ m. IsNotEmpty (λ e. PacketTakes request m old e))
      (λ q. gives _)
      echo_answered
      (create_session_asked old request)
      (λ d. tries _ _ _ (gives _) (λ room. tries _ _ _ (gives _) (λ at. tries _ _ _ (gives _) (λ linked. gives _))))
      (create_bearer_answered old sound)
      (λ d. tries _ _ _ (gives _) (λ at. tries _ _ _ (gives _) (λ fits. gives _)))
      (λ m drops none. none _ (drops.so request old _ refl))

module _ (role : Role) (Takes : Node → Effect → Type 0) (takes : (node : Node) → IsSound role node → IsNotEmpty (λ e. Takes node e)) (old : Node) (sound : IsSound role old) where
  judges : (counter : ℕ) (a : Age) → IsNotEmpty (λ e. Judges Takes old counter a e)
  judges counter Same = takes old sound
  judges counter Later = takes (peer_restarted old counter) (restarted_sound old role sound counter)
  judges counter Earlier = gives _

  weighs : (counter : ℕ) (known : Option ℕ) → IsNotEmpty (λ e. Weighs Takes old counter known e)
  weighs counter None = takes (record old { known = Some counter }) (known_sound role old sound (Some counter))
  weighs counter (Some known) = judges counter (age_of known counter)

  hears : (heard : Option ℕ) → IsNotEmpty (λ e. Hears Takes old heard e)
  hears None = takes old sound
  hears (Some counter) = λ none. weighs counter old.known (λ e r. none _ (e, r, refl))

faulted_gives : (answered : Bool) (request : Arrival) (f : FaultyRequest) (old : Node) → IsNotEmpty (λ e. Faulted answered request f old e)
faulted_gives true request f old = gives _
faulted_gives false request f old = gives _

module _ (role : Role) (Takes : Arrival → Message → Node → Effect → Type 0)
    (rows : (node : Node) → IsSound role node → (request : Arrival) (m : Message) → IsNotEmpty (λ e. Takes request m node e)) (old : Node) (sound : IsSound role old) (request : Arrival) where
  reads : (reading : ControlReading) → IsNotEmpty (λ e. TakesReading role Takes reading request old e)
  reads (Control_message m) = tries _ _ _ (gives _) (λ taken. hears role (Takes request m) (λ node s. rows node s request m) old sound (recovery_of m))
  reads (Faulty f) = faulted_gives (answers_type role f.kind) request f old
  reads (Control_fault fault) = gives _

  -- an answer that is held is sent, and else the datagram is read
  control : (reading : ControlReading) → IsNotEmpty (λ e. ControlStep (TakesReading role Takes reading) request old e)
  control reading = tries _ _ _ (gives _) (λ peer none.
      let new : IsNew old request = λ held stands same. none _ (inl (record { held = held; stands = stands; same = same; gives = refl })) in
      reads reading (λ e r. none e (inr (new, r))))

-- something is left, in order
pub some_left : (request : Arrival) (held : List Held) → IsNotEmpty (λ left. AreLeft request held left)
some_left request [] none = none [] refl
some_left request (h ∷ held) none = some_left request held (λ rest left.
    let other : h.request ≡ request → ⊥ = λ same. none rest (inl (same, left)) in
    none (h ∷ rest) (inr (other, (rest, left, refl))))

moves : (old : Node) (move : Move) → CanMove old move → IsNotEmpty (λ e. MoveStep old move e)
moves old (Resend number) at none = none _ (record { at = at; gives = refl })
moves old (Give_up number) at none = none _ (record { at = at; gives = refl })
moves old (Forget request) held none = some_left request old.held (λ rest left. none _ (record { held = held.0; stood = held.1; same = held.2; rest = rest; left = left; gives = refl }))

pub always_steps : AlwaysSteps
always_steps role old (Commanded c) sound can = command old role sound c
always_steps Serving old (Control_came request reading) sound can = control Serving ServingTakes serving_takes old sound request reading
always_steps Packet old (Control_came request reading) sound can = control Packet PacketTakes packet_takes old sound request reading
always_steps role old (User_came source reading) sound can = tries _ _ _ (gives _) (λ peer. user_read old role sound source reading)
always_steps role old (Moves_on move) sound can = moves old move can

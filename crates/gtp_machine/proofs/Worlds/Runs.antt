-- What holds of the world at each moment of a run.
use Rattle.std.proofs.Common.{◌≡◌, inl, inr, ⊎_elim, ℕ, ◌+◌, ◌<◌, ◌≤◌, true, false, List, [], ◌∷◌, ◌++◌, Some, None, slice_get, refl, sym, ◌∙◌, ap, subst, arith}
use Rattle.gtp_values.specs.FiniteMap.{Among}
use Rattle.gtp_machine.specs.Step.{Step, Done}
use Rattle.gtp_machine.specs.Config.{Addresses, Config}
use Rattle.gtp_machine.specs.Message.{CreateSessionResponse, CreateBearerRequest, Message, Create_session_response, Create_bearer_request}
use Rattle.gtp_machine.specs.Message.{Create_bearer_response, Other_control, Plane, Control, User, plane_of}
use Rattle.gtp_machine.specs.Node.{Role, Serving, Packet, Arrival, Node, fresh_node}
use Rattle.gtp_machine.specs.Input.{Move, Input, Commanded, Control_came, Moves_on, Control_message, Entry, Out, Effect, messages, datagrams}
use Rattle.gtp_machine.specs.Answer.{IsNew}
use Rattle.gtp_machine.specs.World.{with_steps, steps_of, logged, World, other, Side, By, HasBy, Sent, SentDatagram, HasSent, signed, flat, side_of}
use Rattle.gtp_machine.specs.World.{with_side, stepped, moved, Note, noted, Moves, MovesTwice, Event, Happens, arrival, first_came, second_came}
use Rattle.gtp_machine.specs.World.{marked_late, delivered_on, cut_on, restarted, Run, begun, start}
use Rattle.gtp_machine.specs.Tick.{TickStep, ticked}
use Rattle.gtp_machine.specs.Laws.{EachNamedTeidWasDrawn}
use Rattle.gtp_machine.specs.Safety.{EachOwed}
use Rattle.gtp_machine.proofs.Basics.Versions.{cut_of_version}
use Rattle.gtp_machine.proofs.Basics.FiniteMaps.{Each-empty, found-empty, among_at, Among-cases}
use Rattle.gtp_machine.proofs.Basics.Datagrams.{IsSentWhole, EachFew, flat_grows, few_grows, sent_whole}
use Rattle.gtp_machine.proofs.Basics.Kinds.{creates}
use Rattle.gtp_machine.proofs.Requests.Opening.{opening, none_forgotten}
use Rattle.gtp_machine.proofs.Worlds.Coming.{IsTimely, Brings, Orders, Sends, Joins, Begins, Walks, one_event, each_event}
use Rattle.gtp_machine.proofs.Origins.Drawing.{Drawing, Drawing-step, Drawing-elsewhere, Drawing-restart, Drawing-marked, Extends-signed, by_before, by_cases, by_other, unowned}
use Rattle.gtp_machine.proofs.Origins.Entries.{Once, AnsweredOnce, same_entry}
use Rattle.gtp_machine.proofs.Changes.Steps.{Logs}
use Rattle.gtp_machine.proofs.Changes.After.{Knows, Knows-later, After, Contexts}
use Rattle.gtp_machine.proofs.Rows.Common.{SameIs}
use Rattle.gtp_machine.proofs.Origins.Naming.{step_told, back_of, Names-step}
use Rattle.gtp_machine.proofs.Rows.Stepping.{Carried, Taken, step_after}
use Rattle.gtp_machine.proofs.Worlds.Hearing.{Hearing, Hearing-step, Hearing-peer, same_counter}
use Rattle.gtp_machine.proofs.Worlds.Ticking.{move_quiet, moved_nothing, moved_twice}
use Rattle.gtp_machine.proofs.Worlds.Kept.{Packets, Packets-step, Packets-elsewhere, Remembers, Remembers-step, Remembers-elsewhere}
use Rattle.gtp_machine.proofs.Worlds.Kept.{Remembers-restart, AnsweredOnce-step, Making, Making-step, Making-fresh, Making-late}
use Rattle.gtp_values.proofs.Outcomes.{none_some}
use Rattle.std.specs.FinMap.{empty}
use Rattle.gtp_machine.proofs.Basics.Facts.{false_true, one_more}

-- what holds of one gateway of the world
pub record SideInvariant (history : List Sent) (role : Role) (side peer : Side) : Type 0 where
  pub draws : Drawing side role history
  pub knows : Knows role history side.node
  pub hearing : Hearing peer side.node.known side.seen
  pub making : Making side

-- what holds of the logs of the world
pub record AreLogs (late : ℕ) (history : List Sent) (handed accepted : List (By Entry)) : Type 0 where
  pub once : late ≡ 0 → AnsweredOnce history
  pub packets : (role : Role) → Packets history handed role
  pub owed : EachOwed late handed accepted
  pub named : EachNamedTeidWasDrawn history

-- what holds of the world at each moment; `own` is the packet gateway's addresses
pub record Invariant (own : Addresses) (w : World) : Type 0 where
  pub serving : SideInvariant w.history Serving w.serving w.packet
  pub packet : SideInvariant w.history Packet w.packet w.serving
  pub own_is : w.packet.node.config.own ≡ own
  pub remembers : Remembers w.history (arrival own) w.serving
  pub logs : AreLogs w.late w.history w.handed w.accepted
  pub kept : flat w.datagrams ≡ w.history
  pub few : EachFew w.datagrams

-- what holds of each gateway
pub side_in : {own : Addresses} (w : World) → Invariant own w → (role : Role) → SideInvariant w.history role (side_of w role) (side_of w (other role))
side_in w inv Serving = inv.serving
side_in w inv Packet = inv.packet

-- what a step of one gateway leaves of it
side_step : (history : List Sent) (role : Role) (side peer : Side) (taken : Arrival → Message → Type 0) (e : Effect) → SideInvariant history role side peer
    → Drawing peer (other role) history → After role history taken side.node e → ((a : Arrival) (n : Message) → taken a n → IsNew side.node a)
    → ((a : Arrival) (n : Message) → creates role n ≡ true → taken a n → Among a side.forgotten → Among a side.late_requests)
    → SideInvariant (history ++ signed role (messages e.out.sent)) role (stepped side e) peer
side_step history role side peer taken e inv there after is_new marked = record {
  draws = Drawing-step side role history inv.draws e after.draws;
  knows = after.knows;
  hearing = Hearing-step peer there.few side.node.known e.out.heard e.node.known side.seen inv.hearing after.known (λ c h. let told = after.told c h in there.told told.message c told.sent told.tells);
  making = Making-step history role side taken e inv.making after.logs is_new marked;
}

-- what a step of the other gateway leaves of this one
side_elsewhere : (history : List Sent) (role : Role) (side peer peer_after : Side) (sent : List Message) → peer_after.first ≡ peer.first
    → peer.restarts ≤ peer_after.restarts → SideInvariant history role side peer
    → SideInvariant (history ++ signed (other role) sent) role side peer_after
side_elsewhere history role side peer peer_after sent first more inv = record {
  draws = Drawing-elsewhere side role history inv.draws sent;
  knows = Knows-later role history (history ++ signed (other role) sent) (Extends-signed history (other role) sent) side.node inv.knows;
  hearing = Hearing-peer peer peer_after first more side.node.known side.seen inv.hearing;
  making = inv.making;
}

-- the other gateway has another side
peer_changes : (history : List Sent) (role : Role) (side peer new : Side) → new.first ≡ peer.first → peer.restarts ≤ new.restarts
    → SideInvariant history role side peer → SideInvariant history role side new
peer_changes history role side peer new first more inv =
    record
    { draws = inv.draws; knows = inv.knows; hearing = Hearing-peer peer new first more side.node.known side.seen inv.hearing; making = inv.making }

-- what each gateway sent was handed in, also after a step of one of them
packets_step : (history : List Sent) (handed : List (By Entry)) (by : Role) (node : Node) (taken : Arrival → Message → Type 0) (e : Effect)
    → ((role : Role) → Packets history handed role) → Logs history by taken node e → (role : Role)
    → Packets (history ++ signed by (messages e.out.sent)) (handed ++ signed by e.out.handed) role
packets_step history handed Serving node taken e each logs Serving = Packets-step history handed Serving node taken e (each Serving) logs
packets_step history handed Serving node taken e each logs Packet = Packets-elsewhere history handed Packet (messages e.out.sent) e.out.handed (each Packet)
packets_step history handed Packet node taken e each logs Serving = Packets-elsewhere history handed Serving (messages e.out.sent) e.out.handed (each Serving)
packets_step history handed Packet node taken e each logs Packet = Packets-step history handed Packet node taken e (each Packet) logs

-- a packet that is accepted was handed in
owed_now : (history : List Sent) (role : Role) (taken : Arrival → Message → Type 0) (old : Node) (e : Effect) (handed : List (By Entry))
    → Once history Serving → Once history Packet → AnsweredOnce history → Logs history role taken old e → Packets history handed (other role)
    → (n : Entry) → Among n e.out.accepted → HasBy handed (other role) n
owed_now history Serving taken old e handed so po once logs packets n among =
    let a = logs.accepted n among in
    let h = packets.sent n.target n.payload a.0 in
    subst (λ x. HasBy handed Packet x) (same_entry history so po once Serving h.entry n h.names h.carries (packets.each h.entry h.among) a.1) h.among
owed_now history Packet taken old e handed so po once logs packets n among =
    let a = logs.accepted n among in
    let h = packets.sent n.target n.payload a.0 in
    subst (λ x. HasBy handed Serving x) (same_entry history so po once Packet h.entry n h.names h.carries (packets.each h.entry h.among) a.1) h.among

owed_step : (history : List Sent) (handed accepted : List (By Entry)) (by : Role) (taken : Arrival → Message → Type 0) (old : Node) (e : Effect)
    → Once history Serving → Once history Packet → AnsweredOnce history → Logs history by taken old e → ((role : Role) → Packets history handed role)
    → ((role : Role) (n : Entry) → HasBy accepted role n → HasBy handed (other role) n) → (role : Role) (n : Entry)
    → HasBy (accepted ++ signed by e.out.accepted) role n → HasBy (handed ++ signed by e.out.handed) (other role) n
owed_step history handed accepted by taken old e so po once logs packets owed role n among = by_before handed (other role) by e.out.handed n (elim (by_cases accepted role by e.out.accepted n among) [
  | inl was ↦ owed role n was
  | inr now ↦ subst (λ r. HasBy handed (other r) n) (sym now.0) (owed_now history by taken old e handed so po once logs (packets (other by)) n now.1)
])

-- counters of one age are one counter
same_is : (history : List Sent) (role : Role) (side peer : Side) → SideInvariant history role side peer → Drawing peer (other role) history → (m : Message)
    → HasSent history (other role) m → SameIs side.node m
same_is history role side peer inv there m came k c tells known age_is = same_counter peer there.few side.seen k c (inv.hearing.latest k known) (there.told m c came tells) age_is

-- a create request that comes late is marked so
abbrev pub IsMarked : Role → Side → Input → Type 0
IsMarked role side input = (a : Arrival) (m : Message) → creates role m ≡ true → input ≡ Control_came a (Control_message m) → Among a side.forgotten → Among a side.late_requests

-- an input that brings no message
abbrev IsQuiet : Input → Type 0
IsQuiet (Control_came a (Control_message m)) = ⊥
IsQuiet _ = Unit {0}

quiet_marked : (role : Role) (side : Side) (input : Input) → IsQuiet input → IsMarked role side input
quiet_marked role side input quiet a m create is = absurd (subst IsQuiet is quiet)

-- a message for which no context is made
not_create : (role : Role) (request a : Arrival) (n m : Message) → creates role n ≡ false → creates role m ≡ true → Control_came request (Control_message n) ≡ Control_came a (Control_message m) → ⊥
not_create role request a n m lesser create is = let same : n ≡ m = cc is in false_true (creates role n) lesser (ap (creates role) same ∙ create)

pub lesser_marked : (role : Role) (side : Side) (request : Arrival) (n : Message) → creates role n ≡ false → IsMarked role side (Control_came request (Control_message n))
lesser_marked role side request n lesser a m create is = absurd (not_create role request a n m lesser create is)

-- a datagram that comes is the one that was sent
came_so : (from : Addresses) (m : Message) (a : Arrival) (n : Message) → Control_came (arrival from m) (Control_message m) ≡ Control_came a (Control_message n) → a ≡ arrival from m
came_so from m a n is = cc

sent_marked : (w : World) (role : Role) (from : Addresses) (p : Plane) (m : Message) → (p ≡ Control → IsTimely w role (arrival from m)) → IsMarked role (side_of w role) (delivered_on p from (m ∷ []))
sent_marked w role from Control m timely a n create is gone =
    let same = came_so from m a n is in
    subst (λ k. Among k (side_of w role).late_requests) (sym same) ((timely refl).marked (subst (λ k. Among k (side_of w role).forgotten) same gone))
sent_marked w role from User m timely a n create is gone = absurd (subst IsQuiet is tt)

cut_quiet : (p : Plane) (from : Addresses) (datagram : List Message) (count : ℕ) → IsQuiet (cut_on p from datagram count)
cut_quiet Control from datagram count = tt
cut_quiet User from datagram count = tt

other_lesser : (role : Role) → creates role (Other_control 0) ≡ false
other_lesser Serving = refl
other_lesser Packet = refl

pub brings_marked : (w : World) (role : Role) (input : Input) → Brings w role input → IsMarked role (side_of w role) input
brings_marked w role input (Orders command) = quiet_marked role (side_of w role) (Commanded command) tt
brings_marked w role input (Sends m sent timely) = sent_marked w role (side_of w (other role)).node.config.own (plane_of m) m timely
brings_marked w role input (Joins request) = lesser_marked role (side_of w role) request (Other_control 0) (other_lesser role)
brings_marked w role input (Begins p from datagram count) = quiet_marked role (side_of w role) _ (cut_quiet p from datagram count)

module _ (own : Addresses) where
  -- a create request comes as the packet gateway sends it, and where nothing is late its answer was not given up
  pub record Comes (w : World) (input : Input) : Type 0 where
    pub keyed : (a : Arrival) (m : Message) → creates Serving m ≡ true → input ≡ Control_came a (Control_message m) → a ≡ arrival own m
    pub on_time : (a : Arrival) (m : Message) → creates Serving m ≡ true → input ≡ Control_came a (Control_message m) → w.late ≡ 0 → Among a w.serving.forgotten → ⊥

  serving_moves : (w : World) → Invariant own w → (input : Input) (e : Effect) → Carried Serving w.history w.serving.node input → Comes w input
      → IsMarked Serving w.serving input → Step Serving w.serving.node input e → Invariant own (moved w Serving e)
  serving_moves w inv input e carried comes marked step =
      let so = inv.serving.draws.once in
      let po = inv.packet.draws.once in
      let taken = Taken w.serving.node input in
      let after : After Serving w.history taken w.serving.node e =
      step_after w.history so po w.serving.node Serving (unowned w.serving Serving w.history inv.serving.draws) inv.packet.draws.dated
      inv.packet.draws.proper inv.serving.knows input e carried step in
      record {
        serving = side_step w.history Serving w.serving w.packet taken e inv.serving inv.packet.draws after (λ a m t. t.1) (λ a m create t. marked a m create t.0);
        packet = side_elsewhere w.history Packet w.packet w.serving (stepped w.serving e) (messages e.out.sent) refl (omega arith) inv.packet;
        own_is = inv.own_is;
        remembers =
            Remembers-step w.history (arrival own) w.serving taken e inv.serving.draws inv.serving.knows.drawn after.draws inv.remembers after.logs
            (λ a m create t. comes.keyed a m create t.0);
        logs = record {
          once =
              λ z. AnsweredOnce-step w.history (arrival own) w.serving taken e inv.serving.draws inv.serving.knows.drawn after.draws inv.remembers
              after.logs (λ a m create t. comes.keyed a m create t.0) po (λ a m t. t.1) (λ a m create t. comes.on_time a m create t.0 z)
              (inv.logs.once z);
          packets = packets_step w.history w.handed Serving w.serving.node taken e inv.logs.packets after.logs;
          owed = λ z. owed_step w.history w.handed w.accepted Serving taken w.serving.node e so po (inv.logs.once z) after.logs inv.logs.packets (inv.logs.owed z);
          named =
              Names-step w.history Serving e inv.logs.named
              (step_told w.history inv.logs.named Serving w.serving.node (back_of w.history Serving w.serving.node inv.serving.knows) input e carried
              step);
        };
        kept = flat_grows w.datagrams w.history inv.kept Serving e.out.sent;
        few = few_grows w.datagrams inv.few Serving (datagrams e.out.sent) after.few;
      }

  packet_moves : (w : World) → Invariant own w → (input : Input) (e : Effect) → Carried Packet w.history w.packet.node input → IsMarked Packet w.packet input
      → Step Packet w.packet.node input e → Invariant own (moved w Packet e)
  packet_moves w inv input e carried marked step =
      let so = inv.serving.draws.once in
      let po = inv.packet.draws.once in
      let taken = Taken w.packet.node input in
      let after : After Packet w.history taken w.packet.node e =
      step_after w.history so po w.packet.node Packet (unowned w.packet Packet w.history inv.packet.draws) inv.serving.draws.dated
      inv.serving.draws.proper inv.packet.knows input e carried step in
      record {
        serving = side_elsewhere w.history Serving w.serving w.packet (stepped w.packet e) (messages e.out.sent) refl (omega arith) inv.serving;
        packet = side_step w.history Packet w.packet w.serving taken e inv.packet inv.serving.draws after (λ a m t. t.1) (λ a m create t. marked a m create t.0);
        own_is = ap (λ (c : Config). c.own) after.draws.config ∙ inv.own_is;
        remembers = Remembers-elsewhere w.history (arrival own) w.serving (messages e.out.sent) inv.remembers;
        logs = record {
          once =
              λ z x y s t x_has y_has. inv.logs.once z x y s t (by_other w.history Serving (messages e.out.sent) (Create_bearer_response x) x_has)
              (by_other w.history Serving (messages e.out.sent) (Create_bearer_response y) y_has);
          packets = packets_step w.history w.handed Packet w.packet.node taken e inv.logs.packets after.logs;
          owed = λ z. owed_step w.history w.handed w.accepted Packet taken w.packet.node e so po (inv.logs.once z) after.logs inv.logs.packets (inv.logs.owed z);
          named = Names-step w.history Packet e inv.logs.named (step_told w.history inv.logs.named Packet w.packet.node (back_of w.history Packet w.packet.node inv.packet.knows) input e carried step);
        };
        kept = flat_grows w.datagrams w.history inv.kept Packet e.out.sent;
        few = few_grows w.datagrams inv.few Packet (datagrams e.out.sent) after.few;
      }

  -- no step changes how a gateway is set up
  pub config_stays : (w : World) → Invariant own w → (role : Role) (input : Input) (e : Effect) → Carried role w.history (side_of w role).node input
      → Step role (side_of w role).node input e → e.node.config ≡ (side_of w role).node.config
  config_stays w inv role input e carried step =
      let here = side_in w inv role in
      let there = (side_in w inv (other role)).draws in
      (step_after w.history inv.serving.draws.once inv.packet.draws.once (side_of w role).node role
      (unowned (side_of w role) role w.history here.draws) there.dated there.proper here.knows input e carried step).draws.config

  logs_late : (w : World) → Invariant own w → AreLogs (1 + w.late) w.history w.handed w.accepted
  logs_late w inv = record { once = λ z. absurd (one_more w.late z); packets = inv.logs.packets; owed = λ z. absurd (one_more w.late z); named = inv.logs.named }

  -- one gateway has another side, and the rest is as it was
  side_changes : (w : World) → Invariant own w → (role : Role) (late : ℕ) (new : Side) → SideInvariant w.history role new (side_of w (other role))
      → new.first ≡ (side_of w role).first → (side_of w role).restarts ≤ new.restarts → new.node.config.own ≡ (side_of w role).node.config.own
      → (role ≡ Serving → Remembers w.history (arrival own) (side_of w role) → Remembers w.history (arrival own) new)
      → AreLogs late w.history w.handed w.accepted → Invariant own (record (with_side w role new) { late = late })
  side_changes w inv Serving late new here first more same remembers logs =
      record {
        serving = here;
        packet = peer_changes w.history Packet w.packet w.serving new first more inv.packet;
        own_is = inv.own_is;
        remembers = remembers refl inv.remembers;
        logs = logs;
        kept = inv.kept;
        few = inv.few;
      }
  side_changes w inv Packet late new here first more same remembers logs =
      record {
        serving = peer_changes w.history Serving w.serving w.packet new first more inv.serving;
        packet = here;
        own_is = same ∙ inv.own_is;
        remembers = inv.remembers;
        logs = logs;
        kept = inv.kept;
        few = inv.few;
      }

  -- one more late delivery leaves the rest as it is
  pub late_keeps : (w : World) → Invariant own w → (role : Role) (a : Arrival) → Invariant own (marked_late w role a)
  late_keeps w inv role a =
      let here = side_in w inv role in
      side_changes w inv role (1 + w.late) (record (side_of w role) { late_requests = a ∷ (side_of w role).late_requests })
      (record { draws = Drawing-marked (side_of w role) role w.history here.draws a; knows = here.knows; hearing = here.hearing; making = Making-late (side_of w role) a here.making })
      refl (omega arith) refl
      (λ is was x t has gives. let i = was x t has gives in
      record {
        request = i.request;
        sent = i.sent;
        echoed = i.echoed;
        where_now =
            ⊎_elim (λ here. inl here) (λ earlier. inr (record { start = earlier.start; before = earlier.before; is = earlier.is })) i.where_now;
      })
      (logs_late w inv)

  -- a note changes nothing of this
  noted_keeps : (w : World) (note : Note) → Invariant own w → Invariant own (noted w note)
  noted_keeps w note inv = record { serving = inv.serving; packet = inv.packet; own_is = inv.own_is; remembers = inv.remembers; logs = inv.logs; kept = inv.kept; few = inv.few }

  -- nor do the steps that are kept
  steps_keep : (w : World) (role : Role) (steps : List Done) → Invariant own w → Invariant own (with_steps w role steps)
  steps_keep w Serving steps inv = record { serving = inv.serving; packet = inv.packet; own_is = inv.own_is; remembers = inv.remembers; logs = inv.logs; kept = inv.kept; few = inv.few }
  steps_keep w Packet steps inv = record { serving = inv.serving; packet = inv.packet; own_is = inv.own_is; remembers = inv.remembers; logs = inv.logs; kept = inv.kept; few = inv.few }

  noted_logged : (w : World) (note : Note) (role : Role) (steps : List Done) → Invariant own w → Invariant own (logged (noted w note) role steps)
  noted_logged w note role steps inv = steps_keep (noted w note) role (steps_of (noted w note) role ++ steps) (noted_keeps w note inv)

  quiet_comes : (w : World) (input : Input) → IsQuiet input → Comes w input
  quiet_comes w input quiet = record { keyed = λ a m create is. absurd (subst IsQuiet is quiet); on_time = λ a m create is. absurd (subst IsQuiet is quiet) }

  lesser_comes : (w : World) (request : Arrival) (n : Message) → creates Serving n ≡ false → Comes w (Control_came request (Control_message n))
  lesser_comes w request n lesser =
      record {
        keyed = λ a m create is. absurd (not_create Serving request a n m lesser create is);
        on_time = λ a m create is. absurd (not_create Serving request a n m lesser create is);
      }

  -- a step on what brings no message
  steps_quietly : (w : World) → Invariant own w → (role : Role) (input : Input) (e : Effect) → IsQuiet input → Carried role w.history (side_of w role).node input
      → Step role (side_of w role).node input e → Invariant own (moved w role e)
  steps_quietly w inv Serving input e quiet carried step = serving_moves w inv input e carried (quiet_comes w input quiet) (quiet_marked Serving w.serving input quiet) step
  steps_quietly w inv Packet input e quiet carried step = packet_moves w inv input e carried (quiet_marked Packet w.packet input quiet) step

  -- a tick, move by move
  ticks : (w : World) → Invariant own w → (role : Role) (moves : List Move) (out : Out) (after : Node) → TickStep (side_of w role).node moves out after
      → Invariant own (moved w role (ticked out after))
  ticks w inv role [] out after r = subst (λ k. Invariant own k) (sym (moved_nothing w role out after r.0 r.1)) inv
  ticks w inv Serving (move ∷ moves) out after (e, rest, step, others, is) =
      subst (λ k. Invariant own k) (moved_twice w Serving e rest after (move_quiet w.serving.node move e step) ∙ ap (λ o. moved w Serving (ticked o after)) (sym is))
      (ticks (moved w Serving e) (steps_quietly w inv Serving (Moves_on move) e tt tt step) Serving moves rest after others)
  ticks w inv Packet (move ∷ moves) out after (e, rest, step, others, is) =
      subst (λ k. Invariant own k) (moved_twice w Packet e rest after (move_quiet w.packet.node move e step) ∙ ap (λ o. moved w Packet (ticked o after)) (sym is))
      (ticks (moved w Packet e) (steps_quietly w inv Packet (Moves_on move) e tt tt step) Packet moves rest after others)

  -- the datagram with a number is of one message or of a pair, and these were sent
  pub found_whole : (w : World) → Invariant own w → (number : ℕ) (s : SentDatagram) → slice_get w.datagrams number ≡ Some s → IsSentWhole w.history s.role s.what
  found_whole w inv number s is = sent_whole w.datagrams w.history inv.kept inv.few s (among_at w.datagrams number s is)

  -- what comes to a gateway, by its plane
  pub carried : (w : World) → Invariant own w → (role : Role) (p : Plane) (m : Message) → HasSent w.history (other role) m
      → Carried role w.history (side_of w role).node (delivered_on p (side_of w (other role)).node.config.own (m ∷ []))
  carried w inv role Control m came = inl (came, same_is w.history role (side_of w role) (side_of w (other role)) (side_in w inv role) (side_in w inv (other role)).draws m came)
  carried w inv role User m came = came

  keyed_so : (from : Addresses) (m : Message) → from ≡ own → (a : Arrival) (n : Message) → Control_came (arrival from m) (Control_message m) ≡ Control_came a (Control_message n) → a ≡ arrival own n
  keyed_so from m from_is a n is =
      let same : m ≡ n = cc is in
      came_so from m a n is ∙ ap (λ k. arrival k m) from_is ∙ ap (λ k. arrival own k) same

  -- a message that was sent comes
  sent_comes : (w : World) → Invariant own w → (p : Plane) (m : Message) → (p ≡ Control → IsTimely w Serving (arrival w.packet.node.config.own m))
      → Comes w (delivered_on p w.packet.node.config.own (m ∷ []))
  sent_comes w inv Control m timely = record {
    keyed = λ a n create is. keyed_so w.packet.node.config.own m inv.own_is a n is;
    on_time = λ a n create is z gone. (timely refl).on_time z (subst (λ k. Among k w.serving.forgotten) (came_so w.packet.node.config.own m a n is) gone);
  }
  sent_comes w inv User m timely = quiet_comes w _ tt

  moved_new : (w : World) (role : Role) (e : Effect) (note : Note) (steps : List Done) (new : World) → new ≡ logged (noted (moved w role e) note) role steps
      → Invariant own (moved w role e) → Invariant own new
  moved_new w role e note steps new is inv = subst (λ k. Invariant own k) (sym is) (noted_logged (moved w role e) note role steps inv)

  -- all that comes
  pub brings_carried : (w : World) → Invariant own w → (role : Role) (input : Input) → Brings w role input → Carried role w.history (side_of w role).node input
  brings_carried w inv role input (Orders command) = tt
  brings_carried w inv role input (Sends m sent timely) = carried w inv role (plane_of m) m sent
  brings_carried w inv role input (Joins request) = inr (record { kind = 0; is = refl })
  brings_carried w inv role input (Begins Control from datagram count) = cut_of_version datagram count
  brings_carried w inv role input (Begins User from datagram count) = tt

  brings_comes : (w : World) → Invariant own w → (input : Input) → Brings w Serving input → Comes w input
  brings_comes w inv input (Orders command) = quiet_comes w (Commanded command) tt
  brings_comes w inv input (Sends m sent timely) = sent_comes w inv (plane_of m) m timely
  brings_comes w inv input (Joins request) = lesser_comes w request (Other_control 0) refl
  brings_comes w inv input (Begins p from datagram count) = quiet_comes w _ (cut_quiet p from datagram count)

  brings_moves : (w : World) → Invariant own w → (role : Role) (input : Input) (new : World) → Brings w role input → Moves w role input new → Invariant own new
  brings_moves w inv Serving input new b m =
      moved_new w Serving m.effect _ _ new m.becomes
      (serving_moves w inv input m.effect (brings_carried w inv Serving input b) (brings_comes w inv input b) (brings_marked w Serving input b) m.step)
  brings_moves w inv Packet input new b m =
      moved_new w Packet m.effect _ _ new m.becomes
      (packet_moves w inv input m.effect (brings_carried w inv Packet input b) (brings_marked w Packet input b) m.step)

  -- the messages of a pair come, one after the other; the second is late where its answer was given up
  module _ (w : World) (inv : Invariant own w) (a : CreateSessionResponse) (r : CreateBearerRequest)
      (a_sent : HasSent w.history Packet (Create_session_response a)) (r_sent : HasSent w.history Packet (Create_bearer_request r)) where
    abbrev key : Arrival
    key = arrival w.packet.node.config.own (Create_bearer_request r)

    pub first_carried : Carried Serving w.history w.serving.node (first_came w.packet.node.config.own (Create_session_response a))
    first_carried = inl (a_sent, same_is w.history Serving w.serving w.packet inv.serving inv.packet.draws (Create_session_response a) a_sent)

    module _ (e : Effect) (step : Step Serving w.serving.node (first_came w.packet.node.config.own (Create_session_response a)) e) where
      pub after_first : Invariant own (moved w Serving e)
      after_first =
          serving_moves w inv (first_came w.packet.node.config.own (Create_session_response a)) e first_carried
          (lesser_comes w _ (Create_session_response a) refl) (lesser_marked Serving w.serving _ (Create_session_response a) refl) step

      pub second_sent : HasSent (moved w Serving e).history Packet (Create_bearer_request r)
      second_sent = by_before w.history Packet Serving (messages e.out.sent) (Create_bearer_request r) r_sent

      pub second_carried : Carried Serving (moved w Serving e).history (moved w Serving e).serving.node (second_came w.packet.node.config.own (Create_bearer_request r))
      second_carried =
          inl (
            second_sent,
            same_is (moved w Serving e).history Serving (moved w Serving e).serving (moved w Serving e).packet after_first.serving
                after_first.packet.draws (Create_bearer_request r) second_sent,
          )

      -- the first gives up no answer
      pub still_forgotten : (x : Arrival) → Among x (moved w Serving e).serving.forgotten → Among x w.serving.forgotten
      still_forgotten x gone =
          ⊎_elim (λ was. was) (λ now. absurd (subst (Among x) (none_forgotten w.serving.node _ e (opening _ a w.serving.node e step)) now))
          (Among-cases x w.serving.forgotten e.out.forgot gone)

      pub second_marked : (Among key w.serving.forgotten → Among key w.serving.late_requests)
          → IsMarked Serving (moved w Serving e).serving (second_came w.packet.node.config.own (Create_bearer_request r))
      second_marked marked x n create is gone =
          let same = came_so w.packet.node.config.own (Create_bearer_request r) x n is in
          subst (λ k. Among k w.serving.late_requests) (sym same) (marked (subst (λ k. Among k w.serving.forgotten) same (still_forgotten x gone)))

      second_comes : (w.late ≡ 0 → Among key w.serving.forgotten → ⊥) → Comes (moved w Serving e) (second_came w.packet.node.config.own (Create_bearer_request r))
      second_comes on_time = record {
        keyed = λ x n create is. keyed_so w.packet.node.config.own (Create_bearer_request r) inv.own_is x n is;
        on_time = λ x n create is z gone. on_time z (subst (λ k. Among k w.serving.forgotten) (came_so w.packet.node.config.own (Create_bearer_request r) x n is) (still_forgotten x gone));
      }

    pair_moves : (new : World) → IsTimely w Serving key
        → MovesTwice w Serving (first_came w.packet.node.config.own (Create_session_response a)) (second_came w.packet.node.config.own (Create_bearer_request r)) new → Invariant own new
    pair_moves new timely m =
        let w1 = moved w Serving m.effect in
        moved_new w1 Serving m.next _ _ new m.becomes
        (serving_moves w1 (after_first m.effect m.step) (second_came w.packet.node.config.own (Create_bearer_request r)) m.next
        (second_carried m.effect m.step) (second_comes m.effect m.step timely.on_time) (second_marked m.effect m.step timely.marked) m.follows)

fresh_contexts : (history : List Sent) (role : Role) → Contexts role history empty empty
fresh_contexts history Serving = record { sessions_asked = Each-empty _; bearers_asked = Each-empty _ }
fresh_contexts history Packet = record { sessions_made = Each-empty _; bearers_made = Each-empty _ }

fresh_knows : (history : List Sent) (role : Role) (config : Config) (counter : ℕ) → Knows role history (fresh_node config counter)
fresh_knows history role config counter = record {
  contexts = fresh_contexts history role;
  matched = Each-empty _;
  drawn = Each-empty _;
  standing = Each-empty _;
  ready = Each-empty _;
  closed = λ t b s none. absurd (found-empty t b none);
  pending = Each-empty _;
  held = λ h none. absurd none;
}

nothing_heard : (peer : Side) → Hearing peer None []
nothing_heard peer = record { none = λ e r none. none; latest = λ k e. absurd (none_some k e) }

side_restart : (history : List Sent) (role : Role) (side peer : Side) → side.restarts < 127 → SideInvariant history role side peer → SideInvariant history role (restarted side) peer
side_restart history role side peer room inv = record {
  draws = Drawing-restart side role history inv.draws room;
  knows = fresh_knows history role _ _;
  hearing = nothing_heard peer;
  making = Making-fresh side;
}

begins_side : (config : Config) (first : ℕ) (role : Role) (peer : Side) → SideInvariant [] role (begun config first) peer
begins_side config first role peer = record {
  draws = record {
    counter = omega arith;
    few = omega arith;
    present = λ t none. absurd none;
    drawn = λ m t none. absurd none;
    once = λ m n t none. absurd none;
    told = λ m r none. absurd none;
    dated = λ m t none. absurd none;
    proper = λ m none. absurd none;
  };
  knows = fresh_knows [] role _ _;
  hearing = nothing_heard peer;
  making = record { kept = λ a none. absurd none; once = λ a on_time. tt };
}

module _ (own : Addresses) where
  restarts : (w : World) → Invariant own w → (role : Role) → (side_of w role).restarts < 127 → Invariant own (with_side w role (restarted (side_of w role)))
  restarts w inv Serving room =
      side_changes own w inv Serving w.late (restarted w.serving) (side_restart w.history Serving w.serving w.packet room inv.serving) refl
      (omega arith) refl (λ is. Remembers-restart w.history (arrival own) w.serving inv.serving.draws) inv.logs
  restarts w inv Packet room =
      side_changes own w inv Packet w.late (restarted w.packet) (side_restart w.history Packet w.packet w.serving room inv.packet) refl (omega arith)
      refl (λ is. absurd (cc is)) inv.logs

  walks : Walks (Invariant own) (Invariant own)
  walks = record {
    notes = λ w note inv. noted_keeps own w note inv;
    late = λ w role request inv same. late_keeps own w inv role request;
    restarts =
        λ w role note inv same few. steps_keep own (noted (with_side w role (restarted (side_of w role))) note) role []
        (noted_keeps own (with_side w role (restarted (side_of w role))) note (restarts w inv role few));
    ticks = λ w role new inv same t. subst (λ k. Invariant own k) (sym t.becomes) (noted_logged own (moved w role (ticked t.out t.after)) _ role _ (ticks own w inv role t.moves t.out t.after t.tick));
    moves = λ w role input new inv same b m. brings_moves own w inv role input new b m;
    pairs = λ w a r new inv same a_sent r_sent timely m. pair_moves own w inv a r a_sent r_sent new timely m;
  }

  happens : (w : World) → Invariant own w → (event : Event) (new : World) → Happens w event new → Invariant own new
  happens w inv = one_event (Invariant own) (Invariant own) (λ w role request inv. late_keeps own w inv role request) (found_whole own) walks w inv inv

  -- what is kept where that holds
  keeps : (P : World → Type 0) → Walks (Invariant own) P → (w : World) → Invariant own w → P w → (events : List Event) (new : World) → Run w events new → P new
  keeps P k = each_event (Invariant own) P (λ w role request inv. late_keeps own w inv role request) (found_whole own) k happens

pub begins : (serving packet : Config) (serving_counter packet_counter : ℕ) → Invariant packet.own (start serving packet serving_counter packet_counter)
begins serving packet serving_counter packet_counter = record {
  serving = begins_side serving serving_counter Serving (begun packet packet_counter);
  packet = begins_side packet packet_counter Packet (begun serving serving_counter);
  own_is = refl;
  remembers = λ x t none. absurd none;
  logs = record {
    once = λ z x y s t none. absurd none;
    packets = λ role. record { sent = λ t p none. absurd none; each = λ e none. absurd none };
    owed = λ z role e none. absurd none;
    named = λ role m none. absurd none;
  };
  kept = refl;
  few = λ s none. absurd none;
}

-- what is kept holds at the end of each run, and so does the invariant
pub from_start : (serving packet : Config) (serving_counter packet_counter : ℕ) (P : World → Type 0) → Walks (Invariant packet.own) P → P (start serving packet serving_counter packet_counter)
    → (events : List Event) (w : World) → Run (start serving packet serving_counter packet_counter) events w → P w
from_start serving packet sc pc P k p = keeps packet.own P k (start serving packet sc pc) (begins serving packet sc pc) p

pub always : (serving packet : Config) (serving_counter packet_counter : ℕ) (events : List Event) (w : World)
    → Run (start serving packet serving_counter packet_counter) events w → Invariant packet.own w
always serving packet sc pc = from_start serving packet sc pc (Invariant packet.own) (walks packet.own) (begins serving packet sc pc)

-- A run goes on by one event.
pub Run-push : (old : World) (events : List Event) (mid : World) (event : Event) (new : World) → Run old events mid → Happens mid event new → Run old (events ++ event ∷ []) new
Run-push old [] mid event new is h = (new, subst (λ w. Happens w event new) is h, refl)
Run-push old (e ∷ events) mid event new r h = (r.0, r.1, Run-push r.0 events mid event new r.2 h)

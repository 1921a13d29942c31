-- The same run goes on: a request comes again, a datagram is lost, packets come in the other order, a bearer is deleted, and a restart is heard.
use Rattle.std.proofs.Common.{◌≡◌, ◌≢◌, ◌<◌, inl, inr, ℕ, List, [], ◌∷◌, Some, None, false, refl, ap, arith, Bool, true, not, rules, ◌==◌, ◌||◌}
use Rattle.std.specs.FinMap.{get, insert, remove, empty, get-empty, len, len-empty, get-remove}
use Rattle.std.specs.Ordering.{nat_cmp}
use Rattle.std.proofs.lemmas.Cmp.{nat_cmp_total}
use Rattle.gtp_machine.specs.Element.{cause_of}
use Rattle.gtp_machine.specs.Message.{Create_session_request, Create_session_response, Create_bearer_request, Packet_data, DeleteBearerRequest}
use Rattle.gtp_machine.specs.Message.{DeleteBearerResponse, Delete_bearer_request, Delete_bearer_response, Echo, Echo_request}
use Rattle.gtp_machine.specs.Node.{Serving, Packet, Session, Bearer, PendingRequest, Arrival, Closing}
use Rattle.gtp_machine.specs.Input.{Create_session, Create_bearer, Send_user, Commanded, Entry, Effect, says, Repeated, Closed, Delete_bearer, Send_echo}
use Rattle.gtp_machine.specs.Command.{asks}
use Rattle.gtp_machine.specs.Answer.{IsNew, answered, echoed}
use Rattle.gtp_machine.specs.Serving.{granted_bearer, DeleteBearerAsked}
use Rattle.gtp_machine.specs.Packet.{DeleteBearerAnswered}
use Rattle.gtp_machine.specs.World.{with_steps, World, Does, Deliver, Happens, Moves, noted, arrival, Restart, Restarted, with_side, restarted, quiet_note, note_of, Came_to}
use Rattle.gtp_machine.proofs.Basics.Facts.{false_true, ◌⊗◌}
use Rattle.gtp_machine.proofs.Worlds.Coming.{after, arrives, ◌⨾◌}
use Rattle.gtp_machine.proofs.Basics.FiniteMaps.{get-insert_same, get-kept, found-kept}
use Rattle.gtp_machine.specs.Laws.{GetsThrough, GoesOn, ARunIsPossible, HearsRestart}
use Rattle.gtp_machine.proofs.Basics.Counting.{len-insert_most, len-remove_most}
use Rattle.gtp_machine.proofs.Worlds.Beginning.{serving_config, packet_config, only_v4, gives_v4, plain_qos, control, none_pending, from_serving, from_packet, heard}
use Rattle.gtp_machine.proofs.Worlds.Possible.{spec, dedicated, q, asked, a, at_serving, at_packet, r, at_packet_bearer, entry_with, sent_with}
use Rattle.gtp_machine.proofs.Worlds.Possible.{sends_with, taken_with, takes_with, w1, w2, w3, w4, w5, w6, w7, w8, new_of_type, serving_stands, step1}
use Rattle.gtp_machine.proofs.Worlds.Possible.{step2, step3, step4, step5, step6, step7, step8}
use Rattle.gtp_machine.proofs.Worlds.Sendable.{session_request, session_response, bearer_request, bearer_response, delete_bearer_request}
use Rattle.gtp_machine.proofs.Worlds.Sendable.{delete_bearer_response, echo_request, echo_response, packet, AllSendable, among_sendable}
use Rattle.gtp_values.specs.FiniteMap.{Among, FiniteMap, kept}
use Rattle.gtp_machine.specs.Removal.{without_bearer, is_opened}
use Rattle.gtp_machine.specs.Recovery.{peer_restarted}
use Rattle.gtp_machine.specs.Response.{finishing}

-- the Create Session Request comes again, and its answer goes again, and is lost
abbrev e9 : Effect
e9 = record { out = says asked.source (Create_session_response a); outcome = Came_to Repeated; node = w8.packet.node }

abbrev w9 : World
w9 = after w8 Packet (from_serving (Create_session_request q)) e9

step9 : Happens w8 (Deliver 0) w9
step9 =
    arrives w8 Serving (Create_session_request q) e9 0 refl (λ none. none)
    (refl ⨾ inl (record { held = record { request = asked; answer = Create_session_response a ∷ [] }; stands = inl refl; same = refl; gives = refl }))

-- two packets are sent
abbrev w10 : World
w10 = after w9 Serving (Commanded (Send_user dedicated (121 ∷ []))) (sent_with 121)

abbrev w11 : World
w11 = after w10 Serving (Commanded (Send_user dedicated (122 ∷ []))) (sent_with 122)

step10 : Moves w9 Serving (Commanded (Send_user dedicated (121 ∷ []))) w10
step10 = record { effect = sent_with 121; step = sends_with 121; becomes = refl }

step11 : Moves w10 Serving (Commanded (Send_user dedicated (122 ∷ []))) w11
step11 = record { effect = sent_with 122; step = sends_with 122; becomes = refl }

-- they come, the second first
abbrev w12 : World
w12 = after w11 Packet (from_serving (Packet_data dedicated (122 ∷ []))) (taken_with 122)

abbrev w13 : World
w13 = after w12 Packet (from_serving (Packet_data dedicated (121 ∷ []))) (taken_with 121)

step12 : Happens w11 (Deliver 7) w12
step12 = arrives w11 Serving (Packet_data dedicated (122 ∷ [])) (taken_with 122) 7 refl (λ none. none) (takes_with 122)

step13 : Happens w12 (Deliver 6) w13
step13 = arrives w12 Serving (Packet_data dedicated (121 ∷ [])) (taken_with 121) 6 refl (λ none. none) (takes_with 121)

-- delete_bearer
abbrev d : DeleteBearerRequest
d = record { header = control; number = 0; linked = None; identities = 6 ∷ [] }

abbrev closing : Bearer
closing = record at_packet_bearer { state = Closing }

abbrev deleting : PendingRequest
deleting = record { session = Some control; bearer = Some dedicated; request = Delete_bearer_request d }

abbrev e14 : Effect
e14 = asks w13.packet.node 0 deleting (Some dedicated) (record w13.packet.node { bearers = insert w13.packet.node.bearers dedicated closing })

abbrev w14 : World
w14 = after w13 Packet (Commanded (Delete_bearer control 6)) e14

few_left : (p : PendingRequest) → len (remove (insert (empty {X = PendingRequest} {R = nat_cmp}) 0 p) 0) < 256
few_left p = omega (arith, len-remove_most (insert (empty {X = PendingRequest} {R = nat_cmp}) 0 p) 0, len-insert_most (empty {X = PendingRequest} {R = nat_cmp}) 0 p, len-empty nat_cmp PendingRequest)

few_pending : len w13.packet.node.pending < 256
few_pending = few_left _

unused_number : get w13.packet.node.pending 0 ≡ None
unused_number = get-remove nat_cmp_total (insert empty 0 (record { session = Some control; bearer = Some dedicated; request = Create_bearer_request r })) 0 0

step14 : Moves w13 Packet (Commanded (Delete_bearer control 6)) w14
step14 = record {
  effect = e14;
  step =
      record { session = at_packet; stands = get-insert_same empty control at_packet }
      ⨾ record { key = dedicated; at = record { bearer = at_packet_bearer; stands = get-insert_same w5.packet.node.bearers dedicated at_packet_bearer }; of = refl; dedicated = refl; has = refl }
      ⨾ (refl, refl)
      ⨾ record { few = few_pending }
      ⨾ record { number = 0; number_free = record { unused = unused_number; small = omega arith }; gives = refl };
  becomes = refl;
}

-- the Delete Bearer Request comes
abbrev answer : DeleteBearerResponse
answer = record { header = control; number = 0; cause = cause_of 16; linked = None; contexts = record { identity = 6; cause = cause_of 16 } ∷ []; recovery = Some 1 }

abbrev to_delete : Arrival
to_delete = arrival (packet_config 0).own (Delete_bearer_request d)

abbrev e15 : Effect
e15 = answered to_delete (Delete_bearer_response answer) 16 (without_bearer w14.serving.node dedicated)

abbrev w15 : World
w15 = after w14 Serving (from_packet (Delete_bearer_request d)) e15

-- its answer to the Create Bearer Request is held for that alone
new_to_serving : IsNew w14.serving.node to_delete
new_to_serving = new_of_type w14.serving.node _ to_delete refl (λ e. let kind : ◌≡◌ {A = ℕ} 95 99 = e in omega (arith, kind))

-- the bearer goes
removed : DeleteBearerAsked to_delete d w14.serving.node e15
removed =
    record { few = omega arith }
    ⨾ record { session = at_serving; stands = serving_stands }
    ⨾ (λ e. cc e)
    ⨾ omega arith
    ⨾ record {
      contexts = record { identity = 6; cause = cause_of 16 } ∷ [];
      left = without_bearer w14.serving.node dedicated;
      removes = (
        [],
        record {
          key = dedicated;
          at = record { bearer = granted_bearer r 6; stands = get-insert_same w4.serving.node.bearers dedicated (granted_bearer r 6) };
          of = refl;
          dedicated = refl;
          has = refl;
        }
            ⨾ (refl, (refl, refl)),
      );
      gives = refl;
    }

step15 : Happens w14 (Deliver 8) w15
step15 = arrives w14 Packet (Delete_bearer_request d) e15 8 refl (λ none. none) (refl ⨾ inr (new_to_serving, refl ⨾ removed))

-- the Delete Bearer Response comes
abbrev closed : Effect
closed = finishing w15.packet.node 0 deleting Closed

abbrev w16 : World
w16 = after w15 Packet (from_serving (Delete_bearer_response answer)) (heard closed)

step16 : Happens w15 (Deliver 9) w16
step16 =
    arrives w15 Serving (Delete_bearer_response answer) (heard closed) 9 refl (λ none. none)
    (refl ⨾ inr (new_of_type w15.packet.node _ _ refl (λ e. let kind : ◌≡◌ {A = ℕ} 32 100 = e in omega (arith, kind)), refl ⨾ (closed, ended, refl)))
  where
    ended : DeleteBearerAnswered answer w15.packet.node closed
    ended =
        record { pending = deleting; waits = get-insert_same w13.packet.node.pending 0 deleting }
        ⨾ record { request = d; asked = refl; named = inl refl }
        ⨾ refl

-- the serving gateway restarts, and its Echo Request tells so
abbrev w17 : World
w17 = with_steps (noted (with_side w16 Serving (restarted w16.serving)) (quiet_note (Restarted 2))) Serving []

abbrev echo : Echo
echo = record { number = 0; recovery = 2 }

abbrev e18 : Effect
e18 = asks w17.serving.node 0 (record { session = None; bearer = None; request = Echo_request echo }) None w17.serving.node

abbrev w18 : World
w18 = after w17 Serving (Commanded Send_echo) e18

step18 : Moves w17 Serving (Commanded Send_echo) w18
step18 = record {
  effect = e18;
  step = record { few = none_pending } ⨾ record { number = 0; number_free = record { unused = get-empty nat_cmp 0; small = omega arith }; gives = refl };
  becomes = refl;
}

abbrev told : Arrival
told = arrival serving_config.own (Echo_request echo)

abbrev e19 : Effect
e19 = let taken = echoed told echo (peer_restarted w18.packet.node 2) in record taken { out = record taken.out { heard = Some 2; learned = Some 2 } }

abbrev w19 : World
w19 = after w18 Packet (from_serving (Echo_request echo)) e19

step19 : Happens w18 (Deliver 10) w19
step19 =
    arrives w18 Serving (Echo_request echo) e19 10 refl (λ none. none)
    (refl ⨾ inr (new_of_type w18.packet.node _ _ refl (λ e. let kind : ◌≡◌ {A = ℕ} 32 1 = e in omega (arith, kind)), refl ⨾ (echoed told echo (peer_restarted w18.packet.node 2), refl, refl)))

stands_before : get w18.packet.node.sessions control ≡ Some at_packet
stands_before = get-kept (λ t (s : Session). true) (insert empty control at_packet) control at_packet (get-insert_same empty control at_packet) refl

gone : (s : Session) → get w19.packet.node.sessions control ≡ Some s → ⊥
gone s e =
    not_so (is_opened (get w18.packet.node.sessions control)) (ap is_opened stands_before)
    (found-kept (λ t (k : Session). not (is_opened (get w18.packet.node.sessions t))) w18.packet.node.sessions control s e).0
  where
    not_so : (b : Bool) → b ≡ true → not b ≡ true → ⊥
    not_so true is other = absurd (cc other)
    not_so false is other = absurd (cc is)

hears_restart : HearsRestart w16 control
hears_restart = record {
  events = Restart Serving ∷ Does Serving Send_echo ∷ Deliver 10 ∷ [];
  world = w19;
  run = (w17, inr (omega arith, refl), (w18, step18, (w19, step19, refl)));
  restarts = refl;
  heard = inl refl;
  on_time = refl;
  gone = gone;
  sendable = among_sendable w19.history all;
}
  where
    all : AllSendable w19.history
    all =
        session_request 1 0 only_v4 (omega arith) (gives_v4 [])
        ⊗ session_response 1 0 only_v4 (omega arith) (gives_v4 [])
        ⊗ bearer_request
        ⊗ bearer_response
        ⊗ packet 120 (omega arith)
        ⊗ session_response 1 0 only_v4 (omega arith) (gives_v4 [])
        ⊗ packet 121 (omega arith)
        ⊗ packet 122 (omega arith)
        ⊗ delete_bearer_request
        ⊗ delete_bearer_response
        ⊗ echo_request 2 (omega arith)
        ⊗ echo_response 1 (omega arith)
        ⊗ tt

goes_on : GoesOn w8 control control dedicated dedicated
unfolding hears_restart
goes_on = record {
  again = w9;
  repeats = record {
    number = 0;
    comes = step9;
    note = note_of (Came_to Repeated) e9.out;
    notes = refl;
    repeated = refl;
    answer = _;
    sent = refl;
    held = inr (inl refl);
  };
  events = Does Serving (Send_user dedicated (121 ∷ [])) ∷ Does Serving (Send_user dedicated (122 ∷ [])) ∷ Deliver 7 ∷ Deliver 6 ∷ Does Packet (Delete_bearer control 6) ∷ Deliver 8 ∷ Deliver 9 ∷ [];
  world = w16;
  run = (w10, step10, (w11, step11, (w12, step12, (w13, step13, (w14, step14, (w15, step15, (w16, step16, refl)))))));
  first = entry_with 121;
  second = entry_with 122;
  apart = apart;
  handed = refl;
  accepted = refl;
  deleted = λ b e. not_kept w14.serving.node.bearers b e;
  deleted_there = λ b e. not_kept w15.packet.node.bearers b e;
  stays = (at_serving, get-kept (λ t (s : Session). true) w14.serving.node.sessions control at_serving serving_stands refl);
  stays_there = (at_packet, stands_before);
  restart = hears_restart;
  never_comes = never;
}
  where
    octet_of : List ℕ → ℕ
    octet_of [] = 0
    octet_of (octet ∷ octets) = octet

    apart : entry_with 121 ≢ entry_with 122
    apart e = let same : ◌≡◌ {A = ℕ} 121 122 = ap (λ (k : Entry). octet_of k.payload) e in omega arith

    not_kept : (bearers : FiniteMap Bearer) (b : Bearer) → get (kept (λ t (k : Bearer). not ((t == dedicated) || false)) bearers) dedicated ≡ Some b → ⊥
    not_kept bearers b e = false_true _ refl (found-kept (λ t (k : Bearer). not ((t == dedicated) || false)) bearers dedicated b e).0

    never : Among (Deliver 5)
        (Does Serving (Send_user dedicated (121 ∷ [])) ∷ Does Serving (Send_user dedicated (122 ∷ [])) ∷ Deliver 7 ∷ Deliver 6 ∷ Does Packet
        (Delete_bearer control 6) ∷ Deliver 8 ∷ Deliver 9 ∷ Restart Serving ∷ Does Serving Send_echo ∷ Deliver 10 ∷ []) → ⊥
    never = search rules

gets_through : GetsThrough
gets_through = record {
  serving = serving_config;
  packet = packet_config 0;
  events =
      Does Serving (Create_session spec) ∷ Deliver 0 ∷ Deliver 1 ∷ Does Packet (Create_bearer control (33 ∷ []) plain_qos) ∷ Deliver 2 ∷ Deliver 3 ∷
      Does Serving (Send_user dedicated (120 ∷ [])) ∷ Deliver 4 ∷ [];
  world = w8;
  run = (w1, step1, (w2, step2, (w3, step3, (w4, step4, (w5, step5, (w6, step6, (w7, step7, (w8, step8, refl))))))));
  session = control;
  session_there = control;
  at_serving = at_serving;
  at_packet = at_packet;
  sessions = record { serving = serving_stands; packet = get-insert_same empty control at_packet; serving_active = refl; packet_active = refl; there = refl; back = refl };
  bearer = dedicated;
  bearer_there = dedicated;
  bearer_at_serving = granted_bearer r 6;
  bearer_at_packet = at_packet_bearer;
  bearers =
      record {
        serving = get-insert_same w4.serving.node.bearers dedicated (granted_bearer r 6);
        packet = get-insert_same w5.packet.node.bearers dedicated at_packet_bearer;
        serving_active = refl;
        packet_active = refl;
        there = refl;
        back = refl;
      };
  dedicated = refl;
  of_session = refl;
  of_session_there = refl;
  taken = entry_with 120;
  handed = inl refl;
  accepted = inl refl;
  on_bearer = refl;
  on_time = refl;
  goes_on = goes_on;
}

pub a_run_is_possible : ARunIsPossible
a_run_is_possible = gets_through

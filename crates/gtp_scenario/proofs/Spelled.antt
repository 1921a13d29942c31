-- Each entry that is written is read again.
use Rattle.std.proofs.Common.{◌≡◌, ℕ, zero, suc, ◌^◌, ◌≤◌, ◌<◌, List, Option, Some, None, option_map, length, slice_index, refl, ap, ◌∙◌, arith}
use Rattle.std.specs.Int.{w32, to_be_bytes, from_be_bytes}
use Rattle.std.specs.Result.{result_ok}
use Rattle.std.proofs.lemmas.Bool.{le-leb}
use Rattle.std.proofs.lemmas.Nat.{from_be_bytes-to_be_bytes_4}
use Rattle.hex.specs.Hex.{encode_lower, IsBytes}
use Rattle.hex.proofs.HexLemmas.{decode_of-encode_lower, decode_sized-encode_lower}
use Rattle.gtp_values.specs.Imsi.{IsImsi, digits_text}
use Rattle.gtp_values.specs.Apn.{IsApn, apn_text}
use Rattle.gtp_values.specs.Ebi.{IsEbi}
use Rattle.gtp_values.specs.Teid.{teid_text}
use Rattle.gtp_values.proofs.Digits.{digits_again}
use Rattle.gtp_values.proofs.NamesAsText.{again}
use Rattle.gtp_machine.specs.declared.role.Role.{Role}
use Rattle.gtp_machine.specs.declared.role.Role.TheVariants.{Serving, Packet}
use Rattle.gtp_machine.specs.Input.{Command, Create_session, Delete_session, Create_bearer, Delete_bearer, Release_session, Mark_end, Send_echo, Send_user}
use Rattle.gtp_machine.specs.World.{Event, Does, Tick, Deliver, Cut, Restart}
use Rattle.gtp_machine.specs.Element.{Subscriber}
use Rattle.gtp_scenario.specs.Texts.{imsi_of, apn_of, teid_of, octets_of}
use Rattle.gtp_scenario.specs.Events.{qos, session_for, node_at, teid_at, ebi_at, pdn_at, subscriber_at, tft_at, payload_at, create_session_of}
use Rattle.gtp_scenario.specs.Events.{lone_teid_of, delete_session_of, release_session_of, end_marker_of, create_bearer_of, delete_bearer_of}
use Rattle.gtp_scenario.specs.Events.{lone_node_of, echo_of, restart_of, tick_of, send_of, deliver_of, cut_of, event_named}
use Rattle.gtp_scenario.specs.Entries.{Entry, entry_of}
use Rattle.gtp_scenario.specs.Spelling.{spelling, IsCommand, IsEvent}
use Rattle.gtp_scenario.proofs.Texts.{imsi_is, apn_is}

-- ---- values

imsi_again : (digits : List ℕ) → IsImsi digits → imsi_of (digits_text digits) ≡ Some digits
imsi_again digits is = let read = digits_again digits is in imsi_is (digits_text digits) read.0 ∙ ap Some read.1

apn_again : (apn : List ℕ) → IsApn apn → apn_of (apn_text apn) ≡ Some apn
apn_again apn is = apn_is (apn_text apn) (apn, is, refl) ∙ ap Some (again apn is)

are_bytes : (n i : ℕ) → slice_index (to_be_bytes w32 n) i < 256
are_bytes n zero = omega arith
are_bytes n (suc zero) = omega arith
are_bytes n (suc (suc zero)) = omega arith
are_bytes n (suc (suc (suc zero))) = omega arith
are_bytes n (suc (suc (suc (suc i)))) = omega arith

teid_again : (teid : ℕ) → teid < 2 ^ 32 → teid_of (teid_text teid) ≡ Some teid
unfolding teid_of
teid_again teid fits =
    ap (λ r. option_map (from_be_bytes w32) (result_ok r)) (decode_sized-encode_lower (to_be_bytes w32 teid) 4 refl (are_bytes teid))
    ∙ ap Some (from_be_bytes-to_be_bytes_4 teid fits)

octets_again : (octets : List ℕ) → IsBytes octets → octets_of (encode_lower octets) ≡ Some octets
unfolding octets_of
octets_again octets bytes = ap result_ok (decode_of-encode_lower octets bytes)

-- ---- events

-- an entry of an event that happens once
abbrev once : Event → Option (List ℕ) → Entry
once event expect = record { event = event; times = 1; expect = expect }

-- it is read again
abbrev Again : Event → Option (List ℕ) → Type 0
Again event expect = entry_of (spelling (once event expect)) ≡ Some (once event expect)

create_session_again : (s : Subscriber) (pdn : ℕ) (expect : Option (List ℕ)) → IsImsi s.imsi → IsApn s.access_point → IsEbi s.identity → pdn ≤ 7
    → Again (Does Serving (Create_session (session_for s pdn))) expect
unfolding entry_of event_named create_session_of subscriber_at ebi_at pdn_at
create_session_again s pdn None imsi apn ebi small =
    rw (
      imsi_again s.imsi imsi,
      apn_again s.access_point apn,
      le-leb 5 s.identity ebi.least,
      le-leb s.identity 15 ebi.most,
      le-leb 0 pdn (omega arith),
      le-leb pdn 7 small,
    ) refl
create_session_again s pdn (Some word) imsi apn ebi small =
    rw (
      imsi_again s.imsi imsi,
      apn_again s.access_point apn,
      le-leb 5 s.identity ebi.least,
      le-leb s.identity 15 ebi.most,
      le-leb 0 pdn (omega arith),
      le-leb pdn 7 small,
    ) refl

delete_session_again : (teid : ℕ) (expect : Option (List ℕ)) → teid < 2 ^ 32 → Again (Does Serving (Delete_session teid)) expect
unfolding entry_of event_named delete_session_of lone_teid_of teid_at
delete_session_again teid None fits = rw (teid_again teid fits) refl
delete_session_again teid (Some word) fits = rw (teid_again teid fits) refl

release_session_again : (teid : ℕ) (expect : Option (List ℕ)) → teid < 2 ^ 32 → Again (Does Packet (Release_session teid)) expect
unfolding entry_of event_named release_session_of lone_teid_of teid_at
release_session_again teid None fits = rw (teid_again teid fits) refl
release_session_again teid (Some word) fits = rw (teid_again teid fits) refl

end_marker_again : (teid : ℕ) (expect : Option (List ℕ)) → teid < 2 ^ 32 → Again (Does Packet (Mark_end teid)) expect
unfolding entry_of event_named end_marker_of lone_teid_of teid_at
end_marker_again teid None fits = rw (teid_again teid fits) refl
end_marker_again teid (Some word) fits = rw (teid_again teid fits) refl

create_bearer_again : (teid : ℕ) (tft : List ℕ) (expect : Option (List ℕ)) → teid < 2 ^ 32 → length tft ≤ 255 → IsBytes tft → Again (Does Packet (Create_bearer teid tft qos)) expect
unfolding entry_of event_named create_bearer_of teid_at tft_at
create_bearer_again teid tft None fits small bytes = rw (teid_again teid fits, octets_again tft bytes, le-leb (length tft) 255 small) refl
create_bearer_again teid tft (Some word) fits small bytes = rw (teid_again teid fits, octets_again tft bytes, le-leb (length tft) 255 small) refl

delete_bearer_again : (teid ebi : ℕ) (expect : Option (List ℕ)) → teid < 2 ^ 32 → IsEbi ebi → Again (Does Packet (Delete_bearer teid ebi)) expect
unfolding entry_of event_named delete_bearer_of teid_at ebi_at
delete_bearer_again teid ebi None fits is = rw (teid_again teid fits, le-leb 5 ebi is.least, le-leb ebi 15 is.most) refl
delete_bearer_again teid ebi (Some word) fits is = rw (teid_again teid fits, le-leb 5 ebi is.least, le-leb ebi 15 is.most) refl

echo_again : (node : Role) (expect : Option (List ℕ)) → Again (Does node Send_echo) expect
unfolding entry_of event_named echo_of lone_node_of node_at
echo_again Serving None = refl
echo_again Serving (Some word) = refl
echo_again Packet None = refl
echo_again Packet (Some word) = refl

restart_again : (node : Role) (expect : Option (List ℕ)) → Again (Restart node) expect
unfolding entry_of event_named restart_of lone_node_of node_at
restart_again Serving None = refl
restart_again Serving (Some word) = refl
restart_again Packet None = refl
restart_again Packet (Some word) = refl

tick_again : (node : Role) (times : ℕ) (expect : Option (List ℕ)) → 1 ≤ times → times ≤ 1000
    → entry_of (spelling (record { event = Tick node; times = times; expect = expect }))
    ≡ Some (record { event = Tick node; times = times; expect = expect })
unfolding entry_of event_named tick_of node_at
tick_again Serving times None low high = rw (le-leb 1 times low, le-leb times 1000 high) refl
tick_again Serving times (Some word) low high = rw (le-leb 1 times low, le-leb times 1000 high) refl
tick_again Packet times None low high = rw (le-leb 1 times low, le-leb times 1000 high) refl
tick_again Packet times (Some word) low high = rw (le-leb 1 times low, le-leb times 1000 high) refl

send_again : (node : Role) (teid : ℕ) (payload : List ℕ) (expect : Option (List ℕ)) → teid < 2 ^ 32 → IsBytes payload → Again (Does node (Send_user teid payload)) expect
unfolding entry_of event_named send_of node_at teid_at payload_at
send_again Serving teid payload None fits bytes = rw (teid_again teid fits, octets_again payload bytes) refl
send_again Serving teid payload (Some word) fits bytes = rw (teid_again teid fits, octets_again payload bytes) refl
send_again Packet teid payload None fits bytes = rw (teid_again teid fits, octets_again payload bytes) refl
send_again Packet teid payload (Some word) fits bytes = rw (teid_again teid fits, octets_again payload bytes) refl

deliver_again : (datagram : ℕ) (expect : Option (List ℕ)) → Again (Deliver datagram) expect
unfolding entry_of event_named deliver_of
deliver_again datagram None = refl
deliver_again datagram (Some word) = refl

cut_again : (datagram size : ℕ) (expect : Option (List ℕ)) → Again (Cut datagram size) expect
unfolding entry_of event_named cut_of
cut_again datagram size None = refl
cut_again datagram size (Some word) = refl

-- ---- all of them

command_again : (node : Role) (command : Command) (expect : Option (List ℕ)) → IsCommand node command → Again (Does node command) expect
command_again node (Create_session s) expect is = rw (is.0, is.1.rest) (create_session_again s.subscriber s.pdn expect is.1.imsi is.1.access_point is.1.identity is.1.pdn)
command_again node (Delete_session teid) expect is = rw is.0 (delete_session_again teid expect is.1)
command_again node (Create_bearer teid tft of) expect is = rw (is.0, is.4) (create_bearer_again teid tft expect is.1 is.2 is.3)
command_again node (Delete_bearer teid ebi) expect is = rw is.0 (delete_bearer_again teid ebi expect is.1 is.2)
command_again node (Release_session teid) expect is = rw is.0 (release_session_again teid expect is.1)
command_again node (Mark_end teid) expect is = rw is.0 (end_marker_again teid expect is.1)
command_again node Send_echo expect is = echo_again node expect
command_again node (Send_user teid payload) expect is = send_again node teid payload expect is.0 is.1

pub entry_again : (entry : Entry) → IsEvent entry.event entry.times → entry_of (spelling entry) ≡ Some entry
entry_again entry is = all entry.event entry.times entry.expect is
  where
    all : (event : Event) (times : ℕ) (expect : Option (List ℕ)) → IsEvent event times
        → entry_of (spelling (record { event = event; times = times; expect = expect }))
        ≡ Some (record { event = event; times = times; expect = expect })
    all (Does node command) times expect is = rw is.0 (command_again node command expect is.1)
    all (Tick node) times expect is = tick_again node times expect is.0 is.1
    all (Deliver datagram) times expect is = rw is (deliver_again datagram expect)
    all (Cut datagram size) times expect is = rw is (cut_again datagram size expect)
    all (Restart node) times expect is = rw is (restart_again node expect)

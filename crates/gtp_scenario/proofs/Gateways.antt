-- Where nothing is wrong with a head, it is read.
use Rattle.std.proofs.Common.{◌≡◌, ◌||◌, ◌&&◌, ℕ, Bool, true, false, cond, List, [], ◌∷◌, map, Option, Some, None, IsSome, bytes_eq, refl, sym, ap, ◌∙◌}
use Rattle.std.specs.Prelude.{is_some, codes, nat_le}
use Rattle.std.specs.Option.{option_map_or}
use Rattle.serde_json.specs.Data.{Data, null, boolean, number, string, array, object, Items, no_items, item, Members, no_members, member}
use Rattle.serde_json.specs.Find.{get, as_str, as_array}
use Rattle.gtp_values.proofs.Tests.{both}
use Rattle.gtp_values.specs.declared.address.Ip.TheVariants.{V4}
use Rattle.gtp_machine.specs.Config.{Template}
use Rattle.gtp_tables.specs.Pool.{Range, Prefixes}
use Rattle.gtp_gateway.specs.declared.config.Addresses.{Addresses}
use Rattle.gtp_gateway.specs.Settings.{Settings, with_template}
use Rattle.gtp_scenario.specs.declared.reason.key.Key.{Key}
use Rattle.gtp_scenario.specs.declared.reason.key.Key.TheVariants as keys
use Rattle.gtp_scenario.specs.Steps.{◌>>=◌}
use Rattle.gtp_scenario.specs.Events.{tft_at, qos}
use Rattle.gtp_scenario.specs.Json.{text_at, whole_number, within, is_among, all_among, has_only, count_of}
use Rattle.gtp_scenario.specs.Texts.{apn_of, address_of}
use Rattle.gtp_scenario.specs.Heads.{PacketHead, address_at, addresses_at, counter_at, access_points_in, access_points_at, pool_at, prefixes_at}
use Rattle.gtp_machine.specs.declared.switches.Switches.{Switches}
use Rattle.gtp_scenario.specs.Heads.{switches_of, switches_at, pools_at, time_at, timers_at, serving_of, packet_of, set_up, template_of, configured, with_this, with_each}
use Rattle.gtp_scenario.specs.Heads.{with_those, with_templates_at, setup_of, events_at}
use Rattle.gtp_scenario.specs.Keys.{key_text, may_be_absent, is_met, is_met_by, scenario_keys, serving_keys, packet_keys, template_keys}
use Rattle.gtp_scenario.specs.Reasons.{fits, names_one_of}
use Rattle.gtp_scenario.specs.reading.Faultless.{is_template, are_templates, AreTemplatesOf, IsPacket, IsPacketAt, IsServingAt}
use Rattle.gtp_scenario.proofs.Whole.{chain, pinned, gated, mapped, joined, some_of, is_some_by, by_some, needed, by_text, optional, parts, met_in, tft_met}

-- ---- both gateways

control_met : (d : Data) → is_met d keys.Control ≡ true → is_some (address_at (codes "control") d) ≡ true
unfolding address_at
control_met d met =
    mapped V4 _ (joined (get (codes "control") d) as_str address_of
    (needed keys.Control d (get (codes "control") d) (λ v. as_str v >>= address_of) refl (λ v. by_text address_of (as_str v)) met))

user_met : (d : Data) → is_met d keys.User ≡ true → is_some (address_at (codes "user") d) ≡ true
unfolding address_at
user_met d met = mapped V4 _ (joined (get (codes "user") d) as_str address_of (needed keys.User d (get (codes "user") d) (λ v. as_str v >>= address_of) refl (λ v. by_text address_of (as_str v)) met))

addresses_met : (d : Data) → is_met d keys.Control ≡ true → is_met d keys.User ≡ true → is_some (addresses_at d) ≡ true
unfolding addresses_at
addresses_met d control user = chain (address_at (codes "control") d) _ (control_met d control) (λ a. chain (address_at (codes "user") d) _ (user_met d user) (λ b. refl))

pub counter_met : (d : Data) → is_met d keys.Counter ≡ true → is_some (counter_at d) ≡ true
unfolding counter_at
counter_met d met = joined (get (codes "counter") d) whole_number (within 0 255) (needed keys.Counter d (get (codes "counter") d) (λ v. whole_number v >>= within 0 255) refl (λ v. refl) met)

pub switches_met : (d : Data) → is_met d keys.Switches ≡ true → is_some (switches_at d) ≡ true
unfolding switches_at
switches_met d met = by (get (codes "switches") d) met
  where
    by : (o : Option Data) → is_met_by d keys.Switches o ≡ true → is_some (switches_of o) ≡ true
    by None h = refl
    by (Some v) h = h

serving_read : (d : Data) → fits serving_keys d ≡ true → is_some (serving_of d) ≡ true
unfolding serving_of
serving_read d h =
    let met = met_in serving_keys d h in
    gated _ _ (parts serving_keys d h).only (chain (addresses_at d) _ (addresses_met d (met 0 keys.Control refl) (met 1 keys.User refl))
    (λ own. chain (counter_at d) _ (counter_met d (met 2 keys.Counter refl)) (λ counter. chain (switches_at d) _ (switches_met d (met 3 keys.Switches refl)) (λ switches. refl))))

-- ---- the packet gateway

pub access_points_met : (d : Data) → is_met d keys.Apns ≡ true → is_some (access_points_at d) ≡ true
unfolding access_points_at
access_points_met d met =
    joined (get (codes "apns") d) as_array (λ items. cond (nat_le (count_of items) 16) (access_points_in items) None)
    (needed keys.Apns d (get (codes "apns") d) (λ v. as_array v >>= λ items. cond (nat_le (count_of items) 16) (access_points_in items) None) refl (λ v. refl) met)

-- a packet gateway that is read, with its access points
pub record IsPacketRead (d : Data) : Type 0 where
  pub head : PacketHead
  pub read : packet_of d ≡ Some head
  pub names : access_points_at d ≡ Some head.access_points

pub packet_is : (d : Data) (own : Addresses) (counter : ℕ) (names : List (List ℕ)) (v4 : Range) (v6 : Prefixes) (switches : Switches) → has_only (map key_text packet_keys) d ≡ true
    → addresses_at d ≡ Some own → counter_at d ≡ Some counter → access_points_at d ≡ Some names → pool_at d ≡ Some v4 → prefixes_at d ≡ Some v6 → switches_at d ≡ Some switches
    → packet_of d ≡ Some (record { own = own; counter = counter; access_points = names; pools = record { v4 = v4; v6 = v6 }; switches = switches })
unfolding packet_of pools_at
packet_is d own counter names v4 v6 switches only a b c e f g = rw (only, a, b, c, e, f, g) refl

packet_read : (d : Data) → IsPacket packet_keys d → IsPacketRead d
packet_read d is =
    let met = met_in packet_keys d is.keys in
    let only = (parts packet_keys d is.keys).only in
    let own = some_of (addresses_at d) (addresses_met d (met 0 keys.Control refl) (met 1 keys.User refl)) in
    let counter = some_of (counter_at d) (counter_met d (met 2 keys.Counter refl)) in
    let names = some_of (access_points_at d) (access_points_met d (met 3 keys.Apns refl)) in
    let v4 = some_of (pool_at d) (by_some (pool_at d) is.pool) in
    let v6 = some_of (prefixes_at d) (by_some (prefixes_at d) is.prefixes) in
    let switches = some_of (switches_at d) (switches_met d (met 9 keys.Switches refl)) in
    record {
      head = record { own = own.0; counter = counter.0; access_points = names.0; pools = record { v4 = v4.0; v6 = v6.0 }; switches = switches.0 };
      read = packet_is d own.0 counter.0 names.0 v4.0 v6.0 switches.0 only own.1 counter.1 names.1 v4.1 v6.1 switches.1;
      names = names.1;
    }

-- ---- templates

one_of : (names : List (List ℕ)) (o : Option (List ℕ)) → option_map_or (is_among names) o false ≡ true → (name : List ℕ) × (o ≡ Some name) × (is_among names name ≡ true)
one_of names None h = absurd cc
one_of names (Some name) h = (name, refl, h)

-- the settings with a template, and with the access points that they had
record IsWithThis (names : List (List ℕ)) (d : Data) (s : Settings) : Type 0 where
  next : Settings
  read : with_this d s ≡ Some next
  same : next.config.access_points ≡ names

pub template_is : (d : Data) (name tft : List ℕ) → has_only (map key_text template_keys) d ≡ true → (text_at (codes "apn") d >>= apn_of) ≡ Some name
    → tft_at d ≡ Some tft → template_of d ≡ Some (record { access_point = name; tft = tft; qos = qos })
unfolding template_of
template_is d name tft only a b = rw (only, a, b) refl

with_one : (names : List (List ℕ)) (d : Data) (s : Settings) → is_template names d ≡ true → s.config.access_points ≡ names → IsWithThis names d s
with_one names d s h same =
    let b = both (fits template_keys d) (names_one_of names d) h in
    let only = (parts template_keys d b.left).only in
    let name = one_of names (text_at (codes "apn") d >>= apn_of) b.right in
    let tft = some_of (tft_at d) (tft_met d (met_in template_keys d b.left 1 keys.Tft refl)) in
    let t : Template = record { access_point = name.0; tft = tft.0; qos = qos } in
    let read : template_of d ≡ Some t = template_is d name.0 tft.0 only name.1 tft.1 in
    let among : is_among s.config.access_points name.0 ≡ true = ap (λ ns. is_among ns name.0) same ∙ name.2 in
    record {
      next = with_template t s;
      read = ap (λ o. o >>= configured s) read ∙ ap (λ b. cond b (Some (with_template t s)) None) among;
      same = same;
    }

each_read : (names : List (List ℕ)) (items : Items) (s : Settings) → are_templates names items ≡ true → s.config.access_points ≡ names → is_some (with_each items s) ≡ true
each_read names no_items s h same = refl
each_read names (item d items) s h same =
    let b = both (is_template names d) (are_templates names items) h in
    let one = with_one names d s b.left same in
    pinned (with_this d s) one.next (with_each items) one.read (each_read names items one.next b.right one.same)

pub templates_read : (d : Data) (s : Settings) (names : List (List ℕ)) → is_met d keys.Templates ≡ true → AreTemplatesOf d → access_points_at d ≡ Some names
    → s.config.access_points ≡ names → is_some (with_templates_at d s) ≡ true
unfolding with_templates_at
templates_read d s names said each of same = by (get (codes "templates") d) refl said
  where
    by : (o : Option Data) → get (codes "templates") d ≡ o → is_met_by d keys.Templates o ≡ true → is_some (with_those o s) ≡ true
    by None at met = refl
    by (Some v) at met =
        let items = some_of (as_array v) met in
        pinned (as_array v) items.0 _ items.1 (each_read names items.0 s (each items.0 names (ap (λ o. o >>= as_array) at ∙ items.1) of) same)

-- ---- the keys of a scenario, in two orders

turned : (a b c d e f : Bool) → (a || (b || (c || (d || (e || (f || false)))))) ≡ (d || (e || (a || (b || (c || (f || false))))))
turned true b c true e f = refl
turned true b c false true f = refl
turned true b c false false f = refl
turned false true c true e f = refl
turned false true c false true f = refl
turned false true c false false f = refl
turned false false true true e f = refl
turned false false true false true f = refl
turned false false true false false f = refl
turned false false false true e f = refl
turned false false false false true f = refl
turned false false false false false f = refl

-- the keys in the order of the head's definition
abbrev other_order : List (List ℕ)
other_order = codes "serving" ∷ codes "packet" ∷ codes "t3" ∷ codes "n3" ∷ codes "hold" ∷ codes "events" ∷ []

among_both : (key : List ℕ) → is_among (map key_text scenario_keys) key ≡ is_among other_order key
among_both key =
    turned (bytes_eq key (codes "t3")) (bytes_eq key (codes "n3")) (bytes_eq key (codes "hold")) (bytes_eq key (codes "serving"))
    (bytes_eq key (codes "packet")) (bytes_eq key (codes "events"))

all_both : (ms : Members) → all_among (map key_text scenario_keys) ms ≡ all_among other_order ms
all_both no_members = refl
all_both (member k d ms) = ap (λ b. b && all_among (map key_text scenario_keys) ms) (among_both k) ∙ ap (λ b. is_among other_order k && b) (all_both ms)

pub only_both : (d : Data) → has_only (map key_text scenario_keys) d ≡ has_only other_order d
only_both null = refl
only_both (boolean b) = refl
only_both (number n) = refl
only_both (string s) = refl
only_both (array ds) = refl
only_both (object ms) = all_both ms

-- ---- heads

pub timers_met : (d : Data) → is_met d keys.T3Response ≡ true → is_met d keys.N3Requests ≡ true → is_met d keys.Hold ≡ true → is_some (timers_at d) ≡ true
unfolding timers_at
timers_met d t3 n3 hold =
    chain (time_at (codes "t3") 3 1 1000 d) _ (optional keys.T3Response d (get (codes "t3") d) 3 1 1000 refl (λ v. refl) t3)
    (λ a. chain (time_at (codes "n3") 3 0 100 d) _ (optional keys.N3Requests d (get (codes "n3") d) 3 0 100 refl (λ v. refl) n3)
    (λ b. chain (time_at (codes "hold") 60 1 100000 d) _ (optional keys.Hold d (get (codes "hold") d) 60 1 100000 refl (λ v. refl) hold) (λ c. refl)))

pub there : (key : Key) (d : Data) (o : Option Data) → may_be_absent d key ≡ false → is_met_by d key o ≡ true → is_some o ≡ true
there key d None never met = sym never ∙ met
there key d (Some v) never met = refl

setup_read : (d : Data) → fits scenario_keys d ≡ true → IsServingAt d → IsPacketAt d → is_some (setup_of d) ≡ true
unfolding setup_of
setup_read d h serving_is packet_is =
    let met = met_in scenario_keys d h in
    let serving = some_of (get (codes "serving") d) (there keys.Serving d (get (codes "serving") d) refl (met 3 keys.Serving refl)) in
    let packet = some_of (get (codes "packet") d) (there keys.Packet d (get (codes "packet") d) refl (met 4 keys.Packet refl)) in
    let is = packet_is packet.0 packet.1 in
    let p = packet_read packet.0 is in
    gated _ _ (sym (only_both d) ∙ (parts scenario_keys d h).only)
    (chain (timers_at d) _ (timers_met d (met 0 keys.T3Response refl) (met 1 keys.N3Requests refl) (met 2 keys.Hold refl))
    (λ t. chain (get (codes "serving") d >>= serving_of) _ (pinned (get (codes "serving") d) serving.0 serving_of serving.1 (serving_read serving.0 (serving_is serving.0 serving.1)))
    (λ s. pinned (get (codes "packet") d) packet.0 _ packet.1
    (pinned (packet_of packet.0) p.head _ p.read
    (chain (with_templates_at packet.0 (set_up t s p.head).packet) _
    (templates_read packet.0 (set_up t s p.head).packet p.head.access_points (met_in packet_keys packet.0 is.keys 8 keys.Templates refl) is.templates
    p.names refl) (λ x. refl))))))

events_met : (d : Data) → is_met d keys.Events ≡ true → is_some (events_at d) ≡ true
unfolding events_at
events_met d met = needed keys.Events d (get (codes "events") d) as_array refl (λ v. refl) met

-- a head with which nothing is wrong is read
pub head_read : (d : Data) → fits scenario_keys d ≡ true → IsServingAt d → IsPacketAt d → IsSome (setup_of d) × IsSome (events_at d)
head_read d h serving packet = (is_some_by (setup_of d) (setup_read d h serving packet), is_some_by (events_at d) (events_met d (met_in scenario_keys d h 5 keys.Events refl)))

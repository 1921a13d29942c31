-- Where something is wrong with a head, it is not read.
use Rattle.std.proofs.Common.{◌≡◌, ◌&&◌, ◌||◌, ℕ, Bool, true, false, cond, List, [], ◌∷◌, map, zero, suc, Option, Some, None, option_map, refl, sym, ap, subst, ◌∙◌, true≢false}
use Rattle.std.specs.Prelude.{is_some, codes, nat_le}
use Rattle.std.specs.List.{list_all}
use Rattle.std.specs.Option.{option_map_or}
use Rattle.serde_json.specs.Data.{Data, Items, no_items, item, Members}
use Rattle.serde_json.specs.Find.{get, get_item, as_str, as_array, as_object}
use Rattle.gtp_values.proofs.Tests.{both}
use Rattle.gtp_values.specs.declared.address.Ip.TheVariants.{V4}
use Rattle.gtp_tables.specs.Pool.{no_prefixes}
use Rattle.gtp_machine.specs.Config.{Template}
use Rattle.gtp_gateway.specs.Settings.{Settings, with_template}
use Rattle.gtp_scenario.specs.declared.reason.key.Key.{Key}
use Rattle.gtp_scenario.specs.declared.reason.key.Key.TheVariants as keys
use Rattle.gtp_scenario.specs.declared.reason.template.TemplateFlaw.{TemplateFlaw}
use Rattle.gtp_scenario.specs.declared.reason.template.TemplateFlaw.TheVariants as templates
use Rattle.gtp_scenario.specs.declared.reason.packet.PacketFlaw.{PacketFlaw}
use Rattle.gtp_scenario.specs.declared.reason.packet.PacketFlaw.TheVariants as packet
use Rattle.gtp_scenario.specs.declared.reason.head.HeadFlaw.{HeadFlaw}
use Rattle.gtp_scenario.specs.declared.reason.head.HeadFlaw.TheVariants as head
use Rattle.gtp_scenario.specs.Steps.{◌>>=◌}
use Rattle.gtp_scenario.specs.Events.{tft_at}
use Rattle.gtp_scenario.specs.Json.{text_at, number_at, whole_number, within, is_among, all_among, has_only, count_of}
use Rattle.gtp_scenario.specs.Texts.{apn_of, address_of, ipv6_of}
use Rattle.gtp_scenario.specs.Heads.{PacketHead, address_at, addresses_at, counter_at, access_points_in, access_points_at, pool_at, prefixes_from}
use Rattle.gtp_scenario.specs.Heads.{prefixes_at, pools_at, switches_of, switches_at, time_at, timers_at, serving_of, packet_of, set_up, template_of, configured, with_this}
use Rattle.gtp_scenario.specs.Heads.{with_each, with_those, with_templates_at, setup_of, events_at}
use Rattle.gtp_scenario.specs.Keys.{key_text, wanted_of, is_good, is_met, is_met_by, scenario_keys, serving_keys, packet_keys, template_keys}
use Rattle.gtp_scenario.specs.Reasons.{fits, names_one_of, IsTemplateFlaw, IsPacketFlaw, IsHeadFlaw}
use Rattle.gtp_scenario.specs.reading.Faultless.{is_template}
use Rattle.gtp_scenario.proofs.Gateways.{only_both, packet_is, template_is}
use Rattle.gtp_scenario.proofs.Whole.{by_text, some_of}
use Rattle.gtp_scenario.proofs.Strict.{step, had, two, gate, behind, apart, with_key, kept, kept_or, apn_kept, tft_kept, flaw_unfit}

-- ---- steps

fit : (known : List Key) (d : Data) → has_only (map key_text known) d ≡ true → list_all (is_met d) known ≡ true → fits known d ≡ true
fit known d only met = rw only met

unmapped : {A B : Type 0} (f : A → B) (o : Option A) → is_some (option_map f o) ≡ true → is_some o ≡ true
unmapped f None h = h
unmapped f (Some x) h = refl

object_is : (known : List (List ℕ)) (d : Data) → has_only known d ≡ true → is_some (as_object d) ≡ true
object_is known d only = by (as_object d) only
  where
    by : (o : Option Members) → option_map_or (all_among known) o false ≡ true → is_some o ≡ true
    by None h = h
    by (Some ms) h = refl

-- ---- both gateways

control_kept : (d : Data) → is_some (address_at (codes "control") d) ≡ true → is_met d keys.Control ≡ true
unfolding address_at
control_kept d h =
    kept keys.Control d (get (codes "control") d) (λ v. as_str v >>= address_of) (λ v. by_text address_of (as_str v))
    (apart (get (codes "control") d) as_str address_of (unmapped V4 _ h))

user_kept : (d : Data) → is_some (address_at (codes "user") d) ≡ true → is_met d keys.User ≡ true
unfolding address_at
user_kept d h = kept keys.User d (get (codes "user") d) (λ v. as_str v >>= address_of) (λ v. by_text address_of (as_str v)) (apart (get (codes "user") d) as_str address_of (unmapped V4 _ h))

counter_kept : (d : Data) → is_some (counter_at d) ≡ true → is_met d keys.Counter ≡ true
unfolding counter_at
counter_kept d h = kept keys.Counter d (get (codes "counter") d) (λ v. whole_number v >>= within 0 255) (λ v. refl) (apart (get (codes "counter") d) whole_number (within 0 255) h)

switches_kept : (d : Data) → is_some (switches_at d) ≡ true → is_met d keys.Switches ≡ true
unfolding switches_at
switches_kept d h = by (get (codes "switches") d) h
  where
    by : (o : Option Data) → is_some (switches_of o) ≡ true → is_met_by d keys.Switches o ≡ true
    by None h = refl
    by (Some v) h = h

-- the keys of both gateways, and those that come after them
ends_kept : (d : Data) (known : List Key) → is_some (addresses_at d) ≡ true → is_some (counter_at d) ≡ true → list_all (is_met d) known ≡ true
    → list_all (is_met d) (keys.Control ∷ keys.User ∷ keys.Counter ∷ known) ≡ true
unfolding addresses_at
ends_kept d known own counter all =
    let control = two (address_at (codes "control") d) _ own in
    with_key d keys.Control (keys.User ∷ keys.Counter ∷ known) (control_kept d control.0)
    (with_key d keys.User (keys.Counter ∷ known) (user_kept d (had (address_at (codes "user") d) _ control.1.next))
    (with_key d keys.Counter known (counter_kept d counter) all))

serving_fits : (d : Data) → is_some (serving_of d) ≡ true → fits serving_keys d ≡ true
unfolding serving_of
serving_fits d h =
    let own = two (addresses_at d) _ (behind _ _ h) in
    let counter = two (counter_at d) _ own.1.next in
    fit serving_keys d (gate _ _ h) (ends_kept d (keys.Switches ∷ []) own.0 counter.0 (with_key d keys.Switches [] (switches_kept d (had (switches_at d) _ counter.1.next)) refl))

-- ---- the packet gateway

apns_kept : (d : Data) → is_some (access_points_at d) ≡ true → is_met d keys.Apns ≡ true
unfolding access_points_at
apns_kept d h =
    kept keys.Apns d (get (codes "apns") d) (λ v. as_array v >>= λ items. cond (nat_le (count_of items) 16) (access_points_in items) None) (λ v. refl)
    (apart (get (codes "apns") d) as_array (λ items. cond (nat_le (count_of items) 16) (access_points_in items) None) h)

pool_kept : (d : Data) → is_some (pool_at d) ≡ true → (is_met d keys.Pool ≡ true) × (is_met d keys.Count ≡ true)
unfolding pool_at
pool_kept d h =
    let start = two (option_map _ (text_at (codes "pool") d >>= address_of)) _ h in (
      kept keys.Pool d (get (codes "pool") d) (λ v. as_str v >>= address_of) (λ v. by_text address_of (as_str v))
          (apart (get (codes "pool") d) as_str address_of (unmapped _ (text_at (codes "pool") d >>= address_of) start.0)),
      kept keys.Count d (get (codes "count") d) (λ v. whole_number v >>= within 0 65536) (λ v. refl)
          (apart (get (codes "count") d) whole_number (within 0 65536) (had (number_at (codes "count") d >>= within 0 65536) _ start.1.next)),
    )

-- an object that has one of both keys of a pool has both, as they have to be
abbrev BothMet : Data → Type 0
BothMet d = (is_met d keys.Pool6 ≡ true) × (is_met d keys.Count6 ≡ true)

neither : (d : Data) → is_some (get (codes "pool6") d) || is_some (get (codes "count6") d) ≡ false → BothMet d
neither d h = by (get (codes "pool6") d) (get (codes "count6") d) refl refl h
  where
    by : (o p : Option Data) → get (codes "pool6") d ≡ o → get (codes "count6") d ≡ p → is_some o || is_some p ≡ false → BothMet d
    by None None a b h = (rw (a, b) refl, rw (b, a) refl)
    by None (Some v) a b h = absurd cc
    by (Some v) p a b h = absurd cc

prefixes_kept : (d : Data) → is_some (prefixes_at d) ≡ true → BothMet d
unfolding prefixes_at
prefixes_kept d h = by (is_some (get (codes "pool6") d) || is_some (get (codes "count6") d)) refl h
  where
    given : is_some (text_at (codes "pool6") d >>= ipv6_of >>= λ start. (number_at (codes "count6") d >>= within 0 65536) >>= prefixes_from start) ≡ true → BothMet d
    given h =
        let start = two (text_at (codes "pool6") d >>= ipv6_of) _ h in (
          kept keys.Pool6 d (get (codes "pool6") d) (λ v. as_str v >>= ipv6_of) (λ v. by_text ipv6_of (as_str v)) (apart (get (codes "pool6") d) as_str ipv6_of start.0),
          kept keys.Count6 d (get (codes "count6") d) (λ v. whole_number v >>= within 0 65536) (λ v. refl)
              (apart (get (codes "count6") d) whole_number (within 0 65536) (had (number_at (codes "count6") d >>= within 0 65536) _ start.1.next)),
        )

    by : (b : Bool) → is_some (get (codes "pool6") d) || is_some (get (codes "count6") d) ≡ b → is_some
        (cond b (text_at (codes "pool6") d >>= ipv6_of >>= λ start. (number_at (codes "count6") d >>= within 0 65536) >>= prefixes_from start)
        (Some no_prefixes)) ≡ true → BothMet d
    by true is h = given h
    by false is h = neither d is

list_kept : (d : Data) (s : Settings) → is_some (with_templates_at d s) ≡ true → is_met d keys.Templates ≡ true
unfolding with_templates_at
list_kept d s h = by (get (codes "templates") d) h
  where
    by : (o : Option Data) → is_some (with_those o s) ≡ true → is_met_by d keys.Templates o ≡ true
    by None h = refl
    by (Some v) h = had (as_array v) _ h

-- what a packet gateway that is read has
record HasParts (d : Data) (p : PacketHead) : Type 0 where
  pool : is_some (pool_at d) ≡ true
  prefixes : is_some (prefixes_at d) ≡ true
  names : access_points_at d ≡ Some p.access_points
  fits : (s : Settings) → is_some (with_templates_at d s) ≡ true → fits packet_keys d ≡ true

pools_had : (d : Data) → is_some (pools_at d) ≡ true → (is_some (pool_at d) ≡ true) × (is_some (prefixes_at d) ≡ true)
unfolding pools_at
pools_had d h = let v4 = two (pool_at d) _ h in (v4.0, had (prefixes_at d) _ v4.1.next)

packet_parts : (d : Data) (p : PacketHead) → packet_of d ≡ Some p → HasParts d p
unfolding packet_of
packet_parts d p read =
    let h : is_some (packet_of d) ≡ true = ap is_some read in
    let own = two (addresses_at d) _ (behind _ _ h) in
    let counter = two (counter_at d) _ own.1.next in
    let names = two (access_points_at d) _ counter.1.next in
    let both = two (pools_at d) _ names.1.next in
    let switches = two (switches_at d) _ both.1.next in
    let pools = pools_had d both.0 in
    let v4 = pool_kept d pools.0 in
    let v6 = prefixes_kept d pools.1 in
    let pool = some_of (pool_at d) pools.0 in
    let prefixes = some_of (prefixes_at d) pools.1 in
    let full = packet_is d own.1.value counter.1.value names.1.value pool.0 prefixes.0 switches.1.value (gate _ _ h) own.1.is counter.1.is names.1.is pool.1 prefixes.1 switches.1.is in
    record {
      pool = pools.0;
      prefixes = pools.1;
      names = names.1.is ∙ ap (option_map (λ (head : PacketHead). head.access_points)) (sym full ∙ read);
      fits = λ s list.
          fit packet_keys d (gate _ _ h)
          (ends_kept d (keys.Apns ∷ keys.Pool ∷ keys.Count ∷ keys.Pool6 ∷ keys.Count6 ∷ keys.Templates ∷ keys.Switches ∷ []) own.0 counter.0
          (with_key d keys.Apns (keys.Pool ∷ keys.Count ∷ keys.Pool6 ∷ keys.Count6 ∷ keys.Templates ∷ keys.Switches ∷ []) (apns_kept d names.0)
          (with_key d keys.Pool (keys.Count ∷ keys.Pool6 ∷ keys.Count6 ∷ keys.Templates ∷ keys.Switches ∷ []) v4.0
          (with_key d keys.Count (keys.Pool6 ∷ keys.Count6 ∷ keys.Templates ∷ keys.Switches ∷ []) v4.1
          (with_key d keys.Pool6 (keys.Count6 ∷ keys.Templates ∷ keys.Switches ∷ []) v6.0
          (with_key d keys.Count6 (keys.Templates ∷ keys.Switches ∷ []) v6.1
          (with_key d keys.Templates (keys.Switches ∷ []) (list_kept d s list)
          (with_key d keys.Switches [] (switches_kept d switches.0) refl))))))));
    }

-- ---- templates

-- a template that is read has its keys, and the name of its access point
template_parts : (d : Data) (t : Template) → template_of d ≡ Some t → (fits template_keys d ≡ true) × ((text_at (codes "apn") d >>= apn_of) ≡ Some t.access_point)
unfolding template_of
template_parts d t read =
    let h : is_some (template_of d) ≡ true = ap is_some read in
    let name = two (text_at (codes "apn") d >>= apn_of) _ (behind _ _ h) in
    let tft = two (tft_at d) _ name.1.next in
    let full = template_is d name.1.value tft.1.value (gate _ _ h) name.1.is tft.1.is in (
      fit template_keys d (gate _ _ h) (with_key d keys.Apn (keys.Tft ∷ []) (apn_kept d name.0) (with_key d keys.Tft [] (tft_kept d tft.0) refl)),
      name.1.is ∙ ap (option_map (λ (u : Template). u.access_point)) (sym full ∙ read),
    )

one_kept : (names : List (List ℕ)) (d : Data) (s next : Settings) → s.config.access_points ≡ names → with_this d s ≡ Some next → (is_template names d ≡ true) × (next.config.access_points ≡ names)
one_kept names d s next same is =
    let t = step (template_of d) (configured s) (ap is_some is) in
    let parts = template_parts d t.value t.is in
    let put : configured s t.value ≡ Some next = sym (ap (λ o. o >>= configured s) t.is) ∙ is in
    let among = gate (is_among s.config.access_points t.value.access_point) (Some (with_template t.value s)) (ap is_some put) in
    let left : cond true (Some (with_template t.value s)) None ≡ Some next = sym (ap (λ b. cond b (Some (with_template t.value s)) None) among) ∙ put in
    let next_is : with_template t.value s ≡ next = cc in (
      rw parts.0 (ap (λ o. option_map_or (is_among names) o false) parts.1 ∙ ap (λ ns. is_among ns t.value.access_point) (sym same) ∙ among),
      sym (ap (λ (k : Settings). k.config.access_points) next_is) ∙ same,
    )

each_kept : (names : List (List ℕ)) (items : Items) (s : Settings) → s.config.access_points ≡ names → is_some (with_each items s) ≡ true
    → (place : ℕ) (d : Data) → get_item place items ≡ Some d → is_template names d ≡ true
each_kept names no_items s same h place d at = absurd cc
each_kept names (item e items) s same h zero d at =
    let one = step (with_this e s) (with_each items) h in
    let this : e ≡ d = cc in
    subst (λ x. is_template names x ≡ true) this (one_kept names e s one.value same one.is).0
each_kept names (item e items) s same h (suc place) d at =
    let one = step (with_this e s) (with_each items) h in
    each_kept names items one.value (one_kept names e s one.value same one.is).1 one.next place d at

template_unfit : (names : List (List ℕ)) (d : Data) (flaw : TemplateFlaw) → IsTemplateFlaw names d flaw → is_template names d ≡ false
template_unfit names d (templates.Keys flaw) is = ap (λ b. b && names_one_of names d) (flaw_unfit template_keys d flaw is)
template_unfit names d templates.NoAccessPoint is = by (fits template_keys d) (ap (λ o. option_map_or (is_among names) o false) is.1 ∙ is.2)
  where
    by : (b : Bool) → names_one_of names d ≡ false → b && names_one_of names d ≡ false
    by true h = h
    by false h = refl

-- ---- heads

timers_kept : (d : Data) → is_some (timers_at d) ≡ true → (is_met d keys.T3Response ≡ true) × (is_met d keys.N3Requests ≡ true) × (is_met d keys.Hold ≡ true)
unfolding timers_at
timers_kept d h =
    let t3 = two (time_at (codes "t3") 3 1 1000 d) _ h in
    let n3 = two (time_at (codes "n3") 3 0 100 d) _ t3.1.next in (
      kept_or keys.T3Response d (get (codes "t3") d) 3 1 1000 refl (λ v. refl) t3.0,
      kept_or keys.N3Requests d (get (codes "n3") d) 3 0 100 refl (λ v. refl) n3.0,
      kept_or keys.Hold d (get (codes "hold") d) 60 1 100000 refl (λ v. refl) (had (time_at (codes "hold") 60 1 100000 d) _ n3.1.next),
    )

-- a head that is read: both gateways are, and with the templates
record HasGateways (d : Data) : Type 0 where
  only : has_only (map key_text scenario_keys) d ≡ true
  timers : is_some (timers_at d) ≡ true
  serving : Data
  serving_is : get (codes "serving") d ≡ Some serving
  serving_read : is_some (serving_of serving) ≡ true
  packet : Data
  packet_is : get (codes "packet") d ≡ Some packet
  head : PacketHead
  packet_read : packet_of packet ≡ Some head
  set : Settings
  points : set.config.access_points ≡ head.access_points
  templates : is_some (with_templates_at packet set) ≡ true

gateways_of : (d : Data) → is_some (setup_of d) ≡ true → HasGateways d
unfolding setup_of
gateways_of d h =
    let timers = two (timers_at d) _ (behind _ _ h) in
    let serving = step (get (codes "serving") d >>= serving_of) _ timers.1.next in
    let from = step (get (codes "serving") d) serving_of (ap is_some serving.is) in
    let packet = step (get (codes "packet") d) _ serving.next in
    let head = step (packet_of packet.value) _ packet.next in
    record {
      only = only_both d ∙ gate _ _ h;
      timers = timers.0;
      serving = from.value;
      serving_is = from.is;
      serving_read = from.next;
      packet = packet.value;
      packet_is = packet.is;
      head = head.value;
      packet_read = head.is;
      set = (set_up timers.1.value serving.value head.value).packet;
      points = refl;
      templates = had (with_templates_at packet.value (set_up timers.1.value serving.value head.value).packet) _ head.next;
    }

there_kept : (key : Key) (d v : Data) (o : Option Data) → o ≡ Some v → is_good (wanted_of key) v ≡ true → is_met_by d key o ≡ true
there_kept key d v o is good = rw is good

events_kept : (d : Data) → is_some (events_at d) ≡ true → is_met d keys.Events ≡ true
unfolding events_at
events_kept d h = kept keys.Events d (get (codes "events") d) as_array (λ v. refl) h

parts_only : (known : List Key) (d : Data) → fits known d ≡ true → is_some (as_object d) ≡ true
parts_only known d h = object_is (map key_text known) d (both (has_only (map key_text known) d) (list_all (is_met d) known) h).left

scenario_fits : (d : Data) → HasGateways d → is_some (events_at d) ≡ true → fits scenario_keys d ≡ true
scenario_fits d g events =
    let timers = timers_kept d g.timers in
    let serving = parts_only serving_keys g.serving (serving_fits g.serving g.serving_read) in
    let packet = parts_only packet_keys g.packet ((packet_parts g.packet g.head g.packet_read).fits g.set g.templates) in
    fit scenario_keys d g.only
    (with_key d keys.T3Response (keys.N3Requests ∷ keys.Hold ∷ keys.Serving ∷ keys.Packet ∷ keys.Events ∷ []) timers.0
    (with_key d keys.N3Requests (keys.Hold ∷ keys.Serving ∷ keys.Packet ∷ keys.Events ∷ []) timers.1
    (with_key d keys.Hold (keys.Serving ∷ keys.Packet ∷ keys.Events ∷ []) timers.2
    (with_key d keys.Serving (keys.Packet ∷ keys.Events ∷ []) (there_kept keys.Serving d g.serving (get (codes "serving") d) g.serving_is serving)
    (with_key d keys.Packet (keys.Events ∷ []) (there_kept keys.Packet d g.packet (get (codes "packet") d) g.packet_is packet)
    (with_key d keys.Events [] (events_kept d events) refl))))))

same_value : (o : Option Data) (a b : Data) → o ≡ Some a → o ≡ Some b → a ≡ b
same_value o a b h k = (let both : Some a ≡ Some b = sym h ∙ k in cc)

packet_never : (d : Data) (p : PacketHead) (s : Settings) (flaw : PacketFlaw) → packet_of d ≡ Some p → s.config.access_points ≡ p.access_points
    → is_some (with_templates_at d s) ≡ true → IsPacketFlaw packet_keys d flaw → ⊥
unfolding with_templates_at
packet_never d p s (packet.Keys flaw) read points list is = true≢false (sym ((packet_parts d p read).fits s list) ∙ flaw_unfit packet_keys d flaw is)
packet_never d p s packet.PastLastAddress read points list is = true≢false (sym (packet_parts d p read).pool ∙ ap is_some is.1)
packet_never d p s packet.PastLastPrefix read points list is = true≢false (sym (packet_parts d p read).prefixes ∙ ap is_some is.1)
packet_never d p s (packet.Template place flaw) read points list is =
    let names : Some is.names ≡ Some p.access_points = sym is.of ∙ (packet_parts d p read).names in
    let same : p.access_points ≡ is.names = cc in
    let value = step (get (codes "templates") d) as_array (ap is_some is.list) in
    let array : as_array value.value ≡ Some is.items = sym (ap (λ o. o >>= as_array) value.is) ∙ is.list in
    let each : is_some (with_each is.items s) ≡ true = sym (ap (λ o. is_some (with_those o s)) value.is ∙ ap (λ o. is_some (o >>= λ items. with_each items s)) array) ∙ list in
    true≢false (sym (each_kept is.names is.items s (points ∙ same) each place is.at.template is.at.there) ∙ template_unfit is.names is.at.template flaw is.at.flawed)

-- a head with a flaw is none
pub head_never : (d : Data) (flaw : HeadFlaw) → IsHeadFlaw d flaw → is_some (setup_of d) ≡ true → is_some (events_at d) ≡ true → ⊥
head_never d (head.Scenario flaw) is setup events = true≢false (sym (scenario_fits d (gateways_of d setup) events) ∙ flaw_unfit scenario_keys d flaw is)
head_never d (head.Serving flaw) is setup events =
    let g = gateways_of d setup in
    let same = same_value (get (codes "serving") d) g.serving is.0 g.serving_is is.1 in
    true≢false (sym (subst (λ e. fits serving_keys e ≡ true) same (serving_fits g.serving g.serving_read)) ∙ flaw_unfit serving_keys is.0 flaw is.2)
head_never d (head.Packet flaw) is setup events =
    let g = gateways_of d setup in
    let same = same_value (get (codes "packet") d) is.0 g.packet is.1 g.packet_is in
    packet_never g.packet g.head g.set flaw g.packet_read g.points g.templates (subst (λ e. IsPacketFlaw packet_keys e flaw) same is.2)

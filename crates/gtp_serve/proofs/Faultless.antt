-- Where nothing is wrong with a head, it is read.
use Rattle.std.proofs.Common.{◌≡◌, ◌||◌, ◌∙◌, ℕ, List, true, false, Option, Some, None, refl, sym, ap}
use Rattle.std.specs.Prelude.{is_some, codes}
use Rattle.std.specs.Option.{option_map_or}
use Rattle.serde_json.specs.Data.{Data}
use Rattle.serde_json.specs.Find.{get, as_str}
use Rattle.gtp_machine.specs.declared.role.Role.{Role}
use Rattle.gtp_machine.specs.declared.role.Role.TheVariants.{Serving, Packet}
use Rattle.gtp_gateway.specs.Settings.{settings_of, switched}
use Rattle.gtp_scenario.specs.declared.reason.key.Key.TheVariants as keys
use Rattle.gtp_scenario.specs.declared.reason.wanted.Wanted.TheVariants as wanted
use Rattle.gtp_scenario.specs.Heads.{access_points_at, counter_at, pool_at, prefixes_at, pools_at, switches_at, timers_at, with_templates_at}
use Rattle.gtp_scenario.specs.Keys.{is_good_text, is_met, packet_gateway_keys, peer_keys, serving_gateway_keys}
use Rattle.gtp_scenario.specs.Reasons.{fits, role_at}
use Rattle.gtp_scenario.specs.Scenarios.{json_of}
use Rattle.gtp_scenario.specs.Steps.{◌>>=◌}
use Rattle.gtp_scenario.specs.Texts.{address_of, ipv6_of}
use Rattle.gtp_scenario.specs.reading.Faultless.{IsGateway, IsGatewayAs, IsPacket, IsPeerAt}
use Rattle.gtp_scenario.proofs.Gateways.{access_points_met, counter_met, switches_met, templates_read, there, timers_met}
use Rattle.gtp_scenario.proofs.Whole.{by_some, chain, gated, joined, met_in, needed, parts, pinned, some_of}
use Rattle.gtp_serve.specs.Heads.{addresses_at, head_as, head_in, head_of, ip_at, ip_from, ip_of, packet_of, peer_at, serving_of}

-- ---- addresses

either : (a b : Option (List ℕ)) → (is_some a || is_some b) ≡ is_some (ip_from a b)
either None None = refl
either None (Some b) = refl
either (Some a) b = refl

either_text : (o : Option (List ℕ)) → option_map_or (is_good_text wanted.AddressOfEither) o false ≡ is_some (o >>= ip_of)
unfolding ip_of
either_text None = refl
either_text (Some text) = either (address_of text) (ipv6_of text)

control_met : (d : Data) → is_met d keys.ControlAddress ≡ true → is_some (ip_at (codes "control") d) ≡ true
unfolding ip_at
control_met d met = joined (get (codes "control") d) as_str ip_of (needed keys.ControlAddress d (get (codes "control") d) (λ v. as_str v >>= ip_of) refl (λ v. either_text (as_str v)) met)

user_met : (d : Data) → is_met d keys.UserAddress ≡ true → is_some (ip_at (codes "user") d) ≡ true
unfolding ip_at
user_met d met = joined (get (codes "user") d) as_str ip_of (needed keys.UserAddress d (get (codes "user") d) (λ v. as_str v >>= ip_of) refl (λ v. either_text (as_str v)) met)

addresses_met : (d : Data) → is_met d keys.ControlAddress ≡ true → is_met d keys.UserAddress ≡ true → is_some (addresses_at d) ≡ true
unfolding addresses_at
addresses_met d control user = chain (ip_at (codes "control") d) _ (control_met d control) (λ a. chain (ip_at (codes "user") d) _ (user_met d user) (λ b. refl))

peer_met : (d : Data) → is_met d keys.Peer ≡ true → IsPeerAt d → is_some (peer_at d) ≡ true
unfolding peer_at
peer_met d met is =
    let peer = some_of (get (codes "peer") d) (there keys.Peer d (get (codes "peer") d) refl met) in
    let fit = is peer.0 peer.1 in
    let met = met_in peer_keys peer.0 fit in
    pinned (get (codes "peer") d) peer.0 _ peer.1
    (gated _ _ (parts peer_keys peer.0 fit).only (addresses_met peer.0 (met 0 keys.ControlAddress refl) (met 1 keys.UserAddress refl)))

-- ---- gateways

serving_read : (d : Data) → fits serving_gateway_keys d ≡ true → IsPeerAt d → is_some (serving_of d) ≡ true
unfolding serving_of
serving_read d h peer =
    let met = met_in serving_gateway_keys d h in
    gated _ _ (parts serving_gateway_keys d h).only
    (chain (addresses_at d) _ (addresses_met d (met 1 keys.ControlAddress refl) (met 2 keys.UserAddress refl))
    (λ own. chain (peer_at d) _ (peer_met d (met 3 keys.Peer refl) peer)
    (λ other. chain (counter_at d) _ (counter_met d (met 4 keys.Counter refl))
    (λ counter. chain (timers_at d) _ (timers_met d (met 5 keys.T3Response refl) (met 6 keys.N3Requests refl) (met 7 keys.Hold refl))
    (λ timers. chain (switches_at d) _ (switches_met d (met 8 keys.Switches refl)) (λ switches. refl))))))

packet_read : (d : Data) → IsPacket packet_gateway_keys d → IsPeerAt d → is_some (packet_of d) ≡ true
unfolding packet_of pools_at
packet_read d is peer =
    let h = is.keys in
    let met = met_in packet_gateway_keys d h in
    let names = some_of (access_points_at d) (access_points_met d (met 8 keys.Apns refl)) in
    gated _ _ (parts packet_gateway_keys d h).only
    (chain (addresses_at d) _ (addresses_met d (met 1 keys.ControlAddress refl) (met 2 keys.UserAddress refl))
    (λ own. chain (peer_at d) _ (peer_met d (met 3 keys.Peer refl) peer)
    (λ other. chain (counter_at d) _ (counter_met d (met 4 keys.Counter refl))
    (λ counter. chain (timers_at d) _ (timers_met d (met 5 keys.T3Response refl) (met 6 keys.N3Requests refl) (met 7 keys.Hold refl))
    (λ timers. pinned (access_points_at d) names.0 _ names.1
    (chain (pools_at d) _ (chain (pool_at d) _ (by_some (pool_at d) is.pool) (λ v4. chain (prefixes_at d) _ (by_some (prefixes_at d) is.prefixes) (λ v6. refl)))
    (λ pools. chain (switches_at d) _ (switches_met d (met 14 keys.Switches refl))
    (λ switches. chain (with_templates_at d (switched switches (settings_of own other names.0 pools timers))) _
    (templates_read d (switched switches (settings_of own other names.0 pools timers)) names.0 (met 13 keys.Templates refl) is.templates names.1 refl) (λ settings. refl)))))))))

as_said : (role : Role) (d : Data) → IsGatewayAs role d → IsPeerAt d → is_some (head_as role d) ≡ true
as_said Serving d is peer = serving_read d is peer
as_said Packet d is peer = packet_read d is peer

-- a head with which nothing is wrong is read
pub head_read : (d : Data) → IsGateway d → is_some (head_of d) ≡ true
unfolding head_of
head_read d is = pinned (role_at d) is.role (λ role. head_as role d) is.says (as_said is.role d is.own is.peer)

pub never_read : (d : Data) → IsGateway d → head_of d ≡ None → ⊥
never_read d is none = let both : false ≡ true = sym (ap is_some none) ∙ head_read d is in absurd cc

-- the data of a line that says no head are none
pub head_known : (line : List ℕ) (d : Data) → json_of line ≡ Some d → head_in line ≡ None → head_of d ≡ None
unfolding head_in
head_known line d is none = sym (ap (λ (o : Option Data). o >>= head_of) is) ∙ none

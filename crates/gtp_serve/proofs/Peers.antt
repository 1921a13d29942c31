-- The gateways of a node keep their role.
use Rattle.std.proofs.Common.{◌≡◌, ◌≢◌, ⊎_elim, inl, inr, ℕ, zero, suc, List, [], ◌∷◌, ◌++◌, codes, length, Option, Some, None, refl, sym, ◌∙◌, ap, subst}
use Rattle.std.specs.Prelude.{slice_get, slice_set}
use Rattle.std.proofs.lemmas.Bool.{cases_eq}
use Rattle.std.proofs.lemmas.Option.{same_Some}
use Rattle.gtp_values.specs.declared.address.Endpoint.{Endpoint}
use Rattle.gtp_values.specs.declared.plane.Plane.{Plane}
use Rattle.gtp_machine.specs.declared.role.Role.{Role}
use Rattle.gtp_gateway.specs.GatewayState.{GatewayState}
use Rattle.gtp_node.specs.Routing.{IsRouted, Peers, with_gateway, with_peer}
use Rattle.gtp_node.specs.declared.node.Routed.{Routed}
use Rattle.gtp_node.proofs.Routing.{set_here, set_elsewhere}
use Rattle.json.specs.Json.{Json}
use Rattle.gtp_serve.specs.Answers.{Does}
use Rattle.gtp_serve.specs.NodeAnswers.{Adds, DoesOfNode, HasRole, NodeState, OfPeer, Routes, routed_json}
use Rattle.gtp_serve.specs.NodeHeads.{settings_in}
use Rattle.gtp_serve.specs.Replies.{word_json}
use Rattle.gtp_gateway.specs.Settings.{Settings}
use Rattle.gtp_gateway.specs.declared.config.Addresses.{Addresses}
use Rattle.gtp_serve.specs.Requests.{Request}
use Rattle.gtp_serve.specs.Served.{OrStays}
use Rattle.gtp_serve.proofs.Roles.{received_role}

pub kept_at : (role : Role) (gateways : List GatewayState) (place : ℕ) (before after : GatewayState) → HasRole role gateways → slice_get gateways place ≡ Some before
    → after.role ≡ before.role → HasRole role (slice_set gateways place after)
kept_at role gateways place before after has stands same k gateway there = ⊎_elim here elsewhere (cases_eq k place)
  where
    here : k ≡ place → gateway.role ≡ role
    here is =
        let set : slice_get (slice_set gateways place after) k ≡ Some after = ap (λ n. slice_get (slice_set gateways place after) n) is ∙ set_here gateways place before after stands in
        ap (λ (g : GatewayState). g.role) (same_Some gateway after (sym there ∙ set)) ∙ same ∙ has place before stands

    elsewhere : k ≢ place → gateway.role ≡ role
    elsewhere other = has k gateway (sym (set_elsewhere gateways place k after other) ∙ there)

last_or_before : (gateways : List GatewayState) (last : GatewayState) (k : ℕ) (gateway : GatewayState) → slice_get (gateways ++ last ∷ []) k ≡ Some gateway
    → (P : GatewayState → Type 0) → ((n : ℕ) (g : GatewayState) → slice_get gateways n ≡ Some g → P g) → P last → P gateway
last_or_before [] last zero gateway there P each of_last = subst P (same_Some last gateway there) of_last
last_or_before [] last (suc k) gateway there P each of_last = absurd (cc there)
last_or_before (g ∷ gateways) last zero gateway there P each of_last = each 0 gateway there
last_or_before (g ∷ gateways) last (suc k) gateway there P each of_last = last_or_before gateways last k gateway there P (λ n. each (suc n)) of_last

pub kept_with : (role : Role) (gateways : List GatewayState) (last : GatewayState) → HasRole role gateways → last.role ≡ role → HasRole role (gateways ++ last ∷ [])
kept_with role gateways last has is k gateway there = last_or_before gateways last k gateway there (λ g. g.role ≡ role) has is

pub kept_routed : (role : Role) (plane : Plane) (source : Endpoint) (octets : List ℕ) (old : Peers) (routed : Option Routed) (new : Peers) → HasRole role old.gateways
    → IsRouted plane source octets old routed new → HasRole role new.gateways
kept_routed role plane source octets old None new has is = subst (λ (p : Peers). HasRole role p.gateways) (sym is.1) has
kept_routed role plane source octets old (Some routed) new has is =
    subst (λ (p : Peers). HasRole role p.gateways) (sym is.changes)
    (kept_at role old.gateways routed.place is.before is.after has is.from.stands (received_role plane source octets is.before routed.step is.after is.received))

set_same : {X : Type 0} (xs : List X) (i : ℕ) (x : X) → slice_get xs i ≡ Some x → slice_set xs i x ≡ xs
set_same [] i x there = absurd (cc there)
set_same (y ∷ xs) zero x there = ap (λ z. z ∷ xs) (sym (same_Some y x there))
set_same (y ∷ xs) (suc i) x there = ap (λ zs. y ∷ zs) (set_same xs i x there)

-- what the gateway at a place answers, the node does
pub asked_at : (place : ℕ) (request : Request) (old new : NodeState) (before after : GatewayState) (answer : Json) → slice_get old.peers.gateways place ≡ Some before
    → new ≡ record old { peers = with_gateway place after old.peers } → OrStays (Does (Some place) request) before answer after
    → OrStays (DoesOfNode (OfPeer place request)) old answer new
asked_at place request old new before after answer stands is (inl does) = inl (inl (record { before = before; after = after; stands = stands; does = does; changes = is }))
asked_at place request old new before after answer stands is (inr (told, still)) =
    inr (
      told,
      is ∙ ap (λ (gateways : List GatewayState). record old { peers = record old.peers { gateways = gateways } })
          (ap (λ (g : GatewayState). slice_set old.peers.gateways place g) still ∙ set_same old.peers.gateways place before stands),
    )

-- what a datagram came to, the node tells
pub takes : (plane : Plane) (source : Endpoint) (octets : List ℕ) (old new : NodeState) (peers : Peers) (routed : Option Routed) → IsRouted plane source octets old.peers routed peers
    → new ≡ record old { peers = peers } → DoesOfNode (Routes plane source octets) old (routed_json routed) new
takes plane source octets old new peers routed goes is = record { routed = routed; peers = peers; goes_to = goes; changes = is; told = refl }

-- the settings of a further peer, as its place and the first line are read
pub joins_not : (peer : Addresses) (now was : NodeState) → was ≡ now → (line : List ℕ) (count : ℕ) → line ≡ was.head → count ≡ length was.peers.gateways
    → settings_in was.role line peer count ≡ None → settings_in now.role now.head peer (length now.peers.gateways) ≡ None
joins_not peer now was is line count same_line same_count none =
    subst (λ (s : NodeState). settings_in s.role s.head peer (length s.peers.gateways) ≡ None) is
    (subst (λ n. settings_in was.role was.head peer n ≡ None) same_count (subst (λ l. settings_in was.role l peer count ≡ None) same_line none))

pub joins : (peer : Addresses) (now was : NodeState) (settings : Settings) (peers : Peers) → was ≡ now → (line : List ℕ) (count : ℕ) → line ≡ was.head → count ≡ length was.peers.gateways
    → settings_in was.role line peer count ≡ Some settings → peers ≡ with_peer was.role settings was.counter was.peers
    → DoesOfNode (Adds peer) now (word_json (Some (length now.peers.gateways)) (codes "added")) (record was { peers = peers })
joins peer now was settings peers is line count same_line same_count has added = inl (record {
  settings = settings;
  has =
      subst (λ (s : NodeState). settings_in s.role s.head peer (length s.peers.gateways) ≡ Some settings) is
      (subst (λ n. settings_in was.role was.head peer n ≡ Some settings) same_count (subst (λ l. settings_in was.role l peer count ≡ Some settings) same_line has));
  changes =
      ap (λ (p : Peers). record was { peers = p }) added
      ∙ ap (λ (s : NodeState). record s { peers = with_peer s.role settings s.counter s.peers }) is;
  told = refl;
})

-- No two sessions of a packet gateway have one address.
use Rattle.std.proofs.Common.{◌≡◌, ◌≢◌, ⊎_elim, ℕ, List, Option, Some, None, refl, sym, ◌∙◌, ap, subst}
use Rattle.std.specs.FinMap.{get, insert}
use Rattle.std.proofs.lemmas.Option.{same_Some}
use Rattle.gtp_values.proofs.Outcomes.{none_some}
use Rattle.gtp_values.specs.FiniteMap.{FiniteMap}
use Rattle.gtp_tables.specs.declared.pool.IpVersion.{IpVersion}
use Rattle.gtp_tables.specs.declared.pool.IpVersion.TheVariants.{V4, V6}
use Rattle.gtp_tables.specs.Free.{IsUnusedAddress}
use Rattle.gtp_tables.specs.Part.{part_of}
use Rattle.gtp_machine.specs.Element.{PdnAddress}
use Rattle.gtp_machine.specs.Node.{Serving, Packet, Session, Node}
use Rattle.gtp_machine.specs.Choice.{IsPart, IsGiven}
use Rattle.gtp_machine.specs.Sound.{AreAddressesApart}
use Rattle.gtp_machine.proofs.Basics.FiniteMaps.{found-insert}

pub serving_not_packet : Serving ≢ Packet
serving_not_packet e = cc e

-- no session has the address of this one, of either version
abbrev pub HasNewAddress : FiniteMap Session → Session → Type 0
HasNewAddress sessions s = (version : IpVersion) (address : List ℕ) → part_of version s.address ≡ Some address → IsUnusedAddress version sessions address

-- a session comes with an address that none has
pub apart_session : (sessions : FiniteMap Session) (key : ℕ) (new : Session) → HasNewAddress sessions new → AreAddressesApart sessions → AreAddressesApart (insert sessions key new)
apart_session sessions key new unused apart version s t a b address x y has_a has_b =
    ⊎_elim
    (λ first. ⊎_elim
    (λ second. first.0 ∙ sym second.0)
    (λ old. absurd (unused version address (ap (λ (k : Session). part_of version k.address) first.1 ∙ has_a) t b old.1 has_b))
    (found-insert sessions key new t b y))
    (λ was. ⊎_elim
    (λ second. absurd (unused version address (ap (λ (k : Session). part_of version k.address) second.1 ∙ has_b) s a was.1 has_a))
    (λ old. apart version s t a b address was.1 old.1 has_a has_b)
    (found-insert sessions key new t b y))
    (found-insert sessions key new s a x)

-- a session changes, and keeps its address
pub apart_same : (sessions : FiniteMap Session) (key : ℕ) (was new : Session) → get sessions key ≡ Some was → new.address ≡ was.address
    → AreAddressesApart sessions → AreAddressesApart (insert sessions key new)
apart_same sessions key was new stands same apart version s t a b address x y has_a has_b =
    let first = before s a x in
    let second = before t b y in
    apart version s t first.0 second.0 address first.1 second.1 (ap (part_of version) first.2 ∙ has_a) (ap (part_of version) second.2 ∙ has_b)
  where
    before : (u : ℕ) (c : Session) → get (insert sessions key new) u ≡ Some c → (d : Session) × (get sessions u ≡ Some d) × (d.address ≡ c.address)
    before u c e = ⊎_elim
        (λ here. (was, ap (λ k. get sessions k) here.0 ∙ stands, sym same ∙ ap (λ (k : Session). k.address) here.1))
        (λ old. (c, old.1, refl))
        (found-insert sessions key new u c e)

-- an address that is given is new
pub given_is_new : (node : Node) (pdn : ℕ) (s : Session) (address : PdnAddress) → s.address ≡ Some address → IsGiven node pdn address → HasNewAddress node.sessions s
given_is_new node pdn s address has given version part is = by version part (ap (part_of version) (sym has) ∙ is)
  where
    unused : (version : IpVersion) (o : Option (List ℕ)) → IsPart node pdn version o → (part : List ℕ) → o ≡ Some part → IsUnusedAddress version node.sessions part
    unused version None none part e = absurd (none_some part e)
    unused version (Some other) some part e = subst (IsUnusedAddress version node.sessions) (same_Some other part e) some.1.unused

    by : (version : IpVersion) (part : List ℕ) → part_of version (Some address) ≡ Some part → IsUnusedAddress version node.sessions part
    by V4 part e = unused V4 address.v4 given.v4 part e
    by V6 part e = unused V6 address.v6 given.v6 part e

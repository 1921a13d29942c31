-- Where `==` of two values is true, they are the same.
use Rattle.std.proofs.Common.{◌≡◌, ◌∙◌, ℕ, Bool, List, Option, Some, None, refl, ap, sym}
use Rattle.std.specs.Prelude.{◌&&◌, nat_eq}
use Rattle.std.specs.Bool.{Decides}
use Rattle.std.specs.Option.{option_eq}
use Rattle.std.specs.Cmp.{booleans_Decides}
use Rattle.std.specs.Cmp.Lexicographic.{pointwise, bytes_decides}
use Rattle.std.proofs.lemmas.Bool.Decides.{Decides-eqb, Decides-and, Decides-like}
use Rattle.gtp_values.specs.declared.address.Ip.{Ip}
use Rattle.gtp_values.specs.declared.address.Ip.TheVariants as addresses
use Rattle.gtp_values.specs.declared.address.Endpoint.{Endpoint}
use Rattle.gtp_values.specs.declared.cause.Cause.{Cause}
use Rattle.gtp_values.specs.declared.cause.Offending.{Offending}
use Rattle.gtp_values.specs.declared.paa.Paa.{Paa}
use Rattle.gtp_values.specs.declared.paa.Paa.TheVariants as paas
use Rattle.gtp_values.specs.declared.qos.Ambr.{Ambr}
use Rattle.gtp_values.specs.declared.qos.Rates.{Rates}
use Rattle.gtp_values.specs.declared.qos.Qos.{Qos}
use Rattle.gtp_values.specs.TunnelEnd.{TunnelEnd}
use Rattle.gtp_values.specs.PdnAddress.{PdnAddress}
use Rattle.gtp_values.specs.Plmn.{Network}
use Rattle.gtp_values.specs.contracts.address.IpPartialEq.TheImpl as ips
use Rattle.gtp_values.specs.contracts.address.EndpointPartialEq.TheImpl as endpoints
use Rattle.gtp_values.specs.contracts.imsi.ImsiPartialEq.TheImpl as imsis
use Rattle.gtp_values.specs.contracts.apn.ApnPartialEq.TheImpl as apns
use Rattle.gtp_values.specs.contracts.tft.TftPartialEq.TheImpl as tfts
use Rattle.gtp_values.specs.contracts.plmn.PlmnPartialEq.TheImpl as plmns
use Rattle.gtp_values.specs.contracts.fteid.FTeidPartialEq.TheImpl as fteids
use Rattle.gtp_values.specs.contracts.addr.AddrPartialEq.TheImpl as addrs
use Rattle.gtp_values.specs.contracts.cause.CausePartialEq.TheImpl as causes
use Rattle.gtp_values.specs.contracts.cause.OffendingPartialEq.TheImpl as offendings
use Rattle.gtp_values.specs.contracts.paa.PaaPartialEq.TheImpl as allocations
use Rattle.gtp_values.specs.contracts.qos.AmbrPartialEq.TheImpl as ambrs
use Rattle.gtp_values.specs.contracts.qos.RatesPartialEq.TheImpl as all_rates
use Rattle.gtp_values.specs.contracts.qos.QosPartialEq.TheImpl as qualities

-- equal functions of equal things
pub app : {A B : Type 0} {f g : A → B} {x y : A} → f ≡ g → x ≡ y → f x ≡ g y
app {f = f} {g = g} {x = x} {y = y} p q = rw (p, q) refl

-- a test of a part, and then of the others
pub and_then : {p q : Bool} {A B : Type 0} → Decides p A → Decides q B → Decides (p && q) (A × B)
and_then {p = p} {q = q} d e = Decides-and p q d e

-- a test of parts is one of the whole
pub whole_by : {p : Bool} {A B : Type 0} → (A → B) → (B → A) → Decides p A → Decides p B
whole_by {p = p} join parts d = Decides-like p join parts d

-- a view that can be turned back determines what is seen
pub one_by : {X Y : Type 0} (view : X → Y) (back : Y → X) → ((x : X) → back (view x) ≡ x) → (a b : X) → view a ≡ view b → a ≡ b
one_by view back returns a b e = sym (returns a) ∙ (ap back e ∙ returns b)

pub options_same : {X : Type 0} (eq : X → X → Bool) → ((x y : X) → Decides (eq x y) (x ≡ y)) → (o p : Option X) → Decides (option_eq eq o p) (o ≡ p)
options_same eq same (Some x) (Some y) = whole_by (λ e. ap (λ z. Some z) e) (λ e. cc) (same x y)
options_same eq same None None = (λ e. refl, λ e. refl)
options_same eq same o p = (λ e. absurd cc, λ e. absurd cc)

pub ip_same : (a b : Ip) → Decides ((ips.ghosts).eq a b) (a ≡ b)
ip_same (addresses.V4 a) (addresses.V4 b) = whole_by (λ e. ap (λ x. addresses.V4 x) e) (λ e. cc) (bytes_decides a b)
ip_same (addresses.V6 a) (addresses.V6 b) = whole_by (λ e. ap (λ x. addresses.V6 x) e) (λ e. cc) (bytes_decides a b)
ip_same a b = (λ e. absurd cc, λ e. absurd cc)

abbrev endpoint : Ip → ℕ → Endpoint
endpoint ip port = record { ip = ip; port = port }

pub endpoint_same : (a b : Endpoint) → Decides ((endpoints.ghosts).eq a b) (a ≡ b)
endpoint_same a b = whole_by (λ e. app (ap endpoint e.0) e.1) (λ e. (ap (λ k. k.ip) e, ap (λ k. k.port) e)) (and_then (ip_same a.ip b.ip) (Decides-eqb a.port b.port))

pub imsi_same : (a b : List ℕ) → Decides ((imsis.ghosts).eq a b) (a ≡ b)
imsi_same a b = bytes_decides a b

pub apn_same : (a b : List ℕ) → Decides ((apns.ghosts).eq a b) (a ≡ b)
apn_same a b = bytes_decides a b

pub tft_same : (a b : List ℕ) → Decides ((tfts.ghosts).eq a b) (a ≡ b)
tft_same a b = bytes_decides a b

abbrev pub network_with : List ℕ → List ℕ → Network
network_with mcc mnc = record { mcc = mcc; mnc = mnc }

pub plmn_same : (a b : Network) → Decides ((plmns.ghosts).eq a b) (a ≡ b)
plmn_same a b =
    whole_by (λ e. app (ap network_with e.0) e.1) (λ e. (ap (λ n. n.mcc) e, ap (λ n. n.mnc) e)) (and_then (bytes_decides a.mcc b.mcc) (bytes_decides a.mnc b.mnc))

abbrev pub end_with : ℕ → ℕ → Option (List ℕ) → Option (List ℕ) → TunnelEnd
end_with interface teid v4 v6 = record { interface = interface; teid = teid; v4 = v4; v6 = v6 }

pub fteid_same : (a b : TunnelEnd) → Decides ((fteids.ghosts).eq a b) (a ≡ b)
fteid_same a b =
    whole_by (λ e. app (app (app (ap end_with e.0) e.1.0) e.1.1.0) e.1.1.1) (λ e. (ap (λ t. t.interface) e, (ap (λ t. t.teid) e, (ap (λ t. t.v4) e, ap (λ t. t.v6) e))))
    (and_then (Decides-eqb a.interface b.interface) (and_then (Decides-eqb a.teid b.teid)
    (and_then (options_same (pointwise nat_eq) bytes_decides a.v4 b.v4) (options_same (pointwise nat_eq) bytes_decides a.v6 b.v6))))

abbrev pub address_with : Option (List ℕ) → Option (List ℕ) → PdnAddress
address_with v4 v6 = record { v4 = v4; v6 = v6 }

pub addr_same : (a b : PdnAddress) → Decides ((addrs.ghosts).eq a b) (a ≡ b)
addr_same a b =
    whole_by (λ e. app (ap address_with e.0) e.1) (λ e. (ap (λ k. k.v4) e, ap (λ k. k.v6) e))
    (and_then (options_same (pointwise nat_eq) bytes_decides a.v4 b.v4) (options_same (pointwise nat_eq) bytes_decides a.v6 b.v6))

abbrev pub offending_with : ℕ → ℕ → Offending
offending_with kind instance = record { kind = kind; instance = instance }

offending_same : (a b : Offending) → Decides ((offendings.ghosts).eq a b) (a ≡ b)
offending_same a b =
    whole_by (λ e. app (ap offending_with e.0) e.1) (λ e. (ap (λ o. o.kind) e, ap (λ o. o.instance) e)) (and_then (Decides-eqb a.kind b.kind) (Decides-eqb a.instance b.instance))

abbrev pub cause_with : ℕ → Bool → Bool → Bool → Option Offending → Cause
cause_with value pce bce cs offending = record { value = value; pce = pce; bce = bce; cs = cs; offending = offending }

pub cause_same : (a b : Cause) → Decides ((causes.ghosts).eq a b) (a ≡ b)
cause_same a b =
    whole_by (λ e. app (app (app (app (ap cause_with e.0) e.1.0) e.1.1.0) e.1.1.1.0) e.1.1.1.1)
    (λ e. (ap (λ c. c.value) e, (ap (λ c. c.pce) e, (ap (λ c. c.bce) e, (ap (λ c. c.cs) e, ap (λ c. c.offending) e)))))
    (and_then (Decides-eqb a.value b.value) (and_then (booleans_Decides a.pce b.pce) (and_then (booleans_Decides a.bce b.bce)
    (and_then (booleans_Decides a.cs b.cs) (options_same ((offendings.ghosts).eq) offending_same a.offending b.offending)))))

pub paa_same : (a b : Paa) → Decides ((allocations.ghosts).eq a b) (a ≡ b)
paa_same (paas.V4 a) (paas.V4 b) = whole_by (λ e. ap (λ v. paas.V4 v) e) (λ e. cc) (bytes_decides a b)
paa_same (paas.V6 p a) (paas.V6 q b) = whole_by (λ e. app (ap (λ n (v : List ℕ). paas.V6 n v) e.0) e.1) (λ e. (cc, cc)) (and_then (Decides-eqb p q) (bytes_decides a b))
paa_same (paas.V4V6 p a x) (paas.V4V6 q b y) =
    whole_by (λ e. app (app (ap (λ n (v w : List ℕ). paas.V4V6 n v w) e.0) e.1.0) e.1.1) (λ e. (cc, (cc, cc))) (and_then (Decides-eqb p q) (and_then (bytes_decides a b) (bytes_decides x y)))
paa_same (paas.Other a) (paas.Other b) = whole_by (λ e. ap (λ n. paas.Other n) e) (λ e. cc) (Decides-eqb a b)
paa_same a b = (λ e. absurd cc, λ e. absurd cc)

abbrev pub ambr_with : ℕ → ℕ → Ambr
ambr_with up down = record { up = up; down = down }

pub ambr_same : (a b : Ambr) → Decides ((ambrs.ghosts).eq a b) (a ≡ b)
ambr_same a b = whole_by (λ e. app (ap ambr_with e.0) e.1) (λ e. (ap (λ r. r.up) e, ap (λ r. r.down) e)) (and_then (Decides-eqb a.up b.up) (Decides-eqb a.down b.down))

abbrev pub rates_with : ℕ → ℕ → Rates
rates_with up down = record { up = up; down = down }

rates_same : (a b : Rates) → Decides ((all_rates.ghosts).eq a b) (a ≡ b)
rates_same a b = whole_by (λ e. app (ap rates_with e.0) e.1) (λ e. (ap (λ r. r.up) e, ap (λ r. r.down) e)) (and_then (Decides-eqb a.up b.up) (Decides-eqb a.down b.down))

abbrev quality : Bool → ℕ → Bool → ℕ → Rates → Rates → Qos
quality pci pl pvi qci mbr gbr = record { pci = pci; pl = pl; pvi = pvi; qci = qci; mbr = mbr; gbr = gbr }

pub qos_same : (a b : Qos) → Decides ((qualities.ghosts).eq a b) (a ≡ b)
qos_same a b =
    whole_by (λ e. app (app (app (app (app (ap quality e.0) e.1.0) e.1.1.0) e.1.1.1.0) e.1.1.1.1.0) e.1.1.1.1.1)
    (λ e. (ap (λ q. q.pci) e, (ap (λ q. q.pl) e, (ap (λ q. q.pvi) e, (ap (λ q. q.qci) e, (ap (λ q. q.mbr) e, ap (λ q. q.gbr) e))))))
    (and_then (booleans_Decides a.pci b.pci) (and_then (Decides-eqb a.pl b.pl)
    (and_then (booleans_Decides a.pvi b.pvi) (and_then (Decides-eqb a.qci b.qci) (and_then (rates_same a.mbr b.mbr) (rates_same a.gbr b.gbr))))))

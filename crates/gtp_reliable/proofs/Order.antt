-- The order of requests is total, and two that it calls equal are the same.
use Rattle.std.proofs.Common.{ℕ, List, Ordering, ◌≡◌, refl, ap, ◌∙◌}
use Rattle.std.specs.declared.cmp.Ordering.TheVariants.{Less, Equal, Greater}
use Rattle.std.specs.Cmp.{IsTotalOrder}
use Rattle.std.specs.Cmp.Lexicographic.{slice_cmp}
use Rattle.std.specs.Ordering.{nat_cmp, ordering_then, ordering_reverse}
use Rattle.std.specs.FinMap.{slice_cmp-IsAntisymmetric, nat_cmp-IsAntisymmetric}
use Rattle.std.proofs.lemmas.Cmp.{nat_cmp_total, nat_list_cmp_total, then_total, on_total}
use Rattle.gtp_values.specs.declared.address.Endpoint.{Endpoint}
use Rattle.gtp_values.specs.declared.address.Ip.{Ip}
use Rattle.gtp_values.specs.declared.address.Ip.TheVariants.{V4, V6}
use Rattle.gtp_reliable.specs.Held.{Question}
use Rattle.gtp_reliable.specs.Order.{version, address_octets, ip_cmp, source_cmp, from_number, octets_cmp, question_cmp}

ip_total : IsTotalOrder ip_cmp
ip_total = then_total (on_total version nat_cmp_total) (on_total address_octets nat_list_cmp_total)

source_total : IsTotalOrder source_cmp
source_total = then_total (on_total (λ (s : Endpoint). s.ip) ip_total) (on_total (λ (s : Endpoint). s.port) nat_cmp_total)

octets_total : IsTotalOrder octets_cmp
octets_total = then_total (on_total from_number nat_list_cmp_total) nat_list_cmp_total

pub question_total : IsTotalOrder question_cmp
question_total = then_total (on_total (λ (q : Question). q.source) source_total) (on_total (λ (q : Question). q.octets) octets_total)

-- ---- equal ones

both : (a b : Ordering) → ordering_then a b ≡ Equal → (a ≡ Equal) × (b ≡ Equal)
both Less b h = absurd cc
both Equal b h = (refl, h)
both Greater b h = absurd cc

ip_exact : (a b : Ip) → ip_cmp a b ≡ Equal → a ≡ b
ip_exact (V4 x) (V4 y) h = ap V4 (slice_cmp-IsAntisymmetric nat_cmp-IsAntisymmetric x y h)
ip_exact (V6 x) (V6 y) h = ap V6 (slice_cmp-IsAntisymmetric nat_cmp-IsAntisymmetric x y h)
ip_exact (V4 x) (V6 y) h = absurd cc
ip_exact (V6 x) (V4 y) h = absurd cc

source_exact : (a b : Endpoint) → source_cmp a b ≡ Equal → a ≡ b
source_exact a b h =
    let parts = both (ip_cmp a.ip b.ip) (nat_cmp a.port b.port) h in
    λ i. record { ip = ip_exact a.ip b.ip parts.0 i; port = nat_cmp-IsAntisymmetric a.port b.port parts.1 i }

octets_exact : (a b : List ℕ) → octets_cmp a b ≡ Equal → a ≡ b
octets_exact a b h = slice_cmp-IsAntisymmetric nat_cmp-IsAntisymmetric a b (both (slice_cmp nat_cmp (from_number a) (from_number b)) (slice_cmp nat_cmp a b) h).1

pub question_exact : (a b : Question) → question_cmp a b ≡ Equal → a ≡ b
question_exact a b h =
    let parts = both (source_cmp a.source b.source) (octets_cmp a.octets b.octets) h in
    λ i. record { source = source_exact a.source b.source parts.0 i; octets = octets_exact a.octets b.octets parts.1 i }

pub reversed : (a b : Question) (o : Ordering) → question_cmp b a ≡ o → question_cmp a b ≡ ordering_reverse o
reversed a b o e = question_total.antisymm a b ∙ ap ordering_reverse e

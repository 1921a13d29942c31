-- Addresses are equal exactly where they are the same.
use Rattle.std.proofs.Common.{rules, ◌≡◌, true, subst}
use Rattle.gtp_values.specs.declared.address.Ip.{Ip}
use Rattle.gtp_values.specs.declared.address.Ip.TheVariants.{V4, V6}
use Rattle.gtp_values.specs.contracts.address.IpPartialEq.TheImpl.{eq-value}

pub exact : (a b : Ip) → eq-value.it a b ≡ true → a ≡ b
exact (V4 a) (V4 b) e = search rules
exact (V4 a) (V6 b) e = search rules
exact (V6 a) (V4 b) e = search rules
exact (V6 a) (V6 b) e = search rules

pub equal : (a b : Ip) → a ≡ b → eq-value.it a b ≡ true
equal a b e = subst (λ c. eq-value.it a c ≡ true) e (itself a)
  where
    itself : (a : Ip) → eq-value.it a a ≡ true
    itself (V4 a) = search rules
    itself (V6 a) = search rules

use Rattle.std.proofs.Common.{rules, refl, arith}
use Rattle.gtp_values.specs.declared.address.Ip.TheVariants as TheIp
use Rattle.gtp_values.specs.Address.{SomeIpText}
use Rattle.gtp_values.proofs.Addresses.{ip_text_length, wrote, wrote_none}
use Rattle.gtp_values.proofs.address.Ip.from_text.Goals as goal

pub returns-then-text-lt7 : goal.returns-then-text-lt7
returns-then-text-lt7 c = record {
  ok = (λ h. absurd cc h, λ some. absurd (let long = ip_text_length c.args.text.now some in let least = long.least in omega (arith, c.if-text-lt7.true)));
  value = search rules;
  short = search rules;
  long = search rules;
  digit = search rules;
}

pub returns-then-text-gt32 : goal.returns-then-text-gt32
returns-then-text-gt32 c = record {
  ok = (λ h. absurd cc h, λ some. absurd (let long = ip_text_length c.args.text.now some in let most = long.most in omega (arith, c.if-text-gt32.true)));
  value = search rules;
  short = search rules;
  long = search rules;
  digit = search rules;
}

pub returns-in-Ok : goal.returns-in-Ok
returns-in-Ok c =
    let some : SomeIpText c.args.text.now = (TheIp.V4 c.in-Ok.address.octets, c.in-Ok.ensures.value) in
    record {
      ok = (λ h. some, λ h. refl);
      value = search rules;
      short = search rules;
      long = search rules;
      digit = (λ h. absurd cc h, λ h. absurd (h.1 some));
    }

pub returns-in-Ok-decode_to_slice : goal.returns-in-Ok-decode_to_slice
returns-in-Ok-decode_to_slice c =
    let is = wrote c.args.text.now c.decode_to_slice.result c.decode_to_slice.new.out c.decode_to_slice.ensures.value c.in-Ok-decode_to_slice.is in
    let some : SomeIpText c.args.text.now = (TheIp.V6 c.decode_to_slice.new.out, is) in
    record {
      ok = (λ h. some, λ h. refl);
      value = is;
      short = search rules;
      long = search rules;
      digit = (λ h. absurd cc h, λ h. absurd (h.1 some));
    }

-- the text is neither
none : (c : goal.In-Err) → SomeIpText c.args.text.now → ⊥
none c (TheIp.V4 octets, is) = c.in_default.ensures.value (record { octets = octets }) is
none c (TheIp.V6 octets, is) = wrote_none c.args.text.now c.decode_to_slice.result c.decode_to_slice.new.out _ c.decode_to_slice.ensures.value c.in-Err.is octets is

pub returns-in-Err : goal.returns-in-Err
returns-in-Err c = record {
  ok = (λ h. absurd cc h, λ some. absurd (none c some));
  value = tt;
  short = search rules;
  long = search rules;
  digit = (λ h. (record { least = search rules; most = search rules }, none c), λ h. refl);
}

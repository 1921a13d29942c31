use Rattle.std.proofs.Common.{rules, refl, ◌∙◌, sym}
use Rattle.hex.proofs.HexLemmas.{IsOk-decode_sized, decode_sized-twice}
use Rattle.gtp_values.specs.Teid.{IsTeidText}
use Rattle.gtp_values.proofs.identifiers.Teid.from_text.Goals as goal

pub returns-in-Ok : goal.returns-in-Ok
returns-in-Ok c =
    let text = c.args.text.now in
    let read = sym c.from_hex.ensures ∙ c.in-Ok.is in
    let is = (IsOk-decode_sized text 4).0 (rw read refl) in
    record {
      ok = (λ h. is, λ h. refl);
      value = (c.in-Ok.octets, sym (decode_sized-twice text 4 is.0) ∙ read, c.from_be_bytes.ensures);
      short = search rules;
      long = search rules;
      digit = (λ h. absurd cc h, λ h. absurd (h.1 is));
    }

pub returns-in-Err : goal.returns-in-Err
returns-in-Err c =
    let text = c.args.text.now in
    let unread = sym c.from_hex.ensures ∙ c.in-Err.is in
    let none : IsTeidText text → ⊥ = λ is. absurd (let bad = rw unread at ((IsOk-decode_sized text 4).1 is) in cc bad) in
    record {
      ok = (λ h. absurd cc h, λ h. absurd (none h));
      value = tt;
      short = search rules;
      long = search rules;
      digit = (λ h. (search rules, none), λ h. refl);
    }

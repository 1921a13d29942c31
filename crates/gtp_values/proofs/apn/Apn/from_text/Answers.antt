use Rattle.std.proofs.Common.{rules, arith, ◌≡◌, subst, sym}
use Rattle.std.proofs.lemmas.Grind.{common_steps}
use Rattle.gtp_values.specs.Apn.{IsApn, HasApnLength, octets_of_text}
use Rattle.gtp_values.proofs.NamesAsText.{name_of_text, says_its_name, length_of_name, same_text}
use Rattle.gtp_values.proofs.apn.Apn.from_text.Goals as goal

pub returns : goal.returns
returns c =
    let text = c.args.text.now in
    let octets = c.as_slice.result.now in
    let same : octets ≡ octets_of_text text = search rules in
    let ok = c.try_new.ensures.ok in
    let label = c.try_new.ensures.label in
    record {
      ok = (λ h. says_its_name text (subst IsApn same (ok.0 h)), λ says. ok.1 (subst IsApn (sym same) (name_of_text text says)));
      value = grind (arith, common_steps, same_text);
      short = search rules;
      long = search rules;
      label = (
        λ h. (search rules, λ says. (label.0 h).1 (subst IsApn (sym same) (name_of_text text says)).labels),
        λ h.
            let long : HasApnLength octets = subst HasApnLength (sym same) (length_of_name text h.0) in
            label.1 (long, λ labels. h.1 (says_its_name text (subst IsApn same (record { least = long.least; most = long.most; labels = labels })))),
      );
    }

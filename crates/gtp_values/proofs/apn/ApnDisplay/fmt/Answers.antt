use Rattle.std.proofs.Common.{◌∙◌, ◌-◌, ap, sym, subst, length, drop, get_or, arith}
use Rattle.std.proofs.lemmas.List.{take_all, length-drop}
use Rattle.gtp_values.specs.Apn.{are_labels_from, IsApn}
use Rattle.gtp_values.proofs.NamesAsText.{labels_after_first}
use Rattle.gtp_values.proofs.apn.ApnDisplay.fmt.Goals as goal

pub write_labels-requires : goal.write_labels-requires
write_labels-requires g c =
    let octets = c.octets.result.now in
    let is : IsApn octets = subst IsApn (sym c.octets.ensures.value) c.octets.ensures.range in
    let whole = take_all (length octets - 1) (drop 1 octets) (omega (arith, length-drop 1 octets)) in
    record { labels = ap (are_labels_from (get_or octets 0 0)) whole ∙ labels_after_first octets is }

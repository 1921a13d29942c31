use Rattle.std.proofs.Common.{◌≡◌, ℕ, ◌+◌, List, length, drop, ap, ◌∙◌, sym, subst}
use Rattle.gtp_user.specs.Chain.{chain_encoding}
use Rattle.gtp_user.specs.Message.{Content, Notification, content_of}
use Rattle.gtp_c.specs.Reading.{LiesAt}
use Rattle.gtp_c.specs.Sizes.{HasTypes, header_size}
use Rattle.gtp_c.proofs.Carrying.{same_at_end, has_types}
use Rattle.gtp_c.proofs.user.place_of.Goals as goal

pub last_at-requires : goal.last_at-requires
last_at-requires c = same_at_end _ c.args.octets.now c.args.view.now c.requires.spelled (sym (ap content_of c.in-Packet.is) ∙ c.requires.body)

pub last_at-requires-in-Other : goal.last_at-requires-in-Other
last_at-requires-in-Other c = same_at_end _ c.args.octets.now c.args.view.now c.requires.spelled (sym (ap content_of c.in-Other.is) ∙ c.requires.body)

pub returns-in-Notification : goal.returns-in-Notification
returns-in-Notification c =
    let octets = c.args.octets.now in
    let m = c.args.view.now in
    let types = c.in-Notification.types.now in
    let same : Notification types ≡ m.content = sym (ap content_of c.in-Notification.is) ∙ c.requires.body in
    let encoding = c.octets.ensures.encoding ∙ ap chain_encoding c.extensions.ensures in
    let place : c.header_len.result + length c.octets.result.now ≡ header_size octets + length (chain_encoding m.ext) =
    ap (λ (n : ℕ). n + length c.octets.result.now) c.header_len.ensures ∙ ap (λ (xs : List ℕ). header_size octets + length xs) encoding in
    let has = subst (λ (n : ℕ). HasTypes types (drop n octets)) (sym place) (has_types types octets m c.requires.spelled same) in
    subst (λ (content : Content). LiesAt content octets c.types_at.result) same (c.types_at.ensures types has)

-- Reading functions, for private contracts and proofs: what the code's readings of elements stand for.
use Rattle.std.specs.Prelude.{◌≡◌, ℕ, List, Option, option_map, Result, Ok}
use Rattle.std.specs.Borrow.{Bor}
use Rattle.gtp_user.specs.declared.fault.UserFault.{UserFault}
use Rattle.gtp_user.specs.declared.element.Element.{Element as ElementView}
use Rattle.gtp_user.specs.declared.element.Element.TheVariants as views
use Rattle.gtp_user.specs.declared.element.Found.{Found as FoundView}
use Rattle.gtp_values.specs.Steps.{◌>>=◌}
use Rattle.gtp_user.specs.Element.{Element, Recovery, TeidData, Peer, Types, Skipped}
use Rattle.gtp_user.specs.reading.Elements.{Found, elements_at, found_in}

-- two slices
abbrev pub parts_of : Bor (List ℕ) × Bor (List ℕ) → List ℕ × List ℕ
parts_of p = (p.0.now, p.1.now)

abbrev pub element_of : ElementView → Element
element_of views.Recovery = Recovery
element_of (views.TeidData teid) = TeidData teid
element_of (views.Peer address) = Peer address
element_of (views.Types types) = Types types.now
element_of views.Skipped = Skipped

-- what was found at the start
abbrev pub ElementIs : Option (ElementView × Bor (List ℕ)) → Option (Element × List ℕ) → Type 0
ElementIs found front = option_map (λ p. (element_of p.0, p.1.now)) found ≡ front

abbrev pub found_of : FoundView → Found
found_of f = record { recovery = f.recovery; teid = f.teid; peer = f.peer; types = option_map (λ t. t.now) f.types }

-- what the elements say
unfoldable pub found_at : ℕ → List ℕ → Result Found UserFault
found_at end octets = elements_at end octets >>= λ es. Ok (found_in es)

-- Datagrams that name an interface other than S5/S8.
use Rattle.std.specs.Prelude.{◌≡◌, ℕ, ◌<◌, ◌⊎◌, List}
use Rattle.gtp_values.specs.TunnelEnd.{TunnelEnd}
use Rattle.gtp_values.specs.declared.plane.Plane.{Plane}
use Rattle.gtp_values.specs.declared.plane.Plane.TheVariants as planes
use Rattle.gtp_ie.specs.Element.{Element}
use Rattle.gtp_ie.specs.Form.{bearer_context, number_of}
use Rattle.gtp_ie.specs.declared.form.Form.TheVariants as forms
use Rattle.gtp_ie.specs.Value.{OfFTeid}
use Rattle.gtp_ie.specs.Spelling.{Spells}
use Rattle.gtp_v2.specs.Headed.{Headed}
use Rattle.gtp_v2.specs.Viewed.{inner_of}
use Rattle.gtp_user.specs.declared.fault.UserFault.{UserFault}
use Rattle.gtp_user.specs.declared.fault.UserFault.TheVariants as faults
use Rattle.gtp_user.specs.Datagram.{IsUserFault}
use Rattle.gtp_lines.specs.All.{pair_at}
use Rattle.gtp_lines.specs.Filter.{SomeOf, elements_behind, headers_by}

-- an element is an F-TEID whose interface type is none of 4 to 7, which are those of S5/S8 (TS 29.274 8.22)
abbrev pub NamesElsewhere : Element → Type 0
NamesElsewhere e = (e.kind ≡ number_of forms.FTeid) × ((f : TunnelEnd) × ((f.interface < 4) ⊎ (7 < f.interface)) × Spells (number_of forms.FTeid) e.body (OfFTeid f))

-- it is one, or a bearer context whose elements are whole and have one among them
abbrev pub HoldsElsewhere : Element → Type 0
HoldsElsewhere e = NamesElsewhere e ⊎ ((e.kind ≡ bearer_context) × SomeOf NamesElsewhere (inner_of e))

-- a message has one among its elements, where these are whole
abbrev pub HasElsewhere : Headed → Type 0
HasElsewhere h = SomeOf HoldsElsewhere (elements_behind h)

-- a fault is that a PDU session container (133) is not understood, which gateways of 5G understand (TS 29.281 5.2.2.7)
abbrev pub IsOfContainer : UserFault → Type 0
IsOfContainer (faults.ExtensionNeeded kind at) = kind ≡ 133
IsOfContainer fault = ⊥

-- A message of a control datagram has one; the fault of a user datagram is such.
abbrev pub IsElsewhere : Plane → List ℕ → Type 0
IsElsewhere planes.Control octets = SomeOf HasElsewhere (headers_by octets (pair_at octets))
IsElsewhere planes.User octets = (f : UserFault) × IsUserFault octets f × IsOfContainer f

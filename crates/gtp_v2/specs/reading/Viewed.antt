-- Reading functions, for the model of a view's private fields, private contracts and proofs: what those fields stand for.
use Rattle.std.specs.Prelude.{◌≡◌, ℕ, ◌<◌, List, [], length, Option, Some, None, Result, Ok, Err}
use Rattle.gtp_ie.specs.Element.{Element, elements_of, list_of}
use Rattle.gtp_v2.specs.Table.{Table}
use Rattle.gtp_v2.specs.reading.Checked.{forgotten}
use Rattle.gtp_v2.specs.Headed.{Headed}
use Rattle.gtp_v2.specs.Message.{Content, Raw, with_content}
use Rattle.gtp_v2.specs.reading.Headed.{header_at}
use Rattle.gtp_v2.specs.reading.Message.{content_at, message_at}
use Rattle.gtp_v2.specs.Tables.{table_of}
use Rattle.gtp_v2.specs.Viewed.{Viewed}

-- what a header is followed by
abbrev pub content_or_none : {E : Type 0} → Result Content E → Content
content_or_none (Ok content) = content
content_or_none (Err f) = Raw []

-- the elements after a header, where its type has a table
abbrev pub elements_by : Option Table → Headed → Option (List Element)
elements_by None h = None
elements_by (Some table) h = Some (list_of (elements_of h.at h.rest))

abbrev pub list_or_none : Option (List Element) → List Element
list_or_none None = []
list_or_none (Some es) = es

abbrev pub viewed : Headed → Option (List Element) → Viewed
viewed h elements = record { message = with_content h (content_or_none (content_at h)); octets = h.rest; elements = list_or_none elements }

-- the octets after the header spell something, and these are the elements
pub record IsViewed (h : Headed) (elements : Option (List Element)) : Type 0 where
  pub reads : forgotten (content_at h) ≡ Ok tt
  pub walked : elements ≡ elements_by (table_of h.kind) h

-- what the octets of a message stand for, by its header and the elements after it
abbrev pub viewed_by : {E : Type 0} → Result Headed E → Option Viewed
viewed_by (Ok h) = Some (viewed h (elements_by (table_of h.kind) h))
viewed_by (Err f) = None

abbrev pub viewed_at : List ℕ → Option Viewed
viewed_at octets = viewed_by (header_at octets)

-- where there are octets of a second message, they spell one
abbrev pub IsBack : List ℕ → Type 0
IsBack back = 0 < length back → forgotten (message_at back) ≡ Ok tt

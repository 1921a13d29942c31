-- The grammar of one message: which one octets spell, and which fault is their first.
use Rattle.std.specs.Prelude.{◌≡◌, ◌≢◌, ◌==◌, cond, ℕ, Bool, List, Option, Some, None, is_some, ◌⊎◌}
use Rattle.gtp_values.specs.Decides.{First_or_later}
use Rattle.gtp_ie.specs.Element.{Element}
use Rattle.gtp_ie.specs.Octets.{AreElements, IsCut}
use Rattle.gtp_ie.specs.declared.fault.IeFault.TheVariants.{Truncated}
use Rattle.gtp_ie.specs.Form.{number_of}
use Rattle.gtp_ie.specs.declared.form.Form.TheVariants.{FTeid}
use Rattle.gtp_ie.specs.Value.{OfFTeid}
use Rattle.gtp_values.specs.TunnelEnd.{TunnelEnd}
use Rattle.gtp_v2.specs.declared.fault.RowFault.{RowFault}
use Rattle.gtp_v2.specs.declared.fault.V2Fault.{V2Fault}
use Rattle.gtp_v2.specs.declared.fault.V2Fault.TheVariants as faults
use Rattle.gtp_v2.specs.Table.{Line, Field, start, Table}
use Rattle.gtp_v2.specs.Grammar.{Says, SaysNothing, LinesAre, LinesFail}
use Rattle.gtp_v2.specs.Headed.{Headed}
use Rattle.gtp_v2.specs.Header.{IsHeaded, HeaderFails}
use Rattle.gtp_v2.specs.Message.{head_of, with_head, Content, Fields, Raw, MessageValue, with_content}
use Rattle.gtp_v2.specs.CreateSessionRequest.{create_session_request}
use Rattle.gtp_v2.specs.Asks.{Asks, asks_in, asks_of}

-- the octets after the header are elements that give the lines these fields
abbrev pub FieldsAre : List Line → Headed → List Field → Type 0
FieldsAre lines h fields = (es : List Element) × AreElements h.at h.rest es × LinesAre start lines es fields

-- the first end for control messages among the elements, where it reads
abbrev pub EndIs : List Element → Option TunnelEnd → Type 0
EndIs es None = SaysNothing (number_of FTeid) 0 es
EndIs es (Some e) = Says (number_of FTeid) 0 es (OfFTeid e)

-- a Create Session Request tells its sender's end, and no other message does
abbrev pub SenderIs : ℕ → List Element → Option TunnelEnd → Type 0
SenderIs kind es sender = cond (kind == create_session_request.kind) (EndIs es sender) (sender ≡ None)

-- the list of elements is cut short, and no sender is told
abbrev pub ListFails : Headed → V2Fault → Type 0
ListFails h f = (place : ℕ) × IsCut h.at h.rest place × (f ≡ faults.Element (Truncated place) (head_of h None))

-- a line is at fault, and the sender is told
abbrev pub FieldsFail : List Line → Headed → List Element → V2Fault → Type 0
FieldsFail lines h es f = (g : RowFault) × LinesFail start lines es g × ((sender : Option TunnelEnd) × SenderIs h.kind es sender × (f ≡ with_head (head_of h sender) g))

-- a header has a TEID exactly where one is asked for
abbrev pub HasForm : Option Bool → Headed → Type 0
HasForm None h = Unit {0}
HasForm (Some has_teid) h = is_some h.teid ≡ has_teid

-- it has one where none is asked for, or none where one is
abbrev pub LacksForm : Option Bool → Headed → Type 0
LacksForm None h = ⊥
LacksForm (Some has_teid) h = is_some h.teid ≢ has_teid

-- what a message carries, by what is asked of its type
abbrev pub CarriesAsked : Option Asks → Headed → Content → Type 0
CarriesAsked None h content = content ≡ Raw h.rest
CarriesAsked (Some asks) h content = HasForm asks.has_teid h × (fields : List Field) × FieldsAre asks.lines h fields × (content ≡ Fields fields)

-- why it carries nothing: the wrong form of header, then its list of elements, and then its lines
abbrev pub FailsAsked : Option Asks → Headed → V2Fault → Type 0
FailsAsked None h f = ⊥
FailsAsked (Some asks) h f =
    (LacksForm asks.has_teid h × (f ≡ faults.FlagT h.kind))
    ⊎ (HasForm asks.has_teid h × First_or_later (AreElements h.at h.rest) (ListFails h) (FieldsFail asks.lines h) f)

-- the octets spell the message, by what is asked of each type
abbrev pub IsMessageBy : (ℕ → Option Asks) → List ℕ → MessageValue → Type 0
IsMessageBy asked octets m = (h : Headed) × IsHeaded octets h × ((content : Content) × CarriesAsked (asked h.kind) h content × (m ≡ with_content h content))

-- the first fault of the octets, by what is asked of each type
abbrev pub IsFaultBy : (ℕ → Option Asks) → List ℕ → V2Fault → Type 0
IsFaultBy asked octets = First_or_later (IsHeaded octets) (HeaderFails octets) (λ h. FailsAsked (asked h.kind) h)

-- ---- by the tables here

-- what a message carries
abbrev pub CarriesBy : Option Table → Headed → Content → Type 0
CarriesBy table = CarriesAsked (asks_in table)

-- why it carries nothing
abbrev pub FailsBy : Option Table → Headed → V2Fault → Type 0
FailsBy table = FailsAsked (asks_in table)

-- the octets spell the message
abbrev pub IsMessage : List ℕ → MessageValue → Type 0
IsMessage = IsMessageBy asks_of

-- the first fault of the octets
abbrev pub IsFault : List ℕ → V2Fault → Type 0
IsFault = IsFaultBy asks_of

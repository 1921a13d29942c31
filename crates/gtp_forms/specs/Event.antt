-- What a reading tells, in order.
use Rattle.std.specs.Prelude.{ℕ, List, []}
use Rattle.std.specs.List.{flat_map}
use Rattle.gtp_forms.specs.declared.form.View.{View}

pub data Event : Type 0 where
  Field : List View → List ℕ → Event
  BeginPart : List ℕ → Event
  EndPart : Event
  BeginList : List ℕ → Event
  EndList : Event
  BeginItem : List ℕ → Event
  EndItem : List ℕ → Event
  Missing : Event
  Left : List ℕ → Event

-- the octets that an event stands for
abbrev pub octets_in : Event → List ℕ
octets_in (Field views octets) = octets
octets_in (BeginPart name) = []
octets_in EndPart = []
octets_in (BeginList name) = []
octets_in EndList = []
octets_in (BeginItem name) = []
octets_in (EndItem name) = []
octets_in Missing = []
octets_in (Left octets) = octets

-- those of events, in their order
abbrev pub octets_of : List Event → List ℕ
octets_of events = flat_map octets_in events

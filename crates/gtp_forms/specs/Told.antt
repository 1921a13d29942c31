-- What the code's events stand for.
use Rattle.gtp_forms.specs.declared.told.Told.{Told}
use Rattle.gtp_forms.specs.declared.told.Told.TheVariants as told
use Rattle.gtp_forms.specs.declared.reader.Cut.{Cut}
use Rattle.gtp_forms.specs.Reading.{Cut as Spelled}
use Rattle.gtp_forms.specs.Event.{Event, Field, BeginPart, EndPart, BeginList, EndList, BeginItem, EndItem, Missing, Left}

abbrev pub event_of : Told → Event
event_of (told.Field views octets) = Field views.now octets.now
event_of (told.BeginPart name) = BeginPart name.now
event_of told.EndPart = EndPart
event_of (told.BeginList name) = BeginList name.now
event_of told.EndList = EndList
event_of (told.BeginItem name) = BeginItem name.now
event_of (told.EndItem name) = EndItem name.now
event_of told.Missing = Missing
event_of (told.Left octets) = Left octets.now

-- what the code's cut stands for
abbrev pub cut_of : Cut → Spelled
cut_of c = record { size = c.size.now; body = c.body.now; rest = c.rest.now }

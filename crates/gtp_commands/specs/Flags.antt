-- What the arguments of a command ask for.
use Rattle.std.specs.Prelude.{◌≡◌, ◌≢◌, ◌<◌, ◌⊎◌, ◌&&◌, ◌||◌, not, ℕ, Bool, true, false, List, codes, map, Option, Some, None, IsSomeAnd, bytes_eq}
use Rattle.gtp_values.specs.Address.{IsIpText}
use Rattle.gtp_values.specs.Imsi.{IsImsiText, value_of_digit}
use Rattle.gtp_values.specs.Teid.{IsTeidText, WritesTeid}
use Rattle.std.specs.Str.Parse.{IsNumeral, digits_value, without_leading_plus}
use Rattle.gtp_values.specs.declared.plane.Plane.{Plane}
use Rattle.gtp_values.specs.declared.plane.Plane.TheVariants.{Control, User}
use Rattle.gtp_json.specs.declared.datagram.Members.TheVariants as members
use Rattle.gtp_lines.specs.User.{user_name}
use Rattle.gtp_lines.specs.declared.filter.Kinds.{Kinds}
use Rattle.gtp_lines.specs.declared.frames.Form.TheVariants as frames
use Rattle.gtp_lines.specs.declared.type_text.TypeOf.{TypeOf}
use Rattle.gtp_lines.specs.declared.type_text.TypeOf.TheVariants as types
use Rattle.gtp_dump.specs.declared.decoding.Asked.{Asked}
use Rattle.gtp_names.specs.declared.names.Names.{Names}
use Rattle.gtp_interfaces.specs.declared.interface.Interface.{Interface}
use Rattle.gtp_interfaces.specs.declared.interface.Interface.TheVariants as interfaces
use Rattle.gtp_lines.specs.Named.{name_in}
use Rattle.gtp_dump.specs.declared.decoding.Form.{Form as DumpForm}
use Rattle.gtp_dump.specs.declared.decoding.Form.TheVariants as dump
use Rattle.gtp_replay.specs.declared.replaying.Form.{Form as ReplayForm}
use Rattle.gtp_replay.specs.declared.replaying.Form.TheVariants as replay
use Rattle.gtp_commands.specs.declared.capturing.CaptureAsked.{CaptureAsked}
use Rattle.gtp_commands.specs.declared.capturing.CaptureForm.{CaptureForm}
use Rattle.gtp_commands.specs.declared.capturing.CaptureForm.TheVariants.{Text, Json}

-- with `--user` the plane of users is named, and else none
abbrev pub plane_named : Bool → Option Plane
plane_named true = Some User
plane_named false = None

-- where none is named, it is that of control
abbrev pub plane_of : Option Plane → Plane
plane_of (Some plane) = plane
plane_of None = Control

-- what `--json`, `--all` and `--places` ask of `decode`
abbrev pub dump_form : (names : Names) (interface : Interface) (json all places : Bool) → DumpForm
dump_form names interface true true places = dump.Json (members.All names interface places)
dump_form names interface true false places = dump.Json members.Plain
dump_form names interface false true places = dump.All names interface
dump_form names interface false false places = dump.Lines

-- and, with `--brief`, of `capture`
abbrev pub capture_form : (names : Names) (interface : Interface) (json brief all places : Bool) → CaptureForm
capture_form names interface true brief true places = Json (members.All names interface places)
capture_form names interface true brief false places = Json members.Plain
capture_form names interface false true all places = Text (frames.Brief names)
capture_form names interface false false true places = Text (frames.All names interface)
capture_form names interface false false false places = Text frames.Lines

-- of several forms of `replay` the first counts
abbrev pub replay_form : (json pcap svg diagram : Bool) → ReplayForm
replay_form true pcap svg diagram = replay.Json
replay_form false true svg diagram = replay.Capture
replay_form false false true diagram = replay.Svg
replay_form false false false true = replay.Diagram
replay_form false false false false = replay.Report

-- a type of this name; none where no type has it
abbrev pub IsKindOf : (ℕ → Option (List ℕ)) → List ℕ → Option ℕ → Type 0
IsKindOf name word (Some kind) = (kind < 256) × (name kind ≡ Some word)
IsKindOf name word None = (kind : ℕ) → kind < 256 → name kind ≢ Some word

-- the word is a number below 256
abbrev pub IsKindNumber : List ℕ → Type 0
IsKindNumber word = IsNumeral 10 (without_leading_plus word) × (digits_value 10 (without_leading_plus word) < 256)

-- the type of this number on both planes
abbrev pub numbered : ℕ → Kinds
numbered kind = record { control = Some kind; user = Some kind }

-- what `--type` asks for: the type of this number on both planes, or those of this name
abbrev pub AreKinds : Names → List ℕ → Kinds → Type 0
AreKinds names word kinds =
    (IsKindNumber word × (kinds ≡ numbered (digits_value 10 (without_leading_plus word))))
    ⊎ ((IsKindNumber word → ⊥) × IsKindOf (name_in names) word kinds.control × IsKindOf user_name word kinds.user)

-- of no plane
abbrev pub no_kinds : Kinds
no_kinds = record { control = None; user = None }

-- the same, where there is one: what a word chooses
abbrev pub ChoosesKinds : Names → List ℕ → Kinds → Type 0
ChoosesKinds names word kinds = AreKinds names word kinds × (kinds ≢ no_kinds)

-- the word for an interface
abbrev pub interface_word : Interface → List ℕ
interface_word interfaces.S5S8 = codes "s5s8"
interface_word interfaces.S11 = codes "s11"
interface_word interfaces.Any = codes "any"

-- the interface that `--interface` names; S5/S8 without it
abbrev pub SaysInterface : Option (List ℕ) → Interface → Type 0
SaysInterface None interface = interface ≡ interfaces.S5S8
SaysInterface (Some word) interface = word ≡ interface_word interface

-- S5/S8 judges everywhere, another interface where this says so
abbrev pub IsJudged : Bool → Interface → Type 0
IsJudged judges interface = interface ≢ interfaces.S5S8 → judges ≡ true

-- the word for what has types
abbrev pub type_word : TypeOf → List ℕ
type_word types.Element = codes "element"
type_word types.Message = codes "message"
type_word types.ExtensionHeader = codes "extension"

-- what a word names; none where it is the word for nothing that has types
abbrev pub IsTypeWord : List ℕ → Option TypeOf → Type 0
IsTypeWord word (Some what) = word ≡ type_word what
IsTypeWord word None = (what : TypeOf) → word ≢ type_word what

-- the base in which a type is written
abbrev pub type_base : TypeOf → ℕ
type_base types.ExtensionHeader = 16
type_base other = 10

-- the word writes a type: a number below 256 in that base
abbrev pub WritesType : TypeOf → List ℕ → Type 0
WritesType what word = IsNumeral (type_base what) (without_leading_plus word) × (digits_value (type_base what) (without_leading_plus word) < 256)

-- the type that a word writes; none where it writes none
abbrev pub IsTypeWritten : TypeOf → List ℕ → Option ℕ → Type 0
IsTypeWritten what word (Some kind) = WritesType what word × (kind ≡ digits_value (type_base what) (without_leading_plus word))
IsTypeWritten what word None = ¬ WritesType what word

-- ---- the words of a command

-- the words give names values: of some names one, of others none
abbrev pub Values : Type 0
Values = List ℕ → Option (List ℕ)

-- a flag that is set has the value `true`
abbrev pub says_true : Option (List ℕ) → Bool
says_true None = false
says_true (Some value) = bytes_eq value (codes "true")

abbrev pub is_set : Values → List ℕ → Bool
is_set values name = says_true (values name)

-- what the words of `decode` ask for, with an interface
abbrev pub dump_of : Names → Interface → Values → Asked
dump_of names interface values = record { plane = plane_named (is_set values (codes "user")); form = dump_form names interface (is_set values (codes "json")) (is_set values (codes "all")) (is_set values (codes "places")); join = is_set values (codes "join") }

-- the same with the one that they name, where it judges
pub record IsDumpAsked (names : Names) (values : Values) (asked : Asked) : Type 0 where
  pub interface : Interface
  pub says : SaysInterface (values (codes "interface")) interface
  pub judged : IsJudged (is_set values (codes "all")) interface
  pub asks : asked ≡ dump_of names interface values

-- in which form the words of `capture` and of `replay` ask for what is shown
abbrev pub capture_form_of : Names → Interface → Values → CaptureForm
capture_form_of names interface values = capture_form names interface (is_set values (codes "json")) (is_set values (codes "brief")) (is_set values (codes "all")) (is_set values (codes "places"))

-- whether an interface judges: all of a datagram is shown, and not in one line
abbrev pub capture_judges : Values → Bool
capture_judges values = is_set values (codes "all") && (is_set values (codes "json") || not (is_set values (codes "brief")))

-- that of `capture` with the interface that they name, where it judges
pub record IsFormAsked (names : Names) (values : Values) (form : CaptureForm) : Type 0 where
  pub interface : Interface
  pub says : SaysInterface (values (codes "interface")) interface
  pub judged : IsJudged (capture_judges values) interface
  pub asks : form ≡ capture_form_of names interface values

abbrev pub replay_form_of : Values → ReplayForm
replay_form_of values = replay_form (is_set values (codes "json")) (is_set values (codes "pcap")) (is_set values (codes "svg")) (is_set values (codes "diagram"))

-- what a word says, where there is one, and nothing else
abbrev pub IsSaid : {X : Type 0} → (List ℕ → X → Type 0) → Option (List ℕ) → Option X → Type 0
IsSaid Says None value = value ≡ None
IsSaid Says (Some word) value = IsSomeAnd value (Says word)

-- the word is a number that a port has, below 65,536
abbrev pub IsPortNumber : List ℕ → Type 0
IsPortNumber word = IsNumeral 10 (without_leading_plus word) × (digits_value 10 (without_leading_plus word) < 65536)

-- the port of this number
abbrev pub SaysPort : List ℕ → ℕ → Type 0
SaysPort word port = IsPortNumber word × (port ≡ digits_value 10 (without_leading_plus word))

-- the subscriber whose digits the word writes
abbrev pub SaysImsi : List ℕ → List ℕ → Type 0
SaysImsi word digits = IsImsiText word × (digits ≡ map value_of_digit word)

-- the TEID that the word writes
abbrev pub SaysTeid : List ℕ → ℕ → Type 0
SaysTeid word teid = IsTeidText word × WritesTeid word teid

-- what the words of `capture` ask for
pub record IsCaptureAsked (names : Names) (values : Values) (asked : CaptureAsked) : Type 0 where
  pub form : IsFormAsked names values asked.frames.form
  pub faults : asked.frames.only_faults ≡ is_set values (codes "faults")
  pub kinds : IsSaid (ChoosesKinds names) (values (codes "type")) asked.frames.filter.kinds
  pub imsi : IsSaid SaysImsi (values (codes "imsi")) asked.frames.filter.imsi
  pub teid : IsSaid SaysTeid (values (codes "teid")) asked.frames.filter.teid
  pub address : IsSaid IsIpText (values (codes "address")) asked.frames.filter.address
  pub control : IsSaid SaysPort (values (codes "control-port")) asked.ports.control
  pub user : IsSaid SaysPort (values (codes "user-port")) asked.ports.user

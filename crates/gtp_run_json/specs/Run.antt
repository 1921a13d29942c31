-- A run as JSON, an object a line.
use Rattle.std.specs.Prelude.{◌≡◌, ⊤, ℕ, List, [], ◌∷◌, ◌++◌, Some}
use Rattle.std.specs.List.{flat_map}
use Rattle.json.specs.Json.{Json, document}
use Rattle.json.specs.Print.{print}
use Rattle.json.specs.Tree.{json_tokens}
use Rattle.gtp_machine.specs.World.{Event}
use Rattle.gtp_world.specs.Record.{WorldRecord}
use Rattle.gtp_json.specs.Tree.{line_of}
use Rattle.gtp_run_json.specs.Happened.{events_json}
use Rattle.gtp_run_json.specs.Ending.{IsEndJson}

-- the objects of a run: each event and what it came to, and then what stands at the end
abbrev pub IsRun : List Event → WorldRecord → List Json → Type 0
IsRun events v objects = (end : Json) × IsEndJson v end × (objects ≡ events_json events v.log.datagrams v.log.notes ++ end ∷ [])

-- and their lines
abbrev pub IsRunJson : List Event → WorldRecord → List ℕ → Type 0
IsRunJson events v text = (objects : List Json) × IsRun events v objects × (text ≡ flat_map line_of objects)

-- a reader of JSON finds this object in its line, less the line feed (RFC 8259)
abbrev pub ReadsAsItself : Json → Type 0
ReadsAsItself j = document (print (json_tokens j)) ≡ Some j

-- and so for each
abbrev pub AllRead : List Json → Type 0
AllRead [] = ⊤
AllRead (j ∷ js) = ReadsAsItself j × AllRead js

-- the lines of a run, each of which reads back as its object
abbrev pub IsReadBack : List Event → WorldRecord → List ℕ → Type 0
IsReadBack events v text = (objects : List Json) × IsRun events v objects × AllRead objects × (text ≡ flat_map line_of objects)

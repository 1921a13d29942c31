-- Objects that say of each of a list whether something holds.
use Rattle.std.specs.Prelude.{ℕ, List, [], ◌∷◌, ◌++◌, Bool, codes}
use Rattle.json.specs.Json.{Json, boolean}
use Rattle.gtp_machine.specs.Input.{Entry}
use Rattle.gtp_machine.specs.World.{By}
use Rattle.gtp_world.specs.Naming.{Pair, Sessions, Bearers}
use Rattle.gtp_scenario.specs.Words.{role_text}
use Rattle.gtp_outcomes.specs.Each.{TellsEach}
use Rattle.gtp_json.specs.Tree.{member, object_of}
use Rattle.gtp_json.specs.Values.{hexadecimal}
use Rattle.gtp_run_json.specs.Members.{word_member, teid_member}

-- there is an object for each, which says whether this holds of it
abbrev pub JudgesEach : {X : Type 0} → (X → Type 0) → (X → Bool → Json) → List X → List Json → Type 0
JudgesEach Holds shape xs judged = TellsEach Holds (λ x verdict. shape x verdict ∷ []) xs judged

-- the kind and both TEIDs of contexts that name each other, the serving gateway's first, and whether they agree
abbrev pub pair_json : List ℕ → ℕ → ℕ → Bool → Json
pair_json kind serving packet agree =
    object_of (word_member (codes "kind") kind ++ (teid_member (codes "serving") serving ++ (teid_member (codes "packet") packet ++ member (codes "agree") (boolean agree))))

-- two contexts that name each other
abbrev pub mutual_json : Pair → Bool → Json
mutual_json (Sessions serving packet) agree = pair_json (codes "session") serving packet agree
mutual_json (Bearers serving packet) agree = pair_json (codes "bearer") serving packet agree

-- a packet that was accepted
abbrev pub accepted_json : By Entry → Bool → Json
accepted_json a owed =
    object_of (word_member (codes "node") (role_text a.role) ++ (teid_member (codes "teid") a.what.target
    ++ (member (codes "payload") (hexadecimal a.what.payload) ++ member (codes "owed") (boolean owed))))

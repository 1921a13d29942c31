-- Lines that say of each of a list whether something holds.
use Rattle.std.specs.Prelude.{ℕ, List, ◌++◌, Bool, true, false, codes}
use Rattle.gtp_values.specs.Teid.{teid_text}
use Rattle.gtp_machine.specs.Input.{Entry}
use Rattle.gtp_machine.specs.World.{By}
use Rattle.gtp_world.specs.Naming.{Pair, Sessions, Bearers}
use Rattle.gtp_lines.specs.Text.{octets_text}
use Rattle.gtp_scenario.specs.Words.{role_text}

abbrev pub agree_word : Bool → List ℕ
agree_word true = codes "agree"
agree_word false = codes "differ"

-- both TEIDs of contexts that name each other, the serving gateway's first, and whether they agree
abbrev pub pair_text : ℕ → ℕ → Bool → List ℕ
pair_text serving packet agree = teid_text serving ++ codes " " ++ teid_text packet ++ codes " " ++ agree_word agree ++ codes "\n"

-- two contexts that name each other
abbrev pub mutual_line : Pair → Bool → List ℕ
mutual_line (Sessions serving packet) agree = codes "mutual session " ++ pair_text serving packet agree
mutual_line (Bearers serving packet) agree = codes "mutual bearer " ++ pair_text serving packet agree

abbrev pub owed_word : Bool → List ℕ
owed_word true = codes "owed"
owed_word false = codes "unowed"

-- a packet that was accepted
abbrev pub taken_line : By Entry → Bool → List ℕ
taken_line a owed = codes "taken " ++ role_text a.role ++ codes " " ++ teid_text a.what.target ++ codes " " ++ octets_text a.what.payload ++ codes " " ++ owed_word owed ++ codes "\n"

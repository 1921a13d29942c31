-- Where the fault of a datagram lies: places count octets from the start of the datagram, from 0.
use Rattle.std.specs.Prelude.{◌≡◌, ℕ, Bool, true, false, List, ◌++◌, length, Option, Some, None, ◌⊎◌, codes}
use Rattle.json.specs.Json.{Json}
use Rattle.gtp_v2.specs.declared.fault.V2Fault.{V2Fault}
use Rattle.gtp_v2.specs.declared.fault.V2Fault.TheVariants as faults
use Rattle.gtp_v2.specs.Message.{MessageValue}
use Rattle.gtp_v2.specs.Datagram.{IsMessage}
use Rattle.gtp_v2.specs.Pair.{Announces}
use Rattle.gtp_user.specs.declared.fault.UserFault.{UserFault}
use Rattle.gtp_user.specs.declared.fault.UserFault.TheVariants as user_faults
use Rattle.gtp_json.specs.Control.{placed_members, fault_member}
use Rattle.gtp_json.specs.User.{some_member, user_fault_members}

-- ---- the control plane

-- a first message that is right announces a second one, of which the first octet has this place
abbrev pub IsSecondAt : List ℕ → ℕ → Type 0
IsSecondAt octets at = (front : List ℕ) × (back : List ℕ) × Announces octets front back × ((m : MessageValue) × IsMessage front m) × (at ≡ length front)

-- the message at fault begins there: the second one, where the first is right; else the first
abbrev pub BeginsFault : List ℕ → ℕ → Type 0
BeginsFault octets at = IsSecondAt octets at ⊎ (((place : ℕ) → IsSecondAt octets place → ⊥) × (at ≡ 0))

-- A fault lies where the bearer context begins that lacks an element; else where the message at fault begins. What follows the code of H5 and of H7 has a place,
-- and the last two are of no octets.
abbrev pub LiesAt : List ℕ → V2Fault → Option ℕ → Type 0
LiesAt octets (faults.Missing kind instance conditional (Some at) head) place = place ≡ Some at
LiesAt octets (faults.BadPiggyback at) place = place ≡ None
LiesAt octets (faults.Element fault head) place = place ≡ None
LiesAt octets faults.Memory place = place ≡ None
LiesAt octets faults.TooLong place = place ≡ None
LiesAt octets f place = (at : ℕ) × BeginsFault octets at × (place ≡ Some at)

-- the members of a fault; where places are asked for, the last one is where it lies
abbrev pub FaultMembers : Bool → List ℕ → V2Fault → List (List ℕ × Json) → Type 0
FaultMembers false octets f ms = ms ≡ placed_members octets f
FaultMembers true octets f ms = (place : Option ℕ) × LiesAt octets f place × (ms ≡ placed_members octets f ++ some_member (codes "at") place)

-- and the member that has these
abbrev pub FaultShown : Bool → List ℕ → V2Fault → List (List ℕ × Json) → Type 0
FaultShown places octets f ms = (its : List (List ℕ × Json)) × FaultMembers places octets f its × (ms ≡ fault_member its)

-- ---- the user plane

-- A fault lies where the extension header begins that has to be understood; else where the datagram begins. What follows the code of U5, U6 and U9 has a place,
-- and the last two are of no octets.
abbrev pub user_place : UserFault → Option ℕ
user_place (user_faults.ExtensionNeeded kind at) = Some at
user_place (user_faults.ExtensionZero at) = None
user_place (user_faults.ExtensionPast at) = None
user_place (user_faults.Element at) = None
user_place user_faults.Memory = None
user_place user_faults.TooLong = None
user_place f = Some 0

-- the members of a fault; where places are asked for, the last one is where it lies
abbrev pub user_members_at : Bool → UserFault → List (List ℕ × Json)
user_members_at false f = user_fault_members f
user_members_at true f = user_fault_members f ++ some_member (codes "at") (user_place f)

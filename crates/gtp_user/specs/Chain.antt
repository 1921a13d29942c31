-- Extension headers (TS 29.281 5.2.1), and the chain that they form after a header.
use Rattle.std.specs.Prelude.{◌≡◌, ◌≢◌, ℕ, ◌+◌, ◌-◌, ◌*◌, ◌/◌, ◌<◌, ◌≤◌, Bool, ◌==◌, List, [], ◌∷◌, ◌++◌, length, ◌⊎◌}
use Rattle.std.specs.Ordering.{on, eq_of_both}
use Rattle.std.specs.Cmp.Lexicographic.{pointwise}
use Rattle.gtp_user.specs.declared.fault.UserFault.{UserFault}
use Rattle.gtp_user.specs.declared.fault.UserFault.TheVariants as faults
use Rattle.gtp_user.specs.declared.extension.ExtensionHeader.{ExtensionHeader}

-- an extension header: its type and its content
pub record Extension : Type 0 where
  pub kind : ℕ
  pub content : List ℕ

-- whether two headers have the same type and the same content
abbrev pub header_eq : Extension → Extension → Bool
header_eq = eq_of_both (on (λ e. e.kind) ◌==◌) (on (λ e. e.content) (pointwise ◌==◌))

-- a header of the program, without where it lies
abbrev pub extension_of : ExtensionHeader → Extension
extension_of h = record { kind = h.kind; content = h.content.now }

-- a type that is taken by who understands these: any below 128, and from 128 on (the highest bit is set) one that is understood (figure 5.2.1-2)
abbrev pub IsTaken : List ℕ → ℕ → Type 0
IsTaken [] kind = kind < 128
IsTaken (known ∷ understood) kind = (kind ≡ known) ⊎ IsTaken understood kind

-- a type that has to be understood, and is none of these
abbrev pub IsNeeded : List ℕ → ℕ → Type 0
IsNeeded [] kind = 128 ≤ kind
IsNeeded (known ∷ understood) kind = (kind ≢ known) × IsNeeded understood kind

-- the octets are a header, the type of the next one, and then the rest (5.2.1): a length in units of four octets, which counts itself and the
-- type of the next header, and so is at least 1. The type is taken by who understands these
abbrev pub BeginsExtensionBy : List ℕ → List ℕ → Extension → ℕ → List ℕ → Type 0
BeginsExtensionBy understood octets e next rest =
    (units : ℕ) × (octets ≡ units ∷ (e.content ++ next ∷ rest)) × (2 + length e.content ≡ 4 * units) × (0 < e.kind) × IsTaken understood e.kind

-- the octets are whole headers in order, the first one of this type, and then there follow a next type and the rest
abbrev pub LeadsBy : List ℕ → ℕ → List ℕ → List Extension → ℕ → List ℕ → Type 0
LeadsBy understood kind octets [] next rest = (kind ≡ next) × (octets ≡ rest)
LeadsBy understood kind octets (e ∷ es) next rest =
    (follows : ℕ) × (after : List ℕ) × (e.kind ≡ kind) × BeginsExtensionBy understood octets e follows after × LeadsBy understood follows after es next rest

-- the octets are a whole chain, and then the rest: type 0 ends it
abbrev pub IsChainBy : List ℕ → ℕ → List ℕ → List Extension → List ℕ → Type 0
IsChainBy understood kind octets es rest = LeadsBy understood kind octets es 0 rest

-- why no header of this type begins the octets, which are the last ones of `end` octets: it is missing, of length 0, past the end, or not understood
abbrev pub ExtensionFailsBy : List ℕ → ℕ → ℕ → List ℕ → UserFault → Type 0
ExtensionFailsBy understood end kind octets f =
    ((octets ≡ []) × (f ≡ faults.ExtensionPast end))
    ⊎ (((rest : List ℕ) × (octets ≡ 0 ∷ rest) × (f ≡ faults.ExtensionZero (end - length octets)))
    ⊎ (((units : ℕ) × (rest : List ℕ) × (octets ≡ units ∷ rest) × (0 < units) × (length octets < 4 * units) × (f ≡ faults.ExtensionPast (end - length octets)))
    ⊎ ((units : ℕ) × (rest : List ℕ) × (octets ≡ units ∷ rest) × (0 < units) × (4 * units ≤ length octets) × IsNeeded understood kind
    × (f ≡ faults.ExtensionNeeded kind (end - length octets)))))

-- after whole headers a header is at fault
abbrev pub ChainFailsBy : List ℕ → ℕ → ℕ → List ℕ → UserFault → Type 0
ChainFailsBy understood end kind octets f =
    (es : List Extension) × (next : ℕ) × (rest : List ℕ) × LeadsBy understood kind octets es next rest × (0 < next) × ExtensionFailsBy understood end next rest f

-- ---- where no type from 128 on is understood

-- a header, the type of the next one, and then the rest
abbrev pub BeginsExtension : List ℕ → Extension → ℕ → List ℕ → Type 0
BeginsExtension = BeginsExtensionBy []

-- whole headers in order, and then a next type and the rest
abbrev pub Leads : ℕ → List ℕ → List Extension → ℕ → List ℕ → Type 0
Leads = LeadsBy []

-- a whole chain, and then the rest
abbrev pub IsChain : ℕ → List ℕ → List Extension → List ℕ → Type 0
IsChain = IsChainBy []

-- why no header of this type begins the octets
abbrev pub ExtensionFails : ℕ → ℕ → List ℕ → UserFault → Type 0
ExtensionFails = ExtensionFailsBy []

-- after whole headers a header is at fault
abbrev pub ChainFails : ℕ → ℕ → List ℕ → UserFault → Type 0
ChainFails = ChainFailsBy []

-- a chain and nothing else is at fault: a header is, or octets are left
abbrev pub WholeChainFails : ℕ → List ℕ → UserFault → Type 0
WholeChainFails kind octets f =
    ChainFails (length octets) kind octets f
    ⊎ ((es : List Extension) × (rest : List ℕ) × IsChain kind octets es rest × (0 < length rest) × (f ≡ faults.Length (length octets - length rest) (length octets)))

-- ---- the canonical encoding

-- the type of the first header, 0 where there is none
abbrev pub first_kind : List Extension → ℕ
first_kind [] = 0
first_kind (e ∷ es) = e.kind

-- the octets of a chain, after the type of its first header
abbrev pub chain_encoding : List Extension → List ℕ
chain_encoding [] = []
chain_encoding (e ∷ es) = ((2 + length e.content) / 4) ∷ (e.content ++ first_kind es ∷ chain_encoding es)

-- what a header needs so that its encoding is read again; where the encoding is a list of octets, its units are below 256 by themselves
abbrev pub IsExtension : Extension → Type 0
IsExtension e = (0 < e.kind) × (e.kind < 128) × ((units : ℕ) × (2 + length e.content ≡ 4 * units))

-- each of the headers is such a one
abbrev pub AreExtensions : List Extension → Type 0
AreExtensions [] = Unit {0}
AreExtensions (e ∷ es) = IsExtension e × AreExtensions es

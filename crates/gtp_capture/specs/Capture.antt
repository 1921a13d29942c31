-- The frames of a capture, of either format.
use Rattle.std.specs.Prelude.{◌≡◌, ◌≢◌, ◌≤◌, ℕ, ◌⊎◌, false, List, [], ◌∷◌, ◌++◌, length}
use Rattle.gtp_capture.specs.Octets.{four_at}
use Rattle.gtp_capture.specs.Frame.{Frame, IsRecord, IsHeaded, magic}
use Rattle.gtp_capture.specs.Block.{IsBlock, IsSection, IsInterface, IsPacketBlock, section_type, is_read}
use Rattle.gtp_capture.specs.declared.octets.Order.{Order}
use Rattle.gtp_capture.specs.declared.octets.Order.TheVariants.{High}
use Rattle.gtp_capture.specs.declared.head.Kind.{Kind}
use Rattle.gtp_capture.specs.declared.head.Unit.{Unit as Fraction}
use Rattle.gtp_capture.specs.declared.interface.Interface.{Interface}

-- how the rest of a capture is read: as records of a kind; or as blocks in an order, after those that described these interfaces
pub data State : Type 0 where
  Records : Kind → State
  Blocks : Order → List Interface → State

-- what stands in a capture: a frame, the header of a section, the description of an interface, or something else
pub data Piece : Type 0 where
  Holds : Frame → Piece
  Begins : Order → Piece
  Describes : Interface → Piece
  Passes : Piece

-- a section has no interface before one is described
abbrev pub after : Piece → State → State
after (Begins order) state = Blocks order []
after (Describes i) (Blocks order is) = Blocks order (is ++ i ∷ [])
after (Describes i) (Records k) = Records k
after (Holds f) state = state
after Passes state = state

-- what a block is, by its type and what it holds
abbrev pub IsMeant : Order → List Interface → ℕ → List ℕ → Piece → Type 0
IsMeant order is type body (Holds f) = IsPacketBlock order is type body f
IsMeant order is type body (Begins o) = ⊥
IsMeant order is type body (Describes i) = (type ≡ 1) × IsInterface order body i
IsMeant order is type body Passes = is_read type ≡ false

-- a block that is no header of a section
pub record IsInside (order : Order) (is : List Interface) (octets : List ℕ) (p : Piece) (rest : List ℕ) : Type 0 where
  pub head : List ℕ
  pub body : List ℕ
  pub block : IsBlock order octets head body rest
  pub other : four_at High 0 head ≢ section_type
  pub meant : IsMeant order is (four_at order 0 head) body p

-- what stands at the start of octets, and the rest
abbrev pub IsPiece : State → List ℕ → Piece → List ℕ → Type 0
IsPiece (Records k) octets p rest = (f : Frame) × (p ≡ Holds f) × IsRecord k octets f rest
IsPiece (Blocks order is) octets p rest = ((o : Order) × (p ≡ Begins o) × IsSection octets o rest) ⊎ IsInside order is octets p rest

-- pieces, one after the other, and the rest
abbrev pub ArePieces : State → List ℕ → List Piece → List ℕ → Type 0
ArePieces state octets [] rest = octets ≡ rest
ArePieces state octets (p ∷ ps) rest = (next : List ℕ) × IsPiece state octets p next × ArePieces (after p state) next ps rest

abbrev pub after_all : List Piece → State → State
after_all [] state = state
after_all (p ∷ ps) state = after_all ps (after p state)

abbrev pub frame_in : Piece → List Frame
frame_in (Holds f) = f ∷ []
frame_in (Begins order) = []
frame_in (Describes i) = []
frame_in Passes = []

-- the frames among pieces
abbrev pub frames_in : List Piece → List Frame
frames_in [] = []
frames_in (p ∷ ps) = frame_in p ++ frames_in ps

-- some octets, at whose start nothing stands
abbrev pub IsBroken : State → List ℕ → Type 0
IsBroken state octets = (octets ≢ []) × ((p : Piece) (rest : List ℕ) → IsPiece state octets p rest → ⊥)

-- A file of records begins with its head, one of blocks with the header of a section.
abbrev pub IsStart : List ℕ → State → List ℕ → Type 0
IsStart file (Records k) rest = IsHeaded file k rest
IsStart file (Blocks order is) rest = IsSection file order rest × (is ≡ [])

-- The file begins so; then come pieces, with these frames; how the rest is read.
pub record IsCapture (file : List ℕ) (state : State) (frames : List Frame) (rest : List ℕ) : Type 0 where
  pub first : State
  pub body : List ℕ
  pub pieces : List Piece
  pub start : IsStart file first body
  pub stand : ArePieces first body pieces rest
  pub held : frames ≡ frames_in pieces
  pub later : state ≡ after_all pieces first

-- Octets that begin as a capture does: with the number of a file of records, in either order, or with the type of a section's header.
abbrev pub BeginsAsCapture : List ℕ → Type 0
BeginsAsCapture octets = (4 ≤ length octets) × (((order : Order) × (unit : Fraction) × (four_at order 0 octets ≡ magic unit)) ⊎ (four_at High 0 octets ≡ section_type))

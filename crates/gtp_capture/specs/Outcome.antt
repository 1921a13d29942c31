-- What reading a capture is.
use Rattle.std.specs.Prelude.{◌≡◌, ℕ, suc, ◌+◌, ◌-◌, ◌^◌, ◌≤◌, List, [], ◌∷◌, ◌++◌, length, take, drop, Option, Some, None, Result, Ok, Err, ⊤, ◌⊎◌}
use Rattle.gtp_capture.specs.Frame.{Frame}
use Rattle.gtp_capture.specs.Block.{IsSection}
use Rattle.gtp_capture.specs.Capture.{State, Records, Blocks, Piece, Holds, Begins, Describes, Passes, IsPiece, IsStart, IsBroken, IsCapture}
use Rattle.gtp_capture.specs.Seen.{Seen, seen_in, datagrams, Takes}
use Rattle.gtp_capture.specs.declared.octets.Order.{Order}
use Rattle.gtp_capture.specs.declared.interface.Interface.{Interface}
use Rattle.gtp_capture.specs.declared.fault.CaptureFault.{CaptureFault}
use Rattle.gtp_capture.specs.declared.fault.CaptureFault.TheVariants.{NoCapture, Broken, Stopped}
use Rattle.gtp_capture.specs.declared.fault.Stop.{Stop}
use Rattle.gtp_capture.specs.declared.fault.Stop.TheVariants.{TooLong, Memory, Read, Refused}
use Rattle.gtp_capture.specs.declared.step.Format.{Format}
use Rattle.gtp_capture.specs.declared.step.Format.TheVariants as format
use Rattle.gtp_capture.specs.declared.step.Head.{Head}
use Rattle.gtp_capture.specs.declared.step.Item.{Item}
use Rattle.gtp_capture.specs.declared.step.Item.TheVariants as item
use Rattle.gtp_capture.specs.declared.step.Step.{Step}
use Rattle.gtp_capture.specs.declared.step.Step.TheVariants as step
use Rattle.gtp_capture.specs.declared.step.Started.{Started}
use Rattle.gtp_capture.specs.declared.ports.Ports.{Ports}

-- P of the octets that a reader has before and after, where they are known
abbrev pub Known : (List ℕ → List ℕ → Type 0) → Option (List ℕ) → Option (List ℕ) → Type 0
Known P None left = ⊤
Known P (Some octets) None = ⊥
Known P (Some octets) (Some left) = P octets left

abbrev pub state_of : Format → List Interface → State
state_of (format.Records k) is = Records k
state_of (format.Blocks order) is = Blocks order is

-- whose octets stand in a room
abbrev pub frame_of : Head → List ℕ → Frame
frame_of h room = record { time = h.time; link = h.link; had = h.had; octets = take h.held (drop h.at room) }

abbrev pub piece_of : Item → List ℕ → Piece
piece_of (item.Frame h) room = Holds (frame_of h room)
piece_of (item.Section order) room = Begins order
piece_of (item.Interface i) room = Describes i
piece_of item.Other room = Passes

-- what stands at the start of known octets
abbrev pub IsStep : State → Step → List ℕ → List ℕ → List ℕ → Type 0
IsStep state (step.Found f) room octets left = IsPiece state octets (piece_of f.item room) left × (f.size + length left ≡ length octets)
IsStep state step.End room octets left = octets ≡ []
IsStep state step.Broken room octets left = IsBroken state octets

abbrev pub Steps : State → Option (List ℕ) → Option (List ℕ) → Step → List ℕ → Type 0
Steps state before now s room = Known (IsStep state s room) before now

-- where these octets were read before
abbrev pub StepsBehind : List ℕ → State → Option (List ℕ) → Option (List ℕ) → Step → List ℕ → Type 0
StepsBehind front state before now s room = Known (λ octets left. IsStep state s room (front ++ octets) left) before now

-- the sink took the datagrams of a capture's frames, which are followed by this rest
pub record HandsOn {S : Type 0} (ports : Ports) (takes : S → Seen → S → Type 0) (file : List ℕ) (before after : S) (state : State) (frames : List Frame) (rest : List ℕ) : Type 0 where
  pub capture : IsCapture file state frames rest
  pub taken : Takes takes before (datagrams ports 1 frames) after

-- the sink took the datagrams of the first frames, or none
abbrev pub HandsOnSome : {S : Type 0} → Ports → (S → Seen → S → Type 0) → List ℕ → S → S → Type 0
HandsOnSome ports takes file before after = (before ≡ after) ⊎ ((state : State) × (frames : List Frame) × (rest : List ℕ) × HandsOn ports takes file before after state frames rest)

-- the sink did not take the one datagram of these
abbrev pub RefusesNext : {S : Type 0} → (S → Seen → S → Type 0) → S → List Seen → S → Type 0
RefusesNext refuses before seen after = (d : Seen) × (seen ≡ d ∷ []) × refuses before d after

-- the sink took some datagrams, one after the other
abbrev pub TakesSome : {S : Type 0} → (S → Seen → S → Type 0) → S → S → Type 0
TakesSome takes before after = (seen : List Seen) × Takes takes before seen after

-- and then it did not take one
abbrev pub TakesNoMore : {S : Type 0} → (takes refuses : S → Seen → S → Type 0) → S → S → Type 0
TakesNoMore takes refuses before after = (middle : _) × (d : Seen) × TakesSome takes before middle × refuses middle d after

-- the sink took the datagrams of the first frames, and not that of the next one
pub record StopsAt {S : Type 0} (ports : Ports) (takes refuses : S → Seen → S → Type 0) (file : List ℕ) (before after : S) : Type 0 where
  pub state : State
  pub frames : List Frame
  pub rest : List ℕ
  pub middle : S
  pub taken : HandsOn ports takes file before middle state frames rest
  pub next : Frame
  pub later : List ℕ
  pub stands : IsPiece state rest (Holds next) later
  pub refused : RefusesNext refuses middle (seen_in ports (suc (length frames)) next) after

-- what else stopped it; too long is a file only from 2^64 - 1 octets on
abbrev pub IsStopped : {S : Type 0} → Ports → (takes refuses : S → Seen → S → Type 0) → List ℕ → S → S → Stop → Type 0
IsStopped ports takes refuses file before after TooLong = HandsOnSome ports takes file before after × (2 ^ 64 - 1 ≤ length file)
IsStopped ports takes refuses file before after Memory = HandsOnSome ports takes file before after
IsStopped ports takes refuses file before after Read = HandsOnSome ports takes file before after
IsStopped ports takes refuses file before after Refused = StopsAt ports takes refuses file before after

-- All frames were read, so many; or the octets are no capture; or from an octet on nothing stands; or something else stopped it.
abbrev pub IsRead : {S : Type 0} → Ports → (takes refuses : S → Seen → S → Type 0) → List ℕ → S → S → Result ℕ CaptureFault → Type 0
IsRead ports takes refuses file before after (Ok count) = (state : State) × (frames : List Frame) × HandsOn ports takes file before after state frames [] × (count ≡ length frames)
IsRead ports takes refuses file before after (Err NoCapture) = (before ≡ after) × ((state : State) (frames : List Frame) (rest : List ℕ) → IsCapture file state frames rest → ⊥)
IsRead ports takes refuses file before after (Err (Broken at)) =
    (state : State) × (frames : List Frame) × (rest : List ℕ)
    × HandsOn ports takes file before after state frames rest × IsBroken state rest × (at + length rest ≡ length file)
IsRead ports takes refuses file before after (Err (Stopped stop)) = IsStopped ports takes refuses file before after stop

-- so far
pub record IsReached {S : Type 0} (ports : Ports) (takes : S → Seen → S → Type 0) (state : State) (at number : ℕ) (before now : S) (file left : List ℕ) : Type 0 where
  pub frames : List Frame
  pub on : HandsOn ports takes file before now state frames left
  pub place : at + length left ≡ length file
  pub count : number ≡ suc (length frames)

abbrev pub Reached : {S : Type 0} → Ports → (S → Seen → S → Type 0) → Option (List ℕ) → Option (List ℕ) → State → ℕ → ℕ → S → S → Type 0
Reached ports takes file left state at number before now = Known (IsReached ports takes state at number before now) file left

-- the head of a capture was read, or there is none
abbrev pub HasBegun : Option Started → List ℕ → List ℕ → Type 0
HasBegun (Some s) file left = IsStart file (state_of s.format []) left × (s.size + length left ≡ length file)
HasBegun None file left = (state : State) (frames : List Frame) (rest : List ℕ) → IsCapture file state frames rest → ⊥

-- whether octets, behind these, begin with the header of a section: its order, and how many octets it has
abbrev pub IsSectionBehind : List ℕ → Option (Order × ℕ) → List ℕ → List ℕ → Type 0
IsSectionBehind front (Some s) octets left = IsSection (front ++ octets) s.0 left × (s.1 + length left ≡ length (front ++ octets))
IsSectionBehind front None octets left = (order : Order) (rest : List ℕ) → IsSection (front ++ octets) order rest → ⊥

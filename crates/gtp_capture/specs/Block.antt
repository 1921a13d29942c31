-- The blocks of the pcapng format (draft-ietf-opsawg-pcapng, 3.1, 4.1 to 4.4, appendix A).
use Rattle.std.specs.Prelude.{◌≡◌, ℕ, ◌+◌, ◌*◌, ◌%◌, ◌≤◌, ◌⊎◌, Bool, ◌||◌, ◌==◌, min, List, ◌++◌, length, take, drop, slice_get, Some, if◌then◌else◌}
use Rattle.gtp_capture.specs.Octets.{pair_at, four_at}
use Rattle.gtp_capture.specs.Clock.{time_at}
use Rattle.gtp_capture.specs.Frame.{Frame}
use Rattle.gtp_capture.specs.Options.{option_in, octet_or, number_or_none}
use Rattle.gtp_capture.specs.declared.octets.Order.{Order}
use Rattle.gtp_capture.specs.declared.octets.Order.TheVariants.{High, Low}
use Rattle.gtp_capture.specs.declared.head.Unit.TheVariants.{Microseconds}
use Rattle.gtp_capture.specs.declared.interface.Interface.{Interface}

-- A head of eight octets, what the block holds, a multiple of four octets, four octets, and the rest. From octet 4 of the head on, and at the block's end, stands how many octets it has in all.
pub record IsBlock (order : Order) (octets head body rest : List ℕ) : Type 0 where
  pub tail : List ℕ
  pub start : length head ≡ 8
  pub end : length tail ≡ 4
  pub whole : octets ≡ head ++ (body ++ (tail ++ rest))
  pub size : four_at order 4 head ≡ 12 + length body
  pub fours : length body % 4 ≡ 0
  pub again : four_at order 0 tail ≡ 12 + length body

-- the type of a section's header, the same in both orders: 0a0d0d0a, written with the base 16
abbrev pub section_type : ℕ
section_type = 168627466

-- the number that says the order of a section, read with its high octet first: 1a2b3c4d or 4d3c2b1a, written with the base 16
abbrev pub order_number : Order → ℕ
order_number High = 439041101
order_number Low = 1295788826

-- The header of a section. From octet 0 of its head on stands its type; from octet 0 of what it holds, which is sixteen octets or more, the order of the section's numbers, its own too.
pub record IsSection (octets : List ℕ) (order : Order) (rest : List ℕ) : Type 0 where
  pub head : List ℕ
  pub body : List ℕ
  pub block : IsBlock order octets head body rest
  pub type : four_at High 0 head ≡ section_type
  pub room : 16 ≤ length body
  pub says : four_at High 0 body ≡ order_number order

-- What describes an interface: from octet 0 on the type of its link, from 4 the most octets that are held of a frame, from 8 options. The first option 9 of one octet is the
-- resolution of its clock (6 without one), the first option 14 of eight octets an offset in seconds. At most 262,144 octets.
pub record IsInterface (order : Order) (body : List ℕ) (i : Interface) : Type 0 where
  pub room : 8 ≤ length body
  pub limit : length body ≤ 262144
  pub link : i.link ≡ pair_at order 0 body
  pub snap : i.snap ≡ four_at order 4 body
  pub resolution : i.resolution ≡ octet_or 6 (option_in order 9 1 (drop 8 body))
  pub offset : i.offset ≡ number_or_none order (option_in order 14 8 (drop 8 body))

-- What holds a frame of an interface with its time: from octet 4 on the high half of a count of the interface's units, from 8 the low one, from 12 how many octets are held, at
-- most 262,144, from 16 how many the frame had, and from 20 those that are held.
pub record IsTimed (order : Order) (i : Interface) (body : List ℕ) (f : Frame) : Type 0 where
  pub room : 20 + four_at order 12 body ≤ length body
  pub limit : four_at order 12 body ≤ 262144
  pub time : f.time ≡ time_at i.resolution i.offset (4294967296 * four_at order 4 body + four_at order 8 body)
  pub link : f.link ≡ i.link
  pub had : f.had ≡ four_at order 16 body
  pub octets : f.octets ≡ take (four_at order 12 body) (drop 20 body)

-- of so many octets those that an interface holds; 0 is no bound
abbrev pub snapped : ℕ → ℕ → ℕ
snapped bound had = if bound == 0 then had else min bound had

-- What holds a frame of an interface and no more: from octet 0 on stands how many octets it had, from 4 those that are held, as many as the interface holds, at most 262,144. No time is known of it.
pub record IsSimple (order : Order) (i : Interface) (body : List ℕ) (f : Frame) : Type 0 where
  pub room : 4 + snapped i.snap (four_at order 0 body) ≤ length body
  pub limit : snapped i.snap (four_at order 0 body) ≤ 262144
  pub time : f.time ≡ record { seconds = 0; fraction = 0; unit = Microseconds }
  pub link : f.link ≡ i.link
  pub had : f.had ≡ four_at order 0 body
  pub octets : f.octets ≡ take (snapped i.snap (four_at order 0 body)) (drop 4 body)

-- The interface with a number, the first of its section has 0, holds the frame.
abbrev pub IsTimedOf : Order → List Interface → ℕ → List ℕ → Frame → Type 0
IsTimedOf order is n body f = (i : Interface) × (slice_get is n ≡ Some i) × IsTimed order i body f

abbrev pub IsSimpleOf : Order → List Interface → List ℕ → Frame → Type 0
IsSimpleOf order is body f = (i : Interface) × (slice_get is 0 ≡ Some i) × IsSimple order i body f

-- By the block's type: 6, whose interface has its number in four octets; 2, in two; 3, which is of the first interface.
abbrev pub IsPacketBlock : Order → List Interface → ℕ → List ℕ → Frame → Type 0
IsPacketBlock order is type body f =
    ((type ≡ 6) × IsTimedOf order is (four_at order 0 body) body f)
    ⊎ (((type ≡ 2) × IsTimedOf order is (pair_at order 0 body) body f)
    ⊎ ((type ≡ 3) × IsSimpleOf order is body f))

-- the types that are read; a block of another one, but for a section's header, is passed over
abbrev pub is_read : ℕ → Bool
is_read type = (type == 1) || ((type == 2) || ((type == 3) || (type == 6)))

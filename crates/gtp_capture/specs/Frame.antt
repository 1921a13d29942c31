-- Frames, and the records of the pcap format.
use Rattle.std.specs.Prelude.{◌≡◌, ℕ, ◌≤◌, ◌%◌, List, ◌++◌, length}
use Rattle.gtp_capture.specs.Octets.{four_at}
use Rattle.gtp_capture.specs.declared.captured.Time.{Time}
use Rattle.gtp_capture.specs.declared.head.Unit.{Unit as Fraction}
use Rattle.gtp_capture.specs.declared.head.Unit.TheVariants.{Microseconds, Nanoseconds}
use Rattle.gtp_capture.specs.declared.head.Kind.{Kind}

-- a frame: when it was captured, the type of its link, how many octets it had, and those of them that are held
pub record Frame : Type 0 where
  pub time : Time
  pub link : ℕ
  pub had : ℕ
  pub octets : List ℕ

-- A head of sixteen octets, the octets that are held, and the rest. From octet 0 of the head on stand the seconds, from 4 the fraction, from 8
-- how many octets are held, at most 262,144, and from 12 how many the frame had.
pub record IsRecord (k : Kind) (octets : List ℕ) (f : Frame) (rest : List ℕ) : Type 0 where
  pub head : List ℕ
  pub size : length head ≡ 16
  pub whole : octets ≡ head ++ (f.octets ++ rest)
  pub time : f.time ≡ record { seconds = four_at k.order 0 head; fraction = four_at k.order 4 head; unit = k.unit }
  pub link : f.link ≡ k.link
  pub held : length f.octets ≡ four_at k.order 8 head
  pub limit : length f.octets ≤ 262144
  pub had : f.had ≡ four_at k.order 12 head

-- the number that says that a file is a capture, by the unit of its fractions: a1b2c3d4 and a1b23c4d, written with the base 16
abbrev pub magic : Fraction → ℕ
magic Microseconds = 2712847316
magic Nanoseconds = 2712812621

-- From octet 0 of a capture's head on stands that number, in the order of all its numbers; the low sixteen bits of the number from octet 20 on are the link's type.
pub record IsHead (head : List ℕ) (k : Kind) : Type 0 where
  pub magic : four_at k.order 0 head ≡ magic k.unit
  pub link : k.link ≡ four_at k.order 20 head % 65536

-- a file's head of twenty-four octets, and the rest
pub record IsHeaded (file : List ℕ) (k : Kind) (rest : List ℕ) : Type 0 where
  pub head : List ℕ
  pub size : length head ≡ 24
  pub whole : file ≡ head ++ rest
  pub kind : IsHead head k

-- A pointer may go to another thread where what stands behind it may: its memory names no key.
use mir.Raw.{raw}
use base.Fraction.{full_share}
use base.Shift.{Keyless}
use denote.Exit.{Exit, unchanged, leaves, hidden, under}
use denote.Memory.{lone}
use denote.RattleType.{RattleType}
use denote.RawPtr.{Ptr, block_ptr, null_ptr, lies_at}
use denote.Param.Send.{IsSend, Quiet, part_keyless}
use Rattle.std.proofs.Crossing.{frees}
use Rattle.std.specs.Prelude.{Option, Some, None}
use Rattle.gtp_c.specs.Held.{held}

pub quiet : {D X : Type 0} (of : D → X) (e : Exit X) → Quiet e → Quiet (hidden (under of e))
quiet of unchanged q = λ x w. tt
quiet of (leaves L l S s r₀) q = λ d. q (of d)

lies : (R : RattleType) → IsSend R → (p : Ptr) (x : R.Denot) → Keyless (lies_at R full_share p x)
lies R s (block_ptr b o) x = part_keyless R s full_share x b o
lies R s null_ptr x = tt

pub holds : (R : RattleType) → IsSend R → (p : Ptr) (v : Option R.Denot) → Keyless (held R p v)
holds R s p None = tt
holds R s p (Some x) = λ g. (lies R s p x, frees.frees g (raw (lone R.mir)) p)

use Rattle.std.proofs.Common.{◌≡◌, ℕ, ◌<◌, ◌^◌, Option, Some, None, refl, subst}
use Rattle.gtp_v2.specs.Priority.{PriorityNeedsTeid}
use Rattle.gtp_v2.specs.Encoding.{HeaderMeets}
use Rattle.gtp_v2.proofs.header.writing.write_header.Goals as goal

none_meets : (teid : Option ℕ) (seq : ℕ) (priority : Option ℕ) → teid ≡ None → PriorityNeedsTeid teid priority → seq < 2 ^ 24 → HeaderMeets teid seq priority
none_meets None seq None is place small = small
none_meets None seq (Some p) is place small = absurd (let t = place refl in cc)
none_meets (Some t) seq priority is place small = absurd cc

pub returns-in-None-default-clause-range : goal.returns-in-None-default-clause-range
returns-in-None-default-clause-range c =
    none_meets c.args.message.now.teid c.args.message.now.seq c.args.message.now.priority c.in-None-default.is-0 c.requires c.write_short_header.ensures.seq

pub returns-in-Some-None-clause-range : goal.returns-in-Some-None-clause-range
returns-in-Some-None-clause-range c = rw (c.in-Some-None.is-0, c.in-Some-None.is-1) (c.write_long_header.ensures.teid, c.write_long_header.ensures.seq)

pub returns-in-Some-Some-clause-range : goal.returns-in-Some-Some-clause-range
returns-in-Some-Some-clause-range c =
    rw (c.in-Some-Some.is-0, c.in-Some-Some.is-1) (
      c.write_long_header-in-Some-Some.ensures.teid,
      c.write_long_header-in-Some-Some.ensures.seq,
      subst (λ (n : ℕ). n < 16) c.number.ensures.value c.number.ensures.small,
    )

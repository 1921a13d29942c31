use Rattle.std.proofs.Common.{◌<◌, sym, subst, arith}
use Rattle.gtp_ie.proofs.Again.{IsSmall, cause_again}
use Rattle.gtp_ie.proofs.value.cause.CauseIeValue.write.Goals as goal

pub returns-in_err-extend_from_slice-in-None-clause-again : goal.returns-in_err-extend_from_slice-in-None-clause-again
returns-in_err-extend_from_slice-in-None-clause-again c = cause_again c.args.self.now (subst IsSmall (sym c.in-None.is) tt)

pub returns-in_err-extend_from_slice-in-Some-clause-again : goal.returns-in_err-extend_from_slice-in-Some-clause-again
returns-in_err-extend_from_slice-in-Some-clause-again c =
    let small : c.in-Some.offending.instance < 16 = omega arith in
    cause_again c.args.self.now (subst IsSmall (sym c.in-Some.is) small)

pub returns-in_ok-extend_from_slice-in-None-clause-again : goal.returns-in_ok-extend_from_slice-in-None-clause-again
returns-in_ok-extend_from_slice-in-None-clause-again c = cause_again c.args.self.now (subst IsSmall (sym c.in-None.is) tt)

pub returns-in_ok-extend_from_slice-in-Some-clause-again : goal.returns-in_ok-extend_from_slice-in-Some-clause-again
returns-in_ok-extend_from_slice-in-Some-clause-again c =
    let small : c.in-Some.offending.instance < 16 = omega arith in
    cause_again c.args.self.now (subst IsSmall (sym c.in-Some.is) small)

use Rattle.std.proofs.Common.{refl, codes}
use Rattle.gtp_json.specs.Control.{fault_member}
use Rattle.gtp_json.proofs.Tokens.{nested}
use Rattle.gtp_json.proofs.control.put_fault.Goals as goal

pub returns : goal.returns
returns c =
    let (its, are, added) = c.in_ok-put_members_of_fault.ensures.ok in
    let told =
    nested (codes "fault") its c.args.out.now c.key.new.self c.begin_object.new.self c.put_members_of_fault.new.out c.end_object.new.self
    c.in_ok-key.ensures.ok c.in_ok-begin_object.ensures.ok added c.in_ok-end_object.ensures.ok in
    record { ok = (fault_member its, (its, are, refl), told) }

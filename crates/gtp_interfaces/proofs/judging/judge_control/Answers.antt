use Rattle.std.proofs.Common.{◌≡◌, Ok, Err, ap, sym, subst, ◌∙◌}
use Rattle.std.specs.Prelude.{IfOk, IfErr}
use Rattle.gtp_v2.specs.declared.fault.V2Fault.{V2Fault}
use Rattle.gtp_v2.specs.Pair.{DatagramValue, IsDatagramBy, IsDatagramFaultBy}
use Rattle.gtp_interfaces.specs.declared.interface.Interface.{Interface}
use Rattle.gtp_interfaces.specs.Any.{any}
use Rattle.gtp_interfaces.specs.S11.{s11}
use Rattle.gtp_interfaces.specs.Interface.{asked_on}
use Rattle.gtp_interfaces.proofs.Asking.{asks_alike, found, only, first, fault}
use Rattle.gtp_interfaces.proofs.judging.judge_control.Goals as goal

-- ---- on S5/S8

pub returns-in-S5S8-clause-found : goal.returns-in-S5S8-clause-found
returns-in-S5S8-clause-found c =
    subst (λ (i : Interface). IfOk c.judge_s5s8.result (λ u. (d : DatagramValue) × IsDatagramBy (asked_on i) c.args.octets.now d)) (sym c.in-S5S8.is) c.judge_s5s8.ensures.found

pub returns-in-S5S8-clause-only : goal.returns-in-S5S8-clause-only
returns-in-S5S8-clause-only c =
    subst (λ (i : Interface). (d : DatagramValue) → IsDatagramBy (asked_on i) c.args.octets.now d → c.judge_s5s8.result ≡ Ok tt) (sym c.in-S5S8.is) c.judge_s5s8.ensures.only

pub returns-in-S5S8-clause-first : goal.returns-in-S5S8-clause-first
returns-in-S5S8-clause-first c =
    subst (λ (i : Interface). (f : V2Fault) → IsDatagramFaultBy (asked_on i) c.args.octets.now f → c.judge_s5s8.result ≡ Err f) (sym c.in-S5S8.is) c.judge_s5s8.ensures.first

pub returns-in-S5S8-clause-fault : goal.returns-in-S5S8-clause-fault
returns-in-S5S8-clause-fault c =
    subst (λ (i : Interface). IfErr c.judge_s5s8.result (λ f. IsDatagramFaultBy (asked_on i) c.args.octets.now f)) (sym c.in-S5S8.is) c.judge_s5s8.ensures.fault

-- ---- on S11

pub returns-in-S11-clause-found : goal.returns-in-S11-clause-found
returns-in-S11-clause-found c =
    let t = c.tables_of_s11 in
    found t.result (asked_on c.args.interface) (λ kind. asks_alike t.result s11 t.ensures.tables t.ensures.others kind ∙ ap (λ (i : Interface). asked_on i kind) (sym c.in-S11.is))
    c.args.octets.now c.judge.result c.judge.ensures.found

pub returns-in-S11-clause-only : goal.returns-in-S11-clause-only
returns-in-S11-clause-only c =
    let t = c.tables_of_s11 in
    only t.result (asked_on c.args.interface) (λ kind. asks_alike t.result s11 t.ensures.tables t.ensures.others kind ∙ ap (λ (i : Interface). asked_on i kind) (sym c.in-S11.is))
    c.args.octets.now c.judge.result c.judge.ensures.only

pub returns-in-S11-clause-first : goal.returns-in-S11-clause-first
returns-in-S11-clause-first c =
    let t = c.tables_of_s11 in
    first t.result (asked_on c.args.interface) (λ kind. asks_alike t.result s11 t.ensures.tables t.ensures.others kind ∙ ap (λ (i : Interface). asked_on i kind) (sym c.in-S11.is))
    c.args.octets.now c.judge.result c.judge.ensures.first

pub returns-in-S11-clause-fault : goal.returns-in-S11-clause-fault
returns-in-S11-clause-fault c =
    let t = c.tables_of_s11 in
    fault t.result (asked_on c.args.interface) (λ kind. asks_alike t.result s11 t.ensures.tables t.ensures.others kind ∙ ap (λ (i : Interface). asked_on i kind) (sym c.in-S11.is))
    c.args.octets.now c.judge.result c.judge.ensures.fault

-- ---- on any interface

pub returns-in-Any-clause-found : goal.returns-in-Any-clause-found
returns-in-Any-clause-found c =
    let t = c.tables_of_any in
    found t.result (asked_on c.args.interface) (λ kind. asks_alike t.result any t.ensures.tables t.ensures.others kind ∙ ap (λ (i : Interface). asked_on i kind) (sym c.in-Any.is))
    c.args.octets.now c.judge-in-Any.result c.judge-in-Any.ensures.found

pub returns-in-Any-clause-only : goal.returns-in-Any-clause-only
returns-in-Any-clause-only c =
    let t = c.tables_of_any in
    only t.result (asked_on c.args.interface) (λ kind. asks_alike t.result any t.ensures.tables t.ensures.others kind ∙ ap (λ (i : Interface). asked_on i kind) (sym c.in-Any.is))
    c.args.octets.now c.judge-in-Any.result c.judge-in-Any.ensures.only

pub returns-in-Any-clause-first : goal.returns-in-Any-clause-first
returns-in-Any-clause-first c =
    let t = c.tables_of_any in
    first t.result (asked_on c.args.interface) (λ kind. asks_alike t.result any t.ensures.tables t.ensures.others kind ∙ ap (λ (i : Interface). asked_on i kind) (sym c.in-Any.is))
    c.args.octets.now c.judge-in-Any.result c.judge-in-Any.ensures.first

pub returns-in-Any-clause-fault : goal.returns-in-Any-clause-fault
returns-in-Any-clause-fault c =
    let t = c.tables_of_any in
    fault t.result (asked_on c.args.interface) (λ kind. asks_alike t.result any t.ensures.tables t.ensures.others kind ∙ ap (λ (i : Interface). asked_on i kind) (sym c.in-Any.is))
    c.args.octets.now c.judge-in-Any.result c.judge-in-Any.ensures.fault

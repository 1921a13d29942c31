-- Where `==` of the values of elements is true, contracts see the same value.
use Rattle.std.proofs.Common.{◌≡◌, ℕ, List, refl, ap}
use Rattle.std.specs.Bool.{Decides}
use Rattle.std.proofs.lemmas.Bool.Decides.{Decides-eqb}
use Rattle.gtp_values.specs.declared.cause.Cause.{Cause}
use Rattle.gtp_values.specs.declared.paa.Paa.{Paa}
use Rattle.gtp_values.specs.declared.qos.Ambr.{Ambr}
use Rattle.gtp_values.specs.declared.qos.Qos.{Qos}
use Rattle.gtp_values.specs.TunnelEnd.{TunnelEnd}
use Rattle.gtp_values.specs.Plmn.{Network}
use Rattle.gtp_values.specs.contracts.imsi.ImsiPartialEq.TheImpl as imsis
use Rattle.gtp_values.specs.contracts.apn.ApnPartialEq.TheImpl as apns
use Rattle.gtp_values.specs.contracts.tft.TftPartialEq.TheImpl as tfts
use Rattle.gtp_values.specs.contracts.plmn.PlmnPartialEq.TheImpl as plmns
use Rattle.gtp_values.specs.contracts.fteid.FTeidPartialEq.TheImpl as fteids
use Rattle.gtp_values.specs.contracts.cause.CausePartialEq.TheImpl as causes
use Rattle.gtp_values.specs.contracts.paa.PaaPartialEq.TheImpl as allocations
use Rattle.gtp_values.specs.contracts.qos.AmbrPartialEq.TheImpl as ambrs
use Rattle.gtp_values.specs.contracts.qos.QosPartialEq.TheImpl as qualities
use Rattle.gtp_values.proofs.Same as values
use Rattle.gtp_values.proofs.Same.{whole_by, one_by}
use Rattle.gtp_ie.specs.declared.value.recovery.Recovery.{Recovery}
use Rattle.gtp_ie.specs.declared.value.ebi.EbiValue.{EbiValue}
use Rattle.gtp_ie.specs.declared.value.rat.Rat.{Rat}
use Rattle.gtp_ie.specs.declared.value.charging_id.ChargingId.{ChargingId}
use Rattle.gtp_ie.specs.declared.value.pdn_type.PdnType.{PdnType}
use Rattle.gtp_ie.specs.declared.value.pti.Pti.{Pti}
use Rattle.gtp_ie.specs.declared.value.selection.Selection.{Selection}
use Rattle.gtp_ie.specs.contracts.value.recovery.RecoveryPartialEq.TheImpl as recoveries
use Rattle.gtp_ie.specs.contracts.value.ebi.EbiValuePartialEq.TheImpl as ebis
use Rattle.gtp_ie.specs.contracts.value.rat.RatPartialEq.TheImpl as rats
use Rattle.gtp_ie.specs.contracts.value.charging_id.ChargingIdPartialEq.TheImpl as charging_ids
use Rattle.gtp_ie.specs.contracts.value.pdn_type.PdnTypePartialEq.TheImpl as pdn_types
use Rattle.gtp_ie.specs.contracts.value.pti.PtiPartialEq.TheImpl as ptis
use Rattle.gtp_ie.specs.contracts.value.selection.SelectionPartialEq.TheImpl as selections
use Rattle.gtp_ie.specs.Value.{OfImsi, OfCause, OfRecovery, OfApn, OfAmbr, OfEbi, OfPaa, OfQos, OfRat, OfPlmn, OfTft, OfFTeid, OfChargingId, OfPdnType, OfPti, OfSelection}

pub imsi_same : (a b : List ℕ) → Decides ((imsis.ghosts).eq a b) (OfImsi a ≡ OfImsi b)
imsi_same a b = whole_by (λ e. ap (λ x. OfImsi x) e) (λ e. cc) (values.imsi_same a b)

pub cause_same : (a b : Cause) → Decides ((causes.ghosts).eq a b) (OfCause a ≡ OfCause b)
cause_same a b = whole_by (λ e. ap (λ x. OfCause x) e) (λ e. cc) (values.cause_same a b)

pub recovery_same : (a b : Recovery) → Decides ((recoveries.ghosts).eq a b) (OfRecovery a.0.0 ≡ OfRecovery b.0.0)
recovery_same a b = whole_by (λ e. ap (λ x. OfRecovery x) e) (λ e. cc) (Decides-eqb a.0.0 b.0.0)

pub apn_same : (a b : List ℕ) → Decides ((apns.ghosts).eq a b) (OfApn a ≡ OfApn b)
apn_same a b = whole_by (λ e. ap (λ x. OfApn x) e) (λ e. cc) (values.apn_same a b)

pub ambr_same : (a b : Ambr) → Decides ((ambrs.ghosts).eq a b) (OfAmbr a ≡ OfAmbr b)
ambr_same a b = whole_by (λ e. ap (λ x. OfAmbr x) e) (λ e. cc) (values.ambr_same a b)

pub ebi_same : (a b : EbiValue) → Decides ((ebis.ghosts).eq a b) (OfEbi a.0 ≡ OfEbi b.0)
ebi_same a b = whole_by (λ e. ap (λ x. OfEbi x) e) (λ e. cc) (Decides-eqb a.0 b.0)

pub paa_same : (a b : Paa) → Decides ((allocations.ghosts).eq a b) (OfPaa a ≡ OfPaa b)
paa_same a b = whole_by (λ e. ap (λ x. OfPaa x) e) (λ e. cc) (values.paa_same a b)

pub qos_same : (a b : Qos) → Decides ((qualities.ghosts).eq a b) (OfQos a ≡ OfQos b)
qos_same a b = whole_by (λ e. ap (λ x. OfQos x) e) (λ e. cc) (values.qos_same a b)

pub rat_same : (a b : Rat) → Decides ((rats.ghosts).eq a b) (OfRat a.0 ≡ OfRat b.0)
rat_same a b = whole_by (λ e. ap (λ x. OfRat x) e) (λ e. cc) (Decides-eqb a.0 b.0)

pub plmn_same : (a b : Network) → Decides ((plmns.ghosts).eq a b) (OfPlmn a ≡ OfPlmn b)
plmn_same a b = whole_by (λ e. ap (λ x. OfPlmn x) e) (λ e. cc) (values.plmn_same a b)

pub tft_same : (a b : List ℕ) → Decides ((tfts.ghosts).eq a b) (OfTft a ≡ OfTft b)
tft_same a b = whole_by (λ e. ap (λ x. OfTft x) e) (λ e. cc) (values.tft_same a b)

pub fteid_same : (a b : TunnelEnd) → Decides ((fteids.ghosts).eq a b) (OfFTeid a ≡ OfFTeid b)
fteid_same a b = whole_by (λ e. ap (λ x. OfFTeid x) e) (λ e. cc) (values.fteid_same a b)

pub charging_id_same : (a b : ChargingId) → Decides ((charging_ids.ghosts).eq a b) (OfChargingId a.0 ≡ OfChargingId b.0)
charging_id_same a b = whole_by (λ e. ap (λ x. OfChargingId x) e) (λ e. cc) (Decides-eqb a.0 b.0)

pub pdn_type_same : (a b : PdnType) → Decides ((pdn_types.ghosts).eq a b) (OfPdnType a.0 ≡ OfPdnType b.0)
pdn_type_same a b = whole_by (λ e. ap (λ x. OfPdnType x) e) (λ e. cc) (Decides-eqb a.0 b.0)

pub pti_same : (a b : Pti) → Decides ((ptis.ghosts).eq a b) (OfPti a.0 ≡ OfPti b.0)
pti_same a b = whole_by (λ e. ap (λ x. OfPti x) e) (λ e. cc) (Decides-eqb a.0 b.0)

pub selection_same : (a b : Selection) → Decides ((selections.ghosts).eq a b) (OfSelection a.0 ≡ OfSelection b.0)
selection_same a b = whole_by (λ e. ap (λ x. OfSelection x) e) (λ e. cc) (Decides-eqb a.0 b.0)

-- ---- a number in a struct of its own determines it

pub recovery_one : (a b : Recovery) → OfRecovery a.0.0 ≡ OfRecovery b.0.0 → a ≡ b
recovery_one a b e = one_by (λ x. x.0.0) (λ n. record { 0 = record { 0 = n } }) (λ x. refl) a b cc

pub ebi_one : (a b : EbiValue) → OfEbi a.0 ≡ OfEbi b.0 → a ≡ b
ebi_one a b e = one_by (λ x. x.0) (λ n. record { 0 = n }) (λ x. refl) a b cc

pub rat_one : (a b : Rat) → OfRat a.0 ≡ OfRat b.0 → a ≡ b
rat_one a b e = one_by (λ x. x.0) (λ n. record { 0 = n }) (λ x. refl) a b cc

pub charging_id_one : (a b : ChargingId) → OfChargingId a.0 ≡ OfChargingId b.0 → a ≡ b
charging_id_one a b e = one_by (λ x. x.0) (λ n. record { 0 = n }) (λ x. refl) a b cc

pub pdn_type_one : (a b : PdnType) → OfPdnType a.0 ≡ OfPdnType b.0 → a ≡ b
pdn_type_one a b e = one_by (λ x. x.0) (λ n. record { 0 = n }) (λ x. refl) a b cc

pub pti_one : (a b : Pti) → OfPti a.0 ≡ OfPti b.0 → a ≡ b
pti_one a b e = one_by (λ x. x.0) (λ n. record { 0 = n }) (λ x. refl) a b cc

pub selection_one : (a b : Selection) → OfSelection a.0 ≡ OfSelection b.0 → a ≡ b
selection_one a b e = one_by (λ x. x.0) (λ n. record { 0 = n }) (λ x. refl) a b cc

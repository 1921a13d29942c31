-- The numbers that definitions name by the constants of the code.
use Rattle.std.specs.Prelude.{◌≡◌}
use Rattle.gtp_ie.specs.declared.kinds.TheConstants.{EBI}
use Rattle.gtp_machine.specs.declared.causes.TheConstants.{REQUEST_ACCEPTED, REQUEST_ACCEPTED_PARTIALLY}
use Rattle.gtp_machine.specs.declared.causes.TheConstants.{NEW_PDN_TYPE_DUE_TO_NETWORK_PREFERENCE, CONTEXT_NOT_FOUND, INVALID_LENGTH}
use Rattle.gtp_machine.specs.declared.causes.TheConstants.{MANDATORY_IE_INCORRECT, MANDATORY_IE_MISSING, NO_RESOURCES_AVAILABLE}
use Rattle.gtp_machine.specs.declared.causes.TheConstants.{MISSING_OR_UNKNOWN_APN, PREFERRED_PDN_TYPE_NOT_SUPPORTED}
use Rattle.gtp_machine.specs.declared.causes.TheConstants.{ALL_DYNAMIC_ADDRESSES_ARE_OCCUPIED, REQUEST_REJECTED, CONDITIONAL_IE_MISSING}
use Rattle.gtp_machine.specs.declared.interface_types.TheConstants.{S5S8_SGW_GTP_U, S5S8_PGW_GTP_U, S5S8_SGW_GTP_C, S5S8_PGW_GTP_C}

-- The cause values (TS 29.274, table 8.4-1).
pub record CauseValues : Type 0 where
  pub request_accepted : REQUEST_ACCEPTED ≡ 16
  pub request_accepted_partially : REQUEST_ACCEPTED_PARTIALLY ≡ 17
  pub new_pdn_type : NEW_PDN_TYPE_DUE_TO_NETWORK_PREFERENCE ≡ 18
  pub context_not_found : CONTEXT_NOT_FOUND ≡ 64
  pub invalid_length : INVALID_LENGTH ≡ 67
  pub mandatory_ie_incorrect : MANDATORY_IE_INCORRECT ≡ 69
  pub mandatory_ie_missing : MANDATORY_IE_MISSING ≡ 70
  pub no_resources_available : NO_RESOURCES_AVAILABLE ≡ 73
  pub missing_or_unknown_apn : MISSING_OR_UNKNOWN_APN ≡ 78
  pub preferred_pdn_type_not_supported : PREFERRED_PDN_TYPE_NOT_SUPPORTED ≡ 83
  pub all_dynamic_addresses_are_occupied : ALL_DYNAMIC_ADDRESSES_ARE_OCCUPIED ≡ 84
  pub request_rejected : REQUEST_REJECTED ≡ 94
  pub conditional_ie_missing : CONDITIONAL_IE_MISSING ≡ 103

-- The interface types of F-TEIDs (TS 29.274, table 8.22-1).
pub record InterfaceTypes : Type 0 where
  pub sgw_user_plane : S5S8_SGW_GTP_U ≡ 4
  pub pgw_user_plane : S5S8_PGW_GTP_U ≡ 5
  pub sgw_control_plane : S5S8_SGW_GTP_C ≡ 6
  pub pgw_control_plane : S5S8_PGW_GTP_C ≡ 7

-- The type of the element that an answer names at fault where an EPS bearer identity is out of its range (TS 29.274, table 8.1-1).
pub record ElementTypes : Type 0 where
  pub ebi : EBI ≡ 73

-- The request for a session and its answer can be sent, where what they carry has room in them.
use Rattle.std.proofs.Common.{◌≡◌, ◌⊎◌, inl, inr, ⊎_elim, ℕ, ◌+◌, ◌^◌, ◌-◌, ◌<◌, ◌≤◌, length, length-drop, List, [], ◌∷◌, ◌++◌, Some, refl, sym, subst, arith, rules}
use Rattle.std.specs.Prelude.{All, Option, None, IfSome, is_some, IsTrue, Bool, true, false, not, ◌==◌, ◌&&◌, ◌||◌, if◌then◌else◌, drop}
use Rattle.std.specs.Int.{w64, to_be_bytes, bytes_high_first}
use Rattle.std.proofs.Math.ListN.{replicate}
use Rattle.std.proofs.lemmas.List.{length-append}
use Rattle.std.proofs.lemmas.List.Elements.{All-nil, All-cons, All-drop, All-replicate}
use Rattle.gtp_values.specs.Address.{IsIp}
use Rattle.gtp_values.specs.Apn.{IsApn}
use Rattle.gtp_values.specs.Imsi.{IsImsi}
use Rattle.gtp_values.specs.Plmn.{Network, IsNetwork}
use Rattle.gtp_values.specs.PdnAddress.{IsPdnAddress, allocation_of, allocation}
use Rattle.gtp_values.specs.declared.paa.Paa.{Paa}
use Rattle.gtp_values.specs.declared.paa.Paa.TheVariants as paas
use Rattle.gtp_values.specs.declared.address.Ip.{Ip}
use Rattle.gtp_values.specs.declared.address.Ip.TheVariants.{V4, V6}
use Rattle.gtp_values.specs.declared.qos.Ambr.{Ambr}
use Rattle.gtp_values.specs.declared.qos.Qos.{Qos}
use Rattle.gtp_ie.specs.Digits.{packed}
use Rattle.gtp_ie.specs.Text.{element_encoding}
use Rattle.gtp_ie.specs.Value.{OfImsi, OfCause, OfApn, OfAmbr, OfEbi, OfPaa, OfQos, OfRat, OfPlmn, OfFTeid, OfChargingId, OfPdnType, OfSelection, encoding_of}
use Rattle.gtp_ie.proofs.Again.{recovery_again, ebi_again, charging_id_again, rat_again, pdn_type_again, selection_again, cause_again, ambr_again, qos_again}
use Rattle.gtp_ie.proofs.AgainAddresses.{v4_again, v6_again, v4v6_again, fteid_again, plmn_again}
use Rattle.gtp_ie.proofs.AgainNames.{imsi_again, apn_again}
use Rattle.gtp_tables.specs.declared.pool.IpVersion.TheVariants.{V4 as Version_4, V6 as Version_6}
use Rattle.gtp_tables.specs.Pool.{prefix_of}
use Rattle.gtp_v2.specs.Encoding.{carried, headed_encoding}
use Rattle.gtp_v2.specs.Kinds.{HasKind, RowsHaveKinds}
use Rattle.gtp_v2.specs.Marks.{MeetsMarks}
use Rattle.gtp_v2.specs.Text.{value_encoding, groups_encoding, rows_encoding}
use Rattle.gtp_v2.specs.CreateSessionRequest.{session_request_context_rows}
use Rattle.gtp_v2.specs.CreateSessionResponse.{session_response_context_rows}
use Rattle.gtp_machine.specs.Element.{PdnAddress, cause_of, tunnel_end}
use Rattle.gtp_machine.specs.Message.{CreateSessionRequest, CreatedBearer, CreateSessionResponse, Create_session_request, Create_session_response}
use Rattle.gtp_machine.specs.Node.{Node}
use Rattle.gtp_machine.specs.Input.{Specification}
use Rattle.gtp_machine.specs.Choice.{IsPart, IsGiven, IsIdentity}
use Rattle.gtp_machine.specs.Command.{asked_allocation, session_request}
use Rattle.gtp_machine.specs.Packet.{session_cause, session_response}
use Rattle.gtp_machine.specs.Spelling.{control_value, requested_rows, created_rows, AreOctets, IsSendable}
use Rattle.gtp_machine.specs.Exchange.{IsConfigured, IsAmbr, IsQos, IsSpecified}
use Rattle.gtp_machine.proofs.Basics.Facts.{◌⊗◌}
use Rattle.gtp_machine.proofs.Octets.AsOctets.{none, and, joined, in_two, in_three, in_four, big, imsi_octets, network_octets, name_octets, quality_octets, element_octets}

-- the values of its elements are spelled by what is written
pub spelled_end : (interface teid : ℕ) (ip : Ip) → IsIp ip → interface < 64 → teid < 2 ^ 32 → HasKind 87 (OfFTeid (tunnel_end interface teid ip))
spelled_end interface teid (V4 octets) is low small = fteid_again (tunnel_end interface teid (V4 octets)) (record { interface = low; teid = small; v4 = is.0; v6 = tt; some_address = refl })
spelled_end interface teid (V6 octets) is low small = fteid_again (tunnel_end interface teid (V6 octets)) (record { interface = low; teid = small; v4 = tt; v6 = is.0; some_address = refl })

pub spelled_cause : (value : ℕ) → HasKind 2 (OfCause (cause_of value))
spelled_cause value = cause_again (cause_of value) tt

spelled_ambr : (ambr : Ambr) → IsAmbr ambr → HasKind 72 (OfAmbr ambr)
spelled_ambr ambr is = ambr_again ambr is.up is.down

pub spelled_qos : (qos : Qos) → IsQos qos → HasKind 80 (OfQos qos)
spelled_qos qos is = qos_again qos is.level is.most is.guaranteed

pub identity_again : (identity : ℕ) → IsIdentity identity → identity < 16
identity_again identity is = omega (arith, is.high)

-- one bearer context
pub alone : {X : Type 0} (P : X → Type 0) (x : X) → P x → All P (x ∷ [])
alone P x p = All-cons P x [] p (All-nil P)

-- a text of at most so many octets
pub record IsAtMost (text : List ℕ) (most : ℕ) : Type 0 where
  pub few : length text ≤ most
  pub octets : AreOctets text

pub nothing : IsAtMost [] 0
nothing = record { few = omega arith; octets = none }

-- an element, and what stands after it
pub with_more : (kind instance most : ℕ) (body rest : List ℕ) (n : ℕ) → (kind < 256) × (instance < 256) → IsAtMost body most → IsAtMost rest n
    → IsAtMost (element_encoding kind instance body ++ rest) (4 + most + n)
with_more kind instance most body rest n head short more =
    let long = length-append body rest in
    record { few = omega (arith, long, short.few, more.few); octets = joined (element_encoding kind instance body) rest (element_octets kind instance body head.0 head.1 short.octets) more.octets }

-- a group of them, and what stands after it
pub group_more : (kind instance most : ℕ) (body rest : List ℕ) (n : ℕ) → (kind < 256) × (instance < 256) → IsAtMost body most → IsAtMost rest n
    → IsAtMost ((element_encoding kind instance body ++ []) ++ rest) (4 + most + n)
group_more kind instance most body rest n head short more =
    let last = length-append body [] in
    let long = length-append (body ++ []) rest in
    record {
      few = omega (arith, last, long, short.few, more.few);
      octets =
          joined (element_encoding kind instance body ++ []) rest
          (joined (element_encoding kind instance body) [] (element_octets kind instance body head.0 head.1 short.octets) none) more.octets;
    }

-- ---- the bodies of its elements

pub octet_short : (n : ℕ) → n < 256 → IsAtMost (n ∷ []) 100
octet_short n small = record { few = omega arith; octets = and n [] small none }

pub cause_short : (value : ℕ) → value < 256 → IsAtMost (encoding_of (OfCause (cause_of value))) 100
unfolding encoding_of
cause_short value small = record { few = omega arith; octets = and value (0 ∷ []) small (and 0 [] (omega arith) none) }

pub end_short : (interface teid : ℕ) (ip : Ip) → interface < 64 → IsIp ip → IsAtMost (encoding_of (OfFTeid (tunnel_end interface teid ip))) 100
unfolding encoding_of
end_short interface teid (V4 octets) low is =
    let long = length-append octets [] in
    record {
      few = omega (arith, long, is.0);
      octets = and (128 + interface) _ (omega (arith, low))
          (joined (bytes_high_first 4 teid) (octets ++ []) (big 4 teid) (joined octets [] (record { each = is.1 }) none));
    }
end_short interface teid (V6 octets) low is =
    record {
      few = omega (arith, is.0);
      octets = and (64 + interface) _ (omega (arith, low)) (joined (bytes_high_first 4 teid) octets (big 4 teid) (record { each = is.1 }));
    }

-- an address that can be written: of each version it has as many octets as it is to have
pub record IsWritten (address : PdnAddress) : Type 0 where
  pub is : IsPdnAddress address
  pub v4 : IfSome address.v4 AreOctets
  pub v6 : IfSome address.v6 AreOctets

-- an address of a pool can be written
given_v4 : (node : Node) (pdn : ℕ) (o : Option (List ℕ)) → IsPart node pdn Version_4 o → IfSome o (λ octets. length octets ≡ 4) × IfSome o AreOctets
given_v4 node pdn None part = (tt, tt)
given_v4 node pdn (Some octets) part =
    let number = node.config.pools.v4.start + part.1.place in
    (subst (λ l. length l ≡ 4) (sym part.1.is) refl, subst AreOctets (sym part.1.is) (big 4 number))

given_v6 : (node : Node) → IsConfigured node.config → (pdn : ℕ) (o : Option (List ℕ)) → IsPart node pdn Version_6 o → IfSome o (λ octets. length octets ≡ 16) × IfSome o AreOctets
given_v6 node is pdn None part = (tt, tt)
given_v6 node is pdn (Some octets) part =
    let start = node.config.pools.v6.start in
    let prefix = to_be_bytes w64 (prefix_of start + part.1.place) in
    let first : length prefix ≡ 8 = refl in
    let rest : length (drop 8 start) ≡ length start - 8 = length-drop 8 start in
    let long = length-append prefix (drop 8 start) in
    let whole : length (prefix ++ drop 8 start) ≡ 16 = omega (arith, long, first, rest, is.v6.long) in (
      subst (λ l. length l ≡ 16) (sym part.1.is) whole,
      subst AreOctets (sym part.1.is)
          (joined prefix (drop 8 start) (big 8 (prefix_of start + part.1.place)) (record { each = All-drop (λ octet. octet < 256) 8 start is.octets })),
    )

pub given_written : (node : Node) → IsConfigured node.config → (pdn : ℕ) (address : PdnAddress) → IsGiven node pdn address → IsWritten address
given_written node is pdn address given =
    let v4 = given_v4 node pdn address.v4 given.v4 in
    let v6 = given_v6 node is pdn address.v6 given.v6 in
    record { is = record { v4 = v4.0; v6 = v6.0; some_part = given.some_part }; v4 = v4.1; v6 = v6.1 }

-- a PDN Address Allocation (8.14) that can be written
record IsAllocation (paa : Paa) : Type 0 where
  pub short : IsAtMost (encoding_of (OfPaa paa)) 100
  pub again : HasKind 79 (OfPaa paa)

allocates_v4 : (v4 : List ℕ) → length v4 ≡ 4 → AreOctets v4 → IsAllocation (paas.V4 v4)
unfolding encoding_of
allocates_v4 v4 long are = record { short = record { few = omega (arith, long); octets = and 1 v4 (omega arith) are }; again = v4_again v4 long }

allocates_v6 : (prefix : ℕ) (v6 : List ℕ) → prefix < 256 → length v6 ≡ 16 → AreOctets v6 → IsAllocation (paas.V6 prefix v6)
unfolding encoding_of
allocates_v6 prefix v6 small long are = record { short = record { few = omega (arith, long); octets = and 2 _ (omega arith) (and prefix v6 small are) }; again = v6_again prefix v6 long }

allocates_both : (prefix : ℕ) (v6 v4 : List ℕ) → prefix < 256 → length v6 ≡ 16 → AreOctets v6 → length v4 ≡ 4 → AreOctets v4 → IsAllocation (paas.V4V6 prefix v6 v4)
unfolding encoding_of
allocates_both prefix v6 v4 small v6_long v6_are v4_long v4_are =
    let long = length-append v6 v4 in
    record {
      short =
          record { few = omega (arith, long, v6_long, v4_long); octets = and 3 _ (omega arith) (and prefix (v6 ++ v4) small (joined v6 v4 v6_are v4_are)) };
      again = v4v6_again prefix v6 v4 v6_long v4_long;
    }

-- that of an address
allocates : (address : PdnAddress) → IsWritten address → IsAllocation (allocation 64 address)
allocates address written = by address.v4 address.v6 written.is.some_part written.is.v4 written.is.v6 written.v4 written.v6
  where
    by : (v4 v6 : Option (List ℕ)) → IsTrue (is_some v4 || is_some v6) → IfSome v4 (λ octets. length octets ≡ 4)
        → IfSome v6 (λ octets. length octets ≡ 16) → IfSome v4 AreOctets → IfSome v6 AreOctets → IsAllocation (allocation_of 64 v4 v6)
    by (Some v4) None some v4_long v6_long v4_are v6_are = allocates_v4 v4 v4_long v4_are
    by None (Some v6) some v4_long v6_long v4_are v6_are = allocates_v6 64 v6 (omega arith) v6_long v6_are
    by (Some v4) (Some v6) some v4_long v6_long v4_are v6_are = allocates_both 64 v6 v4 (omega arith) v6_long v6_are v4_long v4_are
    by None None some v4_long v6_long v4_are v6_are = let no : false ≡ true = some in absurd cc

-- octets that are all 0
pub zeros : (n : ℕ) → AreOctets (replicate n 0)
zeros n = record { each = All-replicate (λ octet. octet < 256) n 0 (omega arith) }

-- and what is asked for
asks_allocation : (pdn : ℕ) → IsAllocation (asked_allocation pdn)
asks_allocation pdn = by (pdn == 2) (pdn == 3)
  where
    by : (two three : Bool) → IsAllocation (if two then paas.V6 0 (replicate 16 0) else (if three then paas.V4V6 0 (replicate 16 0) (replicate 4 0) else paas.V4 (replicate 4 0)))
    by true three = allocates_v6 0 (replicate 16 0) (omega arith) refl (zeros 16)
    by false true = allocates_both 0 (replicate 16 0) (replicate 4 0) (omega arith) refl (zeros 16) refl (zeros 4)
    by false false = allocates_v4 (replicate 4 0) refl (zeros 4)

ambr_short : (ambr : Ambr) → IsAtMost (encoding_of (OfAmbr ambr)) 100
unfolding encoding_of
ambr_short ambr = record { few = omega arith; octets = joined (bytes_high_first 4 ambr.up) (bytes_high_first 4 ambr.down) (big 4 ambr.up) (big 4 ambr.down) }

pub qos_short : (qos : Qos) → IsQos qos → IsAtMost (encoding_of (OfQos qos)) 100
unfolding encoding_of
qos_short qos is = record { few = omega arith; octets = quality_octets qos is.class is.level }

pub charging_short : (id : ℕ) → IsAtMost (encoding_of (OfChargingId id)) 100
unfolding encoding_of
charging_short id = record { few = omega arith; octets = big 4 id }

network_short : (network : Network) → IsNetwork network → IsAtMost (encoding_of (OfPlmn network)) 100
unfolding encoding_of
network_short network is = record { few = omega arith; octets = network_octets network is }

name_short : (name : List ℕ) → IsApn name → IsAtMost (encoding_of (OfApn name)) 100
unfolding encoding_of
name_short name is = record { few = is.most; octets = name_octets name is }

packed_short : (digits : List ℕ) → length (packed digits) ≤ length digits
packed_short [] = omega arith
packed_short (a ∷ []) = omega arith
packed_short (a ∷ b ∷ digits) = let more = packed_short digits in omega (arith, more)

imsi_short : (digits : List ℕ) → IsImsi digits → IsAtMost (encoding_of (OfImsi digits)) 100
unfolding encoding_of
imsi_short digits is = let short = packed_short digits in record { few = omega (arith, short, is.most); octets = imsi_octets digits is }

-- a message with a TEID in its header
pub headed_octets : (kind teid number : ℕ) (rest : List ℕ) → kind < 256 → AreOctets rest → AreOctets (headed_encoding kind (Some teid) number None rest)
headed_octets kind teid number rest small are = and 72 _ (omega arith) (and kind _ small (in_two (8 + length rest) _ (in_four teid _ (in_three number _ (and 0 rest (omega arith) are)))))

module _ (node : Node) (spec : Specification) (control user number : ℕ) (configured : IsConfigured node.config) (specified : IsSpecified spec)
    (identity : IsIdentity spec.subscriber.identity) (known : (spec.pdn ≡ 1) ⊎ ((spec.pdn ≡ 2) ⊎ (spec.pdn ≡ 3))) (counter_small : node.counter < 256)
    (control_small : control < 2 ^ 32) (user_small : user < 2 ^ 32) (number_small : number < 2 ^ 24) where
  abbrev q : CreateSessionRequest
  q = session_request node spec control user number

  type_small : spec.pdn < 8
  type_small = ⊎_elim (λ is. omega (arith, is)) (⊎_elim (λ is. omega (arith, is)) (λ is. omega (arith, is))) known

  context_short : IsAtMost (rows_encoding session_request_context_rows (requested_rows q.context)) 312
  unfolding encoding_of value_encoding
  context_short =
      with_more 73 0 100 (encoding_of (OfEbi spec.subscriber.identity)) _ 208 (search rules) (octet_short spec.subscriber.identity (omega (arith, identity.high)))
      (with_more 80 0 100 (encoding_of (OfQos spec.qos)) _ 104 (search rules) (qos_short spec.qos specified.qos)
      (with_more 87 2 100 (encoding_of (OfFTeid q.context.user)) [] 0 (search rules) (end_short 4 user node.config.own.user (omega arith) configured.user) nothing))

  request_carried : IsAtMost (carried (control_value (Create_session_request q))) 1257
  unfolding encoding_of value_encoding groups_encoding
  request_carried =
      with_more 1 0 100 (encoding_of (OfImsi spec.subscriber.imsi)) _ 1153 (search rules) (imsi_short spec.subscriber.imsi specified.imsi)
      (with_more 82 0 100 (encoding_of (OfRat spec.rat)) _ 1049 (search rules) (octet_short spec.rat specified.technology)
      (with_more 83 0 100 (encoding_of (OfPlmn spec.network)) _ 945 (search rules) (network_short spec.network specified.network)
      (with_more 87 0 100 (encoding_of (OfFTeid q.control)) _ 841 (search rules) (end_short 6 control node.config.own.control (omega arith) configured.control)
      (with_more 71 0 100 (encoding_of (OfApn spec.subscriber.access_point)) _ 737 (search rules) (name_short spec.subscriber.access_point specified.access_point)
      (with_more 128 0 100 (encoding_of (OfSelection spec.selection)) _ 633 (search rules) (octet_short spec.selection (omega (arith, specified.selection)))
      (with_more 99 0 100 (encoding_of (OfPdnType spec.pdn)) _ 529 (search rules) (octet_short spec.pdn (omega (arith, type_small)))
      (with_more 79 0 100 (encoding_of (OfPaa (asked_allocation spec.pdn))) _ 425 (search rules) (asks_allocation spec.pdn).short
      (with_more 72 0 100 (encoding_of (OfAmbr spec.ambr)) _ 321 (search rules) (ambr_short spec.ambr)
      (group_more 93 0 312 (rows_encoding session_request_context_rows (requested_rows q.context)) _ 5 (search rules) context_short
      (record { few = omega arith; octets = element_octets 3 0 (node.counter ∷ []) (omega arith) (omega arith) (and node.counter [] counter_small none) }))))))))))

  pub request_short : length (carried (control_value (Create_session_request q))) ≤ 65527
  request_short = omega (arith, request_carried.few)

  pub request_sendable : IsSendable (Create_session_request q)
  unfolding encoding_of value_encoding groups_encoding
  request_sendable = record {
    own = tt;
    meets = record {
      header = (omega arith, number_small);
      kinds =
          imsi_again spec.subscriber.imsi specified.imsi
          ⊗ rat_again spec.rat
          ⊗ plmn_again spec.network specified.network
          ⊗ spelled_end 6 control node.config.own.control configured.control (omega arith) control_small
          ⊗ apn_again spec.subscriber.access_point specified.access_point
          ⊗ selection_again spec.selection specified.selection
          ⊗ pdn_type_again spec.pdn type_small
          ⊗ (asks_allocation spec.pdn).again
          ⊗ spelled_ambr spec.ambr specified.ambr
          ⊗ alone (RowsHaveKinds session_request_context_rows) _
          (ebi_again spec.subscriber.identity (identity_again spec.subscriber.identity identity) ⊗ spelled_qos spec.qos specified.qos ⊗ spelled_end 4
          user node.config.own.user configured.user (omega arith) user_small ⊗ tt)
          ⊗ recovery_again node.counter
          ⊗ tt;
      marks = search rules;
      short = omega (arith, request_short);
    };
    octets = headed_octets 32 0 number _ (omega arith) request_carried.octets;
  }

  -- the answer
  module _ (there : Node) (control_there user_there : ℕ) (address : PdnAddress) (configured_there : IsConfigured there.config)
      (counter_there_small : there.counter < 256) (control_there_small : control_there < 2 ^ 32) (user_there_small : user_there < 2 ^ 32)
      (written : IsWritten address) where
    -- with a cause of this value
    abbrev answer : ℕ → CreateSessionResponse
    answer value = record (session_response there q control_there user_there address) { cause = cause_of value }

    abbrev a : CreateSessionResponse
    a = session_response there q control_there user_there address

    abbrev created : CreatedBearer
    created = record { identity = spec.subscriber.identity; cause = cause_of 16; user = Some (tunnel_end 5 user_there there.config.own.user); qos = Some spec.qos; charging = Some user_there }

    created_short : IsAtMost (rows_encoding session_response_context_rows (created_rows created)) 520
    unfolding encoding_of value_encoding
    created_short =
        with_more 73 0 100 (encoding_of (OfEbi spec.subscriber.identity)) _ 416 (search rules) (octet_short spec.subscriber.identity (omega (arith, identity.high)))
        (with_more 2 0 100 (encoding_of (OfCause (cause_of 16))) _ 312 (search rules) (cause_short 16 (omega arith))
        (with_more 87 2 100 (encoding_of (OfFTeid (tunnel_end 5 user_there there.config.own.user))) _ 208 (search rules)
        (end_short 5 user_there there.config.own.user (omega arith) configured_there.user)
        (with_more 80 0 100 (encoding_of (OfQos spec.qos)) _ 104 (search rules) (qos_short spec.qos specified.qos)
        (with_more 94 0 100 (encoding_of (OfChargingId user_there)) [] 0 (search rules) (charging_short user_there) nothing))))

    value_is : (session_cause spec.pdn address ≡ 16) ⊎ (session_cause spec.pdn address ≡ 18)
    value_is = by ((spec.pdn == 3) && not (is_some address.v4 && is_some address.v6))
      where
        by : (less : Bool) → let value : ℕ = if less then 18 else 16 in (value ≡ 16) ⊎ (value ≡ 18)
        by true = inr refl
        by false = inl refl

    value_small : session_cause spec.pdn address < 256
    value_small = ⊎_elim (λ is. omega (arith, is)) (λ is. omega (arith, is)) value_is

    response_carried : IsAtMost (carried (control_value (Create_session_response a))) 945
    unfolding encoding_of value_encoding groups_encoding
    response_carried =
        with_more 2 0 100 (encoding_of (OfCause (cause_of (session_cause spec.pdn address)))) _ 841 (search rules) (cause_short (session_cause spec.pdn address) value_small)
        (with_more 87 1 100 (encoding_of (OfFTeid (tunnel_end 7 control_there there.config.own.control))) _ 737 (search rules)
        (end_short 7 control_there there.config.own.control (omega arith) configured_there.control)
        (with_more 79 0 100 (encoding_of (OfPaa (allocation 64 address))) _ 633 (search rules) (allocates address written).short
        (with_more 72 0 100 (encoding_of (OfAmbr spec.ambr)) _ 529 (search rules) (ambr_short spec.ambr)
        (group_more 93 0 520 (rows_encoding session_response_context_rows (created_rows created)) _ 5 (search rules) created_short
        (record { few = omega arith; octets = element_octets 3 0 (there.counter ∷ []) (omega arith) (omega arith) (and there.counter [] counter_there_small none) })))))

    pub response_short : length (carried (control_value (Create_session_response a))) ≤ 65527
    response_short = omega (arith, response_carried.few)

    pub response_sendable : IsSendable (Create_session_response a)
    unfolding encoding_of value_encoding groups_encoding
    response_sendable = record {
      own = tt;
      meets = record {
        header = (control_small, number_small);
        kinds =
            spelled_cause (session_cause spec.pdn address)
            ⊗ spelled_end 7 control_there there.config.own.control configured_there.control (omega arith) control_there_small
            ⊗ (allocates address written).again
            ⊗ spelled_ambr spec.ambr specified.ambr
            ⊗ alone (RowsHaveKinds session_response_context_rows) _
            (ebi_again spec.subscriber.identity (identity_again spec.subscriber.identity identity) ⊗ spelled_cause 16 ⊗ spelled_end 5 user_there
            there.config.own.user configured_there.user (omega arith) user_there_small ⊗ spelled_qos spec.qos specified.qos ⊗ charging_id_again
            user_there user_there_small ⊗ tt)
            ⊗ recovery_again there.counter
            ⊗ tt;
        marks = ⊎_elim
            (λ is. subst (λ value. MeetsMarks (control_value (Create_session_response (answer value)))) (sym is) (search rules))
            (λ is. subst (λ value. MeetsMarks (control_value (Create_session_response (answer value)))) (sym is) (search rules))
            value_is;
        short = omega (arith, response_short);
      };
      octets = headed_octets 33 control number _ (omega arith) response_carried.octets;
    }

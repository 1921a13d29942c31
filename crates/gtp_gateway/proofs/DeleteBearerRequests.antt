-- Delete Bearer Requests: the bearers that are named, and how they go.
use Rattle.std.proofs.Common.{◌≡◌, ℕ, ◌<◌, ◌≤◌, Bool, true, false, cond, List, [], ◌∷◌, ◌++◌, map, length, Option, Some, None, inl, inr, refl, sym, ◌∙◌, ap, subst, append_assoc, append-nil, arith}
use Rattle.std.specs.Prelude.{◌==◌, ◌||◌, ◌&&◌, not, is_some, unwrap_or}
use Rattle.std.specs.List.{list_all, list_any}
use Rattle.std.proofs.lemmas.List.{length-map}
use Rattle.std.proofs.lemmas.List.Folds.{list_any-append}
use Rattle.std.specs.FinMap.{get}
use Rattle.gtp_values.specs.declared.identifiers.Teid.{Teid}
use Rattle.gtp_ie.specs.declared.value.ebi.EbiValue.{EbiValue}
use Rattle.gtp_ie.specs.Value.{Value, OfEbi}
use Rattle.gtp_v2.specs.Datagram.{IsMessage}
use Rattle.gtp_v2.specs.Message.{MessageValue}
use Rattle.gtp_tables.proofs.Kept.{passing, get_kept}
use Rattle.gtp_machine.specs.Command.{NamesBearer}
use Rattle.gtp_machine.specs.Element.{cause_of}
use Rattle.gtp_machine.specs.Input.{Effect}
use Rattle.gtp_machine.specs.Answer.{answered}
use Rattle.gtp_machine.specs.Decoded.{row_in, list_in, number_of, message_of}
use Rattle.gtp_machine.specs.Message.{RemovedBearer, Delete_bearer_request, Delete_bearer_response, Message, DeleteBearerRequest}
use Rattle.gtp_machine.specs.Node.{Arrival, Bearer, Node, Pending, Session}
use Rattle.gtp_machine.specs.declared.role.Role.{Role}
use Rattle.gtp_machine.specs.Serving.{RemovesEach, DeleteBearerTaken, DeleteBearerJudged, all_removed, any_removed, delete_bearer_cause, DeleteBearerAsked}
use Rattle.gtp_machine.proofs.Basics.Types.{type_kind}
use Rattle.gtp_machine.proofs.Octets.Readings.{reads_as}
use Rattle.gtp_gateway.specs.declared.tables.change.Change.TheVariants.{Stays}
use Rattle.gtp_gateway.specs.declared.receive.delete_request.DeleteRequest.{DeleteRequest}
use Rattle.gtp_gateway.specs.declared.receive.delete_bearer_request.identities.NamedBearer.{NamedBearer}
use Rattle.gtp_machine.specs.declared.message_type.MessageType.TheVariants as types
use Rattle.gtp_gateway.specs.declared.step.ControlStep.{ControlStep}
use Rattle.gtp_gateway.specs.receive.DeleteBearerRequest.{is_at, goes_for, is_found, was_named, NamesOne, NamesEach, identity_named, cause_named}
use Rattle.gtp_gateway.specs.receive.DeleteBearerRequest.{removed_by, without_named, without_each, delete_bearer_by, identities_of, IsForBearers}
use Rattle.gtp_gateway.specs.receive.DeleteBearerRequest.{number_in, delete_bearer_effect}
use Rattle.gtp_gateway.specs.receive.DeleteRequest.{ReadsDelete}
use Rattle.gtp_machine.specs.MessageType.{type_at}
use Rattle.gtp_gateway.specs.receive.Row.{IsRow}
use Rattle.gtp_gateway.specs.GatewayState.{GatewayState}
use Rattle.gtp_gateway.proofs.Rules.{meets, follows}
use Rattle.gtp_gateway.proofs.InPlace.{row_said}
use Rattle.gtp_v2.specs.Viewed.{has_row, row_of}
use Rattle.gtp_machine.specs.Choice.{HasHeldRoom, HasSession}
use Rattle.gtp_machine.proofs.Basics.Facts.{one_value}
use Rattle.gtp_gateway.specs.receive.Allocations.{SendsOrOpens, AlwaysSendsOrOpens}
use Rattle.gtp_gateway.proofs.Allocations.{sends, sends_answer}

-- its session was opened, if it stands
abbrev pub WasOpened : Node → ℕ → Type 0
WasOpened old session = (at : HasSession old session) → at.session.state ≡ Pending → ⊥

delete_bearer_taken : (request : Arrival) (d : DeleteBearerRequest) (linked : Option ℕ) (old : Node) (s : Session) (e : Effect) → DeleteBearerTaken request d linked old s e → SendsOrOpens e
delete_bearer_taken request d (Some identity) old s e r = follows (sends_answer request old) (λ only is. sends (λ none. cc) is) r
delete_bearer_taken request d None old s e r = follows (sends_answer request old) (λ few removes. sends (λ none. cc) removes.gives) r

delete_bearer_judged : (request : Arrival) (d : DeleteBearerRequest) (old : Node) → WasOpened old d.header → (e : Effect) → DeleteBearerJudged request d old e → SendsOrOpens e
delete_bearer_judged request d old opened e r =
    follows (sends_answer request old) (λ at. follows (λ pending is. absurd (pending (opened at))) (λ was. delete_bearer_taken request d d.linked old at.session e)) r

-- so it was where the request is answered
pub delete_bearer_opened : (request : Arrival) (d : DeleteBearerRequest) (old : Node) (m : Message) (cause : ℕ) (left : Node)
    → DeleteBearerJudged request d old (answered request m cause left) → WasOpened old d.header
delete_bearer_opened request d old m cause left (inl f) at = absurd (f.0 at)
delete_bearer_opened request d old m cause left (inr (a, inl f)) at =
    absurd (let none : (record { destination = request.source; messages = m ∷ [] } ∷ []) ≡ [] = ap (λ (x : Effect). x.out.sent) f.1 in cc)
delete_bearer_opened request d old m cause left (inr (a, inr (opened, rest))) at =
    subst (λ (s : Session). s.state ≡ Pending → ⊥) (one_value (get old.sessions d.header) a.session at.session a.stands at.stands) opened

pub delete_bearer_asked : (request : Arrival) (d : DeleteBearerRequest) (old : Node) → HasHeldRoom old → WasOpened old d.header → AlwaysSendsOrOpens (DeleteBearerAsked request d) old
delete_bearer_asked request d old room opened e r = follows (λ full is. absurd (full room)) (λ few. delete_bearer_judged request d old opened e) r

-- a row of one kind, as a row of another that holds of the same effects at this node
pub row_as : (T U : Node → Effect → Type 0) (request : Arrival) (role : Role) (old : Node) (step : ControlStep) (new : GatewayState)
    → ((e : Effect) → T old e → U old e) → IsRow T request role old step new → IsRow U request role old step new
row_as T U request role old step new each row = record { effect = row.effect; takes = each row.effect row.takes; tells = row.tells; becomes = row.becomes; role_stays = row.role_stays }

-- ---- the cause of the answer

found_is : (o : Option Teid) → is_some o ≡ (cause_named o == 16)
found_is None = refl
found_is (Some teid) = refl

all_is : (ns : List NamedBearer) → list_all is_found ns ≡ all_removed (map removed_by ns)
all_is [] = refl
all_is (n ∷ ns) = λ i. found_is n.teid i && all_is ns i

any_is : (ns : List NamedBearer) → list_any is_found ns ≡ any_removed (map removed_by ns)
any_is [] = refl
any_is (n ∷ ns) = λ i. found_is n.teid i || any_is ns i

-- 16 where all are found, 17 where some are, and else 64
pub cause_is : (ns : List NamedBearer) (all any : Bool) → all ≡ list_all is_found ns → any ≡ list_any is_found ns → cond all 16 (cond any 17 64) ≡ delete_bearer_cause (map removed_by ns)
cause_is ns all any at_all at_any = λ i. cond ((at_all ∙ all_is ns) i) 16 (cond ((at_any ∙ any_is ns) i) 17 64)

-- ---- the bearers that are named, one more

pub names_push : (old : Node) (session : ℕ) (before ns : List NamedBearer) (n : NamedBearer) → NamesEach old session before ns
    → NamesOne old session (before ++ ns) n.identity.0 n.teid → NamesEach old session before (ns ++ n ∷ [])
names_push old session before [] n each one = (subst (λ (b : List NamedBearer). NamesOne old session b n.identity.0 n.teid) (append-nil before) one, tt)
names_push old session before (m ∷ ns) n each one = (
  each.0,
  names_push old session (before ++ m ∷ []) ns n each.1
      (subst (λ (b : List NamedBearer). NamesOne old session b n.identity.0 n.teid) (sym (append_assoc before (m ∷ []) ns)) one),
)

-- ---- how they go

-- the node has the bearers that another had, without those that went
record IsLeft (old : Node) (before : List NamedBearer) (node : Node) : Type 0 where
  pub there : (t : ℕ) (b : Bearer) → get node.bearers t ≡ Some b → (get old.bearers t ≡ Some b) × (was_named t before ≡ false)
  pub here : (t : ℕ) (b : Bearer) → get old.bearers t ≡ Some b → was_named t before ≡ false → get node.bearers t ≡ Some b

other : (t k : ℕ) (o : Option Bearer) (b : Bearer) → passing (λ q (x : Bearer). not ((q == k) || false)) t o ≡ Some b → (o ≡ Some b) × ((t == k) ≡ false)
other t k None b is = absurd cc
other t k (Some x) b is = by (t == k) refl is
  where
    by : (c : Bool) → (t == k) ≡ c → cond (not (c || false)) (Some x) None ≡ Some b → (Some x ≡ Some b) × ((t == k) ≡ false)
    by true same is = absurd cc
    by false apart is = (is, apart)

stays : (t k : ℕ) (o : Option Bearer) (b : Bearer) → o ≡ Some b → (t == k) ≡ false → passing (λ q (x : Bearer). not ((q == k) || false)) t o ≡ Some b
stays t k None b is apart = absurd cc
stays t k (Some x) b is apart = ap (λ (c : Bool). cond (not (c || false)) (Some x) None) apart ∙ is

both_false : (a b : Bool) → (a || (b || false)) ≡ false → (a ≡ false) × (b ≡ false)
both_false true b is = absurd cc
both_false false true is = absurd cc
both_false false false is = (refl, refl)

neither : (a b : Bool) → a ≡ false → b ≡ false → (a || (b || false)) ≡ false
neither a b first second = λ i. first i || (second i || false)

named_more : (t : ℕ) (before : List NamedBearer) (n : NamedBearer) (o : Option Teid) → n.teid ≡ o → was_named t (before ++ n ∷ []) ≡ (was_named t before || (is_at t o || false))
named_more t before n o is = list_any-append (goes_for t) before (n ∷ []) ∙ ap (λ (p : Option Teid). was_named t before || (is_at t p || false)) is

left_more : (old node : Node) (before : List NamedBearer) (n : NamedBearer) (o : Option Teid) → n.teid ≡ o → IsLeft old before node → IsLeft old (before ++ n ∷ []) (without_named o node)
left_more old node before n None is left = record {
  there = λ t b stands. ((left.there t b stands).0, named_more t before n None is ∙ neither (was_named t before) false (left.there t b stands).1 refl);
  here = λ t b stands none. left.here t b stands (both_false (was_named t before) false (sym (named_more t before n None is) ∙ none)).0;
}
left_more old node before n (Some teid) is left =
    let test : ℕ → Bearer → Bool = λ q x. not ((q == teid) || false) in
    record {
      there = λ t b stands.
          let found = other t teid (get node.bearers t) b (sym (get_kept test node.bearers t) ∙ stands) in
          let was = left.there t b found.0 in
          (was.0, named_more t before n (Some teid) is ∙ neither (was_named t before) (t == teid) was.1 found.1);
      here = λ t b stands none.
          let apart = both_false (was_named t before) (t == teid) (sym (named_more t before n (Some teid) is) ∙ none) in
          get_kept test node.bearers t ∙ stays t teid (get node.bearers t) b (left.here t b stands apart.0) apart.1;
    }

-- one of them goes as the machine says
removes_one : (old node new : Node) (session identity : ℕ) (before : List NamedBearer) (o : Option Teid) (ids : List ℕ) (others : List RemovedBearer)
    → IsLeft old before node → NamesOne old session before identity o → RemovesEach session ids (without_named o node) others new
    → RemovesEach session (identity ∷ ids) node (record { identity = identity; cause = cause_of (cause_named o) } ∷ others) new
removes_one old node new session identity before None ids others left names rest = (
  others,
  inl (
    λ named.
        let was = left.there named.key named.at.bearer named.at.stands in
        let twice : true ≡ false =
        sym (names (record
        { key = named.key; at = record { bearer = named.at.bearer; stands = was.0 }; of = named.of; dedicated = named.dedicated; has = named.has }))
        ∙ was.1 in
        cc,
    (refl, rest),
  ),
)
removes_one old node new session identity before (Some teid) ids others left names rest =
    let named : NamesBearer old session identity = names.0 in
    let stands : get old.bearers teid ≡ Some named.at.bearer = ap (get old.bearers) (sym names.1) ∙ named.at.stands in (
      others,
      meets (record { key = teid; at = record { bearer = named.at.bearer; stands = left.here teid named.at.bearer stands names.2 }; of = named.of; dedicated = named.dedicated; has = named.has })
          ((refl, rest)),
    )

each_goes : (old node : Node) (session : ℕ) (before ns : List NamedBearer) → IsLeft old before node → NamesEach old session before ns
    → RemovesEach session (map identity_named ns) node (map removed_by ns) (without_each ns node)
each_goes old node session before [] left each = (refl, refl)
each_goes old node session before (n ∷ ns) left each =
    removes_one old node (without_each (n ∷ ns) node) session n.identity.0 before n.teid (map identity_named ns) (map removed_by ns) left each.0
    (each_goes old (without_named n.teid node) session (before ++ n ∷ []) ns (left_more old node before n n.teid refl left) each.1)

-- the bearers that were named beforehand go in turn as the machine says
pub removes_each : (old : Node) (session : ℕ) (ns : List NamedBearer) → NamesEach old session [] ns → RemovesEach session (map identity_named ns) old (map removed_by ns) (without_each ns old)
removes_each old session ns each = each_goes old old session [] ns (record { there = λ t b stands. (stands, refl); here = λ t b stands none. stands }) each

-- ---- the machine's column

-- bearers that are named go
pub ends_judged : (request : Arrival) (r : DeleteRequest) (old : Node) (header : ℕ) (ids : List EbiValue) (ns : List NamedBearer) → IsForBearers r header old
    → length ids ≤ 11 → map identity_named ns ≡ map number_in ids → NamesEach old r.header [] ns
    → DeleteBearerJudged request (delete_bearer_by r (map number_in ids)) old (answered request (Delete_bearer_response (record {
      header = header;
      number = r.seq;
      cause = cause_of (delete_bearer_cause (map removed_by ns));
      linked = None;
      contexts = map removed_by ns;
      recovery = Some old.counter;
    })) (delete_bearer_cause (map removed_by ns)) (without_each ns old))
ends_judged request r old header ids ns asked few same names =
    let contexts = map removed_by ns in
    let left = without_each ns old in
    let effect : Effect =
    answered request (Delete_bearer_response
    (record {
      header = header;
      number = r.seq;
      cause = cause_of (delete_bearer_cause contexts);
      linked = None;
      contexts = contexts;
      recovery = Some old.counter;
    })) (delete_bearer_cause contexts) left in
    meets (record { session = asked.session; stands = asked.stands })
    (meets asked.opened
    (subst (λ (o : Option ℕ). DeleteBearerTaken request (delete_bearer_by r (map number_in ids)) o old asked.session effect) (sym asked.unlinked)
    (inr (
      omega (arith, few, length-map ids number_in),
      record {
        contexts = contexts;
        left = left;
        removes = subst (λ (l : List ℕ). RemovesEach r.header l old contexts left) same (removes_each old r.header ns names);
        gives =
            λ i. answered request (Delete_bearer_response
            (record {
              header = asked.named i;
              number = r.seq;
              cause = cause_of (delete_bearer_cause contexts);
              linked = None;
              contexts = contexts;
              recovery = Some old.counter;
            })) (delete_bearer_cause contexts) left;
      },
    ))))

-- too many are named
pub many_judged : (request : Arrival) (r : DeleteRequest) (old : Node) (header : Teid) (identities : List ℕ) → IsForBearers r header old → 11 < length identities
    → DeleteBearerJudged request (delete_bearer_by r identities) old (delete_bearer_effect request r.seq (record { header = header; cause = 94; linked = None; change = Stays }) old)
many_judged request r old header identities asked many =
    meets (record { session = asked.session; stands = asked.stands })
    (meets asked.opened
    (subst (λ (o : Option ℕ). DeleteBearerTaken request (delete_bearer_by r identities) o old asked.session
    (delete_bearer_effect request r.seq (record { header = header; cause = 94; linked = None; change = Stays }) old)) (sym asked.unlinked)
    (inl (
      λ few. omega (arith, few, many),
      λ i. answered request (Delete_bearer_response (record { header = asked.named i; number = r.seq; cause = cause_of 94; linked = None; contexts = []; recovery = Some old.counter })) 94 old,
    ))))

-- ---- the message, by what was read of it

pub numbers_read : (ids : List EbiValue) → map (λ (v : Value). unwrap_or (number_of v) 0) (map (λ (i : EbiValue). OfEbi i.0) ids) ≡ map number_in ids
numbers_read [] = refl
numbers_read (i ∷ ids) = λ x. i.0 ∷ numbers_read ids x

pub delete_bearer_is : (octets : List ℕ) (m : MessageValue) (r : DeleteRequest) → IsMessage octets m → type_at m.kind ≡ Some types.DeleteBearerRequest → ReadsDelete m r
    → message_of m ≡ Delete_bearer_request (delete_bearer_by r (identities_of m))
unfolding row_in list_in
delete_bearer_is octets m r is at reads =
    let linked = row_said OfEbi number_of (λ n. refl) (row_of 73 0 m) r.linked (reads.linked (ap (λ k. has_row k 73 0) (type_kind m.kind types.DeleteBearerRequest at))) in
    reads_as types.DeleteBearerRequest octets m is at ∙ (λ i.
    Delete_bearer_request (record { header = sym reads.header i; number = sym reads.number i; linked = linked i; identities = identities_of m }))

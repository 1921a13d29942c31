-- Where the messages of a datagram lie.
use Rattle.std.proofs.Common.{◌≡◌, ℕ, ◌+◌, ◌-◌, ◌*◌, ◌/◌, ◌<◌, ◌≤◌, List, [], ◌∷◌, length, take, drop, Option, Some, Result, Ok, Err, refl, sym, ap, subst, ◌∙◌, arith}
use Rattle.std.specs.Prelude.{IfOk}
use Rattle.gtp_values.specs.Steps.{◌>>=◌, Gives}
use Rattle.gtp_values.proofs.Decided.{bind_at, bind_at_err}
use Rattle.gtp_ie.specs.Element.{Element}
use Rattle.gtp_v2.specs.declared.fault.V2Fault.{V2Fault}
use Rattle.gtp_v2.specs.Headed.{Headed}
use Rattle.gtp_v2.specs.Message.{Content, with_content}
use Rattle.gtp_v2.specs.Pair.{Announces, LiesIn, LieIn}
use Rattle.gtp_v2.specs.Viewed.{Viewed, Follows, Carries}
use Rattle.gtp_v2.specs.reading.Headed.{header_at}
use Rattle.gtp_v2.specs.reading.Message.{content_at, message_at}
use Rattle.gtp_v2.specs.reading.Checked.{forgotten}
use Rattle.gtp_v2.specs.reading.Viewed.{viewed, IsViewed, IsBack}
use Rattle.gtp_v2.specs.reading.Places.{place_of_fault}
use Rattle.gtp_v2.specs.reading.Pair.{placed, second_at}
use Rattle.gtp_v2.proofs.Pairs.{opened, parts}
use Rattle.gtp_v2.proofs.Told.{message_decided}
use Rattle.gtp_v2.proofs.Checks.{was_read, was_fault}
use Rattle.gtp_v2.proofs.Views.{content_is}
use Rattle.gtp_v2.proofs.Carried.{carried, followed}
use Rattle.gtp_v2.proofs.Places.{fault_up_to}

-- what is read of octets lies in them
pub lies : (r : Result Viewed V2Fault) (octets : List ℕ) → Gives (λ v. v.message) r (message_at octets) → IfOk r (Follows octets) → IfOk r (Carries octets) → IfOk r (LiesIn octets)
lies (Ok v) octets reads rest elements = record { spelled = (message_decided octets).ok v.message reads; rest = rest; elements = elements }
lies (Err f) octets reads rest elements = tt

pub lies_one : (v : Viewed) (octets : List ℕ) → message_at octets ≡ Ok v.message → Follows octets v → Carries octets v → LiesIn octets v
lies_one v octets reads rest elements = record { spelled = (message_decided octets).ok v.message reads; rest = rest; elements = elements }

-- where there are octets a second message is read of them
pub some_second : (place : ℕ) (octets : List ℕ) → 0 < length octets → second_at place octets ≡ placed place (message_at octets)
unfolding second_at
some_second place [] some = absurd (omega (arith, some))
some_second place (x ∷ xs) some = refl

pub no_second : (place : ℕ) (octets : List ℕ) → octets ≡ [] → second_at place octets ≡ second_at place []
no_second place octets none = λ i. second_at place (none i)

-- the first message lies in its own octets, and the second in those after them
pub lie_both : (first kind high low : ℕ) (held : List ℕ) → first / 16 ≡ 5 → 256 * high + low ≤ length held → (a b : Viewed)
    → LiesIn (opened (first - 16) kind high low (take (256 * high + low) held)) a → LiesIn (drop (256 * high + low) held) b
    → LieIn (opened first kind high low held) a (Some b) (drop (256 * high + low) held)
lie_both first kind high low held five le a b la lb =
    let is : 80 + (first - 80) ≡ first = omega (arith, five) in
    let small : first - 80 < 16 = omega (arith, five) in
    let front : 64 + (first - 80) ≡ first - 16 = omega (arith, five) in
    let announces = parts (first - 80) kind high low held small le in (
      opened (first - 16) kind high low (take (256 * high + low) held),
      subst (λ k. Announces (opened k kind high low held) (opened (first - 16) kind high low (take (256 * high + low) held)) (drop (256 * high + low) held)) is
          (subst (λ k. Announces (opened (80 + (first - 80)) kind high low held) (opened k kind high low (take (256 * high + low) held)) (drop (256 * high + low) held)) front announces),
      la,
      lb,
    )

-- ---- a message that was read by its header

pub reads_so : (octets : List ℕ) (h : Headed) (elements : Option (List Element)) → header_at octets ≡ Ok h → IsViewed h elements → message_at octets ≡ Ok (viewed h elements).message
unfolding message_at
reads_so octets h elements headed inv =
    let r = was_read (content_at h) inv.reads in
    bind_at (header_at octets) (λ x. content_at x >>= λ content. Ok (with_content x content)) h headed
    ∙ (bind_at (content_at h) (λ content. Ok (with_content h content)) r.0 r.1 ∙ ap (λ (content : Content). Ok (with_content h content)) (sym (content_is (content_at h) r.0 r.1)))

pub fails_so : (octets : List ℕ) (h : Headed) (f : V2Fault) → header_at octets ≡ Ok h → forgotten (content_at h) ≡ Err f → message_at octets ≡ Err f
unfolding message_at
fails_so octets h f headed fails =
    bind_at (header_at octets) (λ x. content_at x >>= λ content. Ok (with_content x content)) h headed
    ∙ bind_at_err (content_at h) (λ content. Ok (with_content h content)) f (was_fault (content_at h) f fails)

pub viewed_lies : (octets : List ℕ) (h : Headed) (elements : Option (List Element)) → header_at octets ≡ Ok h → IsViewed h elements → LiesIn octets (viewed h elements)
viewed_lies octets h elements headed inv = lies_one (viewed h elements) octets (reads_so octets h elements headed inv) (followed octets h elements headed) (carried octets h elements headed inv)

pub fault_place : (octets : List ℕ) (h : Headed) (f : V2Fault) → header_at octets ≡ Ok h → forgotten (content_at h) ≡ Err f → place_of_fault f ≤ length octets
fault_place octets h f headed fails = fault_up_to octets f ((message_decided octets).err f (fails_so octets h f headed fails))

-- ---- the octets of a second message

pub back_of : (back : List ℕ) (v : Viewed) → LiesIn back v → IsBack back
back_of back v lies some = ap forgotten ((message_decided back).is v.message lies.spelled)

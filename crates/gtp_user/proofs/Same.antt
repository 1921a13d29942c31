-- Where `==` is true, contracts see the same.
use Rattle.std.proofs.Common.{◌≡◌, ℕ, false, List, refl, ap, sym, ◌∙◌, arith}
use Rattle.std.specs.Prelude.{◌==◌, ◌&&◌, nat_eq}
use Rattle.std.specs.Bool.{Decides}
use Rattle.std.specs.Cmp.Lexicographic.{pointwise, pointwise_decides, bytes_decides}
use Rattle.std.proofs.lemmas.Bool.Decides.{nat_tests, Decides-eqb, Decides-and, Decides-like, same_from_decides}
use Rattle.std.specs.Option.{option_eq}
use Rattle.gtp_values.specs.contracts.address.IpPartialEq.TheImpl as ips
use Rattle.gtp_values.proofs.Same.{ip_same, options_same}
use Rattle.gtp_user.specs.declared.message.UserBody.{UserBody}
use Rattle.gtp_user.specs.declared.message.UserBody.TheVariants as bodies
use Rattle.gtp_user.specs.declared.message.UserMessage.{UserMessage}
use Rattle.gtp_user.specs.contracts.message.UserBodyPartialEq.TheImpl as user_bodies
use Rattle.gtp_user.specs.contracts.message.UserMessagePartialEq.TheImpl as messages
use Rattle.gtp_user.specs.Message.{ErrorIndication, Notification, EndMarker, Packet, Other, content_of, message_value}
use Rattle.gtp_user.specs.Chain.{Extension, header_eq, first_kind, chain_encoding}
use Rattle.gtp_user.specs.reading.Walk.{headers_in, HasNoRest}
use Rattle.gtp_user.proofs.Chains.{whole_is}
use Rattle.gtp_user.proofs.Messages.{message_by}

-- a test of two lists of headers
header_decided : (x y : Extension) → Decides (header_eq x y) (x ≡ y)
header_decided x y =
    Decides-like (header_eq x y) join parts
    (Decides-and (x.kind == y.kind) (pointwise nat_eq x.content y.content) (Decides-eqb x.kind y.kind) (bytes_decides x.content y.content)) where
      join : (x.kind ≡ y.kind) × (x.content ≡ y.content) → x ≡ y
      join p = ap (λ k. record { kind = k; content = x.content }) p.0 ∙ ap (λ c. record { kind = y.kind; content = c }) p.1

      parts : x ≡ y → (x.kind ≡ y.kind) × (x.content ≡ y.content)
      parts e = (ap (λ h. h.kind) e, ap (λ h. h.content) e)

pub headers_decided : (xs ys : List Extension) → Decides (pointwise header_eq xs ys) (xs ≡ ys)
headers_decided = pointwise_decides header_decided

-- a test of two chains, by their types and octets
chains_same : (f g : ℕ) (xs ys : List ℕ) → HasNoRest f xs → HasNoRest g ys → ((f == g) && pointwise nat_eq xs ys) ≡ pointwise header_eq (headers_in f xs) (headers_in g ys)
chains_same f g xs ys p q =
    same_from_decides ((f == g) && pointwise nat_eq xs ys) (pointwise header_eq (headers_in f xs) (headers_in g ys))
    (Decides-like ((f == g) && pointwise nat_eq xs ys) join parts (Decides-and (f == g) (pointwise nat_eq xs ys) (Decides-eqb f g) (bytes_decides xs ys)))
    (headers_decided (headers_in f xs) (headers_in g ys))
  where
    join : (f ≡ g) × (xs ≡ ys) → headers_in f xs ≡ headers_in g ys
    join e = ap (λ k. headers_in k xs) e.0 ∙ ap (λ zs. headers_in g zs) e.1

    parts : headers_in f xs ≡ headers_in g ys → (f ≡ g) × (xs ≡ ys)
    parts e =
        let a = whole_is f xs p in
        let b = whole_is g ys q in
        (a.first_is ∙ (ap first_kind e ∙ sym b.first_is), a.encoding ∙ (ap chain_encoding e ∙ sym b.encoding))

-- the same, where the types have been compared
pub same_first : (f g : ℕ) (xs ys : List ℕ) → HasNoRest f xs → HasNoRest g ys → f ≡ g → pointwise nat_eq xs ys ≡ pointwise header_eq (headers_in f xs) (headers_in g ys)
same_first f g xs ys p q e = ap (λ t. t && pointwise nat_eq xs ys) (sym ((Decides-eqb f g).1 e)) ∙ chains_same f g xs ys p q

pub other_first : (f g : ℕ) (xs ys : List ℕ) → HasNoRest f xs → HasNoRest g ys → ¬ (f ≡ g) → nat_eq f g ≡ pointwise header_eq (headers_in f xs) (headers_in g ys)
other_first f g xs ys p q n =
    let differ : (f == g) ≡ false = grind (arith, nat_tests) in
    differ ∙ (ap (λ t. t && pointwise nat_eq xs ys) (sym differ) ∙ chains_same f g xs ys p q)

-- ---- messages

bodies_decided : (x y : UserBody) → Decides ((user_bodies.ghosts).eq x y) (content_of x ≡ content_of y)
bodies_decided bodies.EchoRequest bodies.EchoRequest = (λ e. refl, λ e. refl)
bodies_decided bodies.EchoResponse bodies.EchoResponse = (λ e. refl, λ e. refl)
bodies_decided (bodies.ErrorIndication p t) (bodies.ErrorIndication q u) =
    Decides-like ((ips.ghosts).eq p q && nat_eq t u) (λ e. ap (λ a. ErrorIndication t a) e.0 ∙ ap (λ n. ErrorIndication n q) e.1) (λ e. (cc, cc))
    (Decides-and ((ips.ghosts).eq p q) (nat_eq t u) (ip_same p q) (Decides-eqb t u))
bodies_decided (bodies.Notification xs) (bodies.Notification ys) = Decides-like (pointwise nat_eq xs.now ys.now) (λ e. ap (λ zs. Notification zs) e) (λ e. cc) (bytes_decides xs.now ys.now)
bodies_decided (bodies.EndMarker t) (bodies.EndMarker u) = Decides-like (nat_eq t u) (λ e. ap (λ n. EndMarker n) e) (λ e. cc) (Decides-eqb t u)
bodies_decided (bodies.Packet t xs) (bodies.Packet u ys) =
    Decides-like (nat_eq t u && pointwise nat_eq xs.now ys.now) (λ e. ap (λ n. Packet n xs.now) e.0 ∙ ap (λ zs. Packet u zs) e.1) (λ e. (cc, cc))
    (Decides-and (nat_eq t u) (pointwise nat_eq xs.now ys.now) (Decides-eqb t u) (bytes_decides xs.now ys.now))
bodies_decided (bodies.Other k t xs) (bodies.Other l u ys) =
    Decides-like (nat_eq k l && (nat_eq t u && pointwise nat_eq xs.now ys.now))
    (λ e. ap (λ n. Other n t xs.now) e.0 ∙ (ap (λ n. Other l n xs.now) e.1.0 ∙ ap (λ zs. Other l u zs) e.1.1)) (λ e. (cc, (cc, cc)))
    (Decides-and (nat_eq k l) (nat_eq t u && pointwise nat_eq xs.now ys.now) (Decides-eqb k l)
    (Decides-and (nat_eq t u) (pointwise nat_eq xs.now ys.now) (Decides-eqb t u) (bytes_decides xs.now ys.now)))
bodies_decided x y = (λ e. absurd cc, λ e. absurd cc)

pub messages_decided : (a b : UserMessage) → Decides ((messages.ghosts).eq a b) (message_value a ≡ message_value b)
messages_decided a b =
    Decides-like ((messages.ghosts).eq a b) join parts
    (Decides-and (option_eq nat_eq a.seq b.seq) (option_eq nat_eq a.npdu b.npdu &&
    (pointwise header_eq a.ext b.ext && (user_bodies.ghosts).eq a.body b.body)) (options_same nat_eq Decides-eqb a.seq b.seq)
    (Decides-and (option_eq nat_eq a.npdu b.npdu) (pointwise header_eq a.ext b.ext && (user_bodies.ghosts).eq a.body b.body) (options_same nat_eq Decides-eqb a.npdu b.npdu)
    (Decides-and (pointwise header_eq a.ext b.ext) ((user_bodies.ghosts).eq a.body b.body) (headers_decided a.ext b.ext) (bodies_decided a.body b.body))))
  where
    join : (a.seq ≡ b.seq) × ((a.npdu ≡ b.npdu) × ((a.ext ≡ b.ext) × (content_of a.body ≡ content_of b.body))) → message_value a ≡ message_value b
    join (seq, (npdu, (ext, content))) =
        ap (λ s. message_by s a.npdu a.ext (content_of a.body)) seq ∙ (ap (λ n. message_by b.seq n a.ext (content_of a.body)) npdu
        ∙ (ap (λ es. message_by b.seq b.npdu es (content_of a.body)) ext ∙ ap (λ c. message_by b.seq b.npdu b.ext c) content))

    parts : message_value a ≡ message_value b → (a.seq ≡ b.seq) × ((a.npdu ≡ b.npdu) × ((a.ext ≡ b.ext) × (content_of a.body ≡ content_of b.body)))
    parts e = (ap (λ m. m.seq) e, (ap (λ m. m.npdu) e, (ap (λ m. m.ext) e, ap (λ m. m.content) e)))

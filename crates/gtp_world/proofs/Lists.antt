-- Lists from their other end, and datagrams one by one.
use Rattle.std.proofs.Common.{◌≡◌, inl, inr, ⊎_elim, ℕ, zero, suc, List, [], ◌∷◌, ◌++◌, map, length, Some, All, refl, sym, ◌∙◌, ap, subst, append_assoc, append-nil, slice_get}
use Rattle.std.proofs.lemmas.List.Elements.{All-head, All-tail}
use Rattle.gtp_values.specs.FiniteMap.{Among}
use Rattle.gtp_machine.specs.Config.{Config, own_end}
use Rattle.gtp_machine.specs.Input.{Sending, datagrams}
use Rattle.gtp_machine.specs.declared.role.Role.{Role}
use Rattle.gtp_machine.specs.Spelling.{Datagram, datagram_plane, datagram_of}
use Rattle.gtp_machine.specs.World.{By, SentDatagram, signed}
use Rattle.gtp_machine.proofs.Basics.FiniteMaps.{Among-one_more, Among-left, Among-right}
use Rattle.gtp_world.specs.Record.{oldest_first}
use Rattle.gtp_gateway.specs.messages.Sent.{SendingReads}
use Rattle.gtp_world.specs.Runs.{Setup, config_in, IsFor, AreFor}

pub oldest_append : {X : Type 0} (xs ys : List X) → oldest_first (xs ++ ys) ≡ oldest_first ys ++ oldest_first xs
oldest_append [] ys = sym (append-nil (oldest_first ys))
oldest_append (x ∷ xs) ys = ap (λ k. k ++ (x ∷ [])) (oldest_append xs ys) ∙ append_assoc (oldest_first ys) (oldest_first xs) (x ∷ [])

-- what is in a list is in it the other way round
pub among_oldest : {X : Type 0} (x : X) (xs : List X) → Among x (oldest_first xs) → Among x xs
among_oldest x [] none = none
among_oldest x (y ∷ xs) among = ⊎_elim (λ was. inr (among_oldest x xs was)) (λ is. inl is) (Among-one_more x y (oldest_first xs) among)

pub oldest_among : {X : Type 0} (x : X) (xs : List X) → Among x xs → Among x (oldest_first xs)
oldest_among x [] none = none
oldest_among x (y ∷ xs) (inl is) = Among-right x (oldest_first xs) (y ∷ []) (inl is)
oldest_among x (y ∷ xs) (inr was) = Among-left x (oldest_first xs) (y ∷ []) (oldest_among x xs was)

pub as_many : {Y : Type 0} (f : Sending → Y) (sent : List Sending) → length (map f sent) ≡ length (datagrams sent)
as_many f [] = refl
as_many f (s ∷ sent) = ap (λ n. suc n) (as_many f sent)

pub for_append : (setup : Setup) (a : List (By Datagram)) (b : List SentDatagram) (c : List (By Datagram)) (d : List SentDatagram) → AreFor setup a b
    → AreFor setup c d → AreFor setup (a ++ c) (b ++ d)
for_append setup [] [] c d are more = more
for_append setup [] (s ∷ b) c d are more = absurd are
for_append setup (x ∷ a) [] c d are more = absurd are
for_append setup (x ∷ a) (s ∷ b) c d are more = (are.0, for_append setup a b c d are.1 more)

-- what a gateway sends at a step
pub sent_for : (setup : Setup) (role : Role) (config : Config) (sent : List Sending) → config ≡ config_in setup role → All SendingReads sent
    → AreFor setup (signed role (map (datagram_of config) sent)) (signed role (datagrams sent))
sent_for setup role config [] same read = tt
sent_for setup role config (s ∷ sent) same read = (
  record
      { role = refl; plane = refl; from = ap (λ c. own_end c (datagram_plane s.messages)) same; octets = refl; reads = All-head SendingReads s sent read },
  sent_for setup role config sent same (All-tail SendingReads s sent read),
)

-- the messages of a datagram, by its number
pub record Found (setup : Setup) (all : List SentDatagram) (number : ℕ) (d : By Datagram) : Type 0 where
  pub sent : SentDatagram
  pub is : slice_get all number ≡ Some sent
  pub for : IsFor setup d sent

pub find : (setup : Setup) (log : List (By Datagram)) (all : List SentDatagram) (number : ℕ) (d : By Datagram) → AreFor setup log all → slice_get log number ≡ Some d → Found setup all number d
find setup [] [] number d are e = absurd (cc e)
find setup [] (s ∷ all) number d are e = absurd are
find setup (x ∷ log) [] number d are e = absurd are
find setup (x ∷ log) (s ∷ all) zero d are e = record { sent = s; is = refl; for = subst (λ k. IsFor setup k s) (cc e) are.0 }
find setup (x ∷ log) (s ∷ all) (suc number) d are e = let f = find setup log all number d are.1 e in record { sent = f.sent; is = f.is; for = f.for }

-- and where there are messages, there is a datagram
pub back : (setup : Setup) (log : List (By Datagram)) (all : List SentDatagram) (number : ℕ) (s : SentDatagram) → AreFor setup log all
    → slice_get all number ≡ Some s → (d : By Datagram) × (slice_get log number ≡ Some d)
back setup [] [] number s are e = absurd (cc e)
back setup [] (x ∷ all) number s are e = absurd are
back setup (d ∷ log) [] number s are e = absurd are
back setup (d ∷ log) (x ∷ all) zero s are e = (d, refl)
back setup (d ∷ log) (x ∷ all) (suc number) s are e = back setup log all number s are.1 e

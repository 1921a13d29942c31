-- The three events of an exchange.
use Rattle.std.proofs.Common.{◌≡◌, inl, inr, ⊎_elim, ℕ, ◌+◌, ◌<◌, suc, take, arith, List, [], ◌∷◌, ◌++◌, map, length, refl, sym, ◌∙◌, ap, subst}
use Rattle.std.proofs.lemmas.List.{map-append}
use Rattle.gtp_machine.specs.Config.{Config}
use Rattle.gtp_machine.specs.Exchange.{IsOnePath, CanExchange, AllRead, CameTo}
use Rattle.gtp_machine.specs.Input.{Specification, Create_session}
use Rattle.gtp_machine.specs.Message.{Plane, Control, User, Message, Create_session_response, Create_bearer_request, plane_of}
use Rattle.gtp_machine.specs.Spelling.{Datagram, ReadsAs, spelled}
use Rattle.gtp_machine.specs.declared.role.Role.{Role}
use Rattle.gtp_machine.specs.declared.role.Role.TheVariants.{Serving, Packet}
use Rattle.gtp_machine.specs.World.{By, Sent, SentDatagram, HasSent, signed, flat, World, Event, Does, Deliver, Note, EventOutcome, Happens, Run, start}
use Rattle.gtp_machine.proofs.Basics.Datagrams.{IsFew, EachFew}
use Rattle.gtp_machine.proofs.Basics.FiniteMaps.{Among-cases}
use Rattle.gtp_machine.proofs.Exchange.Made.{fair_exchange}
use Rattle.gtp_machine.proofs.Worlds.Coming.{by_few}
use Rattle.gtp_machine.proofs.Worlds.Runs.{always}
use Rattle.gtp_gateway.specs.messages.Sent.{ReadsBackOn, ReadsBack}
use Rattle.gtp_world.specs.Record.{oldest_first, EventRecord, WorldRecord, outcomes_in}
use Rattle.gtp_world.specs.Runs.{Setup, AreFacing, AreFor, told_in, StandsFor, LeftByRun, LeftBySomeRun}
use Rattle.gtp_world.specs.Stepped.{EventLeaves, EventsLeave}
use Rattle.gtp_world.specs.Exchange.{CameSoFar, IsExchanged}
use Rattle.gtp_world.proofs.Configs.{set_up}
use Rattle.gtp_world.proofs.Cuts.{by_itself}
use Rattle.gtp_world.proofs.Pairs.{first_alone, second_alone}
use Rattle.gtp_world.proofs.Going.{goes}
use Rattle.gtp_world.proofs.Running.{runs_on}

-- as many datagrams
as_many : (setup : Setup) (log : List (By Datagram)) (all : List SentDatagram) → AreFor setup log all → length log ≡ length all
as_many setup [] [] are = refl
as_many setup [] (s ∷ all) are = absurd are
as_many setup (d ∷ log) [] are = absurd are
as_many setup (d ∷ log) (s ∷ all) are = ap (λ n. suc n) (as_many setup log all are.1)

-- a datagram of one message reads as that
as_message : (p : Plane) (m : Message) → ReadsBackOn p (m ∷ []) → ReadsAs p (spelled m) m
as_message Control m reads = by_itself (spelled m) m reads.0
as_message User m reads = reads

-- and each message of one datagram as itself
of_datagram : (role from : Role) (m : Message) (datagram : List Message) → IsFew datagram → ReadsBack datagram → HasSent (signed from datagram) role m → ReadsAs (plane_of m) (spelled m) m
of_datagram role from m = by_few (λ datagram. ReadsBack datagram → HasSent (signed from datagram) role m → ReadsAs (plane_of m) (spelled m) m)
    (λ n reads has. ⊎_elim (λ is. itself n is (as_message (plane_of n) n reads)) (λ none. absurd none) has)
    (λ a r reads has. ⊎_elim
    (λ is. itself (Create_session_response a) is (first_alone a (Create_bearer_request r) reads))
    (λ rest. ⊎_elim (λ is. itself (Create_bearer_request r) is (second_alone (Create_session_response a) (Create_bearer_request r) [] reads)) (λ none. absurd none) rest)
    has)
  where
    itself : (n : Message) → ◌≡◌ {A = Sent} (record { role = role; what = m }) (record { role = from; what = n }) → ReadsAs (plane_of n) (spelled n) n → ReadsAs (plane_of m) (spelled m) m
    itself n is reads = subst (λ (k : Sent). ReadsAs (plane_of k.what) (spelled k.what) k.what) (sym is) reads

-- each message that was sent reads as itself
each_reads : (setup : Setup) (log : List (By Datagram)) (all : List SentDatagram) → AreFor setup log all → EachFew all → (role : Role) (m : Message)
    → HasSent (flat all) role m → ReadsAs (plane_of m) (spelled m) m
each_reads setup [] [] are few role m none = absurd none
each_reads setup [] (s ∷ all) are few role m has = absurd are
each_reads setup (d ∷ log) [] are few role m none = absurd none
each_reads setup (d ∷ log) (s ∷ all) are few role m has = ⊎_elim
    (λ here. of_datagram role s.role m s.what (few s (inl refl)) are.0.reads here)
    (λ later. each_reads setup log all are.1 (λ k among. few k (inr among)) role m later)
    (Among-cases (record { role = role; what = m }) (signed s.role s.what) (flat all) has)

all_read : (setup : Setup) (events : List Event) (v : WorldRecord) → (r : LeftByRun setup events v) → AllRead r.world
all_read setup events v r role m has =
    let always_so = always setup.serving.config setup.packet.config setup.serving_counter setup.packet_counter events r.world r.run in
    each_reads setup v.log.datagrams r.world.datagrams r.stands.datagrams always_so.few role m (subst (λ h. HasSent h role m) (sym always_so.kept) has)

-- a list with one more is not empty
not_empty : {X : Type 0} (xs : List X) (x : X) → [] ≡ xs ++ (x ∷ []) → ⊥
not_empty [] x is = cc is
not_empty (y ∷ xs) x is = cc is

-- the last of a list
same_last : {X : Type 0} (xs ys : List X) (x y : X) → xs ++ (x ∷ []) ≡ ys ++ (y ∷ []) → x ≡ y
same_last [] [] x y is = cc is
same_last [] (z ∷ ys) x y is = absurd (not_empty ys y (cc is))
same_last (z ∷ xs) [] x y is = absurd (not_empty xs x (cc is))
same_last (z ∷ xs) (u ∷ ys) x y is = same_last xs ys x y (cc is)

-- what the latest event came to is the last that is told
last_told : (setup : Setup) (v : WorldRecord) (w : World) (before : List EventOutcome) (outcome came : EventOutcome) → StandsFor setup v w
    → outcomes_in v.log ≡ before ++ (outcome ∷ []) → CameTo w came → outcome ≡ came
last_told setup v w before outcome came stands told at =
    let outcome_in : EventRecord → EventOutcome = λ t. t.outcome in
    let notes = stands.notes ∙ ap (λ (l : List Note). oldest_first (map told_in l)) at.notes in
    let whole = ap (map outcome_in) notes ∙ map-append outcome_in (oldest_first (map told_in at.before)) (told_in at.note ∷ []) in
    same_last before (map outcome_in (oldest_first (map told_in at.before))) outcome at.note.outcome (sym told ∙ whole) ∙ at.is

-- gateways that face each other are one path
one_path : (setup : Setup) (events : List Event) (w : World)
    → Run (start setup.serving.config setup.packet.config setup.serving_counter setup.packet_counter) events w → AreFacing setup.serving setup.packet
    → IsOnePath w.serving.node.config w.packet.node.config
one_path setup events w run facing =
    let serving = set_up setup events w run Serving in
    let packet = set_up setup events w run Packet in
    let there : setup.serving.config.peer ≡ setup.packet.config.own = λ i. record { control = sym facing.control_back i; user = sym facing.user_back i } in
    let back : setup.packet.config.peer ≡ setup.serving.config.own = λ i. record { control = sym facing.control i; user = sym facing.user i } in
    record {
      there = ap (λ (c : Config). c.peer) serving ∙ there ∙ ap (λ (c : Config). c.own) (sym packet);
      back = ap (λ (c : Config). c.peer) packet ∙ back ∙ ap (λ (c : Config). c.own) (sym serving);
    }

pub exchanged : (old : WorldRecord) (reached : LeftBySomeRun old) (spec : Specification) (next : ℕ) (v1 v2 new : WorldRecord) (o1 o2 o3 : EventOutcome) → next ≡ length old.log.datagrams
    → EventLeaves old (Does Serving (Create_session spec)) v1 → EventLeaves v1 (Deliver next) v2 → EventLeaves v2 (Deliver (next + 1)) new
    → outcomes_in v1.log ≡ outcomes_in old.log ++ (o1 ∷ []) → outcomes_in v2.log ≡ outcomes_in v1.log ++ (o2 ∷ []) → outcomes_in new.log ≡ outcomes_in v2.log ++ (o3 ∷ [])
    → CanExchange reached.run.world spec → IsExchanged spec old reached (o1 ∷ o2 ∷ o3 ∷ []) new
exchanged old reached spec next v1 v2 new o1 o2 o3 next_is comes1 comes2 comes3 told1 told2 told3 can =
    let setup = reached.setup in
    let events = reached.events in
    let r = reached.run in
    let e1 = Does Serving (Create_session spec) in
    let g1 = goes setup events old r e1 v1 comes1 in
    let at = next_is ∙ as_many setup old.log.datagrams r.world.datagrams r.stands.datagrams in
    let after : next + 1 ≡ 1 + length r.world.datagrams = omega (arith, at) in
    let comes_there = subst (λ n. EventLeaves v1 (Deliver n) v2) at comes2 in
    let comes_back = subst (λ n. EventLeaves v2 (Deliver n) new) after comes3 in
    let r1 : LeftByRun setup (events ++ (e1 ∷ [])) v1 = record { world = g1.world; run = g1.run; stands = g1.stands } in
    let g2 = goes setup (events ++ (e1 ∷ [])) v1 r1 (Deliver (length r.world.datagrams)) v2 comes_there in
    let r2 : LeftByRun setup ((events ++ (e1 ∷ [])) ++ (Deliver (length r.world.datagrams) ∷ [])) v2 = record { world = g2.world; run = g2.run; stands = g2.stands } in
    let g3 = goes setup ((events ++ (e1 ∷ [])) ++ (Deliver (length r.world.datagrams) ∷ [])) v2 r2 (Deliver (1 + length r.world.datagrams)) new comes_back in
    let x =
    fair_exchange setup.serving.config setup.packet.config setup.serving_counter setup.packet_counter events r.world g1.world g2.world g3.world spec
    r.run (one_path setup events r.world r.run reached.facing) can g1.happens g2.happens g3.happens (all_read setup _ v2 r2) in
    let is1 = last_told setup v1 g1.world (outcomes_in old.log) o1 _ g1.stands told1 x.first in
    let is2 = last_told setup v2 g2.world (outcomes_in v1.log) o2 _ g2.stands told2 x.second in
    let is3 = last_told setup new g3.world (outcomes_in v2.log) o3 _ g3.stands told3 x.third in
    let sent : length old.log.datagrams ≡ length r.world.datagrams = as_many setup old.log.datagrams r.world.datagrams r.stands.datagrams in
    let sent_after : length old.log.datagrams + 1 ≡ 1 + length r.world.datagrams = omega (arith, sent) in
    record {
      begun = g1.world;
      answered = g2.world;
      opened = g3.world;
      begins = g1.happens;
      answers = subst (λ n. Happens g1.world (Deliver n) g2.world) (sym sent) g2.happens;
      opens = subst (λ n. Happens g2.world (Deliver n) g3.world) (sym sent_after) g3.happens;
      exchanged = x;
      outcomes_are = λ i. is1 i ∷ is2 i ∷ is3 i ∷ [];
      stands = g3.stands;
    }

-- the first of the events came
pub so_far : (old : WorldRecord) (events : List Event) (new : WorldRecord) (count : ℕ) → count < 3 → EventsLeave old (take count events) new → CameSoFar old events new
so_far old events new count few comes = record { count = count; few = few; comes = comes; run = runs_on old (take count events) new comes }

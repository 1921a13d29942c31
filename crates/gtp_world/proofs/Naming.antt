-- Contexts that name each other: in the list of all, and by what stands in the tables.
use Rattle.std.proofs.Common.{◌≡◌, inl, inr, ⊎_elim, ℕ, zero, suc, Bool, true, false, cond, List, [], ◌∷◌, Option, Some, None, option_map, refl, sym, ◌∙◌, ap, subst, slice_get, arith, nat_eq}
use Rattle.std.specs.Prelude.{option_and_then, if◌then◌else◌}
use Rattle.std.specs.FinMap.{find, get, entries, get-entries}
use Rattle.std.specs.List.{filter_map, cons_option}
use Rattle.std.specs.Ordering.{nat_cmp, eq_by_cmp}
use Rattle.std.proofs.lemmas.Bool.Decides.{nat_tests}
use Rattle.gtp_values.specs.FiniteMap.{FiniteMap, Among}
use Rattle.gtp_tables.specs.declared.context.State.{State}
use Rattle.gtp_tables.proofs.Found.{stands_at}
use Rattle.gtp_machine.specs.Node.{Session, Bearer, Pending, Active, Closing}
use Rattle.gtp_machine.proofs.Basics.FiniteMaps.{Among-left, Among-right, Among-cases}
use Rattle.gtp_world.specs.Record.{WorldRecord}
use Rattle.gtp_world.specs.Naming.{Pair, Sessions, Bearers, leads_to, back_from, partner, session_leads, bearer_leads, pairs_of, session_pairs, bearer_pairs, mutual_pairs, NameEachOther, DoAgree}
use Rattle.gtp_world.specs.Runs.{LeftBySomeRun}
use Rattle.gtp_world.proofs.Safe.{run_safe}

-- what is in a list stands at a place
place : {X : Type 0} (x : X) (xs : List X) → Among x xs → (i : ℕ) × (slice_get xs i ≡ Some x)
place x [] none = absurd none
place x (y ∷ xs) (inl is) = (zero, ap Some (sym is))
place x (y ∷ xs) (inr among) = let at = place x xs among in (suc at.0, at.1)

among_rows : {X : Type 0} (es : List (ℕ × X)) (k : ℕ) (x : X) → find nat_cmp k es ≡ Some x → Among (k, x) es
among_rows [] k x found = absurd (cc found)
among_rows {X} (e ∷ es) k x found = by (eq_by_cmp nat_cmp k e.0) refl found (among_rows es k x)
  where
    by : (b : Bool) → eq_by_cmp nat_cmp k e.0 ≡ b → cond b (Some e.1) (find nat_cmp k es) ≡ Some x → (find nat_cmp k es ≡ Some x → Among (k, x) es) → Among (k, x) (e ∷ es)
    by true is h rest = let same : e.1 ≡ x = cc in let key : k ≡ e.0 = grind (arith, nat_tests) in inl (λ i. (key i, sym same i))
    by false is h rest = inr (rest h)

-- what stands under a key is among the entries, and nothing else is
among_entries : {X : Type 0} (m : FiniteMap X) (k : ℕ) (x : X) → get m k ≡ Some x → Among (k, x) (entries m)
among_entries m k x stands = among_rows (entries m) k x (sym (get-entries m k) ∙ stands)

entry_stands : {X : Type 0} (m : FiniteMap X) (e : ℕ × X) → Among e (entries m) → get m e.0 ≡ Some e.1
entry_stands m e among = let at = place e (entries m) among in stands_at m at.0 e at.1

-- what a function gives of something in a list is among all that it gives
among_later : {Y : Type 0} (y : Y) (o : Option Y) (ys : List Y) → Among y ys → Among y (cons_option o ys)
among_later y None ys among = among
among_later y (Some z) ys among = inr among

among_given : {X Y : Type 0} (f : X → Option Y) (xs : List X) (x : X) (y : Y) → Among x xs → f x ≡ Some y → Among y (filter_map f xs)
among_given f [] x y none gives = none
among_given f (z ∷ xs) x y (inl is) gives = subst (λ o. Among y (cons_option o (filter_map f xs))) (sym gives ∙ ap f is) (inl refl)
among_given f (z ∷ xs) x y (inr among) gives = among_later y (f z) (filter_map f xs) (among_given f xs x y among gives)

-- and all that it gives, it gives of something in the list
record Given {X Y : Type 0} (f : X → Option Y) (xs : List X) (y : Y) : Type 0 where
  of : X
  among : Among of xs
  gives : f of ≡ Some y

given_later : {X Y : Type 0} (f : X → Option Y) (z : X) (xs : List X) (y : Y) → Given f xs y → Given f (z ∷ xs) y
given_later f z xs y g = record { of = g.of; among = inr g.among; gives = g.gives }

given_from : {X Y : Type 0} (f : X → Option Y) (xs : List X) (y : Y) → Among y (filter_map f xs) → Given f xs y
given_from f [] y none = absurd none
given_from {X} {Y} f (z ∷ xs) y among = by (f z) refl among (λ later. given_later f z xs y (given_from f xs y later))
  where
    by : (o : Option Y) → f z ≡ o → Among y (cons_option o (filter_map f xs)) → (Among y (filter_map f xs) → Given f (z ∷ xs) y) → Given f (z ∷ xs) y
    by None is among rest = rest among
    by (Some w) is (inl same) rest = record { of = z; among = inl refl; gives = is ∙ ap Some (sym same) }
    by (Some w) is (inr among) rest = rest among

-- a context of the other gateway that is led to, and leads back
record LeadBack {X : Type 0} (leads : X → Option ℕ) (others : FiniteMap X) (own : ℕ) (x : X) (there : ℕ) : Type 0 where
  to : leads x ≡ Some there
  other : X
  stands : get others there ≡ Some other
  back : leads other ≡ Some own

partner_from : {X : Type 0} (leads : X → Option ℕ) (others : FiniteMap X) (own : ℕ) (x : X) (there : ℕ) → partner leads others own x ≡ Some there → LeadBack leads others own x there
partner_from {X} leads others own x there is = to (leads x) refl is
  where
    at : (t : ℕ) (p : X) (back : ℕ) (b : Bool) → leads x ≡ Some t → get others t ≡ Some p → leads p ≡ Some back → nat_eq back own ≡ b
        → (if b then Some t else None) ≡ Some there → LeadBack leads others own x there
    at t p back true leads_there stands leads_back same h =
        let is_there : t ≡ there = cc in
        let is_own : back ≡ own = grind (arith, nat_tests) in
        record { to = leads_there ∙ ap Some is_there; other = p; stands = ap (get others) (sym is_there) ∙ stands; back = leads_back ∙ ap Some is_own }
    at t p back false leads_there stands leads_back same h = absurd (cc h)

    back : (t : ℕ) (p : X) (o : Option ℕ) → leads x ≡ Some t → get others t ≡ Some p → leads p ≡ o → back_from own t o ≡ Some there → LeadBack leads others own x there
    back t p None leads_there stands e h = absurd (cc h)
    back t p (Some r) leads_there stands e h = at t p r (nat_eq r own) leads_there stands e refl h

    stands : (t : ℕ) (o : Option X) → leads x ≡ Some t → get others t ≡ o → back_from own t (option_and_then leads o) ≡ Some there → LeadBack leads others own x there
    stands t None leads_there e h = absurd (cc h)
    stands t (Some p) leads_there e h = back t p (leads p) leads_there e refl h

    to : (o : Option ℕ) → leads x ≡ o → option_and_then (λ t. back_from own t (option_and_then leads (get others t))) o ≡ Some there → LeadBack leads others own x there
    to None e h = absurd (cc h)
    to (Some t) e h = stands t (get others t) e refl h

partner_to : {X : Type 0} (leads : X → Option ℕ) (others : FiniteMap X) (own : ℕ) (x : X) (there : ℕ) → LeadBack leads others own x there → partner leads others own x ≡ Some there
partner_to leads others own x there l =
    let itself : nat_eq own own ≡ true = grind (arith, nat_tests) in
    ap (option_and_then (λ t. back_from own t (option_and_then leads (get others t)))) l.to
    ∙ ap (λ o. back_from own there (option_and_then leads o)) l.stands
    ∙ ap (back_from own there) l.back
    ∙ ap (λ b. if b then Some there else None) itself

-- an active context leads to its remote
active : (state : State) (remote : Option ℕ) (t : ℕ) → leads_to state remote ≡ Some t → (state ≡ Active) × (remote ≡ Some t)
active Active remote t is = (refl, is)
active Pending remote t is = absurd (cc is)
active Closing remote t is = absurd (cc is)

leads : (state : State) (remote : Option ℕ) (t : ℕ) → state ≡ Active → remote ≡ Some t → leads_to state remote ≡ Some t
leads state remote t is has = ap (λ s. leads_to s remote) is ∙ has

-- a pair of this kind, given under a TEID
paired : (pair : ℕ → ℕ → Pair) (own : ℕ) (o : Option ℕ) (p : Pair) → option_map (pair own) o ≡ Some p → (there : ℕ) × (o ≡ Some there) × (pair own there ≡ p)
paired pair own None p is = absurd (cc is)
paired pair own (Some there) p is = (there, refl, cc is)

-- a context of the serving gateway and one of the packet gateway that lead to each other
record Named {X : Type 0} (leads : X → Option ℕ) (sgw pgw : FiniteMap X) (c d : ℕ) : Type 0 where
  own : X
  other : X
  serving : get sgw c ≡ Some own
  packet : get pgw d ≡ Some other
  to : leads own ≡ Some d
  back : leads other ≡ Some c

named : {X : Type 0} (leads : X → Option ℕ) (pair : ℕ → ℕ → Pair) → ((a b c d : ℕ) → pair a b ≡ pair c d → (a ≡ c) × (b ≡ d))
    → (sgw pgw : FiniteMap X) (c d : ℕ) → Among (pair c d) (pairs_of leads pair pgw (entries sgw)) → Named leads sgw pgw c d
named leads pair apart sgw pgw c d among =
    let g = given_from _ (entries sgw) (pair c d) among in
    let p = paired pair g.of.0 (partner leads pgw g.of.0 g.of.1) (pair c d) g.gives in
    let keys = apart g.of.0 p.0 c d p.2 in
    let l = partner_from leads pgw g.of.0 g.of.1 p.0 p.1 in
    record {
      own = g.of.1;
      other = l.other;
      serving = ap (get sgw) (sym keys.0) ∙ entry_stands sgw g.of g.among;
      packet = ap (get pgw) (sym keys.1) ∙ l.stands;
      to = l.to ∙ ap Some keys.1;
      back = l.back ∙ ap Some keys.0;
    }

-- a pair of the other kind is not among them
unlisted : {X : Type 0} (leads : X → Option ℕ) (pair : ℕ → ℕ → Pair) (p : Pair) → ((own there : ℕ) → pair own there ≡ p → ⊥)
    → (others : FiniteMap X) (es : List (ℕ × X)) → Among p (pairs_of leads pair others es) → ⊥
unlisted leads pair p apart others es among =
    let g = given_from _ es p among in
    let of = paired pair g.of.0 (partner leads others g.of.0 g.of.1) p g.gives in
    apart g.of.0 of.0 of.2

module _ (v : WorldRecord) where
  abbrev sessions : List (ℕ × Session)
  sessions = entries v.serving.state.node.sessions

  abbrev bearers : List (ℕ × Bearer)
  bearers = entries v.serving.state.node.bearers

  session_named : (c d : ℕ) → Among (Sessions c d) (session_pairs v.packet.state.node.sessions sessions) → NameEachOther v (Sessions c d)
  session_named c d among =
      let n = named session_leads Sessions (λ a b x y same. (cc same, cc same)) v.serving.state.node.sessions v.packet.state.node.sessions c d among in
      let here = active n.own.state n.own.remote d n.to in
      let there = active n.other.state n.other.remote c n.back in
      (n.own, n.other, record { serving = n.serving; packet = n.packet; serving_active = here.0; packet_active = there.0; there = here.1; back = there.1 })

  bearer_named : (c d : ℕ) → Among (Bearers c d) (bearer_pairs v.packet.state.node.bearers bearers) → NameEachOther v (Bearers c d)
  bearer_named c d among =
      let n = named bearer_leads Bearers (λ a b x y same. (cc same, cc same)) v.serving.state.node.bearers v.packet.state.node.bearers c d among in
      let here = active n.own.state n.own.remote d n.to in
      let there = active n.other.state n.other.remote c n.back in
      (n.own, n.other, record { serving = n.serving; packet = n.packet; serving_active = here.0; packet_active = there.0; there = here.1; back = there.1 })

  -- what is listed names each other
  pub listed : (pair : Pair) → Among pair (mutual_pairs v) → NameEachOther v pair
  listed (Sessions c d) among =
      ⊎_elim (session_named c d)
      (λ has. absurd (unlisted bearer_leads Bearers (Sessions c d) (λ own there same. cc same) v.packet.state.node.bearers bearers has))
      (Among-cases (Sessions c d) (session_pairs v.packet.state.node.sessions sessions) (bearer_pairs v.packet.state.node.bearers bearers) among)
  listed (Bearers c d) among =
      ⊎_elim (λ has. absurd (unlisted session_leads Sessions (Bearers c d) (λ own there same. cc same) v.packet.state.node.sessions sessions has))
      (bearer_named c d)
      (Among-cases (Bearers c d) (session_pairs v.packet.state.node.sessions sessions) (bearer_pairs v.packet.state.node.bearers bearers) among)

  -- and what names each other is listed
  pub is_listed : (pair : Pair) → NameEachOther v pair → Among pair (mutual_pairs v)
  is_listed (Sessions c d) (s, p, m) =
      let l =
      partner_to session_leads v.packet.state.node.sessions c s d (record
      { to = leads s.state s.remote d m.serving_active m.there; other = p; stands = m.packet; back = leads p.state p.remote c m.packet_active m.back }) in
      Among-left (Sessions c d) (session_pairs v.packet.state.node.sessions sessions) (bearer_pairs v.packet.state.node.bearers bearers)
      (among_given _ sessions (c, s) (Sessions c d) (among_entries v.serving.state.node.sessions c s m.serving) (ap (option_map (Sessions c)) l))
  is_listed (Bearers c d) (s, p, m) =
      let l =
      partner_to bearer_leads v.packet.state.node.bearers c s d (record
      { to = leads s.state s.remote d m.serving_active m.there; other = p; stands = m.packet; back = leads p.state p.remote c m.packet_active m.back }) in
      Among-right (Bearers c d) (session_pairs v.packet.state.node.sessions sessions) (bearer_pairs v.packet.state.node.bearers bearers)
      (among_given _ bearers (c, s) (Bearers c d) (among_entries v.serving.state.node.bearers c s m.serving) (ap (option_map (Bearers c)) l))

-- at the end of a run, what names each other agrees
pub agreeing : (v : WorldRecord) → LeftBySomeRun v → (pair : Pair) → NameEachOther v pair → DoAgree v pair
agreeing v r (Sessions c d) (s, p, m) = record { at_serving = s; at_packet = p; here = m.serving; there = m.packet; agree = (run_safe r.setup r.events v r.run).sessions c d s p m }
agreeing v r (Bearers c d) (s, p, m) =
    let a = (run_safe r.setup r.events v r.run).bearers c d s p m in
    record {
      at_serving = s;
      at_packet = p;
      here = m.serving;
      there = m.packet;
      identity = a.identity;
      sessions = record { at_serving = a.at_serving; at_packet = a.at_packet; here = a.here; there = a.there; agree = a.sessions };
    }

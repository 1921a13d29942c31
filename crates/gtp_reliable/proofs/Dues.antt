-- What the next tick does, gathered slot by slot.
use Rattle.std.proofs.Common.{◌≡◌, ℕ, zero, suc, ◌+◌, ◌<◌, ◌≤◌, Bool, true, false, cond, List, [], ◌∷◌, ◌++◌, length, map, take, get_or, Option, Some, None, refl, sym, ap, subst, ◌∙◌, arith}
use Rattle.std.specs.Prelude.{nat_lt}
use Rattle.std.specs.List.{AllByRecursion, filter_map, cons_option}
use Rattle.std.proofs.lemmas.List.{append-nil, map_push, take_all}
use Rattle.std.proofs.lemmas.Bool.Decides.{nat_tests}
use Rattle.gtp_reliable.specs.declared.pending.Resend.{Resend}
use Rattle.gtp_reliable.specs.declared.waiting.NextTick.{NextTick}
use Rattle.gtp_reliable.specs.declared.waiting.NextTick.TheVariants.{WaitsOn, SentAgain, GivenUp}
use Rattle.gtp_reliable.specs.Waiting.{Waiting, Message, next_tick, sent_again_by, sent_again, given_up_by, given_up}
use Rattle.gtp_reliable.specs.Due.{message_of}
use Rattle.gtp_reliable.specs.Rows.{Sent, since, seen, rows_of}
use Rattle.gtp_reliable.specs.Ages.{IsBefore, AreInTurn}
use Rattle.gtp_reliable.proofs.Lists.{cons_append, filter_map_some, filter_map_none}
use Rattle.gtp_reliable.proofs.Requests.{waits, resend_by, given_by}

module _ {P : Type 0} (now : ℕ) where
  -- what some requests tell
  abbrev pub told_by : {Y : Type 0} → (Waiting P → Option Y) → List (Sent P) → List Y
  told_by h rs = filter_map h (map (seen now) rs)

  told_push : {Y : Type 0} (h : Waiting P → Option Y) (rs : List (Sent P)) (r : Sent P) → told_by h (rs ++ r ∷ []) ≡ told_by h rs ++ cons_option (h (seen now r)) []
  told_push h [] r = refl
  told_push h (q ∷ rs) r = ap (cons_option (h (seen now q))) (told_push h rs r) ∙ sym (cons_append (h (seen now q)) (told_by h rs) (cons_option (h (seen now r)) []))

  module _ (slots : List (Option (Sent P))) (i : ℕ) (slot : Option (Sent P)) (lt : i < length slots) (is : slot ≡ get_or slots i slot) where
    gap_next : slot ≡ None → rows_of (take (i + 1) slots) ≡ rows_of (take i slots)
    gap_next none = filter_map_none (λ (s : Option (Sent P)). s) slots i slot lt (sym is ∙ none)

    row_next : (r : Sent P) → slot ≡ Some r → rows_of (take (i + 1) slots) ≡ rows_of (take i slots) ++ r ∷ []
    row_next r some = filter_map_some (λ (s : Option (Sent P)). s) slots i slot r lt (sym is ∙ some)

    pub told_gap : {Y : Type 0} (h : Waiting P → Option Y) → slot ≡ None → told_by h (rows_of (take (i + 1) slots)) ≡ told_by h (rows_of (take i slots))
    told_gap h none = ap (told_by h) (gap_next none)

    told_row : {Y : Type 0} (h : Waiting P → Option Y) (r : Sent P) (o : Option Y) → slot ≡ Some r → h (seen now r) ≡ o
        → told_by h (rows_of (take (i + 1) slots)) ≡ told_by h (rows_of (take i slots)) ++ cons_option o []
    told_row h r o some e =
        ap (told_by h) (row_next r some)
        ∙ (told_push h (rows_of (take i slots)) r ∙ ap (λ (p : Option _). told_by h (rows_of (take i slots)) ++ cons_option p []) e)

    pub told_none : {Y : Type 0} (h : Waiting P → Option Y) (r : Sent P) → slot ≡ Some r → h (seen now r) ≡ None → told_by h (rows_of (take (i + 1) slots)) ≡ told_by h (rows_of (take i slots))
    told_none h r some e = told_row h r None some e ∙ append-nil (told_by h (rows_of (take i slots)))

    pub told_some : {Y : Type 0} (h : Waiting P → Option Y) (r : Sent P) (y : Y) → slot ≡ Some r → h (seen now r) ≡ Some y
        → told_by h (rows_of (take (i + 1) slots)) ≡ told_by h (rows_of (take i slots)) ++ y ∷ []
    told_some h r y some e = told_row h r (Some y) some e

  -- the tick sends a request again
  pub resends_more : (t3 n3 : ℕ) (slots : List (Option (Sent P))) (i : ℕ) (slot : Option (Sent P)) (r : Sent P) (so_far more : List Resend) (x : Resend)
      → i < length slots → slot ≡ get_or slots i slot → slot ≡ Some r → SentAgain ≡ next_tick t3 n3 (seen now r)
      → map message_of so_far ≡ told_by (sent_again t3 n3) (rows_of (take i slots)) → more ≡ so_far ++ x ∷ [] → x.seq ≡ r.seq → x.to ≡ r.to
      → x.octets.items ≡ r.octets → map message_of more ≡ told_by (sent_again t3 n3) (rows_of (take (i + 1) slots))
  resends_more t3 n3 slots i slot r so_far more x lt is some again before pushed s t o =
      let message : message_of x ≡ record { seq = r.seq; to = r.to; octets = r.octets } = λ j. record { seq = s j; to = t j; octets = o j } in
      ap (map message_of) pushed
      ∙ (map_push message_of so_far x
      ∙ (ap (λ (ms : List Message). ms ++ message_of x ∷ []) before
      ∙ (ap (λ (m : Message). told_by (sent_again t3 n3) (rows_of (take i slots)) ++ m ∷ []) message
      ∙ sym (told_some slots i slot lt is (sent_again t3 n3) r (record { seq = r.seq; to = r.to; octets = r.octets }) some (resend_by t3 n3 (seen now r) SentAgain again)))))

  -- it does something else with it
  pub resends_same : (t3 n3 : ℕ) (slots : List (Option (Sent P))) (i : ℕ) (slot : Option (Sent P)) (r : Sent P) (n : NextTick) → i < length slots
      → slot ≡ get_or slots i slot → slot ≡ Some r → n ≡ next_tick t3 n3 (seen now r) → sent_again_by n (seen now r) ≡ None
      → told_by (sent_again t3 n3) (rows_of (take (i + 1) slots)) ≡ told_by (sent_again t3 n3) (rows_of (take i slots))
  resends_same t3 n3 slots i slot r n lt is some by none = told_none slots i slot lt is (sent_again t3 n3) r some (resend_by t3 n3 (seen now r) n by ∙ none)

  pub gives_more : (t3 n3 : ℕ) (slots : List (Option (Sent P))) (i : ℕ) (slot : Option (Sent P)) (r : Sent P) (so_far more : List (ℕ × P)) (seq : ℕ) (purpose : P)
      → i < length slots → slot ≡ get_or slots i slot → slot ≡ Some r → GivenUp ≡ next_tick t3 n3 (seen now r)
      → so_far ≡ told_by (given_up t3 n3) (rows_of (take i slots)) → more ≡ so_far ++ (seq, purpose) ∷ [] → seq ≡ r.seq → purpose ≡ r.purpose
      → more ≡ told_by (given_up t3 n3) (rows_of (take (i + 1) slots))
  gives_more t3 n3 slots i slot r so_far more seq purpose lt is some over before pushed s p =
      pushed
      ∙ (ap (λ (l : List (ℕ × P)). l ++ (seq, purpose) ∷ []) before
      ∙ (ap (λ (n : ℕ). told_by (given_up t3 n3) (rows_of (take i slots)) ++ (n, purpose) ∷ []) s
      ∙ (ap (λ (q : P). told_by (given_up t3 n3) (rows_of (take i slots)) ++ (r.seq, q) ∷ []) p
      ∙ sym (told_some slots i slot lt is (given_up t3 n3) r (r.seq, r.purpose) some (given_by t3 n3 (seen now r) GivenUp over)))))

  pub gives_same : (t3 n3 : ℕ) (slots : List (Option (Sent P))) (i : ℕ) (slot : Option (Sent P)) (r : Sent P) (n : NextTick) → i < length slots
      → slot ≡ get_or slots i slot → slot ≡ Some r → n ≡ next_tick t3 n3 (seen now r) → given_up_by n (seen now r) ≡ None
      → told_by (given_up t3 n3) (rows_of (take (i + 1) slots)) ≡ told_by (given_up t3 n3) (rows_of (take i slots))
  gives_same t3 n3 slots i slot r n lt is some by none = told_none slots i slot lt is (given_up t3 n3) r some (given_by t3 n3 (seen now r) n by ∙ none)

  -- ---- after one that waits on, none tells anything

  calm_rest : {Y : Type 0} (h : Waiting P → Option Y) (n : ℕ) (t3 : ℕ) → ((w : Waiting P) → w.waited + 1 < t3 → h w ≡ None) → n + 1 < t3
      → (ws : List (Waiting P)) → AllByRecursion (λ v. v.waited ≤ n) ws → filter_map h ws ≡ []
  calm_rest h n t3 calm lt [] all = refl
  calm_rest h n t3 calm lt (w ∷ ws) all = ap (λ (o : Option _). cons_option o (filter_map h ws)) (calm w (omega (arith, all.0, lt))) ∙ calm_rest h n t3 calm lt ws all.1

  no_longer : (w : Waiting P) (vs : List (Waiting P)) → AllByRecursion (IsBefore w) vs → AllByRecursion (λ v. v.waited ≤ w.waited) vs
  no_longer w [] all = tt
  no_longer w (v ∷ vs) all = (all.0.0, no_longer w vs all.1)

  pub told_rest : {Y : Type 0} (h : Waiting P → Option Y) (t3 : ℕ) → ((w : Waiting P) → w.waited + 1 < t3 → h w ≡ None)
      → (slots : List (Option (Sent P))) (i : ℕ) (r : Sent P) → AreInTurn t3 (map (seen now) (rows_of slots)) → get_or slots i None ≡ Some r
      → since r.sent now + 1 < t3
      → told_by h (rows_of (take i slots)) ≡ told_by h (rows_of slots)
  told_rest h t3 calm [] i r turn is lt = absurd cc
  told_rest h t3 calm (None ∷ slots) zero r turn is lt = absurd cc
  told_rest h t3 calm (None ∷ slots) (suc i) r turn is lt = told_rest h t3 calm slots i r turn is lt
  told_rest h t3 calm (Some q ∷ slots) zero r turn is lt =
      let same : q ≡ r = cc in
      let early : since q.sent now + 1 < t3 = subst (λ (x : Sent P). since x.sent now + 1 < t3) (sym same) lt in
      sym (calm_rest h (since q.sent now) t3 calm early (map (seen now) (rows_of (Some q ∷ slots))) (omega arith, no_longer (seen now q) (map (seen now) (rows_of slots)) turn.1))
  told_rest h t3 calm (Some q ∷ slots) (suc i) r turn is lt = ap (cons_option (h (seen now q))) (told_rest h t3 calm slots i r turn.2 is lt)

  pub told_all : {Y : Type 0} (h : Waiting P → Option Y) (slots : List (Option (Sent P))) (i : ℕ) → length slots ≤ i → told_by h (rows_of (take i slots)) ≡ told_by h (rows_of slots)
  told_all h slots i le = ap (λ l. told_by h (rows_of l)) (take_all i slots le)

  -- ---- where nothing is due

  at_slot : (Q : Waiting P → Type 0) (slots : List (Option (Sent P))) (i : ℕ) (r : Sent P) → get_or slots i None ≡ Some r → AllByRecursion Q (map (seen now) (rows_of slots)) → Q (seen now r)
  at_slot Q [] i r is all = absurd cc
  at_slot Q (None ∷ slots) zero r is all = absurd cc
  at_slot Q (None ∷ slots) (suc i) r is all = at_slot Q slots i r is all
  at_slot Q (Some q ∷ slots) zero r is all = let same : q ≡ r = cc in subst (λ (x : Sent P). Q (seen now x)) same all.0
  at_slot Q (Some q ∷ slots) (suc i) r is all = at_slot Q slots i r is all.1

  pub quiet_waits : (t3 n3 : ℕ) (slots : List (Option (Sent P))) (i : ℕ) (r : Sent P) → get_or slots i None ≡ Some r
      → AllByRecursion (λ w. w.waited + 1 < t3) (map (seen now) (rows_of slots)) → next_tick t3 n3 (seen now r) ≡ WaitsOn
  quiet_waits t3 n3 slots i r is all = waits t3 n3 (seen now r) (at_slot (λ (w : Waiting P). w.waited + 1 < t3) slots i r is all)

-- a request that waits on tells nothing
pub calm_sends : {P : Type 0} (t3 n3 : ℕ) (w : Waiting P) → w.waited + 1 < t3 → sent_again t3 n3 w ≡ None
calm_sends t3 n3 w lt = ap (λ (n : NextTick). sent_again_by n w) (waits t3 n3 w lt)

pub calm_gives : {P : Type 0} (t3 n3 : ℕ) (w : Waiting P) → w.waited + 1 < t3 → given_up t3 n3 w ≡ None
calm_gives t3 n3 w lt = ap (λ (n : NextTick). given_up_by n w) (waits t3 n3 w lt)

-- and the tick says so
pub waits_so : {P : Type 0} (t3 n3 : ℕ) (w : Waiting P) → WaitsOn ≡ next_tick t3 n3 w → w.waited + 1 < t3
waits_so t3 n3 w h = by (nat_lt (w.waited + 1) t3) (nat_lt w.resent n3) refl h
  where
    by : (a b : Bool) → nat_lt (w.waited + 1) t3 ≡ a → WaitsOn ≡ cond a WaitsOn (cond b SentAgain GivenUp) → w.waited + 1 < t3
    by true b e k = grind (arith, nat_tests)
    by false true e k = absurd cc
    by false false e k = absurd cc

-- TEIDs that were drawn, and the next ones.
use Rattle.std.proofs.Common.{◌≡◌, ◌<◌, ◌≤◌, ◌+◌, ◌/◌, ◌%◌, ◌^◌, ℕ, zero, suc, length, List, ◌∷◌, Some, inl, inr, refl, sym, ◌∙◌, ap, subst, arith}
use mathlib.Core.Logic.{∥∥₁_elim}
use Rattle.std.specs.FinMap.{get}
use Rattle.gtp_values.specs.FiniteMap.{FiniteMap, Among}
use Rattle.gtp_tables.specs.Drawn.{Drawn, teid_at, drawn_up_to}
use Rattle.gtp_machine.specs.Node.{Node}
use Rattle.gtp_machine.specs.Choice.{HasDraws}
use Rattle.gtp_machine.specs.Sound.{IsSound}
use Rattle.gtp_gateway.specs.tables.Change.{IsAbove}
use Rattle.gtp_values.specs.declared.identifiers.Teid.{Teid}
use Rattle.gtp_gateway.specs.declared.tables.teids.TwoDrawn.{TwoDrawn}
use Rattle.gtp_gateway.specs.tables.Teids.{IsOneDrawn, AreTwoDrawn, IsThirdDrawn}
use Rattle.gtp_gateway.specs.GatewayState.{GatewayState, IsSoundState}

-- as many were drawn as were counted
pub length_drawn : (counter count : ℕ) → length (drawn_up_to counter count) ≡ count
length_drawn counter zero = refl
length_drawn counter (suc n) = ap suc (length_drawn counter n)

-- none of them is above the last
among_below : (counter count t : ℕ) → Among t (drawn_up_to counter count) → t ≤ teid_at counter count
among_below counter zero t among = absurd among
among_below counter (suc n) t (inl is) = omega (arith, is)
among_below counter (suc n) t (inr later) = omega (arith, among_below counter n t later)

not_below : (n m : ℕ) → (m ≤ n → ⊥) → n < m
not_below n m not = omega (arith, not)

one_more : (n : ℕ) → n + 1 ≡ suc n
one_more n = omega arith

module _ (s : GatewayState) (whole : IsSoundState s) (count : ℕ) (drawn : s.node.drawn ≡ drawn_up_to s.node.counter count) where
  -- the next TEIDs are above all that a table has, where a sound gateway has drawn each of its keys
  all_below : {X : Type 0} (table : FiniteMap X) → (IsSound s.role s.node → (key : ℕ) (x : X) → get table key ≡ Some x → Among key s.node.drawn) → (t : ℕ)
      → teid_at s.node.counter count < t → IsAbove table t
  all_below table own t above key x stands = not_below key t (λ reaches. ∥∥₁_elim whole (λ x y. absurd x) (λ sound. none sound reaches))
    where
      none : IsSound s.role s.node → t ≤ key → ⊥
      none sound reaches =
          let low = among_below s.node.counter count key (subst (λ (ts : List ℕ). Among key ts) drawn (own sound key x stands)) in
          omega (arith, low, above, reaches)

  -- so they are above all sessions and bearers
  pub sessions_below : (t : ℕ) → teid_at s.node.counter count < t → IsAbove s.node.sessions t
  sessions_below = all_below s.node.sessions (λ sound key session stands. (sound.contexts.each_session key session stands).own)

  pub bearers_below : (t : ℕ) → teid_at s.node.counter count < t → IsAbove s.node.bearers t
  bearers_below = all_below s.node.bearers (λ sound key bearer stands. (sound.contexts.each_bearer key bearer stands).own)

-- one more draw
pub drawn_next : (counter count t : ℕ) → t ≡ teid_at counter (count + 1) → drawn_up_to counter (count + 1) ≡ t ∷ drawn_up_to counter count
drawn_next counter count t is = ap (drawn_up_to counter) (one_more count) ∙ (λ i. (ap (teid_at counter) (sym (one_more count)) ∙ sym is) i ∷ drawn_up_to counter count)

pub above_last : (counter count t : ℕ) → t ≡ teid_at counter (count + 1) → teid_at counter count < t
above_last counter count t is = omega (arith, is)

-- the next draw of a gateway that has drawn so many
pub record IsDraw (counter count : ℕ) (draws : Drawn) (t : ℕ) : Type 0 where
  pub small : count < 16777215
  pub value : t ≡ teid_at counter (count + 1)
  pub counted : t / 2 ^ 24 ≡ counter
  pub numbered : 0 < t % 2 ^ 24
  pub undrawn : Among t (drawn_up_to counter count) → ⊥
  pub drawn : draws ≡ record { counter = counter; count = count + 1 }

pub are_draws : (counter count : ℕ) (draws : Drawn) (t : ℕ) → IsDraw counter count draws t → drawn_up_to draws.counter draws.count ≡ t ∷ drawn_up_to counter count
are_draws counter count draws t d = ap (λ (x : Drawn). drawn_up_to x.counter x.count) d.drawn ∙ drawn_next counter count t d.value

pub has_left : (node : Node) (count n : ℕ) → node.drawn ≡ drawn_up_to node.counter count → count + n ≤ 16777215 → HasDraws node n
has_left node count n drawn few = record { left = subst (λ (m : ℕ). m + n ≤ 16777215) (sym (ap length drawn ∙ length_drawn node.counter count)) few }

pub has_none : (node : Node) (count n : ℕ) → node.drawn ≡ drawn_up_to node.counter count → (count + n ≤ 16777215 → ⊥) → HasDraws node n → ⊥
has_none node count n drawn many has = many (subst (λ (m : ℕ). m + n ≤ 16777215) (ap length drawn ∙ length_drawn node.counter count) has.left)

pub one_drawn : (s : GatewayState) (whole : IsSoundState s) (count : ℕ) (drawn : s.node.drawn ≡ drawn_up_to s.node.counter count) (draws : Drawn) (teid : Teid)
    → IsDraw s.node.counter count draws teid → IsOneDrawn (record { draws = draws; teid = teid }) s.node
one_drawn s whole count drawn draws teid d =
    record {
      left = has_left s.node count 1 drawn (let few = d.small in omega (arith, few));
      are = record { counter = ap (λ (x : Drawn). x.counter) d.drawn; drawn = are_draws s.node.counter count draws teid d ∙ (λ i. teid ∷ sym drawn i) };
      free = record { counted = d.counted; numbered = d.numbered; undrawn = subst (λ (ts : List ℕ). Among teid ts → ⊥) (sym drawn) d.undrawn };
      above = bearers_below s whole count drawn teid (above_last s.node.counter count teid d.value);
    }

pub two_drawn : (s : GatewayState) (whole : IsSoundState s) (count : ℕ) (drawn : s.node.drawn ≡ drawn_up_to s.node.counter count) (between draws : Drawn)
    (control user : Teid) → IsDraw s.node.counter count between control → IsDraw between.counter between.count draws user
    → AreTwoDrawn (record { draws = draws; control = control; user = user }) s.node
two_drawn s whole count drawn between draws control user a b =
    let counter = s.node.counter in
    let same : between.counter ≡ counter = ap (λ (x : Drawn). x.counter) a.drawn in
    let more : between.count ≡ count + 1 = ap (λ (x : Drawn). x.count) a.drawn in
    let first : drawn_up_to between.counter between.count ≡ control ∷ drawn_up_to counter count = are_draws counter count between control a in
    let low = above_last counter count control a.value in
    let next = b.value in
    let undrawn = subst (λ (ts : List ℕ). Among user ts → ⊥) first b.undrawn in
    record {
      left = has_left s.node count 2 drawn (let few = b.small in omega (arith, few, more));
      are = record {
        counter = ap (λ (x : Drawn). x.counter) b.drawn ∙ same;
        drawn = are_draws between.counter between.count draws user b ∙ (λ i. user ∷ (first ∙ (λ j. control ∷ sym drawn j)) i);
      };
      control_free = record { counted = a.counted; numbered = a.numbered; undrawn = subst (λ (ts : List ℕ). Among control ts → ⊥) (sym drawn) a.undrawn };
      user_free = record { counted = b.counted ∙ same; numbered = b.numbered; undrawn = subst (λ (ts : List ℕ). Among user ts → ⊥) (sym drawn) (λ among. undrawn (inr among)) };
      apart = λ is. undrawn (inl (sym is));
      control_above = sessions_below s whole count drawn control low;
      user_above = bearers_below s whole count drawn user (let later = above_last between.counter between.count user next in omega (arith, later, same, more));
    }

-- the last that was drawn
last_drawn : (counter count t : ℕ) (ts : List ℕ) → drawn_up_to counter count ≡ t ∷ ts → t ≡ teid_at counter count
last_drawn counter zero t ts is = absurd cc
last_drawn counter (suc n) t ts is = let same : teid_at counter (suc n) ≡ t = cc in sym same

-- how many were drawn, where these two were the last
two_more : (node : Node) (two : TwoDrawn) → AreTwoDrawn two node → two.draws.count ≡ length node.drawn + 2
two_more node two are = let all = sym (length_drawn two.draws.counter two.draws.count) ∙ ap length are.are.drawn in omega (arith, all)

pub third_drawn : (node : Node) (two : TwoDrawn) (are : AreTwoDrawn two node) (draws : Drawn) (teid : Teid) → IsDraw two.draws.counter two.draws.count draws teid
    → IsThirdDrawn two (record { draws = draws; teid = teid }) node
third_drawn node two are draws teid d =
    let drawn : drawn_up_to two.draws.counter two.draws.count ≡ two.user ∷ two.control ∷ node.drawn = are.are.drawn in
    let undrawn = subst (λ (ts : List ℕ). Among teid ts → ⊥) drawn d.undrawn in
    let last = last_drawn two.draws.counter two.draws.count two.user (two.control ∷ node.drawn) drawn in
    let above_all = above_last two.draws.counter two.draws.count teid d.value in
    let later : two.user < teid = omega (arith, last, above_all) in
    record {
      left = record { left = let few = d.small in let more = two_more node two are in omega (arith, few, more) };
      are = record {
        counter = ap (λ (x : Drawn). x.counter) d.drawn ∙ are.are.counter;
        drawn = are_draws two.draws.counter two.draws.count draws teid d ∙ (λ i. teid ∷ drawn i);
      };
      free = record { counted = d.counted ∙ are.are.counter; numbered = d.numbered; undrawn = λ among. undrawn (inr (inr among)) };
      control_apart = λ is. undrawn (inr (inl is));
      user_apart = λ is. undrawn (inl is);
      later = later;
      above = λ key b stands. let low = are.user_above key b stands in omega (arith, low, later);
    }

pub no_third : (node : Node) (two : TwoDrawn) → AreTwoDrawn two node → (two.draws.count < 16777215 → ⊥) → HasDraws node 3 → ⊥
no_third node two are many has = let more = two_more node two are in let few = has.left in many (omega (arith, more, few))

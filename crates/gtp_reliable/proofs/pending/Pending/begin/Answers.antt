use Rattle.std.proofs.Common.{◌≡◌, ◌++◌, ◌∷◌, [], ◌<◌, ◌∙◌, false, length, length-append, ap, sym, subst, refl, arith, map}
use Rattle.gtp_reliable.specs.Waiting.{Waiting, just_sent}
use Rattle.gtp_reliable.specs.Pending.{Requests, AreDistinct, is_pending}
use Rattle.gtp_reliable.specs.Rows.{Sent, since, seen}
use Rattle.gtp_reliable.specs.Ages.{AreInTurn}
use Rattle.gtp_reliable.proofs.Requests.{distinct_push}
use Rattle.gtp_reliable.proofs.Told.{waiting_of, free_is, push_is, push_turn}
use Rattle.gtp_reliable.proofs.pending.Pending.begin.Goals as goal

pub push-requires-clause-free : goal.push-requires-clause-free
push-requires-clause-free g c =
    free_is c.self.inside.ticks c.self.inside.rows.rows c.args.seq (ap (λ (v : Requests _). is_pending c.args.seq v.waiting) c.self.view_is ∙ c.requires.number.free)

pub invariant_of-self : goal.invariant_of-self
invariant_of-self g c =
    let rows = c.self.inside.rows.rows in
    let now = c.self.inside.ticks in
    let ws = waiting_of now rows in
    let one : Sent _ = record { seq = c.args.seq; to = c.args.to; octets = c.args.octets.items; purpose = c.args.purpose; sent = now; resent = 0 } in
    let pushed : c.push.new.self.rows ≡ rows ++ one ∷ [] = c.push.ensures in
    let none : since now now ≡ 0 = omega arith in
    let left : waiting_of now c.push.new.self.rows ≡ ws ++ seen now one ∷ [] = ap (waiting_of now) pushed ∙ push_is now rows one (omega (arith, none)) in
    let free : is_pending c.args.seq ws ≡ false = ap (λ (v : Requests _). is_pending c.args.seq v.waiting) c.self.view_is ∙ c.requires.number.free in
    let few : length ws < 256 = omega (arith, c.requires.count, ap (λ (v : Requests _). length v.waiting) c.self.view_is) in (
      record {
        limits = c.self.invariant.0.limits;
        next = omega (arith, c.following-self-inside.ensures);
        count = omega (arith, ap length left, length-append ws (seen now one ∷ []), few);
        distinct = subst AreDistinct (sym left) (distinct_push ws (seen now one) c.self.invariant.0.distinct free);
      },
      subst (λ l. AreInTurn c.self.inside.t3 (map (seen now) l)) (sym pushed) (push_turn now rows c.self.inside.t3 one c.self.invariant.1 none refl c.self.invariant.0.limits.0),
    )

pub returns-clause-waiting : goal.returns-clause-waiting
returns-clause-waiting g c =
    let rows = c.self.inside.rows.rows in
    let now = c.self.inside.ticks in
    let one : Sent _ = record { seq = c.args.seq; to = c.args.to; octets = c.args.octets.items; purpose = c.args.purpose; sent = now; resent = 0 } in
    let pushed : c.push.new.self.rows ≡ rows ++ one ∷ [] = c.push.ensures in
    let none : since now now ≡ 0 = omega arith in
    let just : seen now one ≡ just_sent c.args.seq c.args.to c.args.octets.items c.args.purpose = λ i. record (seen now one) { waited = none i } in
    ap (waiting_of now) pushed
    ∙ (push_is now rows one (omega (arith, none))
    ∙ (ap (λ (w : Waiting _). waiting_of now rows ++ w ∷ []) just
    ∙ ap (λ (v : Requests _). v.waiting ++ just_sent c.args.seq c.args.to c.args.octets.items c.args.purpose ∷ []) c.self.view_is))

use Rattle.std.proofs.Common.{ℕ, List, ◌++◌, Option, sym, subst}
use Rattle.std.specs.Prelude.{IfNone}
use Rattle.gtp_capture.specs.Capture.{Piece, IsMeant}
use Rattle.gtp_capture.specs.reading.Block.{IsFront}
use Rattle.gtp_capture.specs.declared.step.Item.{Item}
use Rattle.gtp_capture.proofs.Meanings.{not_described, no_packet}
use Rattle.gtp_capture.proofs.block_kind.item_in.Goals as goal

pub returns-in_err-interface-clause-none : goal.returns-in_err-interface-clause-none
returns-in_err-interface-clause-none c =
    let front = c.args.front.now in
    subst (λ (r : Option Item). IfNone r
    ((more : List ℕ) (p : Piece) → IsFront front more c.args.size → IsMeant c.args.order c.args.interfaces.now c.args.kind (front ++ more) p → ⊥))
    (sym c.from_residual.ensures)
    (not_described c.args.order c.args.interfaces.now c.args.kind c.args.size front c.if-kind-eq1.true c.in_err-interface.ensures.none)

pub returns-in_err-head-clause-none : goal.returns-in_err-head-clause-none
returns-in_err-head-clause-none c =
    let front = c.args.front.now in
    subst (λ (r : Option Item). IfNone r
    ((more : List ℕ) (p : Piece) → IsFront front more c.args.size → IsMeant c.args.order c.args.interfaces.now c.args.kind (front ++ more) p → ⊥))
    (sym c.from_residual-in_err-head.ensures)
    (no_packet c.args.order c.args.interfaces.now c.args.kind c.args.size front (sym c.if-not-is_read_type.ensures) (λ e. c.if-kind-eq1.false e) c.in_err-head.ensures.none)

-- Each piece of a capture has an octet or more.
use Rattle.std.proofs.Common.{ℕ, ◌+◌, ◌≤◌, List, [], ◌∷◌, ◌++◌, length, inl, inr, ap, arith, length-append}
use Rattle.gtp_capture.specs.Frame.{Frame}
use Rattle.gtp_capture.specs.Block.{IsBlock}
use Rattle.gtp_capture.specs.Capture.{State, Records, Blocks, Piece, Holds, Begins, Describes, Passes, IsStart, IsPiece, ArePieces, after, frame_in, frames_in, IsCapture}
use Rattle.gtp_capture.specs.declared.octets.Order.{Order}

block_shorter : (order : Order) (octets head body rest : List ℕ) → IsBlock order octets head body rest → length rest + 1 ≤ length octets
block_shorter order octets head body rest is =
    omega (
      arith,
      ap length is.whole,
      is.start,
      length-append head (body ++ (is.tail ++ rest)),
      length-append body (is.tail ++ rest),
      length-append is.tail rest,
    )

pub piece_shorter : (state : State) (octets : List ℕ) (p : Piece) (rest : List ℕ) → IsPiece state octets p rest → length rest + 1 ≤ length octets
piece_shorter (Records k) octets p rest (f, same, is) = omega (arith, ap length is.whole, is.size, length-append is.head (f.octets ++ rest), length-append f.octets rest)
piece_shorter (Blocks order is) octets p rest (inl (o, same, s)) = block_shorter o octets s.head s.body rest s.block
piece_shorter (Blocks order is) octets p rest (inr s) = block_shorter order octets s.head s.body rest s.block

pub start_shorter : (file : List ℕ) (state : State) (rest : List ℕ) → IsStart file state rest → length rest + 1 ≤ length file
start_shorter file (Records k) rest is = omega (arith, ap length is.whole, is.size, length-append is.head rest)
start_shorter file (Blocks order is) rest (s, none) = block_shorter order file s.head s.body rest s.block

frames_few : (p : Piece) → length (frame_in p) ≤ 1
frames_few (Holds f) = omega arith
frames_few (Begins order) = omega arith
frames_few (Describes i) = omega arith
frames_few Passes = omega arith

pieces_fit : (state : State) (octets : List ℕ) (pieces : List Piece) (rest : List ℕ) → ArePieces state octets pieces rest → length (frames_in pieces) + length rest ≤ length octets
pieces_fit state octets [] rest same = omega (arith, ap length same)
pieces_fit state octets (p ∷ pieces) rest (next, first, more) =
    omega (arith, frames_few p, length-append (frame_in p) (frames_in pieces), piece_shorter state octets p next first, pieces_fit (after p state) next pieces rest more)

-- so a file has no more frames than octets
pub frames_fit : (file : List ℕ) (state : State) (frames : List Frame) (rest : List ℕ) → IsCapture file state frames rest → length frames ≤ length file
frames_fit file state frames rest is = omega (arith, ap length is.held, pieces_fit is.first is.body is.pieces rest is.stand, start_shorter file is.first is.body is.start)

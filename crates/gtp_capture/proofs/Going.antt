-- Pieces are read one after the other.
use Rattle.std.proofs.Common.{◌≡◌, ℕ, suc, ◌+◌, ◌-◌, ◌^◌, ◌≤◌, List, [], ◌∷◌, ◌++◌, length, Option, Some, None, Result, Ok, Err, refl, sym, ap, ◌∙◌}
use Rattle.std.proofs.Common.{subst, arith, length-append, append-nil, append_assoc, inl, inr}
use Rattle.std.specs.Prelude.{⊤, ◌⊎◌, IfSome}
use Rattle.gtp_capture.specs.Frame.{Frame}
use Rattle.gtp_capture.specs.Capture.{State, Piece, Holds, IsPiece, ArePieces, after, after_all, frame_in, frames_in, IsCapture}
use Rattle.gtp_capture.specs.Seen.{Seen, seen_in, datagrams, Takes}
use Rattle.gtp_capture.specs.Outcome.{Known, IsStep, Steps, HasBegun, HandsOn, HandsOnSome, RefusesNext, IsStopped, IsRead, IsReached, Reached, piece_of, state_of}
use Rattle.gtp_capture.specs.declared.step.Found.{Found}
use Rattle.gtp_capture.specs.declared.step.Step.TheVariants as step
use Rattle.gtp_capture.specs.declared.step.Started.{Started}
use Rattle.gtp_capture.specs.declared.fault.CaptureFault.{CaptureFault}
use Rattle.gtp_capture.specs.declared.fault.CaptureFault.TheVariants.{NoCapture, Broken, Stopped}
use Rattle.gtp_capture.specs.declared.fault.Stop.{Stop}
use Rattle.gtp_capture.specs.declared.fault.Stop.TheVariants.{TooLong, Memory, Read, Refused}
use Rattle.gtp_capture.specs.declared.ports.Ports.{Ports}
use Rattle.std.proofs.lemmas.Result.{err_from_is_err_and}
use Rattle.std.specs.Result.{IsErrAnd}
use Rattle.gtp_capture.proofs.KnownOctets.{known_map, known_then, known_if}
use Rattle.gtp_capture.proofs.Lengths.{piece_shorter, start_shorter}

pieces_more : (s : State) (octets : List ℕ) (ps : List Piece) (mid : List ℕ) (p : Piece) (rest : List ℕ) → ArePieces s octets ps mid
    → IsPiece (after_all ps s) mid p rest → ArePieces s octets (ps ++ p ∷ []) rest
pieces_more s octets [] mid p rest e is = (rest, subst (λ o. IsPiece s o p rest) (sym e) is, refl)
pieces_more s octets (q ∷ ps) mid p rest (next, first, more) is = (next, first, pieces_more (after q s) next ps mid p rest more is)

after_more : (ps : List Piece) (p : Piece) (s : State) → after_all (ps ++ p ∷ []) s ≡ after p (after_all ps s)
after_more [] p s = refl
after_more (q ∷ ps) p s = after_more ps p (after q s)

frames_more : (ps : List Piece) (p : Piece) → frames_in (ps ++ p ∷ []) ≡ frames_in ps ++ frame_in p
frames_more [] p = append-nil (frame_in p)
frames_more (q ∷ ps) p = ap (λ l. frame_in q ++ l) (frames_more ps p) ∙ sym (append_assoc (frame_in q) (frames_in ps) (frame_in p))

capture_more : (file : List ℕ) (s : State) (fs : List Frame) (mid : List ℕ) (p : Piece) (rest : List ℕ) → IsCapture file s fs mid → IsPiece s mid p rest
    → IsCapture file (after p s) (fs ++ frame_in p) rest
capture_more file s fs mid p rest is piece = record {
  first = is.first;
  body = is.body;
  pieces = is.pieces ++ p ∷ [];
  start = is.start;
  stand = pieces_more is.first is.body is.pieces mid p rest is.stand (subst (λ t. IsPiece t mid p rest) is.later piece);
  held = ap (λ l. l ++ frame_in p) is.held ∙ sym (frames_more is.pieces p);
  later = ap (after p) is.later ∙ sym (after_more is.pieces p is.first);
}

datagrams_more : (ports : Ports) (n : ℕ) (fs gs : List Frame) (m : ℕ) → m ≡ n + length fs → datagrams ports n (fs ++ gs) ≡ datagrams ports n fs ++ datagrams ports m gs
datagrams_more ports n [] gs m e =
    let same : n ≡ m = omega (arith, e) in
    ap (λ i. datagrams ports i gs) same
datagrams_more ports n (f ∷ fs) gs m e =
    let later : m ≡ suc n + length fs = omega (arith, e) in
    ap (λ l. seen_in ports n f ++ l) (datagrams_more ports (suc n) fs gs m later) ∙ sym (append_assoc (seen_in ports n f) (datagrams ports (suc n) fs) (datagrams ports m gs))

pub takes_more : {S : Type 0} (takes : S → Seen → S → Type 0) (a : S) (ds : List Seen) (b : S) (es : List Seen) (c : S) → Takes takes a ds b → Takes takes b es c → Takes takes a (ds ++ es) c
takes_more takes a [] b es c e then = subst (λ s. Takes takes s es c) (sym e) then
takes_more takes a (d ∷ ds) b es c (next, first, more) then = (next, first, takes_more takes next ds b es c more then)

pub begun : {S : Type 0} (ports : Ports) (takes : S → Seen → S → Type 0) (a b : Option (List ℕ)) (s : Started) (state : State) (at : ℕ) (now : S)
    → state ≡ state_of s.format [] → at ≡ s.size → Known (HasBegun (Some s)) a b → Reached ports takes a b state at 1 now now
begun ports takes a b s state at now is place started =
    known_map (HasBegun (Some s)) (IsReached ports takes state at 1 now now) a b
    (λ x y h. record {
      frames = [];
      on = record { capture = record { first = state_of s.format []; body = y; pieces = []; start = h.0; stand = refl; held = refl; later = is }; taken = refl };
      place = omega (arith, h.1, place);
      count = refl;
    })
    started

-- one piece more
pub goes_on : {S : Type 0} (ports : Ports) (takes : S → Seen → S → Type 0) (a b c : Option (List ℕ)) (state later : State) (at number place next : ℕ) (before now then : S) (f : Found) (room : List ℕ)
    → Reached ports takes a b state at number before now → Steps state b c (step.Found f) room → later ≡ after (piece_of f.item room) state
    → Takes takes now (datagrams ports number (frame_in (piece_of f.item room))) then
    → place ≡ at + f.size → next ≡ number + length (frame_in (piece_of f.item room)) → Reached ports takes a c later place next before then
goes_on ports takes a b c state later at number place next before now then f room so is noted took spot count =
    let p = piece_of f.item room in
    known_then (IsReached ports takes state at number before now) (IsStep state (step.Found f) room) (IsReached ports takes later place next before then) a b c
    (λ x y z r s. record {
      frames = r.frames ++ frame_in p;
      on = record {
        capture = subst (λ t. IsCapture x t (r.frames ++ frame_in p) z) (sym noted) (capture_more x state r.frames y p z r.on.capture s.0);
        taken =
            subst (λ ds. Takes takes before ds then) (sym (datagrams_more ports 1 r.frames (frame_in p) number (omega (arith, r.count))))
            (takes_more takes before (datagrams ports 1 r.frames) now (datagrams ports number (frame_in p)) then r.on.taken took);
      };
      place = omega (arith, r.place, s.1, spot);
      count = omega (arith, r.count, count, length-append r.frames (frame_in p));
    })
    so is

-- no octet is left
pub ends : {S : Type 0} (ports : Ports) (takes refuses : S → Seen → S → Type 0) (a b c : Option (List ℕ)) (state : State) (at number count : ℕ) (before now : S) (room : List ℕ)
    → number ≡ suc count → Reached ports takes a b state at number before now → Steps state b c step.End room → IfSome a (λ file. IsRead ports takes refuses file before now (Ok count))
ends ports takes refuses a b c state at number count before now room counted so is =
    known_if (λ file left. IsRead ports takes refuses file before now (Ok count)) (λ file. IsRead ports takes refuses file before now (Ok count)) a c (λ x y h. h)
    (known_then (IsReached ports takes state at number before now) (IsStep state step.End room) (λ file left. IsRead ports takes refuses file before now (Ok count)) a b c
    (λ x y z r s. (state, r.frames, subst (λ l. HandsOn ports takes x before now state r.frames l) s r.on, omega (arith, r.count, counted))) so is)

-- nothing stands there
pub breaks : {S : Type 0} (ports : Ports) (takes refuses : S → Seen → S → Type 0) (a b c : Option (List ℕ)) (state : State) (at number : ℕ) (before now : S) (room : List ℕ)
    → Reached ports takes a b state at number before now → Steps state b c step.Broken room → IfSome a (λ file. IsRead ports takes refuses file before now (Err (Broken at)))
breaks ports takes refuses a b c state at number before now room so is =
    known_if (λ file left. IsRead ports takes refuses file before now (Err (Broken at))) (λ file. IsRead ports takes refuses file before now (Err (Broken at))) a c (λ x y h. h)
    (known_then (IsReached ports takes state at number before now) (IsStep state step.Broken room) (λ file left. IsRead ports takes refuses file before now (Err (Broken at))) a b c
    (λ x y z r s. (state, r.frames, y, r.on, s, r.place)) so is)

-- something else stopped it, and not the sink
abbrev pub IsOurs : Stop → Type 0
IsOurs TooLong = ⊥
IsOurs Memory = ⊤
IsOurs Read = ⊤
IsOurs Refused = ⊥

pub ours : (stop : Stop) → (stop ≡ Read) ⊎ (stop ≡ Memory) → IsOurs stop
ours stop (inl is) = subst IsOurs (sym is) tt
ours stop (inr is) = subst IsOurs (sym is) tt

stopped_some : {S : Type 0} (ports : Ports) (takes refuses : S → Seen → S → Type 0) (file : List ℕ) (before after : S) (stop : Stop) → IsOurs stop
    → HandsOnSome ports takes file before after → IsStopped ports takes refuses file before after stop
stopped_some ports takes refuses file before after TooLong ours some = absurd ours
stopped_some ports takes refuses file before after Memory ours some = some
stopped_some ports takes refuses file before after Read ours some = some
stopped_some ports takes refuses file before after Refused ours some = absurd ours

pub stops : {S : Type 0} (ports : Ports) (takes refuses : S → Seen → S → Type 0) (a b : Option (List ℕ)) (state : State) (at number : ℕ) (before now : S) (stop : Stop) → IsOurs stop
    → Reached ports takes a b state at number before now → IfSome a (λ file. IsRead ports takes refuses file before now (Err (Stopped stop)))
stops ports takes refuses a b state at number before now stop own so =
    known_if (IsReached ports takes state at number before now) (λ file. IsRead ports takes refuses file before now (Err (Stopped stop))) a b
    (λ x y r. stopped_some ports takes refuses x before now stop own (inr (state, r.frames, y, r.on))) so

pub stops_first : {S : Type 0} (ports : Ports) (takes refuses : S → Seen → S → Type 0) (a : Option (List ℕ)) (s : S) (stop : Stop) → IsOurs stop
    → IfSome a (λ file. IsRead ports takes refuses file s s (Err (Stopped stop)))
stops_first ports takes refuses None s stop own = tt
stops_first ports takes refuses (Some file) s stop own = stopped_some ports takes refuses file s s stop own (inl refl)

-- there is no capture
pub none_begins : {S : Type 0} (ports : Ports) (takes refuses : S → Seen → S → Type 0) (a b : Option (List ℕ)) (s : S) → Known (HasBegun None) a b
    → IfSome a (λ file. IsRead ports takes refuses file s s (Err NoCapture))
none_begins ports takes refuses a b s is = known_if (HasBegun None) (λ file. IsRead ports takes refuses file s s (Err NoCapture)) a b (λ x y h. (refl, h)) is

pub stops_by : {S : Type 0} (ports : Ports) (takes refuses : S → Seen → S → Type 0) (a b : Option (List ℕ)) (state : State) (at number : ℕ) (before now : S)
    (stop : Stop) (r : Result ℕ CaptureFault) → IsOurs stop
    → Reached ports takes a b state at number before now → IsErrAnd r (λ fault. fault ≡ Stopped stop) → IfSome a (λ file. IsRead ports takes refuses file before now r)
stops_by ports takes refuses a b state at number before now stop r own so is =
    let p = err_from_is_err_and r is in
    subst (λ s. IfSome a (λ file. IsRead ports takes refuses file before now s)) (sym (p.1 ∙ ap (λ e. Err e) p.2)) (stops ports takes refuses a b state at number before now stop own so)

pub stops_first_by : {S : Type 0} (ports : Ports) (takes refuses : S → Seen → S → Type 0) (a : Option (List ℕ)) (s : S) (stop : Stop) (r : Result ℕ CaptureFault)
    → IsOurs stop → IsErrAnd r (λ fault. fault ≡ Stopped stop) → IfSome a (λ file. IsRead ports takes refuses file s s r)
stops_first_by ports takes refuses a s stop r own is =
    let p = err_from_is_err_and r is in
    subst (λ v. IfSome a (λ file. IsRead ports takes refuses file s s v)) (sym (p.1 ∙ ap (λ e. Err e) p.2)) (stops_first ports takes refuses a s stop own)

-- the sink did not take the next datagram
refused : {S : Type 0} (ports : Ports) (takes refuses : S → Seen → S → Type 0) (a b c : Option (List ℕ)) (state : State) (at number : ℕ) (before now then : S) (f : Found) (room : List ℕ)
    → Reached ports takes a b state at number before now → Steps state b c (step.Found f) room → (g : Frame) → piece_of f.item room ≡ Holds g → RefusesNext refuses now (seen_in ports number g) then
    → IfSome a (λ file. IsRead ports takes refuses file before then (Err (Stopped Refused)))
refused ports takes refuses a b c state at number before now then f room so is g holds left =
    known_if (λ file rest. IsRead ports takes refuses file before then (Err (Stopped Refused))) (λ file. IsRead ports takes refuses file before then (Err (Stopped Refused))) a c (λ x y h. h)
    (known_then (IsReached ports takes state at number before now) (IsStep state (step.Found f) room) (λ file rest. IsRead ports takes refuses file before then (Err (Stopped Refused))) a b c
    (λ x y z r s. record {
      state = state;
      frames = r.frames;
      rest = y;
      middle = now;
      taken = r.on;
      next = g;
      later = z;
      stands = subst (λ p. IsPiece state y p z) holds s.0;
      refused = subst (λ n. RefusesNext refuses now (seen_in ports n g) then) r.count left;
    })
    so is)

pub refused_by : {S : Type 0} (ports : Ports) (takes refuses : S → Seen → S → Type 0) (a b c : Option (List ℕ)) (state : State) (at number : ℕ)
    (before now then : S) (f : Found) (room : List ℕ) (stop : Stop) (r : Result ℕ CaptureFault)
    → Reached ports takes a b state at number before now → Steps state b c (step.Found f) room
    → (stop ≡ Refused) × (g : Frame) × (piece_of f.item room ≡ Holds g) × RefusesNext refuses now (seen_in ports number g) then
    → IsErrAnd r (λ fault. fault ≡ Stopped stop)
    → IfSome a (λ file. IsRead ports takes refuses file before then r)
refused_by ports takes refuses a b c state at number before now then f room stop r so is left err =
    let p = err_from_is_err_and r err in
    subst (λ s. IfSome a (λ file. IsRead ports takes refuses file before then s)) (sym (p.1 ∙ ap (λ e. Err e) (p.2 ∙ ap (λ e. Stopped e) left.0)))
    (refused ports takes refuses a b c state at number before now then f room so is left.1 left.2 left.3)

-- each piece has an octet or more
pub begun_long : (a b : Option (List ℕ)) (s : Started) (at : ℕ) → at ≡ s.size → Known (HasBegun (Some s)) a b → Known (λ file left. 1 ≤ at) a b
begun_long a b s at place started =
    known_map (HasBegun (Some s)) (λ file left. 1 ≤ at) a b (λ x y h. omega (arith, h.1, place, start_shorter x (state_of s.format []) y h.0)) started

pub goes_long : (a b c : Option (List ℕ)) (state : State) (at count place next : ℕ) (f : Found) (room : List ℕ) → Known (λ file left. count ≤ at) a b
    → Steps state b c (step.Found f) room → place ≡ at + f.size → next ≡ count + 1
    → Known (λ file left. next ≤ place) a c
goes_long a b c state at count place next f room long is spot more =
    known_then (λ file left. count ≤ at) (IsStep state (step.Found f) room) (λ file left. next ≤ place) a b c
    (λ x y z h s. omega (arith, h, s.1, spot, more, piece_shorter state y (piece_of f.item room) z s.0)) long is

pub too_long : {S : Type 0} (ports : Ports) (takes refuses : S → Seen → S → Type 0) (a b : Option (List ℕ)) (state : State) (at number : ℕ) (before now : S)
    → Reached ports takes a b state at number before now → Known (λ file left. 2 ^ 64 - 1 ≤ at) a b → IfSome a (λ file. IsRead ports takes refuses file before now (Err (Stopped TooLong)))
too_long ports takes refuses None b state at number before now so long = tt
too_long ports takes refuses (Some x) None state at number before now so long = absurd so
too_long ports takes refuses (Some x) (Some y) state at number before now so long = (inr (state, so.frames, y, so.on), omega (arith, so.place, long))

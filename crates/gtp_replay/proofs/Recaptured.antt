-- What is captured of a run is read back.
use Rattle.std.proofs.Common.{◌≡◌, ℕ, suc, ◌+◌, List, [], ◌∷◌, map, refl, sym, ◌∙◌, ap, ap₂, subst}
use Rattle.std.specs.List.{enumerate_from, AllByRecursion}
use Rattle.gtp_capture.specs.Capture.{Records, IsCapture}
use Rattle.gtp_capture.specs.Writing.{Sent, HasRoom, ReadsBack, kind_written, seen_all}
use Rattle.gtp_machine.specs.Spelling.{Datagram}
use Rattle.gtp_machine.specs.World.{By}
use Rattle.gtp_replay.specs.Captures.{standard_ports, frames_of}
use Rattle.gtp_replay.specs.Recaptured.{datagram_seen, CaptureReadsBack}
use Rattle.gtp_replay.proofs.Framed.{AllShow, all_framed}

numbered : (n : ℕ) (ds : List (By Datagram)) → map (λ (d : ℕ × By Datagram). d.1.what) (enumerate_from n ds) ≡ map (λ (d : By Datagram). d.what) ds
numbered n [] = refl
numbered n (d ∷ ds) = ap (λ l. d.what ∷ l) (numbered (n + 1) ds)

-- the premise of what is read back
gathered : (ds : List (ℕ × By Datagram)) (ss : List Sent) (n : ℕ) → AllShow ds ss
    → (rooms : AllByRecursion (HasRoom standard_ports) ss) × (map datagram_seen (seen_all standard_ports n ss rooms) ≡ map (λ (d : ℕ × By Datagram). d.1.what) ds)
gathered [] [] n h = (tt, refl)
gathered [] (s ∷ ss) n h = absurd h
gathered (d ∷ ds) [] n h = absurd h
gathered (d ∷ ds) (s ∷ ss) n h =
    let rest = gathered ds ss (suc n) h.1 in
    ((h.0.0, rest.0), ap₂ (λ (x : Datagram) (l : List Datagram). x ∷ l) (h.0.1 n) rest.1)

pub recaptured : ReadsBack → CaptureReadsBack
recaptured back world text is =
    let datagrams = world.log.datagrams in
    let seen = gathered (enumerate_from 0 datagrams) (frames_of world.log) 1 (all_framed datagrams world.log.notes is.packets) in
    let found = back standard_ports (frames_of world.log) is.body seen.0 is.written in
    (found.0, subst (λ t. IsCapture t (Records kind_written) found.0 []) (sym is.head) found.1, ap (map datagram_seen) found.2 ∙ (seen.1 ∙ numbered 0 datagrams))

-- What was read of a reader answers for all that it had.
use Rattle.std.proofs.Common.{◌≡◌, ℕ, List, take, Option, Some, None, Ok, IfSome, subst, lit<}
use Rattle.std.specs.Io.KnownBytes.{Appends}
use Rattle.gtp_scenario.proofs.Readings.{reading_of_front}
use Rattle.gtp_counted.specs.Streams.{WritesFront}
use Rattle.gtp_replay.specs.Told.{Told, ToldFront, Tells, HasNoCapture}
use Rattle.gtp_replay.specs.declared.replaying.Form.{Form}
use Rattle.gtp_replay.specs.declared.verdict.Verdict.{Verdict}

told_of_front : (form : Form) (octets text : List ℕ) (v : Verdict) → Tells form (take 16777217 octets) text v → Tells form octets text v
told_of_front form octets text v t = record { reading = t.reading; of = reading_of_front 16777217 octets t.reading (lit< tt) t.of; tells = t.tells }

pub told_for_all : (form : Form) (known : Option (List ℕ)) (octets text : List ℕ) (v : Verdict) (old new : Option (List ℕ))
    → IfSome known (λ all. octets ≡ take 16777217 all) → Tells form octets text v → Appends old new text
    → IfSome known (λ all. Told form all v old new)
told_for_all form None octets text v old new h t a = tt
told_for_all form (Some all) octets text v old new h t a = (text, told_of_front form all text v (subst (λ o. Tells form o text v) h t), a)

pub front_for_all : (form : Form) (known : Option (List ℕ)) (octets text : List ℕ) (v : Verdict) (old new : Option (List ℕ))
    → IfSome known (λ all. octets ≡ take 16777217 all) → Tells form octets text v → WritesFront old new text
    → IfSome known (λ all. ToldFront form all old new)
front_for_all form None octets text v old new h t w = tt
front_for_all form (Some all) octets text v old new h t w = (text, v, told_of_front form all text v (subst (λ o. Tells form o text v) h t), w)

lacks_of_front : (form : Form) (octets : List ℕ) (number : ℕ) → HasNoCapture form (take 16777217 octets) number → HasNoCapture form octets number
lacks_of_front form octets number h = record { scenario = h.scenario; of = reading_of_front 16777217 octets (Ok h.scenario) (lit< tt) h.of; lacks = h.lacks }

pub lacks_for_all : (form : Form) (known : Option (List ℕ)) (octets : List ℕ) (number : ℕ) → IfSome known (λ all. octets ≡ take 16777217 all)
    → HasNoCapture form octets number → IfSome known (λ all. HasNoCapture form all number)
lacks_for_all form None octets number h n = tt
lacks_for_all form (Some all) octets number h n = lacks_of_front form all number (subst (λ o. HasNoCapture form o number) h n)

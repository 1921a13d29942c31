-- What tells a version is not answered.
use Rattle.std.proofs.Common.{◌≡◌, inl, inr, ℕ, Bool, true, false, not, cond, List, [], refl, sym, ◌∙◌, ap, arith, rules}
use Rattle.std.specs.Prelude.{◌&&◌, ◌==◌}
use Rattle.gtp_v2.specs.VersionNotSupported.{version_not_supported}
use Rattle.gtp_machine.specs.Message.{Other_control, Control}
use Rattle.gtp_machine.specs.Node.{Role, Arrival, Node}
use Rattle.gtp_machine.specs.Input.{ControlReading, Control_message, Faulty, Control_fault, Effect, Sending, dropped, undecodable}
use Rattle.gtp_machine.specs.MessageType.{takes_message}
use Rattle.gtp_machine.specs.Answer.{TakesReading, version_number, states_type, is_other_version, version_told, undecoded}
use Rattle.gtp_machine.specs.Spelling.{IsSendable}
use Rattle.gtp_machine.specs.Step.{TakesBy}
use Rattle.gtp_machine.specs.Versions.{TellsVersion, TellingIsNotAnswered, VersionIsTold, ToldVersionReads}
use Rattle.gtp_machine.proofs.Octets.Spelled.{spelled_reads}

abbrev sent_in : Effect → List Sending
sent_in e = e.out.sent

-- octets of that type are not answered
never_told : (on is other stated : Bool) → stated ≡ true → (on && (is && (other && not stated))) ≡ false
never_told false is other stated h = refl
never_told true false other stated h = refl
never_told true true false stated h = refl
never_told true true true true h = refl
never_told true true true false h = sym h

undecoded_quiet : (fault : ℕ) (request : Arrival) (old : Node) → states_type request.octets version_not_supported.kind ≡ true → sent_in (undecoded fault request old) ≡ []
undecoded_quiet fault request old states =
    ap (λ (tells : Bool). sent_in (cond tells (version_told request old) (dropped old (undecodable Control fault))))
    (never_told old.config.switches.version_not_supported (fault == version_number) (is_other_version request.octets) (states_type request.octets version_not_supported.kind) states)

reads_quiet : (role : Role) (request : Arrival) (old : Node) (e : Effect) (reading : ControlReading) → TellsVersion request.octets reading
    → TakesReading role (TakesBy role) reading request old e → sent_in e ≡ []
reads_quiet role request old e (Control_message m) is (inl f) = ap sent_in f.1
reads_quiet role request old e (Control_message m) is (inr (taken, rest)) =
    absurd (let never : false ≡ true = ap (takes_message role) (sym is) ∙ taken in cc)
reads_quiet role request old e (Faulty f) is r = absurd is
reads_quiet role request old e (Control_fault fault) is r = ap sent_in r ∙ undecoded_quiet fault request old is

pub not_answered : TellingIsNotAnswered
not_answered role old request reading e is (inl f) = inl (ap sent_in f.1)
not_answered role old request reading e is (inr (peer, inl repeats)) = inr repeats
not_answered role old request reading e is (inr (peer, inr (new, r))) = inl (reads_quiet role request old e reading is r)

pub version_is_told : VersionIsTold
version_is_told role old request e peer new tells (inl f) = absurd (f.0 peer)
version_is_told role old request e peer new tells (inr (from, inl repeats)) = absurd (new repeats.held repeats.stands repeats.same)
version_is_told role old request e peer new tells (inr (from, inr (fresh, r))) =
    r ∙ ap (λ (t : Bool). cond t (version_told request old) (dropped old (undecodable Control version_number))) tells

-- what is sent can be sent
told_sendable : IsSendable (Other_control version_not_supported.kind)
told_sendable = record {
  own = refl;
  meets = record { header = omega arith; kinds = tt; marks = search rules; short = omega arith };
  octets = record { each = search rules };
}

pub told_reads : ToldVersionReads
told_reads = spelled_reads (Other_control version_not_supported.kind) told_sendable

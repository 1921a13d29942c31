-- One report for the octets of a scenario.
use Rattle.std.proofs.Common.{◌≡◌, ℕ, Bool, true, false, List, [], ◌∷◌, ◌++◌, Result, Ok, Err, refl, sym, ◌∙◌, ap, subst}
use Rattle.std.specs.Prelude.{IsTrue, MatchResult}
use Rattle.std.specs.FinMap.{entries}
use Rattle.gtp_machine.specs.declared.role.Role.TheVariants.{Serving, Packet}
use Rattle.gtp_machine.specs.World.{Event}
use Rattle.gtp_world.specs.Determined.{WorldsAlike}
use Rattle.gtp_world.specs.Record.{Log, WorldRecord}
use Rattle.gtp_world.specs.Naming.{Pair, session_pairs, bearer_pairs, mutual_pairs, AgreeAt, DoAgree}
use Rattle.gtp_world.proofs.Determined.Runs.{follow_one}
use Rattle.gtp_scenario.specs.declared.fault.Refusal.{Refusal}
use Rattle.gtp_scenario.specs.Scenarios.{Scenario}
use Rattle.gtp_scenario.proofs.OneReading.{one_reading}
use Rattle.gtp_replay.specs.Contexts.{node_text}
use Rattle.gtp_replay.specs.Determined.{OfOneRun, FormsAreOfOneRun}
use Rattle.gtp_replay.specs.Events.{events_text}
use Rattle.gtp_outcomes.specs.Owed.{WasOwed}
use Rattle.gtp_replay.specs.Report.{IsReport, late_line}
use Rattle.gtp_replay.specs.Told.{TellsScenario, TellsReading, events_of, verdict_by}
use Rattle.gtp_outcomes.specs.Each.{TellsEach}
use Rattle.gtp_replay.specs.Verdicts.{mutual_line, taken_line}
use Rattle.gtp_replay.specs.declared.replaying.Form.{Form}
use Rattle.gtp_replay.specs.declared.verdict.Verdict.{Verdict}
use Rattle.gtp_replay.specs.Expected.{first_unmet}

pub one_verdict : (a b : Bool) → (IsTrue a → IsTrue b) → (IsTrue b → IsTrue a) → a ≡ b
one_verdict true b there back = sym (there refl)
one_verdict false true there back = back refl
one_verdict false false there back = refl

-- lines that say the same of each
each_one : {X : Type 0} (P Q : X → Type 0) (line : X → Bool → List ℕ) (xs : List X) (a b : List ℕ) → ((x : X) → P x → Q x) → ((x : X) → Q x → P x)
    → TellsEach P line xs a → TellsEach Q line xs b → a ≡ b
each_one P Q line [] a b there back r s = r ∙ sym s
each_one P Q line (x ∷ xs) a b there back (v, others, holds, rest, is) (w, others_too, holds_too, rest_too, is_too) =
    let verdict : v ≡ w = one_verdict v w (λ t. holds_too.1 (there x (holds.0 t))) (λ t. holds.1 (back x (holds_too.0 t))) in
    let lines : others ≡ others_too = each_one P Q line xs others others_too there back rest rest_too in
    is ∙ ((λ i. line x (verdict i) ++ lines i) ∙ sym is_too)

pub report_one : (events : List Event) (one other : WorldRecord) (text other_text : List ℕ) → WorldsAlike one other → IsReport events one text → IsReport events other other_text → text ≡ other_text
report_one events one other text other_text alike r s =
    let serving : one.serving.state.node ≡ other.serving.state.node = alike.serving.state.node in
    let packet : one.packet.state.node ≡ other.packet.state.node = alike.packet.state.node in
    let pairs : mutual_pairs one ≡ mutual_pairs other = λ i. session_pairs (packet i).sessions (entries (serving i).sessions) ++ bearer_pairs (packet i).bearers (entries (serving i).bearers) in
    let agreeing : r.pairs ≡ s.pairs =
    each_one (DoAgree one) (DoAgree other) mutual_line (mutual_pairs one) r.pairs s.pairs
    (λ p a. subst (λ n. AgreeAt n other.packet.state.node p) serving (subst (λ n. AgreeAt one.serving.state.node n p) packet a))
    (λ p a. subst (λ n. AgreeAt n one.packet.state.node p) (sym serving) (subst (λ n. AgreeAt other.serving.state.node n p) (sym packet) a))
    r.agreeing (subst (λ (l : List Pair). TellsEach (DoAgree other) mutual_line l s.pairs) (sym pairs) s.agreeing) in
    let owed : r.taken ≡ s.taken =
    each_one (WasOwed one.log) (WasOwed other.log) taken_line one.log.accepted r.taken s.taken
    (λ e o. subst (λ (l : Log). WasOwed l e) alike.log o)
    (λ e o. subst (λ (l : Log). WasOwed l e) (sym alike.log) o)
    r.owed (subst (λ (l : Log). TellsEach (WasOwed other.log) taken_line l.accepted s.taken) (sym alike.log) s.owed) in
    r.whole ∙ ((λ i.
    events_text events (alike.log i).datagrams (alike.log i).notes ++ node_text Serving (serving i) ++ node_text Packet (packet i) ++ agreeing i
    ++ owed i ++ late_line (alike.log i).late) ∙ sym s.whole)

scenario_forms : (form other : Form) (scenario : Scenario) (text other_text : List ℕ) (verdict other_verdict : Verdict) → TellsScenario form scenario text verdict
    → TellsScenario other scenario other_text other_verdict → (verdict ≡ other_verdict) × OfOneRun form other scenario text other_text
scenario_forms form other scenario text other_text verdict other_verdict r s =
    let alike = follow_one scenario.setup (events_of scenario) r.world s.world r.run.comes s.run.comes in (
      r.verdict_is ∙ (ap (λ (l : Log). verdict_by (first_unmet scenario.entries l.notes)) alike.log ∙ sym s.verdict_is),
      record { world = r.world; other_world = s.world; alike = alike; text_is = r.text_is; other_is = s.text_is },
    )

forms_by : (form other : Form) (text other_text : List ℕ) (verdict other_verdict : Verdict) (reading : Result Scenario Refusal)
    → TellsReading form reading text verdict → TellsReading other reading other_text other_verdict
    → (verdict ≡ other_verdict) × MatchResult reading (λ scenario. OfOneRun form other scenario text other_text) (λ _. text ≡ other_text)
forms_by form other text other_text verdict other_verdict (Ok scenario) p q = scenario_forms form other scenario text other_text verdict other_verdict p q
forms_by form other text other_text verdict other_verdict (Err refusal) p q = (p.verdict_is ∙ sym q.verdict_is, p.line ∙ sym q.line)

pub forms_one : FormsAreOfOneRun
forms_one form other octets text other_text verdict other_verdict r s =
    let same = one_reading octets s.reading r.reading s.of r.of in
    let both = forms_by form other text other_text verdict other_verdict r.reading r.tells (subst (λ (o : Result Scenario Refusal). TellsReading other o other_text other_verdict) same s.tells) in (
      both.0,
      λ reading is.
          subst (λ (o : Result Scenario Refusal). MatchResult o (λ scenario. OfOneRun form other scenario text other_text) (λ _. text ≡ other_text))
          (one_reading octets r.reading reading r.of is) both.1,
    )

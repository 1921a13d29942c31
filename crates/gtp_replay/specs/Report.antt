-- The report of a world.
use Rattle.std.specs.Prelude.{◌≡◌, ℕ, List, ◌++◌, codes, decimal}
use Rattle.gtp_machine.specs.declared.role.Role.TheVariants.{Serving, Packet}
use Rattle.gtp_machine.specs.World.{Event}
use Rattle.gtp_world.specs.Record.{WorldRecord}
use Rattle.gtp_world.specs.Naming.{mutual_pairs, DoAgree}
use Rattle.gtp_outcomes.specs.Each.{TellsEach}
use Rattle.gtp_outcomes.specs.Owed.{WasOwed}
use Rattle.gtp_replay.specs.Events.{events_text}
use Rattle.gtp_replay.specs.Contexts.{node_text}
use Rattle.gtp_replay.specs.Verdicts.{mutual_line, taken_line}

-- how many deliveries were late
abbrev pub late_line : ℕ → List ℕ
late_line late = codes "late " ++ decimal late ++ codes "\n"

-- A report: each event and what it came to; the contexts of the serving and then of the packet gateway; those that name
-- each other, and whether they agree; the packets that were accepted, and whether they are owed; and how many deliveries were late.
pub record IsReport (events : List Event) (v : WorldRecord) (text : List ℕ) : Type 0 where
  pub pairs : List ℕ
  pub agreeing : TellsEach (DoAgree v) mutual_line (mutual_pairs v) pairs
  pub taken : List ℕ
  pub owed : TellsEach (WasOwed v.log) taken_line v.log.accepted taken
  pub whole : text ≡ events_text events v.log.datagrams v.log.notes ++ node_text Serving v.serving.state.node ++ node_text Packet v.packet.state.node ++ pairs ++ taken ++ late_line v.log.late

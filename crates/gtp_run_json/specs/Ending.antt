-- What stands at the end of a run, as JSON.
use Rattle.std.specs.Prelude.{◌≡◌, List, ◌++◌, codes}
use Rattle.json.specs.Json.{Json}
use Rattle.gtp_world.specs.Record.{WorldRecord}
use Rattle.gtp_world.specs.Naming.{mutual_pairs, DoAgree}
use Rattle.gtp_outcomes.specs.Owed.{WasOwed}
use Rattle.gtp_json.specs.Tree.{member, object_of, array_of}
use Rattle.gtp_run_json.specs.Members.{number_member}
use Rattle.gtp_run_json.specs.Contexts.{sessions_members, bearers_members}
use Rattle.gtp_run_json.specs.Verdicts.{JudgesEach, mutual_json, accepted_json}

-- The contexts; those that name each other, and whether they agree; the packets that were accepted, and whether they are owed; and how many deliveries were late.
pub record IsEndJson (v : WorldRecord) (j : Json) : Type 0 where
  pub pairs : List Json
  pub agreeing : JudgesEach (DoAgree v) mutual_json (mutual_pairs v) pairs
  pub packets : List Json
  pub owed : JudgesEach (WasOwed v.log) accepted_json v.log.accepted packets
  pub whole : j ≡ object_of (sessions_members v ++ (bearers_members v ++ (member (codes "mutual") (array_of pairs)
      ++ (member (codes "accepted") (array_of packets) ++ number_member (codes "late") v.log.late))))

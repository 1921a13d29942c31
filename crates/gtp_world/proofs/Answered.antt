-- What is sent in answer to a request that comes again.
use Rattle.std.proofs.Common.{inl, ℕ, ap}
use Rattle.gtp_machine.specs.World.{other}
use Rattle.gtp_machine.specs.Spelling.{spelled_all}
use Rattle.gtp_machine.proofs.Worlds.Logs.{always_acts_once}
use Rattle.gtp_world.specs.Record.{WorldRecord}
use Rattle.gtp_world.specs.Views.{as_it_came, IsAnsweredAlike}

-- where no delivery of it was late, it is the same each time
pub answered_alike : (v : WorldRecord) (number : ℕ) → IsAnsweredAlike v number
answered_alike v number setup events r found timely first second two request a b one again =
    let once =
    always_acts_once setup.serving.config setup.packet.config setup.serving_counter setup.packet_counter events r.world r.run (other found.sent.role)
    (as_it_came found.sent) request first second two one.makes one.takes again.takes (inl timely) in
    ap spelled_all (once.one_answer a b one.sends again.sends)

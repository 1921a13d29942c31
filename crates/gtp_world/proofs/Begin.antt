-- The start of a run.
use Rattle.std.proofs.Common.{◌≡◌, ◌<◌, [], refl, sym, ap, subst}
use Rattle.std.proofs.Math.Nat.{mod-eq_of_lt}
use Rattle.gtp_machine.specs.Node.{fresh_node}
use Rattle.gtp_machine.specs.World.{start}
use Rattle.gtp_world.specs.Record.{WorldRecord}
use Rattle.gtp_world.specs.Runs.{Setup, begun, LeftByRun}

pub run_begins : (setup : Setup) (v : WorldRecord) → v ≡ begun setup → setup.serving_counter < 256 → setup.packet_counter < 256 → LeftByRun setup [] v
run_begins setup v is serving packet =
    subst (λ k. LeftByRun setup [] k) (sym is)
    (record {
      world = start setup.serving.config setup.packet.config setup.serving_counter setup.packet_counter;
      run = refl;
      stands = record {
        serving =
            record {
              set_up = refl;
              role = refl;
              node = ap (λ n. fresh_node setup.serving.config n) (sym (mod-eq_of_lt serving));
              first = refl;
              restarts = refl;
              seen = refl;
              forgotten = refl;
              made = refl;
            };
        packet =
            record {
              set_up = refl;
              role = refl;
              node = ap (λ n. fresh_node setup.packet.config n) (sym (mod-eq_of_lt packet));
              first = refl;
              restarts = refl;
              seen = refl;
              forgotten = refl;
              made = refl;
            };
        datagrams = tt;
        handed = refl;
        accepted = refl;
        late = refl;
        notes = refl;
      };
    })

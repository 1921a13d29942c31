use Rattle.std.proofs.Common.{◌≡◌, ◌≤◌, ◌^◌}
use Rattle.gtp_capture.proofs.clock.power.Given as goal

abbrev pub invariant-loop : goal.invariant-loop
invariant-loop l = record {
  value : l.n ≡ l.base ^ l.counter;
  within : l.counter ≤ l.exponent;
}

-- What the program's values stand for, without where they lie in memory.
use Rattle.std.specs.Prelude.{map, option_map, string_bytes, String}
use Rattle.std.specs.declared.alloc.Global.{Global}
use Rattle.gtp_world.specs.Events.{event_of}
use Rattle.gtp_scenario.specs.declared.entry.Entry as declared
use Rattle.gtp_scenario.specs.declared.head.ServingHead as serving
use Rattle.gtp_scenario.specs.declared.head.PacketHead as packet
use Rattle.gtp_scenario.specs.declared.past.Past as happened
use Rattle.gtp_scenario.specs.declared.scenario.Head as heads
use Rattle.gtp_scenario.specs.declared.scenario.Scenario as whole
use Rattle.gtp_scenario.specs.Entries.{Entry}
use Rattle.gtp_scenario.specs.Heads.{ServingHead, PacketHead}
use Rattle.gtp_scenario.specs.Past.{Past}
use Rattle.gtp_scenario.specs.Scenarios.{Head, Scenario}
use Rattle.gtp_scenario.specs.Trees.{items_view}

abbrev pub entry : declared.Entry → Entry
entry e = record { event = event_of e.event; times = e.times; expect = option_map (λ (s : String Global). string_bytes s) e.expect }

abbrev pub serving_head : serving.ServingHead → ServingHead
serving_head h = record { own = h.own; counter = h.counter.0; switches = h.switches }

abbrev pub packet_head : packet.PacketHead → PacketHead
packet_head h = record { own = h.own; counter = h.counter.0; access_points = h.access_points.items; pools = h.pools; switches = h.switches }

abbrev pub past : happened.Past → Past
past p = record { world = p.world; waiting = p.waiting.items }

abbrev pub head : heads.Head → Head
head h = record { setup = h.config; items = items_view h.values }

abbrev pub scenario : whole.Scenario → Scenario
scenario s = record { setup = s.config; entries = map entry s.entries.items }

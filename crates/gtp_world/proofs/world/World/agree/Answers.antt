use Rattle.std.proofs.Common.{◌≡◌, ◌↔◌, Some, option_map, slice_get, sym, ◌∙◌, ap, subst}
use Rattle.std.specs.Prelude.{IsTrue}
use Rattle.std.proofs.lemmas.Iterator.Consumers.{nth_from_yields_List, YieldsList-from_first}
use Rattle.gtp_world.specs.Record.{WorldRecord, world_record_of}
use Rattle.gtp_world.specs.Naming.{Pair, pair_of, mutual_pairs, DoAgree}
use Rattle.gtp_machine.proofs.Basics.FiniteMaps.{among_at}
use Rattle.gtp_world.proofs.Naming.{listed, agreeing}
use Rattle.gtp_world.proofs.Reached.{is_so}
use Rattle.gtp_world.proofs.world.World.agree.Goals as goal

-- the pair that was found stands at this place
at : (c : goal.After-do_agree) → slice_get (mutual_pairs (world_record_of c.self.inside.sides)) c.args.index ≡ Some (pair_of c.in_ok-pair.pair)
at c =
    sym (nth_from_yields_List c.nth.result c.nth.new.self c.args.index c.nth.ensures.ran
    (YieldsList-from_first pair_of (λ es. es) (mutual_pairs (world_record_of c.self.inside.sides)) c.of.ensures))
    ∙ ap (option_map pair_of) c.in_ok-pair.was

pub returns-clause-some : goal.returns-clause-some
returns-clause-some c =
    subst (λ (v : WorldRecord). (p : Pair) × (slice_get (mutual_pairs v) c.args.index ≡ Some p) × (IsTrue c.do_agree.result ↔ DoAgree v p)) c.self.view_is
    (pair_of c.in_ok-pair.pair, at c, c.do_agree.ensures)

pub returns-clause-safe : goal.returns-clause-safe
returns-clause-safe c =
    let v = world_record_of c.self.inside.sides in
    let pair = pair_of c.in_ok-pair.pair in
    is_so v c.do_agree.result c.self.invariant (λ reached. c.do_agree.ensures.1 (agreeing v reached pair (listed v pair (among_at (mutual_pairs v) c.args.index pair (at c)))))

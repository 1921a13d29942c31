use Rattle.std.proofs.Common.{◌≡◌, ◌↔◌, List, Some, map, option_map, slice_get, sym, ◌∙◌, ap, subst}
use Rattle.std.specs.Prelude.{IsTrue}
use Rattle.std.proofs.lemmas.Option.{slice_get-map, slice_get-get_or}
use Rattle.gtp_machine.specs.Input.{Entry}
use Rattle.gtp_machine.specs.World.{By, HasBy, other}
use Rattle.gtp_world.specs.Record.{WorldRecord, world_record_of, entry_by}
use Rattle.gtp_machine.proofs.Basics.FiniteMaps.{among_at}
use Rattle.gtp_world.proofs.Reached.{is_so}
use Rattle.gtp_world.proofs.Safe.{run_safe}
use Rattle.gtp_world.proofs.world.World.owed.Goals as goal

-- the packet stands at this place
at : (c : goal.After-is_owed) → slice_get (map entry_by c.accepted.result.now) c.args.index ≡ Some (entry_by c.in_ok-accepted.accepted.now)
at c =
    let list = c.accepted.result.now in
    let e = c.in_ok-accepted.accepted.now in
    let lookup = c.in_ok-accepted.ensures.lookup in
    slice_get-map entry_by list c.args.index ∙ ap (option_map entry_by) (slice_get-get_or list c.args.index e lookup.3.0 ∙ ap Some (sym lookup.1))

pub returns-clause-some : goal.returns-clause-some
returns-clause-some c =
    let e = c.in_ok-accepted.accepted.now in (
      entry_by e,
      subst (λ (l : List (By Entry)). slice_get l c.args.index ≡ Some (entry_by e)) c.accepted.ensures (at c),
      subst (λ (k : WorldRecord). IsTrue c.is_owed.result ↔ HasBy k.log.handed (other e.node) (entry_by e).what) c.self.view_is c.is_owed.ensures,
    )

pub returns-clause-safe : goal.returns-clause-safe
returns-clause-safe c = λ none.
    let e = c.in_ok-accepted.accepted.now in
    let inside = world_record_of c.self.inside.sides in
    let accepted =
    subst (λ (l : List (By Entry)). HasBy l e.node (entry_by e).what)
    (c.accepted.ensures ∙ ap (λ (k : WorldRecord). k.log.accepted) (sym c.self.view_is))
    (among_at (map entry_by c.accepted.result.now) c.args.index (entry_by e) (at c)) in
    let timely : inside.log.late ≡ 0 = ap (λ (k : WorldRecord). k.log.late) c.self.view_is ∙ none in
    is_so inside c.is_owed.result c.self.invariant (λ reached. c.is_owed.ensures.1 ((run_safe reached.setup reached.events inside reached.run).owed timely e.node (entry_by e).what accepted))

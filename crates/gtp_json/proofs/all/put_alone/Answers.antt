use Rattle.std.proofs.Common.{[], Option, option_map, refl, sym, ◌∙◌, ap, subst}
use Rattle.gtp_v2.specs.Headed.{Headed}
use Rattle.gtp_lines.specs.reading.Header.{headed_of}
use Rattle.gtp_json.specs.All.{AloneShown}
use Rattle.gtp_json.proofs.Tokens.{none_written}
use Rattle.gtp_json.proofs.all.put_alone.Goals as goal

pub returns-in-None : goal.returns-in-None
returns-in-None c =
    record {
      ok = (
        [],
        subst (λ (h : Option Headed). AloneShown c.args.places c.args.names.now h []) (sym (ap (option_map headed_of) c.in-None.is) ∙ c.head_at.ensures) refl,
        none_written c.args.out.now,
      );
    }

-- Who needs a row.
use Rattle.std.specs.Prelude.{Bool, true, false}
use Rattle.gtp_v2.specs.declared.fault.Need.{Need}
use Rattle.gtp_v2.specs.declared.fault.Need.TheVariants as needs

-- a row that is needed where the causes accept
abbrev pub need_where : Bool → Need
need_where true = needs.Conditional
need_where false = needs.Optional

-- Reading, for proofs: the instance that the fault of a row names.
use Rattle.std.specs.Prelude.{◌<◌}
use Rattle.gtp_v2.specs.declared.fault.RowFault.{RowFault}
use Rattle.gtp_v2.specs.declared.fault.RowFault.TheVariants as row_faults
use Rattle.gtp_v2.specs.Instances.{ElementInstanceIsSmall}

-- of a row at fault
abbrev pub RowInstanceIsSmall : RowFault → Type 0
RowInstanceIsSmall (row_faults.Missing kind instance conditional group) = instance < 16
RowInstanceIsSmall (row_faults.Element fault) = ElementInstanceIsSmall fault

-- What stays of a gateway while its tables change.
use Rattle.std.proofs.Common.{◌≡◌, ◌∙◌}
use Rattle.gtp_gateway.specs.declared.parts.Parts.{Parts}
use Rattle.gtp_gateway.specs.tables.Stays.{OnlyTablesChange}

pub only_tables : (old new : Parts) → new.held ≡ old.held → new.config ≡ old.config → new.role ≡ old.role → OnlyTablesChange old new
only_tables old new held config role = record { held = held; config = config; role = role }

-- one change after another
pub only_tables_twice : (first second third : Parts) → OnlyTablesChange first second → OnlyTablesChange second third → OnlyTablesChange first third
only_tables_twice first second third one two = record { held = two.held ∙ one.held; config = two.config ∙ one.config; role = two.role ∙ one.role }

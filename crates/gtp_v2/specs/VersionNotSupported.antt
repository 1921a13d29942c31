-- Version Not Supported Indication.
use Rattle.std.specs.Prelude.{List, [], false, codes}
use Rattle.gtp_v2.specs.Table.{Field, Table}
use Rattle.gtp_v2.specs.declared.body.version_not_supported.VersionNotSupported.{VersionNotSupported}

-- That the sender supports no version above 2 (TS 29.274 7.1.3).
abbrev pub version_not_supported : Table
version_not_supported =
    record {
      kind = 3;
      name = codes "version-not-supported";
      has_teid = false;
      lines = [];
    }

-- which values its fields are
abbrev pub version_not_supported_fields : VersionNotSupported → List Field
version_not_supported_fields m =
    []

-- Lists that are read one by one.
use Rattle.std.proofs.Common.{List, ◌++◌, Option, Some, None}

-- what was read, and then what is read of the rest
abbrev pub some_with_front : {A : Type 0} → List A → Option (List A) → Option (List A)
some_with_front front (Some rest) = Some (front ++ rest)
some_with_front front None = None

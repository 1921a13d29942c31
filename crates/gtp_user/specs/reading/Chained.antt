-- Reading, for private contracts and proofs: what the code's readings of extension headers stand for.
use Rattle.std.specs.Prelude.{ℕ, List}
use Rattle.std.specs.Borrow.{Bor}
use Rattle.gtp_user.specs.declared.front.Front.{Front as FrontView}
use Rattle.gtp_user.specs.declared.extension.Extensions.{Extensions}
use Rattle.gtp_user.specs.reading.Walk.{Front, Chained}

abbrev pub front_of : FrontView → Front
front_of f = record { content = f.content.now; next = f.next; rest = f.rest.now }

-- a chain and what is after it
abbrev pub chained_of : Extensions × Bor (List ℕ) → Chained
chained_of p = record { headers = p.0; rest = p.1.now }

use Rattle.std.proofs.Common.{ℕ, Result, Ok, Err, sym, subst, arith}
use Rattle.std.proofs.Math.Nat.{lt_of_not-le}
use Rattle.std.specs.Prelude.{◌≡◌, ◌+◌, ◌<◌, ◌≤◌, length, List, ◌↔◌, OnOk, IfOk, IsErrOf}
use Rattle.std.specs.Global.{Vec}
use Rattle.gtp_values.proofs.Outcomes.{apart}
use Rattle.gtp_v2.specs.declared.fault.V2Fault.{V2Fault}
use Rattle.gtp_v2.specs.declared.fault.V2Fault.TheVariants as faults
use Rattle.gtp_v2.specs.Message.{MessageValue}
use Rattle.gtp_v2.specs.Tables.{table_of}
use Rattle.gtp_v2.specs.Body.{message_value}
use Rattle.gtp_v2.specs.Datagram.{IsMessage}
use Rattle.gtp_v2.specs.Encoding.{canonical_encoding, HeaderMeets}
use Rattle.gtp_v2.specs.Kinds.{ContentHasKinds}
use Rattle.gtp_v2.specs.Marks.{MeetsMarks}
use Rattle.gtp_v2.proofs.Few.{many_where_long}
use Rattle.gtp_v2.proofs.Marked.{marked_again}
use Rattle.gtp_v2.proofs.MarksOf.{message_marked}
use Rattle.gtp_v2.proofs.encoding.encode.Goals as goal

again : (m : MessageValue) (r : Result (Vec ℕ) V2Fault) → IfOk r (λ octets. octets.items ≡ canonical_encoding m)
    → (IsErrOf r faults.TooLong ↔ (65535 + 4 < length (canonical_encoding m))) → OnOk r (HeaderMeets m.teid m.seq m.priority)
    → OnOk r (ContentHasKinds (table_of m.kind) m.content) → IfOk r (λ octets. MeetsMarks m ↔ IsMessage octets.items m)
again m (Err f) written long header have = tt
again m (Ok octets) written long header have =
    let few : length (canonical_encoding m) < 65535 + 5 = lt_of_not-le (λ many. absurd (apart octets faults.TooLong (long.1 (omega arith)))) in
    let short : length (canonical_encoding m) ≤ 65535 + 4 = omega arith in
    (λ marked. subst (λ (xs : List ℕ). IsMessage xs m) (sym written) (marked_again m (record { header = header; kinds = have; marks = marked; short = short })), message_marked octets.items m)

pub returns-clause-read_again : goal.returns-clause-read_again
returns-clause-read_again c =
    again (message_value c.args.message.now) c.write_message.result c.write_message.ensures.written c.write_message.ensures.too_long
    c.write_message.ensures.range c.write_message.ensures.kinds

pub returns-clause-few : goal.returns-clause-few
returns-clause-few c long = many_where_long (message_value c.args.message.now) (c.write_message.ensures.rows long)

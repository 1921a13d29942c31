-- Each entry that is written as a text of JSON is read again.
use Rattle.std.proofs.Common.{◌≡◌, ℕ, ◌^◌, ◌≤◌, ◌<◌, List, [], Option, Some, None, option_and_then, refl, sym, ap, ◌∙◌, arith, append-nil}
use Rattle.json.specs.Tree as tree
use Rattle.json.specs.Json as json
use Rattle.json.specs.Lex.{tokens}
use Rattle.json.proofs.Printed.Decimals.{IsNumber-decimal}
use Rattle.json.proofs.Printed.Tokens.{tokens-print}
use Rattle.json.proofs.Printed.Trees.{ArePrintable-json_tokens, value-json_tokens}
use Rattle.serde_json.specs.Data.{Data}
use Rattle.serde_json.specs.Read.{of_json, read, max_depth}
use Rattle.serde_json.specs.Written.{outline, compact_text}
use Rattle.serde_json.proofs.Numbers.{number_of-decimal}
use Rattle.serde_json.proofs.Texts.{print-outline}
use Rattle.gtp_machine.specs.Input.{Create_session, Delete_session, Create_bearer, Delete_bearer, Release_session, Mark_end, Send_echo, Send_user}
use Rattle.gtp_machine.specs.World.{Event, Does, Tick, Deliver, Cut, Restart}
use Rattle.gtp_scenario.specs.Entries.{Entry, entry_of}
use Rattle.gtp_scenario.specs.Spelling.{spelling, IsEvent, FitsIn64Bits}
use Rattle.gtp_scenario.proofs.Spelled.{entry_again}

-- what JSON keeps of it is all of it
record IsKept (d : Data) : Type 0 where
  pub back : of_json (outline d) ≡ Some d
  pub numbers : tree.HasNumbers (outline d)
  pub shallow : tree.depth (outline d) ≤ max_depth

text_again : (d : Data) → IsKept d → read (compact_text d) ≡ Some d
text_again d kept =
    let tokens_are =
    ap tokens (sym (print-outline d)) ∙ tokens-print (tree.json_tokens (outline d)) (ArePrintable-json_tokens (outline d) kept.numbers)
    ∙ sym (append-nil (tree.json_tokens (outline d))) in
    let value_is = ap (json.value max_depth) tokens_are ∙ value-json_tokens (outline d) max_depth [] kept.shallow in
    ap (λ o. option_and_then of_json (option_and_then (λ p. json.if_last p.0 p.1) o)) value_is ∙ kept.back

-- an entry of this event
abbrev written : Event → ℕ → Option (List ℕ) → Data
written event times expect = spelling (record { event = event; times = times; expect = expect })

event_kept : (event : Event) (times : ℕ) (expect : Option (List ℕ)) → IsEvent event times → FitsIn64Bits event → IsKept (written event times expect)
event_kept (Does node (Create_session s)) times None is fits =
    let identity : s.subscriber.identity < 2 ^ 64 = omega (arith, is.1.1.identity.most) in
    let pdn : s.pdn < 2 ^ 64 = omega (arith, is.1.1.pdn) in
    record {
      back = rw (number_of-decimal s.subscriber.identity identity, number_of-decimal s.pdn pdn) refl;
      numbers = (tt, (tt, (IsNumber-decimal s.subscriber.identity identity, (tt, (IsNumber-decimal s.pdn pdn, tt)))));
      shallow = omega arith;
    }
event_kept (Does node (Create_session s)) times (Some word) is fits =
    let identity : s.subscriber.identity < 2 ^ 64 = omega (arith, is.1.1.identity.most) in
    let pdn : s.pdn < 2 ^ 64 = omega (arith, is.1.1.pdn) in
    record {
      back = rw (number_of-decimal s.subscriber.identity identity, number_of-decimal s.pdn pdn) refl;
      numbers = (tt, (tt, (IsNumber-decimal s.subscriber.identity identity, (tt, (tt, (IsNumber-decimal s.pdn pdn, tt))))));
      shallow = omega arith;
    }
event_kept (Does node (Delete_session teid)) times None is fits = record { back = refl; numbers = (tt, (tt, tt)); shallow = omega arith }
event_kept (Does node (Delete_session teid)) times (Some word) is fits = record { back = refl; numbers = (tt, (tt, (tt, tt))); shallow = omega arith }
event_kept (Does node (Create_bearer teid tft of)) times None is fits = record { back = refl; numbers = (tt, (tt, (tt, tt))); shallow = omega arith }
event_kept (Does node (Create_bearer teid tft of)) times (Some word) is fits = record { back = refl; numbers = (tt, (tt, (tt, (tt, tt)))); shallow = omega arith }
event_kept (Does node (Delete_bearer teid ebi)) times None is fits =
    let small : ebi < 2 ^ 64 = omega (arith, is.1.2.most) in
    record { back = rw (number_of-decimal ebi small) refl; numbers = (tt, (IsNumber-decimal ebi small, (tt, tt))); shallow = omega arith }
event_kept (Does node (Delete_bearer teid ebi)) times (Some word) is fits =
    let small : ebi < 2 ^ 64 = omega (arith, is.1.2.most) in
    record { back = rw (number_of-decimal ebi small) refl; numbers = (tt, (IsNumber-decimal ebi small, (tt, (tt, tt)))); shallow = omega arith }
event_kept (Does node (Release_session teid)) times None is fits = record { back = refl; numbers = (tt, (tt, tt)); shallow = omega arith }
event_kept (Does node (Release_session teid)) times (Some word) is fits = record { back = refl; numbers = (tt, (tt, (tt, tt))); shallow = omega arith }
event_kept (Does node (Mark_end teid)) times None is fits = record { back = refl; numbers = (tt, (tt, tt)); shallow = omega arith }
event_kept (Does node (Mark_end teid)) times (Some word) is fits = record { back = refl; numbers = (tt, (tt, (tt, tt))); shallow = omega arith }
event_kept (Does node Send_echo) times None is fits = record { back = refl; numbers = (tt, (tt, tt)); shallow = omega arith }
event_kept (Does node Send_echo) times (Some word) is fits = record { back = refl; numbers = (tt, (tt, (tt, tt))); shallow = omega arith }
event_kept (Does node (Send_user teid payload)) times None is fits = record { back = refl; numbers = (tt, (tt, (tt, (tt, tt)))); shallow = omega arith }
event_kept (Does node (Send_user teid payload)) times (Some word) is fits = record { back = refl; numbers = (tt, (tt, (tt, (tt, (tt, tt))))); shallow = omega arith }
event_kept (Tick node) times None is fits =
    let small : times < 2 ^ 64 = omega (arith, is.1) in
    record { back = rw (number_of-decimal times small) refl; numbers = (tt, (tt, (IsNumber-decimal times small, tt))); shallow = omega arith }
event_kept (Tick node) times (Some word) is fits =
    let small : times < 2 ^ 64 = omega (arith, is.1) in
    record { back = rw (number_of-decimal times small) refl; numbers = (tt, (tt, (tt, (IsNumber-decimal times small, tt)))); shallow = omega arith }
event_kept (Deliver datagram) times None is fits = record { back = rw (number_of-decimal datagram fits) refl; numbers = (IsNumber-decimal datagram fits, (tt, tt)); shallow = omega arith }
event_kept (Deliver datagram) times (Some word) is fits = record { back = rw (number_of-decimal datagram fits) refl; numbers = (IsNumber-decimal datagram fits, (tt, (tt, tt))); shallow = omega arith }
event_kept (Cut datagram size) times None is fits =
    record {
      back = rw (number_of-decimal datagram fits.0, number_of-decimal size fits.1) refl;
      numbers = (IsNumber-decimal datagram fits.0, (tt, (IsNumber-decimal size fits.1, tt)));
      shallow = omega arith;
    }
event_kept (Cut datagram size) times (Some word) is fits =
    record {
      back = rw (number_of-decimal datagram fits.0, number_of-decimal size fits.1) refl;
      numbers = (IsNumber-decimal datagram fits.0, (tt, (tt, (IsNumber-decimal size fits.1, tt))));
      shallow = omega arith;
    }
event_kept (Restart node) times None is fits = record { back = refl; numbers = (tt, (tt, tt)); shallow = omega arith }
event_kept (Restart node) times (Some word) is fits = record { back = refl; numbers = (tt, (tt, (tt, tt))); shallow = omega arith }

pub entry_text_again : (entry : Entry) → IsEvent entry.event entry.times → FitsIn64Bits entry.event → option_and_then entry_of (read (compact_text (spelling entry))) ≡ Some entry
entry_text_again entry is fits = ap (option_and_then entry_of) (text_again (spelling entry) (event_kept entry.event entry.times entry.expect is fits)) ∙ entry_again entry is

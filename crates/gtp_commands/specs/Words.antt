-- The words that the program takes.
use Rattle.std.specs.Prelude.{ℕ, List, Some, true, [], codes}
use Rattle.clap.specs.Words.{App, Rule, Shape, new_rule, new_app, with_rule, with_subcommand}
use Rattle.clap.specs.declared.builder.action.ArgAction.TheVariants.{SetTrue}

-- an option without a value
abbrev pub flag_word : List ℕ → Rule
flag_word name = record (new_rule name) { long = Some name; action = Some SetTrue }

-- an option with a value
abbrev pub option_word : List ℕ → Rule
option_word name = record (new_rule name) { long = Some name; value_names = 1 }

-- a word
abbrev pub plain_word : List ℕ → Rule
plain_word name = record (new_rule name) { value_names = 1 }

-- a word that has to be there
abbrev pub needed_word : List ℕ → Rule
needed_word name = record (plain_word name) { required = true }

-- further forms of a datagram
abbrev pub with_form_words : App → App
with_form_words app =
    with_rule (with_rule (with_rule (with_rule app (flag_word (codes "all"))) (flag_word (codes "json"))) (flag_word (codes "places"))) (option_word (codes "interface"))

-- to show datagrams
abbrev pub decode_words : App
decode_words =
    with_rule (with_rule (with_form_words (with_rule (new_app (codes "decode")) (flag_word (codes "user")))) (flag_word (codes "join"))) (needed_word (codes "octets"))

-- further ports of each plane
abbrev pub with_port_words : App → App
with_port_words app = with_rule (with_rule app (option_word (codes "control-port"))) (option_word (codes "user-port"))

-- what chooses datagrams
abbrev pub with_filter_words : App → App
with_filter_words app =
    with_rule (with_rule (with_rule (with_rule (with_rule app
    (flag_word (codes "faults"))) (option_word (codes "type"))) (option_word (codes "imsi"))) (option_word (codes "teid"))) (option_word (codes "address"))

-- to show a capture
abbrev pub capture_words : App
capture_words =
    with_rule (with_port_words (with_filter_words (with_form_words (with_rule (new_app (codes "capture")) (flag_word (codes "brief")))))) (plain_word (codes "file"))

-- to replay a scenario
abbrev pub replay_words : App
replay_words =
    with_rule (with_rule (with_rule (with_rule (with_rule (new_app (codes "replay"))
    (flag_word (codes "diagram"))) (flag_word (codes "svg"))) (flag_word (codes "pcap"))) (flag_word (codes "json"))) (plain_word (codes "file"))

-- to run one gateway
abbrev pub gateway_words : App
gateway_words = new_app (codes "gateway")

-- to run a node
abbrev pub node_words : App
node_words = new_app (codes "node")

-- to explain codes and types
abbrev pub explain_words : App
explain_words = with_rule (with_rule (new_app (codes "explain")) (plain_word (codes "code"))) (plain_word (codes "type"))

-- the program's name, before a subcommand; the program has a version
abbrev pub gtpshow_word : Shape
gtpshow_word = record (new_app (codes "gtpshow")).top { has_version = true; subcommand_required = true }

-- all of them
abbrev pub program_words : App
program_words =
    with_subcommand (with_subcommand (with_subcommand (with_subcommand (with_subcommand (with_subcommand
    (record { top = gtpshow_word; subs = [] }) decode_words.top) capture_words.top) replay_words.top) gateway_words.top) node_words.top) explain_words.top

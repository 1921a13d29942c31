-- Elements by their names, and their values by their forms.
use Rattle.std.specs.Prelude.{ℕ, ◌+◌, if◌then◌else◌, Bool, true, false, List, [], ◌∷◌, ◌++◌, replicate, Option, Some, None, option_map, unwrap_or, Result, Ok, Err, codes}
use Rattle.std.specs.List.{flat_map}
use Rattle.gtp_ie.specs.declared.fault.ReadFault.{ReadFault}
use Rattle.gtp_ie.specs.declared.form.Form.{Form}
use Rattle.gtp_ie.specs.Element.{Element, elements_of}
use Rattle.gtp_ie.specs.Form.{form_of}
use Rattle.gtp_ie.specs.Value.{Value, value_at}
use Rattle.gtp_v2.specs.Table.{Table}
use Rattle.gtp_v2.specs.Tables.{table_of}
use Rattle.gtp_user.specs.Chain.{Extension}
use Rattle.gtp_user.specs.Message.{MessageValue as UserMessage}
use Rattle.hex.specs.Hex.{encode_lower}
use Rattle.gtp_forms.specs.declared.form.Row.{Row}
use Rattle.gtp_forms.specs.Rows.{row_of}
use Rattle.gtp_forms.specs.Reading.{told_by}
use Rattle.gtp_forms.specs.Text.{lines_from}
use Rattle.gtp_names.specs.declared.names.Names.{Names}
use Rattle.gtp_names.specs.Parts.{tables_in}
use Rattle.gtp_names.specs.Groups.{is_group, is_connection}
use Rattle.gtp_names.specs.Groups.{form_of as form_in}
use Rattle.gtp_lines.specs.Text.{octets_text}
use Rattle.gtp_lines.specs.Values.{raw_shown}
use Rattle.gtp_lines.specs.Words.{said}
use Rattle.gtp_lines.specs.Control.{element_head, element_lines, message_name}
use Rattle.gtp_lines.specs.User.{user_head_line, carried_shown}

-- ---- names of messages

-- the name of a type, where it has one: that of its table, or that of its row
abbrev pub name_by : Option Table → Option Row → Option (List ℕ)
name_by None row = option_map (λ (r : Row). r.name.now) row
name_by (Some table) row = Some table.name

unfoldable pub name_in : Names → ℕ → Option (List ℕ)
name_in names kind = name_by (table_of kind) (row_of names.messages.now kind)

-- and the word of one that has none
abbrev pub title_in : Names → ℕ → List ℕ
title_in names kind = unwrap_or (name_in names kind) (codes "other")

-- ---- elements

-- what a body tells by the form of a number, from a line on that is so far in
unfoldable pub told_lines : Names → ℕ → ℕ → List ℕ → List ℕ
told_lines names form depth body = lines_from (record { depth = depth; is_open = true }) (told_by (tables_in names) form body)

-- what follows the name of a type: the fields of its form; without a form the octets
abbrev pub fields_shown : Names → Option ℕ → ℕ → List ℕ → List ℕ
fields_shown names None depth body = codes " " ++ raw_shown body
fields_shown names (Some form) depth body = told_lines names form depth body

-- a body in a message of a type, by the row of its own type
abbrev pub row_shown : Names → ℕ → ℕ → Option Row → List ℕ → List ℕ
row_shown names message depth None body = raw_shown body
row_shown names message depth (Some row) body = row.name.now ++ fields_shown names (form_in row message) depth body

-- the fields of a type that has a form besides its value: a line below that, two blanks further in
abbrev pub form_below : Names → Option ℕ → ℕ → List ℕ → List ℕ
form_below names None depth body = []
form_below names (Some form) depth body = codes "\n" ++ (replicate (depth + 2) 32 ++ (codes "fields" ++ told_lines names form (depth + 2) body))

abbrev pub fields_below : Names → ℕ → ℕ → Option Row → List ℕ → List ℕ
fields_below names message depth None body = []
fields_below names message depth (Some row) body = form_below names (form_in row message) depth body

-- plain lines show a body by name: its type has a value, and it reads as one
abbrev pub reads_as : Result Value ReadFault → Bool
reads_as (Ok value) = true
reads_as (Err fault) = false

abbrev pub is_value : Option Form → Result Value ReadFault → Bool
is_value None read = false
is_value (Some form) read = reads_as read

unfoldable pub is_named : ℕ → List ℕ → Bool
is_named kind body = is_value (form_of kind) (value_at kind body)

-- what is shown of a body in a message of a type: what plain lines show by name, with its word, and its fields below; any other by its row
unfoldable pub content_shown : Names → ℕ → ℕ → ℕ → List ℕ → List ℕ
content_shown names message depth kind body =
    if is_named kind body
    then said kind body ++ fields_below names message depth (row_of names.elements.now kind) body
    else row_shown names message depth (row_of names.elements.now kind) body

-- the lines of an element that is no group, so far in
abbrev pub leaf_lines : Names → ℕ → ℕ → Element → List ℕ
leaf_lines names message depth e = replicate depth 32 ++ (element_head e ++ (content_shown names message depth e.kind e.body ++ codes "\n"))

-- the name of a type of group
abbrev pub group_name : Option Row → List ℕ
group_name None = codes "group"
group_name (Some row) = row.name.now

abbrev pub group_line : Names → ℕ → Element → List ℕ
group_line names depth e = replicate depth 32 ++ (element_head e ++ (group_name (row_of names.groups.now e.kind) ++ codes "\n"))

-- a group by its elements, each shown in a way; or by its octets where they are not whole elements
abbrev pub group_lines : (Element → List ℕ) → Names → ℕ → ℕ → Element → Result (List Element) ℕ → List ℕ
group_lines inner_lines names message depth e (Ok inner) = group_line names depth e ++ flat_map inner_lines inner
group_lines inner_lines names message depth e (Err at) = leaf_lines names message depth e

-- the lines of an element that holds no groups
abbrev pub part_lines : Names → ℕ → ℕ → Element → List ℕ
part_lines names message depth e =
    if is_group e.kind then group_lines (leaf_lines names message (depth + 2)) names message depth e (elements_of (e.at + 4) e.body) else leaf_lines names message depth e

-- the lines of an element in a message of a type; a group opens in one that holds groups, and in no other
abbrev pub named_lines : Names → ℕ → Element → List ℕ
named_lines names message e =
    if is_connection e.kind then group_lines (part_lines names message 2) names message 0 e (elements_of (e.at + 4) e.body) else part_lines names message 0 e

-- ---- extension headers

-- what follows the number of a type: its name and fields, or its octets
abbrev pub extension_shown : Names → Option Row → List ℕ → List ℕ
extension_shown names None content = octets_text content
extension_shown names (Some row) content = row.name.now ++ fields_shown names row.form 0 content

abbrev pub extension_lines : Names → Extension → List ℕ
extension_lines names e =
    codes "ext " ++ (encode_lower (e.kind ∷ []) ++ (codes " " ++ (extension_shown names (row_of names.extension_headers.now e.kind) e.content ++ codes "\n")))

-- the lines of a message of the user plane
abbrev pub named_user_lines : Names → UserMessage → List ℕ
named_user_lines names m = user_head_line m ++ (flat_map (extension_lines names) m.ext ++ carried_shown m.content)

-- ---- in which way lines are shown

-- plain, or by the names and forms of tables
pub data Wording : Type 0 where
  Plain : Wording
  Named : Names → Wording

-- the lines of an element in a message of a type
abbrev pub lines_by : Wording → ℕ → Element → List ℕ
lines_by Plain message e = element_lines e
lines_by (Named names) message e = named_lines names message e

-- the name of a type of message
abbrev pub title_by : Wording → ℕ → List ℕ
title_by Plain kind = message_name kind
title_by (Named names) kind = title_in names kind

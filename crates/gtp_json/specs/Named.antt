-- Elements as JSON by their names and forms: what `gtp_lines` shows as lines.
use Rattle.std.specs.Prelude.{ℕ, ◌+◌, ◌==◌, if◌then◌else◌, Bool, true, false, List, [], ◌++◌, length, map, Option, Some, None, Result, Ok, Err, codes}
use Rattle.json.specs.Json.{Json, string}
use Rattle.json.specs.Print.{print}
use Rattle.json.specs.Tree.{json_tokens}
use Rattle.gtp_ie.specs.Element.{Element, elements_of}
use Rattle.gtp_ie.specs.Form.{bearer_context}
use Rattle.gtp_user.specs.Chain.{Extension}
use Rattle.gtp_user.specs.Message.{MessageValue as UserMessage}
use Rattle.gtp_forms.specs.declared.form.Row.{Row}
use Rattle.gtp_forms.specs.Rows.{row_of}
use Rattle.gtp_forms.specs.Reading.{told_by}
use Rattle.gtp_forms.specs.Tokens.{told_json}
use Rattle.gtp_names.specs.declared.names.Names.{Names}
use Rattle.gtp_names.specs.Parts.{tables_in}
use Rattle.gtp_names.specs.Groups.{is_group, is_connection, form_of}
use Rattle.gtp_lines.specs.Named.{is_named, group_name}
use Rattle.gtp_json.specs.Tree.{member, object_of, array_of, number_of}
use Rattle.gtp_json.specs.Values.{octets_members, body_members}
use Rattle.gtp_json.specs.Control.{element_head}
use Rattle.gtp_json.specs.User.{user_head, user_carried}

-- where an element stands, where that is asked for: the place of its first octet, and how many octets it is
abbrev pub place_members : Bool → Element → List (List ℕ × Json)
place_members false e = []
place_members true e = member (codes "at") (number_of e.at) ++ member (codes "length") (number_of (4 + length e.body))

abbrev pub placed_head : Bool → Element → List (List ℕ × Json)
placed_head places e = element_head e ++ place_members places e

-- what a body tells by the form of a number, as one object
unfoldable pub fields_member : Names → ℕ → List ℕ → List (List ℕ × Json)
fields_member names form body = member (codes "fields") (told_json (told_by (tables_in names) form body))

abbrev pub form_fields : Names → Option ℕ → List ℕ → List (List ℕ × Json)
form_fields names None body = []
form_fields names (Some form) body = fields_member names form body

-- the fields of a body in a message of a type, by the row of its own type
abbrev pub row_fields : Names → ℕ → Option Row → List ℕ → List (List ℕ × Json)
row_fields names message None body = []
row_fields names message (Some row) body = form_fields names (form_of row message) body

-- the name of its type, and the fields
abbrev pub named_fields : Names → ℕ → Option Row → List ℕ → List (List ℕ × Json)
named_fields names message None body = []
named_fields names message (Some row) body = member (codes "name") (string row.name.now) ++ form_fields names (form_of row message) body

-- what a body says: what it says without tables; and then its fields, and before them the name of its type, where that is not said yet
unfoldable pub content_members : Names → ℕ → ℕ → List ℕ → List (List ℕ × Json)
content_members names message kind body =
    body_members kind body
    ++ (if is_named kind body then row_fields names message (row_of names.elements.now kind) body else named_fields names message (row_of names.elements.now kind) body)

-- an element that is no group
abbrev pub leaf_members : Names → ℕ → Element → List (List ℕ × Json)
leaf_members names message e = content_members names message e.kind e.body

abbrev pub leaf_json : Bool → Names → ℕ → Element → Json
leaf_json places names message e = object_of (placed_head places e ++ leaf_members names message e)

-- the octets of a group; a bearer context has none beside its elements
abbrev pub group_octets : Element → List (List ℕ × Json)
group_octets e = if e.kind == bearer_context then [] else octets_members e.body

-- what stands before the elements of a group
abbrev pub group_head : Names → Element → List (List ℕ × Json)
group_head names e = group_octets e ++ member (codes "name") (string (group_name (row_of names.groups.now e.kind)))

-- a group by its elements, each in a way; or by its octets where they are not whole elements
abbrev pub group_members : (Element → Json) → Names → ℕ → Element → Result (List Element) ℕ → List (List ℕ × Json)
group_members inner_json names message e (Ok inner) = group_head names e ++ member (codes "elements") (array_of (map inner_json inner))
group_members inner_json names message e (Err at) = leaf_members names message e

-- an element that holds no groups
abbrev pub part_members : Bool → Names → ℕ → Element → List (List ℕ × Json)
part_members places names message e =
    if is_group e.kind then group_members (leaf_json places names message) names message e (elements_of (e.at + 4) e.body) else leaf_members names message e

abbrev pub part_json : Bool → Names → ℕ → Element → Json
part_json places names message e = object_of (placed_head places e ++ part_members places names message e)

-- an element in a message of a type; a group opens in one that holds groups, and in no other
abbrev pub named_element : Bool → Names → ℕ → Element → List (List ℕ × Json)
named_element places names message e =
    if is_connection e.kind then group_members (part_json places names message) names message e (elements_of (e.at + 4) e.body) else part_members places names message e

abbrev pub named_json : Bool → Names → ℕ → Element → Json
named_json places names message e = object_of (placed_head places e ++ named_element places names message e)

-- an element in a message of a type, alone on a line
abbrev pub element_line : Names → ℕ → Element → List ℕ
element_line names message e = print (json_tokens (named_json false names message e)) ++ codes "\n"

-- the elements of a message of a type, in the datagram's order, with their places or without
abbrev pub named_elements : Bool → Names → ℕ → List Element → List (List ℕ × Json)
named_elements places names message es = member (codes "elements") (array_of (map (named_json places names message) es))

-- ---- the user plane

-- the name and the fields of an extension header
abbrev pub extension_fields : Names → Option Row → List ℕ → List (List ℕ × Json)
extension_fields names None content = []
extension_fields names (Some row) content = member (codes "name") (string row.name.now) ++ form_fields names row.form content

abbrev pub named_extension : Names → Extension → List (List ℕ × Json)
named_extension names e =
    member (codes "type") (number_of e.kind) ++ (octets_members e.content ++ extension_fields names (row_of names.extension_headers.now e.kind) e.content)

abbrev pub named_extension_json : Names → Extension → Json
named_extension_json names e = object_of (named_extension names e)

abbrev pub named_extensions : Names → List Extension → List (List ℕ × Json)
named_extensions names es = member (codes "extensions") (array_of (map (named_extension_json names) es))

-- the members of a message of the user plane
abbrev pub named_user_members : Names → UserMessage → List (List ℕ × Json)
named_user_members names m = user_head m ++ (named_extensions names m.ext ++ user_carried m.content)

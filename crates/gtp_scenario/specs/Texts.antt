-- Values that a scenario has as texts.
use Rattle.std.specs.Prelude.{ℕ, List, ◌&&◌, Bool, length, map, nat_le, if◌then◌else◌, Option, Some, None, option_map}
use Rattle.std.specs.Int.{w32, from_be_bytes}
use Rattle.std.specs.List.{list_all}
use Rattle.std.specs.Net.Reader.{read_ipv4, whole_value}
use Rattle.std.specs.Result.{result_ok}
use Rattle.hex.specs.Hex.{decode_of, decode_sized}
use Rattle.gtp_values.specs.Imsi.{value_of_digit}
use Rattle.gtp_values.specs.Apn.{are_labels_from, octets_of_text}

-- the character of a decimal digit
abbrev pub is_digit_code : ℕ → Bool
is_digit_code octet = nat_le 48 octet && nat_le octet 57

-- a subscriber: 6 to 15 decimal digits
unfoldable pub imsi_of : List ℕ → Option (List ℕ)
imsi_of text =
    if (nat_le 6 (length text) && nat_le (length text) 15) && list_all is_digit_code text
    then Some (map value_of_digit text)
    else None

-- an access point name: labels of 1 to 63 characters with dots between them, 1 to 99 characters in all
unfoldable pub apn_of : List ℕ → Option (List ℕ)
apn_of text =
    if (nat_le 1 (length text) && nat_le (length text) 99) && are_labels_from 0 (octets_of_text text)
    then Some (octets_of_text text)
    else None

-- a TEID: eight hexadecimal digits of either case
unfoldable pub teid_of : List ℕ → Option ℕ
teid_of text = option_map (from_be_bytes w32) (result_ok (decode_sized text 4))

-- octets: two hexadecimal digits of either case each
unfoldable pub octets_of : List ℕ → Option (List ℕ)
octets_of text = result_ok (decode_of text)

-- the four octets of an IPv4 address: four decimal numbers from 0 to 255 without leading zeros, with dots between them
unfoldable pub address_of : List ℕ → Option (List ℕ)
address_of text = whole_value (read_ipv4 text)

-- the sixteen octets of an IPv6 address: 32 hexadecimal digits of either case
unfoldable pub ipv6_of : List ℕ → Option (List ℕ)
ipv6_of text = result_ok (decode_sized text 16)

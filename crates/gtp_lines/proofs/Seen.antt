-- The lines of a message that is viewed.
use Rattle.std.proofs.Common.{◌≡◌, ℕ, ◌++◌, false, List, Option, Some, None, codes, inl, inr, refl}
use Rattle.std.specs.List.{flat_map}
use Rattle.gtp_ie.specs.Element.{Element}
use Rattle.gtp_v2.specs.Message.{Content, Fields, Raw, raw_of, MessageValue}
use Rattle.gtp_v2.specs.Pair.{LiesIn, LieIn}
use Rattle.gtp_v2.specs.Viewed.{Viewed, ElementsAre}
use Rattle.gtp_lines.specs.Text.{octets_text}
use Rattle.gtp_lines.specs.Control.{carried_lines, element_lines, seen_lines, datagram_lines}
use Rattle.gtp_lines.specs.Named.{Plain}
use Rattle.gtp_lines.specs.Messages.{CarriedLines, AloneLines, ControlLines}

pub raw_lines : (content : Content) (es : List Element) (octets : List ℕ) → Some octets ≡ raw_of content → carried_lines content es ≡ codes "octets " ++ (octets_text octets ++ codes "\n")
raw_lines (Raw carried) es octets is = let same : octets ≡ carried = cc in rw same refl
raw_lines (Fields fields) es octets is = absurd cc

pub typed_lines : (content : Content) (es : List Element) → None ≡ raw_of content → carried_lines content es ≡ flat_map element_lines es
typed_lines (Raw carried) es is = absurd cc
typed_lines (Fields fields) es is = refl

-- lines of the elements that a datagram carries are its lines
pub carried_are : (octets : List ℕ) (m : MessageValue) (content : Content) (es : List Element) → ElementsAre octets m content es → CarriedLines Plain octets m content (carried_lines content es)
carried_are octets m (Raw carried) es are = refl
carried_are octets m (Fields fields) es are = (es, are, refl)

-- a message shows the lines of the octets in which it lies
lines_alone : (octets : List ℕ) (v : Viewed) (text : List ℕ) → LiesIn octets v → text ≡ seen_lines v → AloneLines Plain octets text
lines_alone octets v text lies is = (v.message, lies.spelled, (carried_lines v.message.content v.elements, carried_are octets v.message v.message.content v.elements lies.elements, is))

-- and so do the messages of a datagram
pub lines_lie : (octets : List ℕ) (first : Viewed) (second : Option Viewed) (back text : List ℕ) → LieIn octets first second back → text ≡ datagram_lines first second → ControlLines octets text false
lines_lie octets first None back text (lies, none) is = inl (lines_alone octets first text lies is)
lines_lie octets first (Some second) back text (front, announces, one, other) is =
    inr (
      front,
      back,
      announces,
      (
        seen_lines first,
        lines_alone front first (seen_lines first) one refl,
        (
          second.message,
          other.spelled,
          (
            carried_lines second.message.content second.elements,
            carried_are back second.message second.message.content second.elements other.elements,
            is,
          ),
        ),
      ),
    )

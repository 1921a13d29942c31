-- The codes that the program prints, and what they mean: each with what follows it, or nothing.
use Rattle.std.specs.Prelude.{List, [], ◌∷◌, ℕ, codes, map}
use Rattle.gtp_codes.specs.Words.{cause_told, cause_words}

-- faults of control datagrams: H, and I of elements
unfoldable pub control_faults : List (List ℕ × (List ℕ × List ℕ))
control_faults =
    (codes "H1", ([], codes "the datagram ends within the header of a message (TS 29.274 7.7.3); held: the octets of the message"))
    ∷ (codes "H2", ([], codes "the version of GTPv2-C is not 2 (TS 29.274 7.7.2)"))
    ∷ (codes "H3", ([], codes "the stated length is not the number of octets after the first four (TS 29.274 7.7.3)"))
    ∷ (codes "H4", ([], codes "the header has a TEID where its type has none, or none where it has one (TS 29.274 5.5.1)"))
    ∷ (codes "H5", ([], codes "a second message is announced and missing, or announces a third (TS 29.274 5.5.1); at: its place in the datagram"))
    ∷ (codes "H6", ([], codes "an element is missing that must be there (TS 29.274 7.7.6)"))
    ∷ (codes "H7", (codes "I1", codes "the elements of a message or of a bearer context end within an element (TS 29.274 7.7.7); at: the place of its header"))
    ∷ (codes "H7", (codes "I2", codes "an element is shorter than its form (TS 29.274 7.7.7); at: the place of its header"))
    ∷ (codes "H7", (codes "I3", codes "the value of an element is not allowed (TS 29.274 7.7.8); at: the place of its header"))
    ∷ []

-- faults of user datagrams
unfoldable pub user_faults : List (List ℕ × (List ℕ × List ℕ))
user_faults =
    (codes "U1", ([], codes "the datagram ends within the header (TS 29.281 5.1); held: its octets"))
    ∷ (codes "U2", ([], codes "the version of GTP-U is not 1 (TS 29.281 5.1)"))
    ∷ (codes "U3", ([], codes "the protocol type is not 1: this is GTP' (TS 29.281 5.1)"))
    ∷ (codes "U4", ([], codes "the stated length is not the number of octets after the first eight (TS 29.281 5.1)"))
    ∷ (codes "U5", ([], codes "an extension header states the length 0 (TS 29.281 5.2.1); at: the place of that length"))
    ∷ (codes "U6", ([], codes "the datagram ends within an extension header (TS 29.281 5.2.1); at: the place of its length"))
    ∷ (codes "U7", ([], codes "an extension header must be understood, and is not (TS 29.281 5.2.1); type: that header"))
    ∷ (codes "U8", ([], codes "an element is missing that must be there (TS 29.281 7); type: that element"))
    ∷ (codes "U9", ([], codes "an element is not complete, or of no known form (TS 29.281 8); at: its place"))
    ∷ []

-- refused commands; S and B are limits
unfoldable pub refused_commands : List (List ℕ × (List ℕ × List ℕ))
refused_commands =
    (codes "G1", ([], codes "a command is refused: there is no such context"))
    ∷ (codes "G2", ([], codes "a command is refused: the context is not active"))
    ∷ (codes "G3", ([], codes "a command is refused: it is one of the other gateway"))
    ∷ (codes "G4", (codes "S1", codes "a command is refused: the gateway has 1000 sessions"))
    ∷ (codes "G4", (codes "S4", codes "a command is refused: no TEID is left"))
    ∷ (codes "G4", (codes "B1", codes "a command is refused: 256 requests are pending"))
    ∷ (codes "G5", ([], codes "a command is refused: the bearer has ended (TS 29.281 7.3.2)"))
    ∷ (codes "G6", ([], codes "a command is refused: an allocation was refused"))
    ∷ (codes "G7", ([], codes "a command is refused: the packet has more than 65000 octets"))
    ∷ []

-- dropped datagrams
unfoldable pub drops : List (List ℕ × (List ℕ × List ℕ))
drops =
    (codes "X1", ([], codes "a datagram is dropped: it cannot be decoded; the code of its fault follows (TS 29.274 7.7)"))
    ∷ (codes "X2", ([], codes "a datagram is dropped: its restart counter is earlier than one that was received (TS 23.007 18)"))
    ∷ (codes "X3", ([], codes "a datagram is dropped: no request waits for this response (TS 29.274 7.6)"))
    ∷ (codes "X4", ([], codes "a datagram is dropped: the response does not fit its request"))
    ∷ (codes "X5", ([], codes "a datagram is dropped: its context is not active"))
    ∷ (codes "X6", ([], codes "a datagram is dropped: its context is unknown; of a packet an Error Indication is sent (TS 29.281 7.3.1)"))
    ∷ (codes "X7", ([], codes "a datagram is dropped: its bearer has ended by an End Marker (TS 29.281 7.3.2)"))
    ∷ (codes "X8", ([], codes "a datagram is dropped: 4096 answers are held"))
    ∷ (codes "X9", ([], codes "a datagram is dropped: its type is not taken, or it concerns nothing here (TS 29.274 7.7.4, 7.7.5)"))
    ∷ (codes "X10", ([], codes "a datagram is dropped: it requires an extension header that is not understood (TS 29.281 5.2.1)"))
    ∷ (codes "X11", ([], codes "a datagram is dropped: its source is not the peer"))
    ∷ (codes "X12", ([], codes "a datagram is dropped: it is of another version, and the sender is told which one is supported (TS 29.274 7.7.2)"))
    ∷ []

-- events of a scenario that cannot happen
unfoldable pub impossible_events : List (List ℕ × (List ℕ × List ℕ))
impossible_events =
    (codes "N1", ([], codes "an event cannot happen: there is no such datagram"))
    ∷ (codes "N2", ([], codes "an event cannot happen: a gateway restarts at most 127 times"))
    ∷ (codes "N3", ([], codes "an event cannot happen: the cut is not shorter than the datagram"))
    ∷ []

-- all, in the order in which they are printed
abbrev pub all_parts : List (List (List ℕ × (List ℕ × List ℕ)))
all_parts = control_faults ∷ user_faults ∷ refused_commands ∷ drops ∷ impossible_events ∷ map cause_told cause_words ∷ []

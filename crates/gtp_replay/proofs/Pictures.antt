-- Pieces of pictures.
use Rattle.std.proofs.Common.{arith, ◌≡◌, ◌∙◌, ℕ, ◌+◌, ◌-◌, ◌<◌, ◌≤◌, List, [], ◌∷◌, ◌++◌, map, length, take, get_or, replicate, codes, refl, sym, subst, ap, append_assoc}
use Rattle.std.proofs.lemmas.List.{append-nil, take_all, take_more, map_push}
use Rattle.std.specs.List.{enumerate_from}
use Rattle.gtp_machine.specs.Config.{Addresses}
use Rattle.gtp_replay.specs.Rows.{Row}
use Rattle.gtp_replay.specs.Svg.{IsGroup, height_of, svg_head, IsSvg}
use Rattle.gtp_replay.specs.Diagram.{filled, EachHas, IsLine, IsDiagram, diagram_head}

pub filled_up : (column c : ℕ) (text new : List ℕ) → length text < column → new ≡ take column text ++ replicate (column - length text) c → new ≡ filled column c text
filled_up column c text new short is = is ∙ ap (λ l. l ++ replicate (column - length text) c) (take_all column text (omega (arith, short)))

pub filled_over : (column c : ℕ) (text : List ℕ) → column ≤ length text → text ≡ filled column c text
filled_over column c text long =
    let none : column - length text ≡ 0 = omega (arith, long) in
    sym (append-nil text) ∙ ap (λ n. text ++ replicate n c) (sym none)

-- a piece more
pub each_more : {X : Type 0} (Is : X → List ℕ → Type 0) (xs : List X) (x : X) (text piece : List ℕ) → EachHas Is xs text → Is x piece → EachHas Is (xs ++ x ∷ []) (text ++ piece)
each_more Is [] x text piece none is = (piece, [], is, refl, ap (λ l. l ++ piece) none ∙ sym (append-nil piece))
each_more Is (y ∷ xs) x text piece (first, others, holds, each, whole) is =
    (first, others ++ piece, holds, each_more Is xs x others piece each is, ap (λ l. l ++ piece) whole ∙ append_assoc first others piece)

-- a line more
pub diagram_more : (rows : List Row) (row : Row) (text line new : List ℕ) → IsDiagram rows text → IsLine row line → new ≡ text ++ line → IsDiagram (rows ++ row ∷ []) new
diagram_more rows row text line new (lines, each, is) holds more =
    (lines ++ line, each_more IsLine rows row lines line each holds, more ∙ (ap (λ l. l ++ line) is ∙ append_assoc diagram_head lines line))

-- the first of a list, seen by view, and one more
pub seen_more : {X Y : Type 0} (view : X → Y) (xs : List X) (i : ℕ) (x : X) → x ≡ get_or xs i x → i < length xs → map view (take (i + 1) xs) ≡ map view (take i xs) ++ view x ∷ []
seen_more view xs i x is lt = ap (map view) (take_more xs i x lt ∙ ap (λ y. take i xs ++ y ∷ []) (sym is)) ∙ map_push view (take i xs) x

-- one more in a list whose elements have their places
enumerate_push : {X : Type 0} (n : ℕ) (xs : List X) (y : X) → enumerate_from n (xs ++ y ∷ []) ≡ enumerate_from n xs ++ (n + length xs, y) ∷ []
enumerate_push n [] y = let same : n ≡ n + 0 = omega arith in ap (λ (m : ℕ). (m, y) ∷ []) same
enumerate_push n (x ∷ xs) y =
    let next : n + 1 + length xs ≡ n + length (x ∷ xs) = omega arith in
    ap (λ l. (n, x) ∷ l) (enumerate_push (n + 1) xs y ∙ ap (λ (m : ℕ). enumerate_from (n + 1) xs ++ (m, y) ∷ []) next)

-- a picture that begins so, up to the groups of the first rows
pub record DrawnSoFar (head : List ℕ) (rows : List Row) (text : List ℕ) : Type 0 where
  pub groups : List ℕ
  pub each : EachHas IsGroup (enumerate_from 0 rows) groups
  pub whole : text ≡ head ++ groups

pub none_drawn : (head text : List ℕ) → text ≡ head → DrawnSoFar head [] text
none_drawn head text is = record { groups = []; each = refl; whole = is ∙ sym (append-nil head) }

-- a group more
pub group_more : (head : List ℕ) (rows : List Row) (row : Row) (place : ℕ) (text group new : List ℕ) → length rows ≡ place → DrawnSoFar head rows text
    → IsGroup (place, row) group → new ≡ text ++ group → DrawnSoFar head (rows ++ row ∷ []) new
group_more head rows row place text group new at so is more =
    let number : place ≡ 0 + length rows = omega (arith, at) in
    let here : (place, row) ≡ (0 + length rows, row) = ap (λ (n : ℕ). (n, row)) number in
    record {
      groups = so.groups ++ group;
      each =
          subst (λ rs. EachHas IsGroup rs (so.groups ++ group)) (sym (enumerate_push 0 rows row))
          (each_more IsGroup (enumerate_from 0 rows) (0 + length rows, row) so.groups group so.each (subst (λ r. IsGroup r group) here is));
      whole = more ∙ (ap (λ l. l ++ group) so.whole ∙ append_assoc head so.groups group);
    }

-- and the end
pub all_drawn : (serving packet : Addresses) (rows : List Row) (text new : List ℕ) → DrawnSoFar (svg_head serving packet (height_of (length rows))) rows text
    → new ≡ text ++ codes "</svg>\n" → IsSvg serving packet rows new
all_drawn serving packet rows text new so is =
    (so.groups, so.each, is ∙ (ap (λ l. l ++ codes "</svg>\n") so.whole ∙ append_assoc (svg_head serving packet (height_of (length rows))) so.groups (codes "</svg>\n")))

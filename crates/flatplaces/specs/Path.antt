-- The elements of a path: FILE|LINE|N|N|N|WHAT, with semicolons between them; a file may have bars and semicolons itself.
use Rattle.std.specs.Prelude.{codes, Bool, true, false, ◌&&◌, ◌||◌, not, List, [], ◌∷◌, ℕ, ◌+◌, ◌-◌, ◌*◌, ltb, leb, eqb, length, take, drop, Option, Some, None}
use Prim.Native.Char.{code}
use Rattle.std.specs.List.{starts_with}
use Rattle.integers.specs.Choice.{◌if◌else◌}
use Rattle.flatplaces.specs.declared.paths.Part.{Part}
use Rattle.flatplaces.specs.declared.paths.Part.TheVariants.{Start, File, Rest}
use Rattle.flatplaces.specs.declared.paths.Progress.{Progress}
use Rattle.flatplaces.specs.declared.paths.Element.{Element}

-- a text in quotes without them and without what escapes: what stands behind a backslash stays
abbrev pub unescaped : Bool → List ℕ → List ℕ
unescaped escaped [] = []
unescaped true (b ∷ bs) = b ∷ unescaped false bs
unescaped false (b ∷ bs) = unescaped true bs if eqb b (code "\\") else unescaped false bs if eqb b (code "\"") else b ∷ unescaped false bs

-- ---- one byte

-- before the first byte
abbrev pub begin : Progress
begin = record { part = Start; file = 0; bar = 0; bars = 0; has_digit = false; line = 0 }

-- a line's number with a digit more; 1,000,000,000 stands for all that are larger
abbrev pub with_digit : ℕ → ℕ → ℕ
with_digit n digit = n * 10 + digit if ltb n 100000000 else 1000000000

abbrev pub is_digit : ℕ → Bool
is_digit b = leb (code "0") b && leb b (code "9")

-- a bar ends a number, and the fifth one the element's head; another one may be the first
abbrev pub after_bar : Progress → ℕ → Progress
after_bar p at =
    (record p { part = Rest } if leb 4 p.bars else record p { bars = p.bars + 1; has_digit = false }) if p.has_digit
    else record p { bar = at; bars = 1; has_digit = false; line = 0 }

abbrev pub in_file : Progress → ℕ → ℕ → Progress
in_file p at b =
    after_bar p at if eqb b (code "|")
    else record p { has_digit = true; line = with_digit p.line (b - code "0") if eqb p.bars 1 else p.line } if ltb 0 p.bars && is_digit b
    else record p { bars = 0; has_digit = false; line = 0 }

-- the byte at a place, by the part that it stands in
abbrev pub stepped_in : Part → Progress → ℕ → ℕ → Progress
stepped_in Start p at b = p if eqb b (code ";") else in_file (record begin { part = File; file = at }) at b
stepped_in File p at b = in_file p at b
stepped_in Rest p at b = begin if eqb b (code ";") else p

unfoldable pub stepped : Progress → ℕ → ℕ → Progress
stepped p at b = stepped_in p.part p at b

-- ---- all elements

abbrev pub element : Progress → ℕ → Element
element p at = record { file = p.file; bar = p.bar; line = p.line; rest = at + 1 }

-- the element whose head the byte at a place ends, by the parts before and after it
abbrev pub completed_in : Part → Part → Progress → ℕ → Option Element
completed_in File Rest p at = Some (element p at)
completed_in before after p at = None

unfoldable pub completed : Progress → Progress → ℕ → Option Element
completed p q at = completed_in p.part q.part p at

abbrev pub with_element : Option Element → List Element → List Element
with_element None es = es
with_element (Some e) es = e ∷ es

abbrev pub elements_from : Progress → ℕ → List ℕ → List Element
elements_from p at [] = []
elements_from p at (b ∷ bs) = with_element (completed p (stepped p at b) at) (elements_from (stepped p at b) (at + 1) bs)

abbrev pub elements : List ℕ → List Element
elements path = elements_from begin 0 path

-- ---- the first one that says a place

abbrev pub part_of : List ℕ → ℕ → ℕ → List ℕ
part_of bs from to = take (to - from) (drop from bs)

abbrev pub contains_part : List ℕ → List ℕ → Bool
contains_part [] part = eqb (length part) 0
contains_part (b ∷ bs) part = starts_with eqb (b ∷ bs) part || contains_part bs part

-- a file of MiniZinc's library, or of the library's folder that is given
abbrev pub is_in_library : List ℕ → List ℕ → Bool
is_in_library folder file = contains_part file (codes "/share/minizinc/")
    || (ltb 0 (length folder) && contains_part file folder)

-- a declaration, `id|` or `vd`
abbrev pub is_declared : List ℕ → Element → Bool
is_declared path e =
    starts_with eqb (part_of path e.rest (length path)) (codes "id|")
    || starts_with eqb (part_of path e.rest (length path)) (codes "vd")

-- a file with a name that a system opens, in no library, and a line
abbrev pub is_usable : List ℕ → List ℕ → Element → Bool
is_usable folder path e =
    ltb 0 (length (part_of path e.file e.bar)) && leb (length (part_of path e.file e.bar)) 4096 && ltb 0 e.line && ltb e.line 1000000000
    && not (is_in_library folder (part_of path e.file e.bar))

abbrev pub or_element : Option Element → Element → Option Element
or_element None e = Some e
or_element (Some d) e = Some d

-- the first that is no declaration, else the first declaration
abbrev pub first_usable : List ℕ → List ℕ → Option Element → List Element → Option Element
first_usable folder path declared [] = declared
first_usable folder path declared (e ∷ es) =
    first_usable folder path declared es if not (is_usable folder path e)
    else first_usable folder path (or_element declared e) es if is_declared path e
    else Some e

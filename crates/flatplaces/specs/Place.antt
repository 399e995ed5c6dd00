-- The place of a statement: the first one that the longest path among its annotations says.
use Rattle.std.specs.Prelude.{Bool, List, [], ◌∷◌, ℕ, ltb, eqb, length, Option, Some, None, option_map}
use Prim.Native.Char.{code}
use Rattle.std.specs.Prelude.{codes, false}
use Rattle.std.specs.Str.{bytes_eq}
use Rattle.std.specs.Ordering.{is_gt, nat_cmp}
use Rattle.std.specs.Cmp.Lexicographic.{slice_cmp}
use Rattle.integers.specs.Choice.{◌if◌else◌}
use Rattle.flattokens.specs.Token.{Token, name, text, sign}
use Rattle.flatplaces.specs.declared.places.Before.{Before}
use Rattle.flatplaces.specs.declared.places.Before.TheVariants.{Nothing, Name, Bracket}
use Rattle.flatplaces.specs.declared.paths.Element.{Element}
use Rattle.flatplaces.specs.Path.{unescaped, elements, first_usable, part_of}

pub record Place : Type 0 where
  pub file : List ℕ
  pub line : ℕ

-- a path, and its element that says a place
pub record Origin : Type 0 where
  pub path : List ℕ
  pub element : Element

-- ---- the texts of the annotations mzn_path("..")

unfoldable pub after_note : Before → Token → Before
after_note before (name bs) = Name if bytes_eq bs (codes "mzn_path") else Nothing
after_note Name (sign b) = Bracket if eqb b (code "(") else Nothing
after_note before t = Nothing

-- ---- the best of them

abbrev pub with_path : List ℕ → Option Element → Option Origin
with_path path None = None
with_path path (Some e) = Some (record { path = path; element = e })

-- a text's path, if one of its elements says a place
unfoldable pub origin_of : List ℕ → List ℕ → Option Origin
origin_of folder bs = with_path (unescaped false bs) (first_usable folder (unescaped false bs) None (elements (unescaped false bs)))

-- a longer path comes after a shorter one, of two that are as long the later one in the order of bytes
unfoldable pub is_after : List ℕ → List ℕ → Bool
is_after path other = is_gt (slice_cmp nat_cmp path other) if eqb (length path) (length other) else ltb (length other) (length path)

unfoldable pub better : Option Origin → Option Origin → Option Origin
better None next = next
better (Some o) None = Some o
better (Some o) (Some p) = Some p if is_after p.path o.path else Some o

abbrev pub with_note : List ℕ → Before → Option Origin → Token → Option Origin
with_note folder Bracket best (text bs) = better best (origin_of folder bs)
with_note folder before best t = best

abbrev pub best_from : List ℕ → Before → Option Origin → List Token → Option Origin
best_from folder before best [] = best
best_from folder before best (t ∷ ts) = best_from folder (after_note before t) (with_note folder before best t) ts

abbrev pub placed : Origin → Place
placed o = record { file = part_of o.path o.element.file o.element.bar; line = o.element.line }

unfoldable pub place_of : List ℕ → List Token → Option Place
place_of folder notes = option_map placed (best_from folder Nothing None notes)

-- The symbol table of a text up to a place: what it says of the names declared before that place.
use Rattle.std.specs.Prelude.{Bool, true, false, List, [], ◌∷◌, ◌++◌, ◌≡◌, ℕ, ◌<◌, ◌≤◌, length, get_or}
use Rattle.integers.specs.Choice.{◌if◌else◌}
use Rattle.tokens.specs.Unread.{bytes_between, unread}
use Rattle.names.specs.Name.{look_up, declared_from}
use Rattle.symbols.specs.Tree.{Names, names_of, Roomy, IsTree, name_at}
use Rattle.symbols.specs.declared.Symbols.{Symbols}

-- the names declared before a place
unfoldable pub declared_before : List ℕ → ℕ → List (List ℕ)
declared_before bs p = declared_from false p (unread bs 0)

-- a name is none of a tree's
abbrev pub IsNew : List ℕ → Names → List ℕ → Type 0
IsNew bs t x = (i : ℕ) → i < t.count → x ≡ name_at bs t i → ⊥

-- a symbol table: the tree of its names, 1 more than the number of each one's variable or 0, and whether it has all names that are declared
pub record Table : Type 0 where
  pub tree : Names
  pub numbers : List ℕ
  pub whole : Bool

abbrev pub table_of : Symbols → Table
table_of s = record { tree = names_of s.tree; numbers = s.numbers.now; whole = s.whole }

-- there is a number for each name that there is room for
pub record Sized (s : Table) : Type 0 where
  pub room : Roomy s.tree
  pub size : length s.numbers ≡ length s.tree.entries

-- each of its names has the number of its variable; a whole table has every declared name
pub record Indexed (bs : List ℕ) (p : ℕ) (s : Table) : Type 0 where
  pub tree : IsTree bs s.tree
  pub size : length s.numbers ≡ length s.tree.entries
  pub right : (i : ℕ) → i < s.tree.count → look_up (name_at bs s.tree i) 0 (declared_before bs p) ≡ get_or s.numbers i 0
  pub all : s.whole ≡ true → (x : List ℕ) → (look_up x 0 (declared_before bs p) ≡ 0 → ⊥) → IsNew bs s.tree x → ⊥

-- names of which none has a number
pub record Cleared (bs : List ℕ) (s : Table) : Type 0 where
  pub tree : IsTree bs s.tree
  pub size : length s.numbers ≡ length s.tree.entries
  pub none : (i : ℕ) → get_or s.numbers i 0 ≡ 0
  pub lost : s.whole ≡ false

-- the names declared before a token's end are those before its place and, after a colon, the token
pub record AddsName (bs : List ℕ) (place stop : ℕ) (colon : Bool) : Type 0 where
  pub names : declared_before bs stop ≡ declared_before bs place ++ (bytes_between bs place stop ∷ [] if colon else [])

-- no name is declared between two places
pub record Latest (bs : List ℕ) (p last : ℕ) : Type 0 where
  pub before : last ≤ p
  pub same : declared_before bs p ≡ declared_before bs last

-- what entering the name between two places as variable k wants
abbrev pub Enterable : List ℕ → ℕ → ℕ → ℕ → Bool → Table → Type 0
Enterable bs place stop k colon s =
    (place ≤ stop)
    × (stop ≤ length bs)
    × (k < 18446744073709551615)
    × (length (declared_before bs place) ≡ k)
    × AddsName bs place stop colon
    × Indexed bs place s

-- before place i there are k declared names, and the names declared before a later place are these and those from i on, the first of which may stand after a colon
pub record Reached (bs : List ℕ) (i k : ℕ) (colon : Bool) : Type 0 where
  pub count : length (declared_before bs i) ≡ k
  pub few : k ≤ i
  pub on : (p : ℕ) → i ≤ p → declared_before bs p ≡ declared_before bs i ++ declared_from colon p (unread bs i)

-- and the table has them
pub record Tabled (bs : List ℕ) (i k : ℕ) (colon : Bool) (s : Table) : Type 0 where
  pub reached : Reached bs i k colon
  pub index : Indexed bs i s

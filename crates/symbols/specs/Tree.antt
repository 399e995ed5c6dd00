-- The tree of some names of a text, and where a name stands in it.
use Rattle.std.specs.Prelude.{List, ◌≡◌, ℕ, ◌+◌, ◌*◌, ◌<◌, ◌≤◌, length, get_or}
use Rattle.tokens.specs.declared.Span.{Span}
use Rattle.symbols.specs.Links.{hash, tag, first_link, Leads, Keeps}
use Rattle.symbols.specs.Entry.{place_in, tag_in, length_in, named}
use Rattle.symbols.specs.declared.tree.Tree.{Tree}
use Rattle.symbols.specs.declared.tree.Slot.{Slot}
use Rattle.symbols.specs.declared.tree.Slot.TheVariants.{Taken, Free}

-- how many names a tree has, the entry of each, and where each link leads
pub record Names : Type 0 where
  pub count : ℕ
  pub entries : List ℕ
  pub links : List ℕ

abbrev pub names_of : Tree → Names
names_of t = record { count = t.count; entries = t.entries.now; links = t.links.now }

-- its i-th name
abbrev pub name_at : List ℕ → Names → ℕ → List ℕ
name_at bs t i = named bs (get_or t.entries i 0)

-- the first links, and two for each name that there is room for
pub record Roomy (t : Names) : Type 0 where
  pub few : length t.entries ≤ 65535
  pub size : length t.links ≡ 8192 + 2 * length t.entries

-- its names stand in the text, each by its hash, and are all different, a link leads to one of them, and to a later one than that it comes from, and each is led to
pub record IsTree (bs : List ℕ) (t : Names) : Type 0 where
  pub room : Roomy t
  pub few : t.count ≤ length t.entries
  pub fits : (s : ℕ) → get_or t.links s 0 ≤ t.count
  pub later : (s : ℕ) → (get_or t.links s 0 ≡ 0 → ⊥) → s + 2 < 8192 + 2 * get_or t.links s 0
  pub inside : (i : ℕ) → i < t.count → place_in (get_or t.entries i 0) + length_in (get_or t.entries i 0) ≤ length bs
  pub tagged : (i : ℕ) → i < t.count → tag_in (get_or t.entries i 0) ≡ tag (hash (name_at bs t i))
  pub distinct : (i j : ℕ) → i < t.count → j < t.count → name_at bs t i ≡ name_at bs t j → i ≡ j
  pub leads : (i : ℕ) → i < t.count → Leads t.links (name_at bs t i) 0 (first_link (hash (name_at bs t i))) (i + 1)

-- a name is none of them, and where a link, which leads nowhere, came to lead to another one, it would be led there
pub record Vacant (bs : List ℕ) (t : Names) (x : List ℕ) (s : ℕ) : Type 0 where
  pub none : (i : ℕ) → i < t.count → x ≡ name_at bs t i → ⊥
  pub free : get_or t.links s 0 ≡ 0
  pub inside : s < 8192 + 2 * t.count
  pub trail : (w : ℕ) (after : List ℕ) → Keeps t.links after → get_or after s 0 ≡ w → Leads after x 0 (first_link (hash x)) w

abbrev pub FindsSlot : List ℕ → Names → List ℕ → Slot → Type 0
FindsSlot bs t x (Taken i) = (i < t.count) × (x ≡ name_at bs t i)
FindsSlot bs t x (Free s) = Vacant bs t x s

-- there is room for a name
abbrev pub HasRoom : Names → Span → Type 0
HasRoom t s = (t.count < length t.entries) × (s.place < 1099511627776) × (s.stop < s.place + 64)

-- one name more
pub record Grows (bs : List ℕ) (t new : Names) (x : List ℕ) : Type 0 where
  pub count : new.count ≡ t.count + 1
  pub room : length new.entries ≡ length t.entries
  pub kept : (i : ℕ) → i < t.count → get_or new.entries i 0 ≡ get_or t.entries i 0
  pub last : name_at bs new t.count ≡ x
  pub tree : IsTree bs new

-- The links that a name goes by in the tree of names. That a name is found rests on none of these numbers: only on the same name going by the same links.
use Rattle.std.specs.Prelude.{List, fold, ◌≡◌, ◌⊎◌, ℕ, zero, suc, ◌+◌, ◌-◌, ◌*◌, ◌/◌, ◌%◌, ◌^◌, ◌<◌, ltb, get_or}
use Rattle.integers.specs.Choice.{◌if◌else◌}

-- a hash and one byte more; the hash of a name
unfoldable pub mix : ℕ → ℕ → ℕ
mix h b = (h * 257 + b) % 4294967296

unfoldable pub hash : List ℕ → ℕ
hash x = fold mix 0 x * 2654435769 % 4294967296

-- the first link of a hash
abbrev pub first_link : ℕ → ℕ
first_link h = h / 2 ^ 19

-- what the entry of a name keeps of its hash
unfoldable pub tag : ℕ → ℕ
tag h = h % 262144

-- the side of a name at a depth: a bit of its hash, then of its bytes
unfoldable pub side : ℕ → List ℕ → ℕ → ℕ
side h x d = (h / 2 ^ (18 - d) % 2) if ltb d 19 else (get_or x ((d - 19) / 8) 0 / 2 ^ ((d - 19) % 8) % 2)

-- the link from the name of a variable, given by 1 more than its number
abbrev pub next_link : List ℕ → ℕ → ℕ → ℕ
next_link x d v = 8192 + 2 * (v - 1) + side (hash x) x d

-- from a link on, at a depth, the links of a name lead to the variable v, given by 1 more than its number, in so many steps at most
unfoldable pub leads_in : ℕ → List ℕ → List ℕ → ℕ → ℕ → ℕ → Type 0
leads_in zero links x d s v = ⊥
leads_in (suc n) links x d s v = (get_or links s 0 ≡ v) ⊎ ((0 < get_or links s 0) × leads_in n links x (d + 1) (next_link x d (get_or links s 0)) v)

-- some number of steps does: that none does is impossible, so that one proof is as good as another
pub record Leads (links x : List ℕ) (d s v : ℕ) : Type 0 where
  pub leads : ((n : ℕ) → leads_in n links x d s v → ⊥) → ⊥

-- every link that leads somewhere still leads there
pub record Keeps (links after : List ℕ) : Type 0 where
  pub same : (s : ℕ) → (get_or links s 0 ≡ 0 → ⊥) → get_or after s 0 ≡ get_or links s 0

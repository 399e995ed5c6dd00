-- 02, wish 7, "One encoding for one variable": the blocks of 24, 25, 27 and 28 whose i or x two or more constraints share, and what fill picks for
-- them.
use Rattle.std.specs.Prelude.{Bool, not, ◌&&◌, List, [], ◌∷◌, ◌++◌, map, ℕ, suc, ◌+◌, eqb, ltb, ℤ, pos, length, get_or, set, replicate}
use Rattle.integers.specs.Choice.{◌if◌else◌}
use Rattle.integers.specs.Number.{◌⊖◌, ◌⊗◌, ◌≟◌, count, +0, +1, -1}
use Rattle.integers.specs.Lists.{all, any, how_many}
use Rattle.integers.specs.Bounds.{◌to◌, within, values}
use Rattle.integers.specs.Terms.{Valuation, Term, ◌·◌}
use Rattle.integers.specs.declared.Bounds.{Bounds}
use Rattle.words.specs.Limit as Limit
use Rattle.rowsystems.specs.Row.{Row, sum=0, product}
use Rattle.models.specs.Builtin.{Builtin}
use Rattle.models.specs.Meaning.{member}
use Rattle.models.specs.Model.{Constraint, var, vars, nums, past}
use Rattle.rules.specs.Block.{Ref, source, aux, Block, block}
use Rattle.rules.specs.Parts.{Z, bits, one, one_bit, chosen, nth}
use Rattle.rules.specs.Rule.{rule}
use Rattle.rules.specs.Pick.{bit_of, first_bit, pick}

-- ---- which variables are shared

-- 24, 25, 27, 28 choose by the value of one variable, their i or x
pub data Choice : Type 0 where
  of_element : (i : ℕ) (ns : List ℤ) (c : ℕ) → Choice
  of_var_element : (i : ℕ) (xs : List ℕ) (c : ℕ) → Choice
  of_set : (x : ℕ) (S : List ℤ) → Choice
  of_set_reif : (x : ℕ) (S : List ℤ) (r : ℕ) → Choice
  no_choice : Choice

-- the choice of a constraint, by its code, with the arguments of its builtin
unfoldable pub choice : Constraint → Choice
choice c =
    let ws = c.arguments in
    of_element (var ws 0) (nums ws 1) (var ws (past ws 1)) if eqb c.code 24
    else of_var_element (var ws 0) (vars ws 1) (var ws (past ws 1)) if eqb c.code 25
    else of_set (var ws 0) (nums ws 1) if eqb c.code 27
    else of_set_reif (var ws 0) (nums ws 1) (var ws (past ws 1)) if eqb c.code 28
    else no_choice

-- "a variable that is i in 24, 25 or x in 27, 28": one, or none
unfoldable pub encodes : Choice → List ℕ
encodes (of_element i ns c) = i ∷ []
encodes (of_var_element i xs c) = i ∷ []
encodes (of_set x S) = x ∷ []
encodes (of_set_reif x S r) = x ∷ []
encodes no_choice = []

-- ".. for two or more constraints"
unfoldable pub shared_in : List Constraint → ℕ → Bool
shared_in cs v = ltb 1 (how_many (λ c. any (eqb v) (encodes (choice c))) cs)

-- the choice is by a shared variable
unfoldable pub shares : (ℕ → Bool) → Choice → Bool
shares shared ch = any shared (encodes ch)

-- ---- the record of encoded variables: for each variable the number of its first bit, 0 while it has none (0 is the number of a source variable)

abbrev pub Encoded : Type 0
Encoded = List ℕ

abbrev pub none_yet : Encoded
none_yet = replicate Limit.variables 0

abbrev pub first_of : Encoded → ℕ → ℕ
first_of e x = get_or e x 0

-- "encoded once .. at the first of them": the record after a block of these variables, its auxiliaries numbered from `first` on
unfoldable pub encoded_after : (ℕ → Bool) → ℕ → Encoded → List ℕ → Encoded
encoded_after shared first e [] = e
encoded_after shared first e (x ∷ xs) = set e x first if shared x && eqb (first_of e x) 0 else e

-- ---- the blocks

-- the elements that pass a test
abbrev pub keep : {A : Type 0} → (A → Bool) → List A → List A
keep t [] = []
keep t (x ∷ xs) = let rest = keep t xs in x ∷ rest if t x else rest

-- z := x×b for each label: x its variable, b its bit, the z from n on
unfoldable pub bit_products : {A : Type 0} → (A → ℕ) → (A → Ref) → List A → ℕ → List (Row Ref)
bit_products x b [] n = []
bit_products x b (l ∷ ls) n = product (aux n) (source (x l)) (b l) ∷ bit_products x b ls (suc n)

module _ (β : ℕ → Bounds) (e : Encoded) where
  -- the bit of x's value v: the block's own while x has none, else an earlier block's
  unfoldable pub value_bit : ℕ → ℤ → Ref
  value_bit x v = let k = count (v ⊖ (β x).lower) in aux k if eqb (first_of e x) 0 else source (first_of e x + k)

  -- "over all its declared values, at the first of them, with Σb−1=0 and Σv×b_v−x=0. A later constraint uses those bits and omits both rows."
  unfoldable pub new_bits : ℕ → List Bounds
  new_bits x = bits (values (β x)) if eqb (first_of e x) 0 else []

  unfoldable pub new_rows : ℕ → List (Row Ref)
  new_rows x = one_bit (values (β x)) ∷ chosen (λ v. v) (values (β x)) 0 x ∷ [] if eqb (first_of e x) 0 else []

  -- Σ w×b over the values that pass the test, rising
  unfoldable pub kept : (ℤ → ℤ) → (ℤ → Bool) → ℕ → List (Term Ref)
  kept w t x = map (λ v. w v · value_bit x v) (keep t (values (β x)))

  -- "Where 24, 25 or 27 leave values out, one row "sum of the bits left out = 0" comes next, rising, before the others"
  unfoldable pub left_out : (ℤ → Bool) → ℕ → List (Row Ref)
  left_out t x = [] if all t (values (β x)) else sum=0 (kept one (λ v. not (t v)) x) +0 ∷ []

  -- Σ w×b − y = 0 over the values that pass the test
  unfoldable pub kept_sum : (ℤ → ℤ) → (ℤ → Bool) → ℕ → ℕ → Row Ref
  kept_sum w t x y = sum=0 (kept w t x ++ (-1 · source y ∷ [])) +0

  unfoldable pub shared_rule : Choice → Block
  -- 24: Σas_j×b_j−c=0
  shared_rule (of_element i ns c) =
      let inside = within (+1 to pos (length ns)) in
      block (new_bits i) (new_rows i ++ (left_out inside i ++ (kept_sum (nth +0 ns) inside i c ∷ [])))
  -- 25, aux after the bits z_j in Z(as_j) for the j that are left: z_j:=as_j×b_j; Σz−c=0
  shared_rule (of_var_element i xs c) =
      let inside = within (+1 to pos (length xs)) in
      let js = keep inside (values (β i)) in
      let n = length (new_bits i) in
      block (new_bits i ++ map (λ j. Z (β (nth 0 xs j))) js)
      (new_rows i ++ (left_out inside i ++ (bit_products (nth 0 xs) (value_bit i) js n ++ (chosen one js n c ∷ []))))
  -- 27: nothing more
  shared_rule (of_set x S) = block (new_bits x) (new_rows x ++ left_out (λ v. member v S) x)
  -- 28: Σb_v−r=0 over the members v inside x's bounds; "28 has none" left out
  shared_rule (of_set_reif x S r) = block (new_bits x) (new_rows x ++ (kept_sum one (λ v. member v S) x r ∷ []))
  shared_rule no_choice = block [] []

-- the block of a builtin, given which variables are shared and which are encoded
unfoldable pub rule_after : (ℕ → Bounds) → (ℕ → Bool) → Encoded → Choice → Builtin → Block
rule_after β shared e ch b = shared_rule β e ch if shares shared ch else rule β b

-- ---- what fill picks

module _ (β : ℕ → Bounds) (e : Encoded) (σ : Valuation) where
  unfoldable pub new_pick : ℕ → List ℤ
  new_pick x = first_bit (λ v. v ≟ σ x) (values (β x)) if eqb (first_of e x) 0 else []

  unfoldable pub shared_pick : Choice → List ℤ
  shared_pick (of_element i ns c) = new_pick i
  shared_pick (of_var_element i xs c) =
      new_pick i ++ map (λ j. σ (nth 0 xs j) ⊗ bit_of (j ≟ σ i)) (keep (within (+1 to pos (length xs))) (values (β i)))
  shared_pick (of_set x S) = new_pick x
  shared_pick (of_set_reif x S r) = new_pick x
  shared_pick no_choice = []

unfoldable pub pick_after : (ℕ → Bounds) → (ℕ → Bool) → Encoded → Valuation → Choice → Builtin → List ℤ
pick_after β shared e σ ch b = shared_pick β e σ ch if shares shared ch else pick β σ b

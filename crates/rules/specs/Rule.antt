-- 01, Rules of the 28 codes, and 02: the block of each builtin. The bounds of every variable are given; lo and hi are 01's.
use Rattle.std.specs.Prelude.{Bool, true, false, List, [], ◌∷◌, ◌++◌, map, ℕ, zero, suc, ℤ, pos, length}
use Rattle.integers.specs.Number.{◌⊕◌, ◌⊖◌, neg, max_z, abs_z, count, +0, +1, +2, -1, -2}
use Rattle.integers.specs.Bounds.{◌to◌, bit, values}
use Rattle.integers.specs.Terms.{Term, ◌·◌}
use Rattle.integers.specs.declared.Bounds.{Bounds}
use Rattle.rowsystems.specs.Row.{Row, sum≤0, sum=0, product}
use Rattle.models.specs.Builtin.{Builtin, int_eq, int_le, int_lt, int_ne, int_le_reif, int_plus, int_times, int_abs, int_max, int_lin_eq, int_lin_le, int_lin_ne, int_lin_eq_reif, int_eq_reif, int_lin_le_reif, bool2int, bool_not, bool_and, bool_or, bool_xor, bool_clause, array_bool_and, array_bool_xor, array_int_element, array_var_int_element, array_int_maximum, set_in, set_in_reif, int_min, int_lt_reif, int_ne_reif, int_lin_ne_reif, array_int_minimum, bool_eq_reif, bool_le_reif, bool_lt_reif, int_div, int_mod, int_pow}
use Rattle.rules.specs.Block.{Ref, source, aux, Block, block}
use Rattle.rules.specs.Parts.{Z, end_products, L, U, half_less, ◌─◌≤0, ◌─◌=0, sources, each, bits, weighted, one, one_bit, chosen, products, nth, places, members}
use Rattle.rules.specs.Division.{division_rows, quotient_bounds, remainder_row}
use Rattle.rules.specs.Power.{chain}

-- two rows of 13, where Σ is equal to c, and of 32, where it is not
unfoldable pub zero_rows : Bool → ℤ → ℕ → List (Row Ref)
zero_rows true W r =
    sum≤0 (+1 · aux 0 ∷ -2 · aux 2 ∷ W · source r ∷ []) (neg W)
    ∷ sum≤0 (-1 · aux 0 ∷ +2 · aux 2 ∷ -1 · source r ∷ []) +1
    ∷ []
zero_rows false W r =
    sum≤0 (+1 · aux 0 ∷ -2 · aux 2 ∷ neg W · source r ∷ []) +0
    ∷ sum≤0 (-1 · aux 0 ∷ +2 · aux 2 ∷ +1 · source r ∷ []) +0
    ∷ []

-- the last two rows of 34, where a and b are equal, and of 20, where they are not
unfoldable pub same_rows : Bool → ℕ → ℕ → ℕ → List (Row Ref)
same_rows true a b r =
    aux 0 ─ aux 1 =0
    ∷ sum=0 (-1 · source r ∷ -1 · source a ∷ -1 · source b ∷ +1 · aux 0 ∷ +1 · aux 1 ∷ []) +1
    ∷ []
same_rows false a b r =
    sum=0 (+1 · source a ∷ -1 · aux 0 ∷ -1 · source b ∷ +1 · aux 1 ∷ []) +0
    ∷ sum=0 (+1 · aux 0 ∷ +1 · aux 1 ∷ -1 · source r ∷ []) +0
    ∷ []

-- 20 bool_xor(a,b,r), aux x, y in 0..1: x:=r×a; y:=r×b; a−x−b+y=0; x+y−r=0.
-- 34 bool_eq_reif(a,b,r), aux x, y in 0..1: x:=r×a; y:=r×b; x−y=0; −r−a−b+x+y+1=0.
unfoldable pub same_reified : Bool → ℕ → ℕ → ℕ → Block
same_reified equal a b r =
    block (bit ∷ bit ∷ []) (product (aux 0) (source r) (source a) ∷ product (aux 1) (source r) (source b) ∷ same_rows equal a b r)

-- 02, wish 10, last in 8, 12 to 14, 31, 32: "for the sign bit b of x .. x+(U+1)×b−U≤0"; U is the most that x can be
unfoldable pub only_negative : Ref → Ref → ℤ → Row Ref
only_negative x b u = sum≤0 (+1 · x ∷ (u ⊕ +1) · b ∷ []) (neg u)

module _ (β : ℕ → Bounds) where
  abbrev pub lo : ℕ → ℤ
  lo v = (β v).lower

  abbrev pub hi : ℕ → ℤ
  hi v = (β v).upper

  -- 12 to 15, 31, 32: "Σ−x−c=0", x the first auxiliary
  unfoldable pub linked : List (Term ℕ) → ℤ → Row Ref
  linked asbs c = sum=0 (sources asbs ++ (-1 · aux 0 ∷ [])) (neg c)

  -- 12 to 14, 31, 32: "aux x in L..U, b, z in Z(x)"
  unfoldable pub sign_split : List (Term ℕ) → ℤ → List Bounds
  sign_split asbs c = (L β asbs c to U β asbs c) ∷ bit ∷ Z (L β asbs c to U β asbs c) ∷ []

  -- 4, 5, 9, 29, 30: a−b+d≤0 where r is 1, a−b+P×r+d−P≤0; where r is 0, a−b−P×r+d≤0; P=hi a−lo b+d, the most that a−b+d can be
  unfoldable pub where_one : ℤ → ℕ → ℕ → Ref → Row Ref
  where_one d a b r =
      let P = hi a ⊖ lo b ⊕ d in
      sum≤0 (+1 · source a ∷ -1 · source b ∷ P · r ∷ []) (d ⊖ P)

  unfoldable pub where_zero : ℤ → ℕ → ℕ → Ref → Row Ref
  where_zero d a b r =
      let P = hi a ⊖ lo b ⊕ d in
      sum≤0 (+1 · source a ∷ -1 · source b ∷ neg P · r ∷ []) d

  -- 5, with d=0 and e=1, and 30, with d=1 and e=0: a−b+d≤0 where r is 1, b−a+e≤0 where r is 0
  unfoldable pub order_reified : ℤ → ℤ → ℕ → ℕ → ℕ → Block
  order_reified d e a b r = block [] (where_one d a b (source r) ∷ where_zero e b a (source r) ∷ [])

  -- 8 int_abs(x,y), aux b, z in Z(x): z:=b×x; y−x+2×z=0; −y≤0; x+(U+1)×b−U≤0, U=hi x.
  unfoldable pub absolute : ℕ → ℕ → Block
  absolute x y =
      block (bit ∷ Z (β x) ∷ [])
      (product (aux 1) (aux 0) (source x)
      ∷ sum=0 (+1 · source y ∷ -1 · source x ∷ +2 · aux 1 ∷ []) +0
      ∷ sum≤0 (-1 · source y ∷ []) +0
      ∷ only_negative (source x) (aux 0) (hi x)
      ∷ [])

  -- 9 and 29, aux r: x−y≤0; u−v≤0; y−x≤0 where r is 0; v−u≤0 where r is 1; x−y+1≤0 where r is 1
  unfoldable pub touching : ℕ → ℕ → ℕ → ℕ → Block
  touching x y u v =
      block (bit ∷ [])
      (source x ─ source y ≤0
      ∷ source u ─ source v ≤0
      ∷ where_zero +0 y x (aux 0)
      ∷ where_one +0 v u (aux 0)
      ∷ where_one +1 x y (aux 0)
      ∷ [])

  -- 12 int_lin_ne, aux x in L..U, b, z in Z(x): Σ−x−c=0; z:=b×x; −x+2×z+1≤0; x+(U+1)×b−U≤0.
  unfoldable pub lin_not_equal : List (Term ℕ) → ℤ → Block
  lin_not_equal asbs c =
      block (sign_split asbs c)
      (linked asbs c
      ∷ product (aux 2) (aux 1) (aux 0)
      ∷ sum≤0 (-1 · aux 0 ∷ +2 · aux 2 ∷ []) +1
      ∷ only_negative (aux 0) (aux 1) (U β asbs c)
      ∷ [])

  -- 13 int_lin_eq_reif(as,bs,c,r), aux as 12: Σ−x−c=0; z:=b×x; x−2×z+W×r−W≤0; −x+2×z−r+1≤0; x+(U+1)×b−U≤0; W=max(|L|,|U|).
  -- 32 int_lin_ne_reif is code 13 with x−2×z−W×r≤0 and −x+2×z+r≤0 for the third and fourth row.
  unfoldable pub zero_reified : Bool → List (Term ℕ) → ℤ → ℕ → Block
  zero_reified equal asbs c r =
      let W = max_z (abs_z (L β asbs c)) (abs_z (U β asbs c)) in
      block (sign_split asbs c)
      (linked asbs c ∷ product (aux 2) (aux 1) (aux 0) ∷ (zero_rows equal W r ++ (only_negative (aux 0) (aux 1) (U β asbs c) ∷ [])))

  -- 15 int_lin_le_reif, aux x in L..U: Σ−x−c=0; x+U×r−U≤0; −x+(L−1)×r+1≤0.
  unfoldable pub lin_less_equal_reified : List (Term ℕ) → ℤ → ℕ → Block
  lin_less_equal_reified asbs c r =
      block ((L β asbs c to U β asbs c) ∷ [])
      (linked asbs c
      ∷ sum≤0 (+1 · aux 0 ∷ U β asbs c · source r ∷ []) (neg (U β asbs c))
      ∷ sum≤0 (-1 · aux 0 ∷ (L β asbs c ⊖ +1) · source r ∷ []) +1
      ∷ [])

  -- 24 array_int_element(i,as,c), as numbers; aux b_j for j from max(1,lo i) to min(n,hi i): Σb−1=0; Σj×b_j−i=0; Σas_j×b_j−c=0.
  unfoldable pub number_element : ℕ → List ℤ → ℕ → Block
  number_element i ns c =
      let js = values (places (β i) (length ns)) in
      block (bits js) (one_bit js ∷ chosen (λ j. j) js 0 i ∷ chosen (nth +0 ns) js 0 c ∷ [])

  -- 25 array_var_int_element, aux b_j, then z_j in Z(as_j): first two rows of 24; z_j:=as_j×b_j; Σz−c=0.
  unfoldable pub variable_element : ℕ → List ℕ → ℕ → Block
  variable_element i xs c =
      let js = values (places (β i) (length xs)) in
      block (bits js ++ map (λ j. Z (β (nth 0 xs j))) js)
      (one_bit js ∷ chosen (λ j. j) js 0 i ∷ (products (nth 0 xs) js 0 (length js) ++ (chosen one js (length js) c ∷ [])))

  -- 02, wish 10, last in 26 and 33: "for each k below n, x_k−m+K×(sum of b_j for j above k)+1−K≤0, K=hi x_k−lo m+1, the K×b_j being terms. The
  -- minima take .. m−x_k, K=hi m−lo x_k+1." u and v of x_k are x_k and m, or m and x_k; b_k is the auxiliary k.
  unfoldable pub first_only : (ℕ → ℕ) → (ℕ → ℕ) → List ℕ → ℕ → List (Row Ref)
  first_only u v [] k = []
  first_only u v (x ∷ []) k = []
  first_only u v (x ∷ (y ∷ ys)) k =
      let K = hi (u x) ⊖ lo (v x) ⊕ +1 in
      sum≤0 (+1 · source (u x) ∷ -1 · source (v x) ∷ weighted (λ l. K) (y ∷ ys) (suc k)) (+1 ⊖ K) ∷ first_only u v (y ∷ ys) (suc k)

  -- 26 array_int_maximum(m,xs), aux all b_j, all z_j in Z(x_j): Σb−1=0; z_j:=x_j×b_j; Σz−m=0; each x_j−m≤0; the rows of wish 10.
  -- 33 array_int_minimum is code 26 with m−x_j≤0.
  unfoldable pub one_of : (ℕ → ℕ) → (ℕ → ℕ) → ℕ → List ℕ → Block
  one_of u v m xs =
      block (bits xs ++ map (λ x. Z (β x)) xs)
      (one_bit xs
      ∷ (products (λ x. x) xs 0 (length xs)
      ++ (chosen one xs (length xs) m ∷ (map (λ x. source (u x) ─ source (v x) ≤0) xs ++ first_only u v xs 0))))

  -- 27 set_in(x,S), S numbers, repeats counted once; aux b_v for the members v inside x's bounds, rising: Σb−1=0; Σv×b_v−x=0.
  unfoldable pub in_set : ℕ → List ℤ → Block
  in_set x S =
      let vs = members S (β x) in
      block (bits vs) (one_bit vs ∷ chosen (λ v. v) vs 0 x ∷ [])

  -- 28 set_in_reif(x,S,r), aux b_v for every v in x's bounds: both rows of 27, then Σb_v−r=0 over the members v inside x's bounds, rising,
  -- repeats counted once.
  unfoldable pub in_set_reified : ℕ → List ℤ → ℕ → Block
  in_set_reified x S r =
      let vs = values (β x) in
      block (bits vs)
      (one_bit vs
      ∷ chosen (λ v. v) vs 0 x
      ∷ sum=0 (map (λ v. +1 · aux (count (v ⊖ lo x))) (members S (β x)) ++ (-1 · source r ∷ [])) +0
      ∷ [])

  -- 37 int_div(n,d,q), aux α, β, p (bounded as in code 7, from d and q), γ: p:=d×q; γ:=α×β; the ten rows.
  unfoldable pub division : ℕ → ℕ → ℕ → Block
  division n d q =
      let P = end_products (β d) (β q) in
      block (bit ∷ bit ∷ P ∷ bit ∷ [])
      (division_rows (β n) (β d) P (source n) (source d) (source q) (aux 0) (aux 1) (aux 2) (aux 3))

  -- 38 int_mod(n,d,r) "puts an auxiliary q first, .. and ends with p+r−n=0".
  unfoldable pub left_over : ℕ → ℕ → ℕ → Block
  left_over n d r =
      let Q = quotient_bounds (β n) in
      let P = end_products (β d) Q in
      block (Q ∷ bit ∷ bit ∷ P ∷ bit ∷ [])
      (division_rows (β n) (β d) P (source n) (source d) (aux 0) (aux 1) (aux 2) (aux 3) (aux 4)
      ++ (remainder_row (aux 3) (source r) (source n) ∷ []))

  -- 39 int_pow(x,k,z): z−1=0 for k=0; else the chain of products, the last one p: p−z=0.
  unfoldable pub powered : ℕ → ℕ → ℕ → Block
  powered x zero z = block [] (sum=0 (+1 · source z ∷ []) -1 ∷ [])
  powered x (suc k) z =
      let c = chain (β x) x (suc k) in
      block c.auxiliaries (c.products ++ (c.result ─ source z =0 ∷ []))

  unfoldable pub rule : Builtin → Block
  -- 1 int_eq(a,b): a−b=0. 2 int_le: a−b≤0. 3 int_lt: a−b+1≤0.
  rule (int_eq a b) = block [] (source a ─ source b =0 ∷ [])
  rule (int_le a b) = block [] (source a ─ source b ≤0 ∷ [])
  rule (int_lt a b) = block [] (sum≤0 (+1 · source a ∷ -1 · source b ∷ []) +1 ∷ [])
  -- 4 int_ne(a,b), aux r: a−b−P×r+1≤0; b−a+Q×r+1−Q≤0; P=hi a−lo b+1, Q=hi b−lo a+1.
  rule (int_ne a b) = block (bit ∷ []) (where_zero +1 a b (aux 0) ∷ where_one +1 b a (aux 0) ∷ [])
  -- 5 int_le_reif(a,b,r): a−b+P×r−P≤0; b−a−Q×r+1≤0; P=hi a−lo b, Q=hi b−lo a+1.
  rule (int_le_reif a b r) = order_reified +0 +1 a b r
  -- 6 int_plus(a,b,c): a+b−c=0.
  rule (int_plus a b c) = block [] (sum=0 (+1 · source a ∷ +1 · source b ∷ -1 · source c ∷ []) +0 ∷ [])
  -- 7 int_times(a,b,c), aux p (least and largest of the four end products): p:=a×b; p−c=0.
  rule (int_times a b c) = block (end_products (β a) (β b) ∷ []) (product (aux 0) (source a) (source b) ∷ aux 0 ─ source c =0 ∷ [])
  rule (int_abs x y) = absolute x y
  -- 9 int_max(a,b,c), aux r: a−c≤0; b−c≤0; c−a−P×r≤0; c−b+Q×r−Q≤0; a−c+K×r+1−K≤0; P=hi c−lo a, Q=hi c−lo b, K=hi a−lo c+1.
  rule (int_max a b c) = touching a c b c
  -- 10 int_lin_eq(as,bs,c): Σ−c=0. 11 int_lin_le: Σ−c≤0.
  rule (int_lin_eq asbs c) = block [] (sum=0 (sources asbs) (neg c) ∷ [])
  rule (int_lin_le asbs c) = block [] (sum≤0 (sources asbs) (neg c) ∷ [])
  rule (int_lin_ne asbs c) = lin_not_equal asbs c
  rule (int_lin_eq_reif asbs c r) = zero_reified true asbs c r
  -- 14 int_eq_reif(a,b,r): 13 with as=1,−1, c=0.
  rule (int_eq_reif a b r) = zero_reified true (+1 · a ∷ -1 · b ∷ []) +0 r
  rule (int_lin_le_reif asbs c r) = lin_less_equal_reified asbs c r
  -- 16 bool2int(a,b): a−b=0. 17 bool_not(a,b): a+b−1=0.
  rule (bool2int a b) = block [] (source a ─ source b =0 ∷ [])
  rule (bool_not a b) = block [] (sum=0 (+1 · source a ∷ +1 · source b ∷ []) -1 ∷ [])
  -- 18 bool_and(a,b,r): r−a≤0; r−b≤0; a+b−r−1≤0.
  rule (bool_and a b r) =
      block []
      (source r ─ source a ≤0
      ∷ source r ─ source b ≤0
      ∷ sum≤0 (+1 · source a ∷ +1 · source b ∷ -1 · source r ∷ []) -1
      ∷ [])
  -- 19 bool_or(a,b,r): r−a−b≤0; a+b−2×r≤0.
  rule (bool_or a b r) =
      block []
      (sum≤0 (+1 · source r ∷ -1 · source a ∷ -1 · source b ∷ []) +0
      ∷ sum≤0 (+1 · source a ∷ +1 · source b ∷ -2 · source r ∷ []) +0
      ∷ [])
  rule (bool_xor a b r) = same_reified false a b r
  -- 21 bool_clause(as,bs), two lists, m the second's length: −Σas+Σbs+1−m≤0.
  rule (bool_clause xs ys) = block [] (sum≤0 (each -1 xs ++ each +1 ys) (+1 ⊖ pos (length ys)) ∷ [])
  -- 22 array_bool_and(as,r): each r−as_i≤0; Σas−r−n+1≤0.
  rule (array_bool_and xs r) =
      block [] (map (λ x. source r ─ source x ≤0) xs ++ (sum≤0 (each +1 xs ++ (-1 · source r ∷ [])) (+1 ⊖ pos (length xs)) ∷ []))
  -- 23 array_bool_xor(as); 02, Wish 5: "aux t from 0 to (n−1)/2 rounded down, 0 for an empty list; Σ−2×t−1=0."
  rule (array_bool_xor xs) = block ((+0 to pos (half_less (length xs))) ∷ []) (sum=0 (each +1 xs ++ (-2 · aux 0 ∷ [])) -1 ∷ [])
  rule (array_int_element i ns c) = number_element i ns c
  rule (array_var_int_element i xs c) = variable_element i xs c
  rule (array_int_maximum m xs) = one_of (λ x. x) (λ x. m) m xs
  rule (set_in x S) = in_set x S
  rule (set_in_reif x S r) = in_set_reified x S r
  -- 29 int_min(a,b,c), aux r: c−a≤0; c−b≤0; a−c−P×r≤0; b−c+Q×r−Q≤0; c−a+K×r+1−K≤0; P=hi a−lo c, Q=hi b−lo c, K=hi c−lo a+1.
  rule (int_min a b c) = touching c a c b
  -- 30 int_lt_reif(a,b,r): a−b+P×r+1−P≤0; b−a−Q×r≤0; P=hi a−lo b+1, Q=hi b−lo a.
  rule (int_lt_reif a b r) = order_reified +1 +0 a b r
  -- 31 int_ne_reif is 32 with 1, −1, c=0.
  rule (int_ne_reif a b r) = zero_reified false (+1 · a ∷ -1 · b ∷ []) +0 r
  rule (int_lin_ne_reif asbs c r) = zero_reified false asbs c r
  rule (array_int_minimum m xs) = one_of (λ x. m) (λ x. x) m xs
  rule (bool_eq_reif a b r) = same_reified true a b r
  -- 35 bool_le_reif(a,b,r): −a−r+1≤0; b−r≤0; a−b+r−1≤0.
  rule (bool_le_reif a b r) =
      block []
      (sum≤0 (-1 · source a ∷ -1 · source r ∷ []) +1
      ∷ source b ─ source r ≤0
      ∷ sum≤0 (+1 · source a ∷ -1 · source b ∷ +1 · source r ∷ []) -1
      ∷ [])
  -- 36 bool_lt_reif(a,b,r): a+r−1≤0; r−b≤0; b−a−r≤0.
  rule (bool_lt_reif a b r) =
      block []
      (sum≤0 (+1 · source a ∷ +1 · source r ∷ []) -1
      ∷ source r ─ source b ≤0
      ∷ sum≤0 (+1 · source b ∷ -1 · source a ∷ -1 · source r ∷ []) +0
      ∷ [])
  rule (int_div n d q) = division n d q
  rule (int_mod n d r) = left_over n d r
  rule (int_pow x k z) = powered x k z

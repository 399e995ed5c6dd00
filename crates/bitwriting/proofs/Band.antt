-- Lines of a band: one is put, and the others stay.
use Rattle.std.proofs.Common.{◌≡◌, refl, sym, ap, subst, ◌∙◌, List, ◌++◌, ℕ, suc, ◌+◌, ◌*◌, ◌-◌, ◌<◌, ◌≤◌, arith, ℤ, length, get_or, take, drop, replicate, length-drop, ext_get_or}
use native.Mathlib.Decide.{dec_le, ℕ_discrete}
use lib.ListN.{get_or-append, get_or-replicate, length-replicate}
use lib.Seq.{length-take-le, take_at, drop_at, drop-drop, get_or-take, get_or-drop}
use borrow.Rule.Slice.PartMut.{put_mid, mid_of, post_of, same_len_mid, drop_put}
use Rattle.std.proofs.Math.Nat.{suc-mul, mul-le-mul_right}
use Rattle.integers.specs.Number.{+0}
use Rattle.bitwriting.specs.Bands.{line_at, EachLine}

-- one of h lines ends inside the band
pub line-inside : (n h q l : ℕ) → h * n ≤ l → q < h → q * n + n ≤ l
line-inside n h q l r v =
    let a : suc q ≤ h = omega arith in
    omega (arith, suc-mul q n, mul-le-mul_right n a)

-- the part that is lent is the line
pub lent : (n q : ℕ) (band : List ℤ) → mid_of (q * n) (q * n + n - q * n) band ≡ line_at n q band
lent n q band =
    let e : q * n + n - q * n ≡ n = omega arith in
    ap (λ k. take k (drop (q * n) band)) e

pub line-length : (n q : ℕ) (band : List ℤ) → q * n + n ≤ length band → length (line_at n q band) ≡ n
line-length n q band h = let d = length-drop (q * n) band in length-take-le n (drop (q * n) band) (omega arith)

pub line-get : (n q : ℕ) (band : List ℤ) (j : ℕ) → j < n → get_or (line_at n q band) j +0 ≡ get_or band (q * n + j) +0
line-get n q band j h = get_or-take n (drop (q * n) band) j +0 h ∙ get_or-drop (q * n) band j +0

pub zero-line : (n q l : ℕ) → q * n + n ≤ l → line_at n q (replicate l +0) ≡ replicate n +0
zero-line n q l h =
    let a = length-replicate l +0 in
    let b = line-length n q (replicate l +0) (omega arith) in
    ext_get_or +0 (line_at n q (replicate l +0)) (replicate n +0) (b ∙ sym (length-replicate n +0))
    (λ j v. line-get n q (replicate l +0) j (omega arith) ∙ get_or-replicate l (q * n + j) +0 +0 (omega arith) ∙ sym (get_or-replicate n j +0 +0 (omega arith)))

module _ (n q : ℕ) (band ys : List ℤ) (h : q * n + n ≤ length band) (size : length ys ≡ n) where
  after : List ℤ
  after = put_mid (q * n) (q * n + n - q * n) band ys

  pub put-length : length (put_mid (q * n) (q * n + n - q * n) band ys) ≡ length band
  put-length = same_len_mid (q * n) (q * n + n - q * n) band ys (size ∙ sym (line-length n q band h) ∙ ap length (sym (lent n q band)))

  pub put-here : line_at n q (put_mid (q * n) (q * n + n - q * n) band ys) ≡ ys
  put-here =
      ap (take n) (drop_at (take (q * n) band) (ys ++ post_of (q * n) (q * n + n - q * n) band) (q * n) (length-take-le (q * n) band (omega arith)))
      ∙ take_at ys (post_of (q * n) (q * n + n - q * n) band) n size

  before : (p : ℕ) → p * n + n ≤ q * n → line_at n p (put_mid (q * n) (q * n + n - q * n) band ys) ≡ line_at n p band
  before p l =
      let z = put_mid (q * n) (q * n + n - q * n) band ys in
      let a = put-length in
      let t = length-take-le (q * n) band (omega arith) in
      let x = line-length n p z (omega arith) in
      let y = line-length n p band (omega arith) in
      ext_get_or +0 (line_at n p z) (line_at n p band) (x ∙ sym y)
      (λ j v.
      line-get n p z j (omega arith)
      ∙ get_or-append (take (q * n) band) (ys ++ post_of (q * n) (q * n + n - q * n) band) +0 (p * n + j) (omega arith)
      ∙ get_or-take (q * n) band (p * n + j) +0 (omega arith)
      ∙ sym (line-get n p band j (omega arith)))

  behind : (p : ℕ) → q * n + n ≤ p * n → line_at n p (put_mid (q * n) (q * n + n - q * n) band ys) ≡ line_at n p band
  behind p l =
      let z = put_mid (q * n) (q * n + n - q * n) band ys in
      let e : (q * n + n) + (p * n - (q * n + n)) ≡ p * n = omega arith in
      let s : length ys ≡ q * n + n - q * n = omega arith in
      let d = drop_put (q * n) (q * n + n) band ys (omega arith) h s in
      ap (take n)
      (ap (λ k. drop k z) (sym e) ∙ sym (drop-drop (p * n - (q * n + n)) (q * n + n) z) ∙ ap (drop (p * n - (q * n + n))) d ∙ drop-drop (p * n - (q * n + n)) (q * n + n) band ∙ ap (λ k. drop k band) e)

  pub put-there : (p : ℕ) → (p ≡ q → ⊥) → line_at n p (put_mid (q * n) (q * n + n - q * n) band ys) ≡ line_at n p band
  put-there p f = go (dec_le (suc p) q)
    where
      go : Dec (suc p ≤ q) → line_at n p (put_mid (q * n) (q * n + n - q * n) band ys) ≡ line_at n p band
      go (yes l) = before p (omega (arith, suc-mul p n, mul-le-mul_right n l))
      go (no g) =
          let l : suc q ≤ p = omega arith in
          behind p (omega (arith, suc-mul q n, mul-le-mul_right n l))

-- ---- line after line: those passed are changed, the others stand

pub record Passing (P : ℕ → List ℤ → List ℤ → Type 0) (n : ℕ) (whole band : List ℤ) (q : ℕ) : Type 0 where
  pub same : length band ≡ length whole
  pub passed : (p : ℕ) → p < q → P p (line_at n p whole) (line_at n p band)
  pub left : (p : ℕ) → q ≤ p → line_at n p band ≡ line_at n p whole

pub passing-begun : (P : ℕ → List ℤ → List ℤ → Type 0) (n : ℕ) (whole : List ℤ) → Passing P n whole whole 0
passing-begun P n whole = record { same = refl; passed = λ p l. absurd (omega arith); left = λ p l. refl }

pub passing-more : {P : ℕ → List ℤ → List ℤ → Type 0} {n : ℕ} {whole band ys : List ℤ} {q : ℕ} → q * n + n ≤ length whole → Passing P n whole band q →
    length ys ≡ n → P q (line_at n q whole) ys → Passing P n whole (put_mid (q * n) (q * n + n - q * n) band ys) (q + 1)
passing-more {P} {n} {whole} {band} {ys} {q} h s e x =
    let i : q * n + n ≤ length band = omega (arith, s.same) in
    record {
      same = put-length n q band ys i e ∙ s.same;
      passed = λ p l. go p l (ℕ_discrete p q);
      left = λ p l. put-there n q band ys i e p (λ z. omega arith) ∙ s.left p (omega arith);
    }
  where
    go : (p : ℕ) → p < q + 1 → Dec (p ≡ q) → P p (line_at n p whole) (line_at n p (put_mid (q * n) (q * n + n - q * n) band ys))
    go p l (yes z) =
        subst (λ k. P k (line_at n k whole) (line_at n k (put_mid (q * n) (q * n + n - q * n) band ys))) (sym z)
        (subst (λ y. P q (line_at n q whole) y) (sym (put-here n q band ys (omega (arith, s.same)) e)) x)
    go p l (no f) = subst (λ y. P p (line_at n p whole) y) (sym (put-there n q band ys (omega (arith, s.same)) e p f)) (s.passed p (omega arith))

pub passing-done : {P : ℕ → List ℤ → List ℤ → Type 0} {n h : ℕ} {whole band : List ℤ} {q : ℕ} → h ≤ q → Passing P n whole band q → EachLine P n h whole band
passing-done l s = record { same = s.same; lines = λ p v. s.passed p (omega arith) }

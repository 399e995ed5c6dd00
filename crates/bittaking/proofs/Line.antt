-- The line of a bit, number after number.
use Rattle.std.proofs.lemmas.List.{get_or_past}
use Rattle.integers.proofs.Linear.{linear}
use Rattle.words.specs.Word.{in_range}
use Rattle.std.proofs.Common.{◌≡◌, refl, sym, ◌∙◌, subst, List, ℕ, ◌+◌, ◌≤◌, ◌<◌, arith, eqb, eq-eqb, ne_eqb, ℤ, length, get_or, set, length-set, get_or-set_same, get_or-set_other, Bool, true, false, ap}
use native.Mathlib.Decide.{ℕ_discrete}
use Rattle.integers.specs.Choice.{◌if◌else◌}
use Rattle.integers.specs.Number.{◌⊕◌, ◌⊗◌, +0, +1}
use Rattle.bittaking.specs.Taking.{TakenAs, LineTaken, TakenAt}

-- the numbers past bit i and before bit i + d are taken, the others from bit i on stand
pub record Passing (k : ℤ) (i d : ℕ) (whole line : List ℤ) : Type 0 where
  pub same_length : length line ≡ length whole
  pub taken : (j : ℕ) → i < j → j < i + d → j < length whole → TakenAs k (get_or whole j +0) +0 (get_or line j +0)
  pub first : get_or line i +0 ≡ get_or whole i +0
  pub left : (j : ℕ) → i + d ≤ j → get_or line j +0 ≡ get_or whole j +0

pub passing-begun : (k : ℤ) (i : ℕ) (whole : List ℤ) → Passing k i 1 whole whole
passing-begun k i whole = record { same_length = refl; taken = λ j u v l. absurd (omega arith); first = refl; left = λ j u. refl }

pub passing-more : {k : ℤ} {whole line line' : List ℤ} {i d : ℕ} → 1 ≤ d → Passing k i d whole line → TakenAt k +0 (i + d) line line' → Passing k i (d + 1) whole line'
passing-more {k} {whole} {line} {line'} {i} {d} p s t = record {
  same_length = t.same_length ∙ s.same_length;
  taken = λ j u v l. go j u v l (ℕ_discrete j (i + d));
  first = t.others i (λ q. omega arith) ∙ s.first;
  left = λ j u. t.others j (λ q. omega arith) ∙ s.left j (omega arith);
}
  where
    go : (j : ℕ) → i < j → j < i + (d + 1) → j < length whole → Dec (j ≡ i + d) → TakenAs k (get_or whole j +0) +0 (get_or line' j +0)
    go j u v l (yes q) =
        subst (λ n. TakenAs k (get_or whole n +0) +0 (get_or line' n +0)) (sym q)
        (subst (λ x. TakenAs k x +0 (get_or line' (i + d) +0)) (s.left (i + d) (omega arith)) (t.taken (omega (arith, s.same_length))))
    go j u v l (no n) = subst (λ x. TakenAs k (get_or whole j +0) +0 x) (sym (t.others j n)) (s.taken j u (omega arith) l)

pub passing-done : {k a : ℤ} (added : List ℤ) {whole line line' : List ℤ} {i d m : ℕ} → m ≤ d → Passing k i d whole line → a ≡ get_or added i +0 → TakenAt k a i line line' →
    (length line' ≡ length whole) × LineTaken k added i m whole line'
passing-done {k} {a} added {whole} {line} {line'} {i} {d} {m} h s e t = (t.same_length ∙ s.same_length, λ j u v l. go j u v l (ℕ_discrete i j))
  where
    go : (j : ℕ) → i ≤ j → j < i + m → j < length whole → Dec (i ≡ j) → TakenAs k (get_or whole j +0) (get_or added i +0 if eqb i j else +0) (get_or line' j +0)
    go j u v l (yes q) =
        subst (λ n. n < length whole → TakenAs k (get_or whole n +0) (get_or added i +0 if eqb i n else +0) (get_or line' n +0)) q
        (λ f. rw (eq-eqb i i refl, ← e, ← s.first) (t.taken (omega (arith, s.same_length)))) l
    go j u v l (no n) = rw (ne_eqb i j n, t.others j (λ q. n (sym q))) (s.taken j (omega arith) (omega arith) l)

-- one number put
pub put-taken : {k a x : ℤ} {line : List ℤ} {j : ℕ} → TakenAs k (get_or line j +0) a x → j < length line → TakenAt k a j line (set line j x)
put-taken {k} {a} {x} {line} {j} t l = record {
  same_length = length-set line j x;
  taken = λ h. rw (get_or-set_same line j x +0 l) t;
  others = λ i n. get_or-set_other line j i x +0 n;
}

pub none-taken : {k a : ℤ} {line : List ℤ} {j : ℕ} → length line ≤ j → TakenAt k a j line line
none-taken h = record { same_length = refl; taken = λ l. absurd (omega arith); others = λ i n. refl }

-- of a form taken once, with nothing added
once : (e : ℤ) → e ≡ +1 ⊗ e ⊕ +0
once = simp linear (omega arith)

pub plain-taken : (k : ℤ) (added line : List ℤ) (i m : ℕ) → k ≡ +1 → length added ≡ 0 → (length line ≡ length line) × LineTaken k added i m line line
plain-taken k added line i m e l = (refl, λ j u v h. rw e (go j (eqb i j)))
  where
    nothing : get_or added i +0 ≡ +0
    nothing = get_or_past added i +0 (omega arith)

    go : (j : ℕ) (t : Bool) → TakenAs +1 (get_or line j +0) (get_or added i +0 if t else +0) (get_or line j +0)
    go j true = rw nothing (record { tested = ap in_range (once (get_or line j +0)); same = λ z. once (get_or line j +0) })
    go j false = record { tested = ap in_range (once (get_or line j +0)); same = λ z. once (get_or line j +0) }

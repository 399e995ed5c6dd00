-- The form of words in which the reader finds no fault: variables, then constraints with their arguments, then the end. For what follows of accepted words.
use Rattle.std.proofs.Common.{◌≡◌, refl, ◌≢◌, List, [], ◌∷◌, ◌++◌, append-nil, ℕ, zero, suc, ◌+◌, ◌≤◌, ◌<◌, arith, zero-add, ltb, length, get_or, drop, length-drop, ltb-true, lt-ltb, ne_eqb}
use Rattle.integers.specs.Lists.{all}
use Rattle.integers.specs.Bounds.{◌to◌}
use Rattle.integers.proofs.Tests.{All, says_all}
use Rattle.integers.proofs.Lists.{all_or_past}
use Rattle.words.specs.Word.{kind, payload, signed, word_at}
use Rattle.words.proofs.Sources.{Ordered}
use Rattle.models.specs.Table as Table
use Rattle.models.specs.Shape as Shape
use Rattle.models.specs.Shape.{argument, shapes}
use Rattle.models.specs.Reading.{fault_head, fault_argument_in, fault_due_in, fault_in, after_head, after_due, declared, started, after, fault_end, ended}
use Rattle.models.specs.declared.Due.TheVariants.{Start, Upper, Arguments}
use Rattle.models.proofs.Sound.{Sound, Plain, reading, is-upper, at-constraint, at-end, is-head, at-lower, at-boolean, at_head, is-start}
use Rattle.models.proofs.Fits.{FitAll, past_arguments, rest}

-- how many words the arguments of a code take, at the front of the words ws
abbrev pub taken : ℕ → List ℕ → ℕ
taken code ws = past_arguments ws 0 (get_or shapes code [])

-- after c constraints, over variables of the types ts
pub data Posed (ts : List ℕ) : ℕ → List ℕ → Type 0 where
  end : {c w : ℕ} → kind w ≡ 7 → Posed ts c (w ∷ [])
  constraint : {c w : ℕ} {ws : List ℕ} → c < 256 → kind w ≡ 4 → 1 ≤ payload w → payload w ≤ Table.last
      → FitAll ws ts 0 (get_or shapes (payload w) [])
      → taken (payload w) ws ≤ length ws → ((j : ℕ) → j < taken (payload w) ws → Plain (word_at ws j))
      → Posed ts (c + 1) (drop (taken (payload w) ws) ws) → Posed ts c (w ∷ ws)

-- after variables of the types ts
pub data Model : List ℕ → List ℕ → Type 0 where
  integer : {ts : List ℕ} {l u : ℕ} {ws : List ℕ} → length ts < 256 → kind l ≡ 1 → kind u ≡ 2 → Ordered (signed l to signed u)
      → Model (ts ++ (Shape.integer ∷ [])) ws → Model ts (l ∷ u ∷ ws)
  boolean : {ts : List ℕ} {w : ℕ} {ws : List ℕ} → length ts < 256 → kind w ≡ 3 → payload w ≡ 0
      → Model (ts ++ (Shape.boolean ∷ [])) ws → Model ts (w ∷ ws)
  posed : {ts ws : List ℕ} → Posed ts 0 ws → Model ts ws

-- ---- no code has an argument of the shape 0

shaped : (code : ℕ) → All (λ s. 1 ≤ s) (get_or shapes code [])
unfolding shapes all
shaped code = all_or_past (All (λ s. 1 ≤ s)) shapes [] ((says_all (all (ltb 0)) (All (λ s. 1 ≤ s)) (says_all (ltb 0) (λ s. 1 ≤ s) (λ s. (ltb-true 0 s, lt-ltb 0 s))) shapes).0 refl) tt code

-- ---- where a constraint or the end may stand

abbrev HeadSound : List ℕ → ℕ → List ℕ → Type 0
HeadSound ts c [] = ⊥
HeadSound ts c (w ∷ ws) = (fault_head c w ≡ 0) × Sound (reading (after_head w) (ts ++ declared w) (c + started w)) ws

after-arguments : (ts : List ℕ) (c t code k : ℕ) (ws : List ℕ) → argument code k ≡ 0 → Sound (reading (Arguments 0 0 t code k) ts c) ws → HeadSound ts c ws
unfolding ended fault_end fault_in fault_due_in fault_argument_in after after_due
after-arguments ts c t code k [] e h = absurd (omega arith)
after-arguments ts c t code k (w ∷ ws) e h = (rw e at h.0, rw e at h.1)

constraint-read : (ts : List ℕ) (c w : ℕ) (ws : List ℕ) → kind w ≡ 4 → Sound (reading (after_head w) (ts ++ declared w) (c + started w)) ws → Sound (reading (Arguments 0 0 0 (payload w) 0) ts (c + 1)) ws
unfolding after_head declared started
constraint-read ts c w ws k h = rw (k, append-nil ts) at h

end_read : (ts : List ℕ) (c w : ℕ) (ws : List ℕ) → kind w ≡ 7 → Sound (reading (after_head w) ts c) ws → ws ≡ []
unfolding after_head fault_in fault_due_in
end_read ts c w [] k h = refl
end_read ts c w (x ∷ ws) k h = absurd (let z : ◌≡◌ {A = ℕ} 11 0 = rw k at h.0 in omega arith)

-- the k-th argument of a code is the k-th of its shapes
argument-at : (code j : ℕ) → argument code (0 + j) ≡ get_or (get_or shapes code []) j 0
unfolding argument
argument-at code j = rw (zero-add j)

-- from a constraint or the end on, where the law holds for fewer words
posed-step : (n : ℕ) (ts : List ℕ) (c : ℕ) (ws : List ℕ) → length ws < suc n → ((c₂ : ℕ) (vs : List ℕ) → length vs < n → HeadSound ts c₂ vs → Posed ts c₂ vs) → HeadSound ts c ws → Posed ts c ws
posed-step n ts c [] l f h = absurd h
posed-step n ts c (w ∷ ws) l f h = elim (is-head c w h.0) [
  | at-constraint few k lo hi ↦
      let r = rest ts ws (c + 1) (get_or shapes (payload w) []) 0 (payload w) 0 0 (shaped (payload w)) (argument-at (payload w)) (omega arith) (constraint-read ts c w ws k h.1) in
      let left = drop (taken (payload w) ws) ws in
      constraint few k lo hi r.fits r.to.within (λ j b. r.to.plain j (omega arith) b)
      (f (c + 1) left (omega (arith, length-drop (taken (payload w) ws) ws)) (after-arguments ts (c + 1) r.type r.code r.k left r.last r.to.sound))
  | at-end k ↦ rw (end_read (ts ++ declared w) (c + started w) w ws k h.1) (end k)
]

posed-from : (n : ℕ) (ts : List ℕ) (c : ℕ) (ws : List ℕ) → length ws < n → HeadSound ts c ws → Posed ts c ws
posed-from zero ts c ws l h = absurd (omega arith)
posed-from (suc n) ts c ws l h = posed-step n ts c ws l (λ c₂ vs. posed-from n ts c₂ vs) h

-- ---- the whole

after_lower : (ts : List ℕ) (w : ℕ) (ws : List ℕ) → kind w ≡ 1 → Sound (after (reading Start ts 0) w) ws → Sound (reading (Upper w) (ts ++ (Shape.integer ∷ [])) 0) ws
unfolding after after_due declared started
after_lower ts w ws k h = rw k at h

after-upper : (ts : List ℕ) (l w : ℕ) (ws : List ℕ) → kind w ≡ 2 → Sound (after (reading (Upper l) ts 0) w) ws → Sound (reading Start ts 0) ws
unfolding after after_due declared started
after-upper ts l w ws k h = rw (k, append-nil ts) at h

after-boolean : (ts : List ℕ) (w : ℕ) (ws : List ℕ) → kind w ≡ 3 → Sound (after (reading Start ts 0) w) ws → Sound (reading Start (ts ++ (Shape.boolean ∷ [])) 0) ws
unfolding after after_due declared started
after-boolean ts w ws k h = rw k at h

-- at a word that starts no variable
at-posed : (ts : List ℕ) (w : ℕ) (ws : List ℕ) → kind w ≢ 1 → kind w ≢ 3 → fault_head 0 w ≡ 0 → Sound (after (reading Start ts 0) w) ws → Model ts (w ∷ ws)
unfolding after after_due
at-posed ts w ws n m e h = posed (posed-from (suc (suc (length ws))) ts 0 (w ∷ ws) (omega arith) (e, rw (ne_eqb (kind w) 1 n, ne_eqb (kind w) 3 m) at h))

pub model : (ts ws : List ℕ) → Sound (reading Start ts 0) ws → Model ts ws
unfolding ended fault_end fault_in fault_due_in
model ts [] h = absurd (omega arith)
model ts (w ∷ []) h = elim (is-start (length ts) 0 w h.0) [
  | at-lower few k i ↦ absurd (let z : ◌≡◌ {A = ℕ} 2 0 = after_lower ts w [] k h.1 in omega arith)
  | at-boolean few k p ↦ absurd (let z : ◌≡◌ {A = ℕ} 2 0 = after-boolean ts w [] k h.1 in omega arith)
  | at_head n m e ↦ at-posed ts w [] n m e h.1
]
model ts (w ∷ u ∷ ws) h = elim (is-start (length ts) 0 w h.0) [
  | at-lower few k i ↦
      let q = after_lower ts w (u ∷ ws) k h.1 in
      let v = is-upper u w q.0 in
      integer few k v.0 (record { rising = v.1; lower_in = i; upper_in = v.2 }) (model (ts ++ (Shape.integer ∷ [])) ws (after-upper (ts ++ (Shape.integer ∷ [])) w u ws v.0 q.1))
  | at-boolean few k p ↦ boolean few k p (model (ts ++ (Shape.boolean ∷ [])) (u ∷ ws) (after-boolean ts w (u ∷ ws) k h.1))
  | at_head n m e ↦ at-posed ts w (u ∷ ws) n m e h.1
]

-- The arguments of a constraint in which the reader finds no fault, by their places: for the form of accepted words.
use Rattle.std.proofs.Common.{◌≡◌, refl, ◌≢◌, Bool, true, false, not, ◌||◌, List, [], ◌∷◌, ℕ, zero, suc, ◌+◌, ◌-◌, ◌≤◌, ◌<◌, arith, add-zero, ltb, leb, eqb, length, get_or, drop, ltb-true, ltb-false, eqb-true, ne_eqb, le-leb, lt-ltb, le-ltb}
use borrow.Author.Tests.{eqb-false, lt-leb}
use Rattle.integers.specs.Choice.{◌if◌else◌}
use Rattle.integers.specs.Lists.{list_of}
use Rattle.integers.proofs.Tests.{All}
use Rattle.integers.proofs.Lists.{all-list_of}
use Rattle.words.specs.Word.{payload, word_at}
use Rattle.words.specs.Check.{fault_number_in}
use Rattle.words.specs.Limit as Limit
use Rattle.models.specs.Shape as Shape
use Rattle.models.specs.Shape.{argument}
use Rattle.models.specs.Model.{var, size, past}
use Rattle.models.specs.Reading.{fault_variable, fault_argument_in, fault_due_in, fault_in, after_argument, after_due, fault_end, ended}
use Rattle.models.specs.InRange.{fault_count, fault_due}
use Rattle.models.specs.declared.Due.{Due}
use Rattle.models.specs.declared.Due.TheVariants.{Arguments}
use Rattle.models.proofs.Sound.{Sound, Plain, plain, after-plain, reading, turn, is-number, is-variable, is-count}

-- variable v is declared with the type t
abbrev pub Named : List ℕ → ℕ → ℕ → Type 0
Named types t v = get_or types v Shape.none ≡ t

-- a list of the shape s: whether it has numbers, whether it has variables, and their type
abbrev pub has_numbers : ℕ → Bool
has_numbers s = eqb s Shape.numbers || not (eqb s Shape.integers || eqb s Shape.booleans)

abbrev pub has_variables : ℕ → Bool
has_variables s = not (eqb s Shape.numbers)

abbrev pub type_in : ℕ → ℕ
type_in s = Shape.none if eqb s Shape.numbers else Shape.integer if eqb s Shape.integers else Shape.boolean if eqb s Shape.booleans else Shape.integer

module _ (ws : List ℕ) where
  -- the place after the numbers of a list whose length word is at place i, and after an argument of the shape s, and after more of them
  abbrev pub past_numbers : ℕ → ℕ → ℕ
  past_numbers i s = past ws i if has_numbers s else i + 1

  abbrev pub past_argument : ℕ → ℕ → ℕ
  past_argument i s = i + 1 if leb s Shape.exponent else past_numbers i s + size ws i if has_variables s else past_numbers i s

  abbrev pub past_arguments : ℕ → List ℕ → ℕ
  past_arguments i [] = i
  past_arguments i (s ∷ ss) = past_arguments (past_argument i s) ss

  -- the variables of a list
  abbrev pub listed : ℕ → ℕ → List ℕ
  listed i s = list_of (λ k. var ws (past_numbers i s + k)) (size ws i) if has_variables s else []

  -- at place i an argument of the shape s; more of them
  abbrev pub Fits : List ℕ → ℕ → ℕ → Type 0
  Fits types i s =
      Named types s (var ws i) if ltb s Shape.number
      else Unit {0} if leb s Shape.exponent
      else (var ws i ≤ 32) × All (Named types (type_in s)) (listed i s)

  abbrev pub FitAll : List ℕ → ℕ → List ℕ → Type 0
  FitAll types i [] = Unit {0}
  FitAll types i (s ∷ ss) = Fits types i s × FitAll types (past_argument i s) ss

-- ---- what is due in a list

positive : (n : ℕ) → ltb 0 (suc n) ≡ true
positive n = lt-ltb 0 (suc n) (omega arith)

less_one : (n : ℕ) → suc n - 1 ≡ n
less_one n = omega arith

number-due : (n m t code k v u c w : ℕ) → fault_due (Arguments (suc n) m t code k) v u c w ≡ fault_number_in Limit.range w
unfolding fault_due_in
number-due n m t code k v u c w = rw (positive n)

after-number : (n m t code k w : ℕ) → after_due (Arguments (suc n) m t code k) w ≡ Arguments n m t code k
unfolding after_due
after-number n m t code k w = rw (positive n, less_one n)

variable-due : (m t code k v u c w : ℕ) → fault_due (Arguments 0 (suc m) t code k) v u c w ≡ fault_variable u t w
unfolding fault_due_in
variable-due m t code k v u c w = rw (positive m)

after-variable : (m t code k w : ℕ) → after_due (Arguments 0 (suc m) t code k) w ≡ Arguments 0 m t code k
unfolding after_due
after-variable m t code k w = rw (positive m, less_one m)

-- ---- the reader over arguments, from place i to place e

module _ (ts ws : List ℕ) (c : ℕ) where
  pub record To (i e : ℕ) (d : Due) : Type 0 where
    pub within : e ≤ length ws
    pub plain : (j : ℕ) → i ≤ j → j < e → Plain (word_at ws j)
    pub sound : Sound (reading d ts c) (drop e ws)

  join : {i e f : ℕ} {d d₂ : Due} → To i e d → To e f d₂ → To i f d₂
  join {i} {e} {f} h k = record { within = k.within; plain = λ j l m. go j l m (ltb j e) refl; sound = k.sound }
    where
      go : (j : ℕ) → i ≤ j → j < f → (t : Bool) → ltb j e ≡ t → Plain (word_at ws j)
      go j l m true q = h.plain j l (ltb-true _ _ q)
      go j l m false q = k.plain j (ltb-false _ _ q) m

  abbrev fault_at : Due → ℕ → ℕ
  fault_at d i = fault_due d (length ts) (get_or ts (var ws i) 0) c (word_at ws i)

  -- one word
  one : (d : Due) (i : ℕ) → fault_end d ≢ 0 → (fault_at d i ≡ 0 → Plain (word_at ws i)) → Sound (reading d ts c) (drop i ws) → (fault_at d i ≡ 0) × To i (i + 1) (after_due d (word_at ws i))
  unfolding fault_in ended var
  one d i n p h =
      let r = turn (reading d ts c) ws i n h in
      let q = p r.faultless in (
        r.faultless,
        record {
          within = omega (arith, r.here);
          plain = λ j l m. let e : i ≡ j = omega arith in rw e at q;
          sound = rw (after-plain d ts c (word_at ws i) q) at r.onward;
        },
      )

  nowhere : (i : ℕ) (d : Due) → i ≤ length ws → Sound (reading d ts c) (drop i ws) → To i i d
  nowhere i d l h = record { within = l; plain = λ j a b. absurd (omega arith); sound = h }

  -- the words may not end among arguments
  unfinished : (n m t code k : ℕ) → fault_end (Arguments n m t code k) ≢ 0
  unfolding fault_end
  unfinished n m t code k e = omega arith

  -- the numbers of a list, then its variables
  numbers : (n m t code k i : ℕ) → i ≤ length ws → Sound (reading (Arguments n m t code k) ts c) (drop i ws) → To i (i + n) (Arguments 0 m t code k)
  numbers zero m t code k i l h = rw add-zero (nowhere i _ l h)
  numbers (suc n) m t code k i l h =
      let r = (one (Arguments (suc n) m t code k) i (unfinished _ _ _ _ _) (λ e. plain (is-number _ (rw number-due at e)) (omega arith) (omega arith)) h).1 in
      let q : To i (i + 1) (Arguments n m t code k) = rw after-number at r in
      let e : i + 1 + n ≡ i + suc n = omega arith in
      rw e at (join q (numbers n m t code k (i + 1) q.within q.sound))

  variables : (m t code k i : ℕ) → i ≤ length ws → Sound (reading (Arguments 0 m t code k) ts c) (drop i ws) → To i (i + m) (Arguments 0 0 t code k) × ((j : ℕ) → j < m → Named ts t (var ws (i + j)))
  variables zero t code k i l h = (rw add-zero (nowhere i _ l h), λ j b. absurd (omega arith))
  variables (suc m) t code k i l h =
      let r = one (Arguments 0 (suc m) t code k) i (unfinished _ _ _ _ _) (λ e. plain (is-variable _ _ _ (rw variable-due at e)).0 (omega arith) (omega arith)) h in
      let q : To i (i + 1) (Arguments 0 m t code k) = rw after-variable at r.1 in
      let more = variables m t code k (i + 1) q.within q.sound in
      let e : i + 1 + m ≡ i + suc m = omega arith in
      (rw e at (join q more.0), λ j b. each (is-variable _ _ _ (rw variable-due at r.0)).1 more.1 j b)
    where
      each : Named ts t (var ws i) → ((j : ℕ) → j < m → Named ts t (var ws (i + 1 + j))) → (j : ℕ) → j < suc m → Named ts t (var ws (i + j))
      each a f zero b = rw add-zero a
      each a f (suc j) b = let e : i + 1 + j ≡ i + suc j = omega arith in rw e at (f j (omega arith))

-- ---- one argument

all_if : {A : Type 0} (P : A → Type 0) (f : ℕ → A) (n : ℕ) (t : Bool) → ((j : ℕ) → j < (n if t else 0) → P (f j)) → All P (list_of f n if t else [])
all_if P f n true h = all-list_of P f n h
all_if P f n false h = tt

plus_if : (x n : ℕ) (t : Bool) → x + (n if t else 0) ≡ (x + n if t else x)
plus_if x n true = refl
plus_if x n false = add-zero x

-- the fault of an argument's first word
abbrev fault_first : ℕ → ℕ → ℕ → ℕ
fault_first s u w = fault_variable u s w if ltb s Shape.number else fault_number_in Limit.range w if eqb s Shape.number else fault_count 27 w if eqb s Shape.exponent else fault_count 32 w

argument-due : (s t code k v u c w : ℕ) → argument code k ≡ s → 1 ≤ s → fault_due (Arguments 0 0 t code k) v u c w ≡ fault_first s u w
unfolding fault_due_in fault_argument_in
argument-due s t code k v u c w a l = rw (a, ne_eqb s 0 (λ e. omega arith))

after-argument : (s t code k w : ℕ) → argument code k ≡ s → 1 ≤ s → after_due (Arguments 0 0 t code k) w ≡ after_argument s code (k + 1) w
unfolding after_due
after-argument s t code k w a l = rw (a, ne_eqb s 0 (λ e. omega arith))

after_one : (s code k w : ℕ) → s ≤ 4 → after_argument s code k w ≡ Arguments 0 0 0 code k
unfolding after_argument
after_one s code k w l = rw (le-leb s 4)

after_list : (s code k w : ℕ) → 4 < s →
    after_argument s code k w ≡ Arguments (payload w if has_numbers s else 0) (payload w if has_variables s else 0) (type_in s) code k
unfolding after_argument
after_list s code k w l = rw (lt-leb s 4 l) (go (eqb s 5) (eqb s 6) (eqb s 7))
  where
    go : (a b d : Bool) → ((Arguments (payload w) 0 0 code k) if a else (Arguments 0 (payload w) 1 code k) if b else (Arguments 0 (payload w) 2 code k) if d else (Arguments (payload w) (payload w) 1 code k))
        ≡ Arguments (payload w if a || not (b || d) else 0) (payload w if not a else 0) (Shape.none if a else Shape.integer if b else Shape.boolean if d else Shape.integer) code k
    go true b d = refl
    go false true d = refl
    go false false true = refl
    go false false false = refl

size_small : (ws : List ℕ) (i : ℕ) → var ws i ≤ 32 → var ws i ≡ size ws i
unfolding size
size_small ws i h = rw (le-leb (var ws i) 32)

module _ (ts ws : List ℕ) (c : ℕ) where
  -- after the argument: of whatever type the last variables of a list were
  pub record Next (s code k i : ℕ) : Type 0 where
    pub fits : Fits ws ts i s
    pub type : ℕ
    pub to : To ts ws c i (past_argument ws i s) (Arguments 0 0 type code (k + 1))

  module _ (s t code k i : ℕ) (a : argument code k ≡ s) (l : 1 ≤ s) (h : Sound (reading (Arguments 0 0 t code k) ts c) (drop i ws)) where
    abbrev w : ℕ
    w = word_at ws i

    first : (fault_first s (get_or ts (var ws i) 0) w ≡ 0 → Plain w) → (fault_first s (get_or ts (var ws i) 0) w ≡ 0) × To ts ws c i (i + 1) (after_argument s code (k + 1) w)
    first p =
        let r = one ts ws c (Arguments 0 0 t code k) i (unfinished ts ws c _ _ _ _ _) (λ e. p (rw (argument-due s t code k _ _ _ _ a l) at e)) h in
        (rw (argument-due s t code k _ _ _ _ a l) at r.0, rw (after-argument s t code k _ a l) at r.1)

    next-variable : ltb s 3 ≡ true → Next s code k i
    next-variable e =
        let b : s ≤ 4 = omega (arith, ltb-true s 3 e) in
        let r = first (λ f. plain (is-variable w _ s (rw e at f)).0 (omega arith) (omega arith)) in
        record { fits = rw e (is-variable w _ s (rw e at r.0)).1; type = 0; to = rw (le-leb s 4 b) (rw (after_one s code (k + 1) w b) at r.1) }

    next-number : s ≡ 3 → Next s code k i
    next-number e =
        let b : s ≤ 4 = omega arith in
        let r = first (λ f. plain (is-number w (rw e at f)) (omega arith) (omega arith)) in
        record { fits = rw e tt; type = 0; to = rw (le-leb s 4 b) (rw (after_one s code (k + 1) w b) at r.1) }

    next-exponent : s ≡ 4 → Next s code k i
    next-exponent e =
        let b : s ≤ 4 = omega arith in
        let r = first (λ f. plain (is-count w 27 (rw e at f)).0 (omega arith) (omega arith)) in
        record { fits = rw e tt; type = 0; to = rw (le-leb s 4 b) (rw (after_one s code (k + 1) w b) at r.1) }

    next-list : 4 < s → Next s code k i
    unfolding past var
    next-list b =
        let not-variable : ltb s 3 ≡ false = le-ltb s 3 (omega arith) in
        let not-number : eqb s 3 ≡ false = ne_eqb s 3 (λ e. omega arith) in
        let not-exponent : eqb s 4 ≡ false = ne_eqb s 4 (λ e. omega arith) in
        let not-one : leb s 4 ≡ false = lt-leb s 4 b in
        let r = first (λ f. plain (is-count w 32 (rw (not-variable, not-number, not-exponent) at f)).0 (omega arith) (omega arith)) in
        let small : var ws i ≤ 32 = (is-count w 32 (rw (not-variable, not-number, not-exponent) at r.0)).1 in
        let n = size_small ws i small in
        let p : To ts ws c i (i + 1) (Arguments (size ws i if has_numbers s else 0) (size ws i if has_variables s else 0) (type_in s) code (k + 1)) = simp (after_list s code (k + 1) w b, n) at r.1 in
        let q : To ts ws c (i + 1) (past_numbers ws i s) (Arguments 0 (size ws i if has_variables s else 0) (type_in s) code (k + 1)) = rw (plus_if (i + 1) (size ws i) (has_numbers s)) at (numbers ts ws c _ _ _ _ _ (i + 1) p.within p.sound) in
        let v = variables ts ws c (size ws i if has_variables s else 0) (type_in s) code (k + 1) (past_numbers ws i s) q.within q.sound in
        record {
          fits = rw (not-variable, not-one) (small, all_if (Named ts (type_in s)) (λ j. var ws (past_numbers ws i s + j)) (size ws i) (has_variables s) v.1);
          type = type_in s;
          to = rw not-one (join ts ws c p (join ts ws c q (rw (plus_if (past_numbers ws i s) (size ws i) (has_variables s)) at v.0)));
        }

    next : Next s code k i
    next = go (ltb s 3) (eqb s 3) (eqb s 4) refl refl refl
      where
        go : (x y z : Bool) → ltb s 3 ≡ x → eqb s 3 ≡ y → eqb s 4 ≡ z → Next s code k i
        go true y z e f g = next-variable e
        go false true z e f g = next-number (eqb-true s 3 f)
        go false false true e f g = next-exponent (eqb-true s 4 g)
        go false false false e f g = next-list (omega (arith, ltb-false s 3 e, eqb-false s 3 f, eqb-false s 4 g))

  -- ---- all arguments: those of the shapes ss, from the k-th of the code on
  pub record Rest (ss : List ℕ) (i : ℕ) : Type 0 where
    pub fits : FitAll ws ts i ss
    pub type : ℕ
    pub code : ℕ
    pub k : ℕ
    pub last : argument code k ≡ 0
    pub to : To ts ws c i (past_arguments ws i ss) (Arguments 0 0 type code k)

  pub rest : (ss : List ℕ) (t code k i : ℕ) → All (λ s. 1 ≤ s) ss → ((j : ℕ) → argument code (k + j) ≡ get_or ss j 0) → i ≤ length ws →
      Sound (reading (Arguments 0 0 t code k) ts c) (drop i ws) → Rest ss i
  rest [] t code k i o e l h = record { fits = tt; type = t; code = code; k = k; last = rw add-zero at (e 0); to = nowhere ts ws c i _ l h }
  rest (s ∷ ss) t code k i o e l h =
      let n = next s t code k i (rw add-zero at (e 0)) o.0 h in
      let r = rest ss n.type code (k + 1) (past_argument ws i s) o.1 (λ j. let q : k + 1 + j ≡ k + suc j = omega arith in rw q (e (suc j))) n.to.within n.to.sound in
      record { fits = (n.fits, r.fits); type = r.type; code = r.code; k = r.k; last = r.last; to = join ts ws c n.to r.to }

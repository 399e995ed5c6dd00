-- A word that a token writes, where the reader of models has something due: its fault is left to check or none, and what is due after it.
use Rattle.std.proofs.Common.{◌≡◌, refl, Bool, true, false, not, ℕ, suc, ◌+◌, ◌-◌, ◌<◌, ◌≤◌, arith, eqb, ltb, leb, ℤ, pos, eq-eqb, ne_eqb, lt-ltb, le-ltb}
use Rattle.std.specs.Int.Signed.{lt_z}
use Rattle.integers.specs.Choice.{◌if◌else◌}
use Rattle.integers.specs.Lists.{any}
use Rattle.integers.proofs.Linear.{arith_z}
use Rattle.words.specs.Word.{kind, payload, signed, in_range, too_low, word, number_word}
use Rattle.words.specs.Fault as Fault
use Rattle.words.specs.Limit as Limit
use Rattle.words.specs.Check.{fault_number_in}
use Rattle.words.proofs.ReadBack.{kind-word, kind-number, payload-word, signed-number, says_range}
use Rattle.models.specs.Shape as Shape
use Rattle.models.specs.Reading.{fault_head, fault_variable, fault_start_in, fault_upper_in, fault_count_in, fault_argument_in, fault_due_in, after_head, after_argument, after_due}
use Rattle.models.specs.InRange.{fault_count, fault_due}
use Rattle.models.specs.declared.Due.{Due}
use Rattle.models.specs.declared.Due.TheVariants.{Start, Upper, Arguments, Ended}
use Rattle.texts.specs.ModelWords.{left_to_check}

pub record Turn (d : Due) (w : ℕ) (next : Due) : Type 0 where
  pub some : 0 < w
  pub left : (v t c : ℕ) → left_to_check (fault_due d v t c w) ≡ true
  pub after : after_due d w ≡ next

-- a word of a kind is not 0
some-kind : {k w : ℕ} → kind w ≡ k → 1 ≤ k → 0 < w
unfolding kind
some-kind {w = w} e l = omega arith

-- a number in the range
pub record Numeric (w : ℕ) : Type 0 where
  pub kind-is : kind w ≡ 6
  pub range : in_range (signed w) ≡ true

pub numeric : (z : ℤ) → in_range z ≡ true → Numeric (number_word 6 z)
numeric z h = record { kind-is = kind-number 6 z; range = rw (signed-number 6 z h) h }

-- a length
pub a_length : (m : ℕ) → m ≤ 8192 → Numeric (word 6 m)
unfolding signed
a_length m l =
    let e = payload-word 6 m (omega arith) in
    record { kind-is = kind-word 6 m; range = rw (e, lt-ltb m Limit.half (omega arith)) ((says_range (pos m)).1 (omega arith_z, omega arith_z)) }

-- ---- faults

no-number-fault : (w : ℕ) → Numeric w → fault_number_in Limit.range w ≡ 0
unfolding fault_number_in too_low
no-number-fault w n = rw (eq-eqb (kind w) 6 n.kind-is, n.range)

count-left : (most w : ℕ) → Numeric w → left_to_check (fault_count most w) ≡ true
unfolding fault_count_in too_low any
count-left most w n = rw (eq-eqb (kind w) 6 n.kind-is, n.range) (go (ltb most (payload w)))
  where
    go : (b : Bool) → left_to_check (Fault.length_outside if b else Fault.none) ≡ true
    go true = refl
    go false = refl

variable-left : (t type w : ℕ) → kind w ≡ 5 → left_to_check (fault_variable t type w) ≡ true
unfolding fault_variable any
variable-left t type w k = rw (eq-eqb (kind w) 5 k) (go (not (eqb t type)))
  where
    go : (b : Bool) → left_to_check (Fault.not_declared if b else Fault.none) ≡ true
    go true = refl
    go false = refl

-- ---- declarations

pub lower-turn : (z : ℤ) → in_range z ≡ true → Turn Start (number_word 1 z) (Upper (number_word 1 z))
unfolding fault_due_in fault_start_in too_low any after_due
lower-turn z h =
    let k = kind-number 1 z in
    record {
      some = some-kind k (omega arith);
      left = λ v t c. rw (eq-eqb _ 1 k, signed-number 1 z h, h) (go (leb 256 v));
      after = rw (eq-eqb _ 1 k);
    }
  where
    go : (b : Bool) → left_to_check (Fault.too_many_variables if b else Fault.none) ≡ true
    go true = refl
    go false = refl

pub upper-turn : (l : ℕ) (z : ℤ) → in_range z ≡ true → Turn (Upper l) (number_word 2 z) Start
unfolding fault_due_in fault_upper_in too_low any after_due
upper-turn l z h =
    let k = kind-number 2 z in
    record {
      some = some-kind k (omega arith);
      left = λ v t c. rw (eq-eqb _ 2 k, signed-number 2 z h, h) (go (lt_z z (signed l)));
      after = refl;
    }
  where
    go : (b : Bool) → left_to_check (Fault.upper_below_lower if b else Fault.none) ≡ true
    go true = refl
    go false = refl

pub boolean-turn : Turn Start (word 3 0) Start
unfolding fault_due_in fault_start_in any after_due
boolean-turn =
    let k = kind-word 3 0 in
    record {
      some = some-kind k (omega arith);
      left = λ v t c. rw (k, payload-word 3 0 (omega arith)) (go (leb 256 v));
      after = rw k;
    }
  where
    go : (b : Bool) → left_to_check (Fault.too_many_variables if b else Fault.none) ≡ true
    go true = refl
    go false = refl

-- ---- heads

-- a constraint or the end may stand
pub data Headed : Due → Type 0 where
  at-start : Headed Start
  past-arguments : {t c k : ℕ} → Shape.argument c k ≡ 0 → Headed (Arguments 0 0 t c k)

head-left : (c code : ℕ) → 1 ≤ code → code ≤ 39 → left_to_check (fault_head c (word 4 code)) ≡ true
unfolding fault_head any
head-left c code l m =
    rw (kind-word 4 code, payload-word 4 code (omega arith), ne_eqb code 0 (λ z. omega arith), le-ltb 39 code m) (go (leb 256 c))
  where
    go : (b : Bool) → left_to_check (Fault.too_many_constraints if b else Fault.none) ≡ true
    go true = refl
    go false = refl

after-constraint : (code : ℕ) → code ≤ 39 → after_head (word 4 code) ≡ Arguments 0 0 0 code 0
unfolding after_head
after-constraint code m = rw (kind-word 4 code, payload-word 4 code (omega arith))

pub constraint-turn : {d : Due} (code : ℕ) → Headed d → 1 ≤ code → code ≤ 39 → Turn d (word 4 code) (Arguments 0 0 0 code 0)
unfolding fault_due_in fault_start_in fault_argument_in after_due
constraint-turn code at-start l m =
    let k = kind-word 4 code in
    record {
      some = some-kind k (omega arith);
      left = λ v t c. let h = head-left c code l m in rw (ne_eqb (kind (word 4 code)) 1 (λ z. omega arith), ne_eqb (kind (word 4 code)) 3 (λ z. omega arith)) h;
      after = rw (ne_eqb (kind (word 4 code)) 1 (λ z. omega arith), ne_eqb (kind (word 4 code)) 3 (λ z. omega arith)) (after-constraint code m);
    }
constraint-turn code (past-arguments e) l m =
    record {
      some = some-kind (kind-word 4 code) (omega arith);
      left = λ v t c. rw e (head-left c code l m);
      after = rw e (after-constraint code m);
    }

end-left : (c : ℕ) → fault_head c (word 7 0) ≡ 0
unfolding fault_head
end-left c = rw (kind-word 7 0, payload-word 7 0 (omega arith))

after-end : after_head (word 7 0) ≡ Ended
unfolding after_head
after-end = rw (kind-word 7 0)

pub end-turn : {d : Due} → Headed d → Turn d (word 7 0) Ended
unfolding fault_due_in fault_start_in fault_argument_in any after_due
end-turn at-start =
    let k = kind-word 7 0 in
    record {
      some = some-kind k (omega arith);
      left = λ v t c. rw (ne_eqb (kind (word 7 0)) 1 (λ z. omega arith), ne_eqb (kind (word 7 0)) 3 (λ z. omega arith), end-left c);
      after = rw (ne_eqb (kind (word 7 0)) 1 (λ z. omega arith), ne_eqb (kind (word 7 0)) 3 (λ z. omega arith)) after-end;
    }
end-turn (past-arguments e) =
    record { some = some-kind (kind-word 7 0) (omega arith); left = λ v t c. rw (e, end-left c); after = rw e after-end }

-- ---- arguments

module _ (t c k : ℕ) {w : ℕ} where
  module _ (n : kind w ≡ 5) where
    pub integer-turn : Shape.argument c k ≡ 1 → Turn (Arguments 0 0 t c k) w (Arguments 0 0 0 c (k + 1))
    unfolding fault_due_in fault_argument_in after_due after_argument
    integer-turn e = record { some = some-kind n (omega arith); left = λ v y x. rw e (variable-left y 1 w n); after = rw e }

    pub boolean-argument : Shape.argument c k ≡ 2 → Turn (Arguments 0 0 t c k) w (Arguments 0 0 0 c (k + 1))
    unfolding fault_due_in fault_argument_in after_due after_argument
    boolean-argument e = record { some = some-kind n (omega arith); left = λ v y x. rw e (variable-left y 2 w n); after = rw e }

    pub variable-element : (m : ℕ) → Turn (Arguments 0 (suc m) t c k) w (Arguments 0 m t c k)
    unfolding fault_due_in after_due
    variable-element m =
        let e : suc m - 1 ≡ m = omega arith in
        record { some = some-kind n (omega arith); left = λ v y x. rw (lt-ltb 0 (suc m) (omega arith)) (variable-left y t w n); after = rw (lt-ltb 0 (suc m) (omega arith), e) }

  module _ (n : Numeric w) where
    pub number-turn : Shape.argument c k ≡ 3 → Turn (Arguments 0 0 t c k) w (Arguments 0 0 0 c (k + 1))
    unfolding fault_due_in fault_argument_in any after_due after_argument
    number-turn e = record { some = some-kind n.kind-is (omega arith); left = λ v y x. rw (e, no-number-fault w n); after = rw e }

    pub exponent-turn : Shape.argument c k ≡ 4 → Turn (Arguments 0 0 t c k) w (Arguments 0 0 0 c (k + 1))
    unfolding fault_due_in fault_argument_in after_due after_argument
    exponent-turn e = record { some = some-kind n.kind-is (omega arith); left = λ v y x. rw e (count-left Limit.exponent w n); after = rw e }

    pub number-element : (m l : ℕ) → Turn (Arguments (suc m) l t c k) w (Arguments m l t c k)
    unfolding fault_due_in any after_due
    number-element m l =
        let e : suc m - 1 ≡ m = omega arith in
        record { some = some-kind n.kind-is (omega arith); left = λ v y x. rw (lt-ltb 0 (suc m) (omega arith), no-number-fault w n); after = rw (lt-ltb 0 (suc m) (omega arith), e) }

-- the lengths of lists
module _ (t c k m : ℕ) (l : m ≤ 8192) where
  list-left : (s : ℕ) → Shape.argument c k ≡ s → 5 ≤ s → (v y x : ℕ) → left_to_check (fault_due (Arguments 0 0 t c k) v y x (word 6 m)) ≡ true
  unfolding fault_due_in fault_argument_in
  list-left s e g v y x =
      rw (e, ne_eqb s 0 (λ z. omega arith), le-ltb s 3 (omega arith), ne_eqb s 3 (λ z. omega arith), ne_eqb s 4 (λ z. omega arith)) (count-left Limit.list_length (word 6 m) (a_length m l))

  some-length : 0 < word 6 m
  some-length = some-kind (kind-word 6 m) (omega arith)

  pub numbers-turn : Shape.argument c k ≡ 5 → Turn (Arguments 0 0 t c k) (word 6 m) (Arguments m 0 0 c (k + 1))
  unfolding after_due after_argument
  numbers-turn e = record { some = some-length; left = list-left 5 e (omega arith); after = rw (e, payload-word 6 m (omega arith)) }

  pub integers-turn : Shape.argument c k ≡ 6 → Turn (Arguments 0 0 t c k) (word 6 m) (Arguments 0 m 1 c (k + 1))
  unfolding after_due after_argument
  integers-turn e = record { some = some-length; left = list-left 6 e (omega arith); after = rw (e, payload-word 6 m (omega arith)) }

  pub booleans-turn : Shape.argument c k ≡ 7 → Turn (Arguments 0 0 t c k) (word 6 m) (Arguments 0 m 2 c (k + 1))
  unfolding after_due after_argument
  booleans-turn e = record { some = some-length; left = list-left 7 e (omega arith); after = rw (e, payload-word 6 m (omega arith)) }

  pub parallel-turn : Shape.argument c k ≡ 8 → Turn (Arguments 0 0 t c k) (word 6 m) (Arguments m m 1 c (k + 1))
  unfolding after_due after_argument
  parallel-turn e = record { some = some-length; left = list-left 8 e (omega arith); after = rw (e, payload-word 6 m (omega arith)) }

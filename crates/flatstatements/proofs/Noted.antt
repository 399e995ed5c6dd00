-- Annotations token by token.
use Rattle.std.proofs.Common.{◌≡◌, refl, sym, ap, ◌∙◌, subst, Bool, true, false, List, ◌∷◌, ℕ, zero, suc, ◌+◌, ◌<◌, ◌≤◌, arith, length, take, drop, drop_of_length-le, Option, Some, None}
use Rattle.std.specs.Prelude.{IfSome, option_map}
use Rattle.integers.specs.Choice.{◌if◌else◌}
use Rattle.flatzinc.specs.declared.trouble.Trouble.{Trouble}
use Rattle.flatzinc.specs.declared.trouble.Trouble.TheVariants.{Memory, Fault}
use Rattle.flatzinc.specs.Answer.{Fails}
use Rattle.flattokens.specs.Token.{Token}
use Rattle.flatstatements.specs.Front.{◌>>=◌, is_sign, is_colons}
use Rattle.flatstatements.specs.Reading.{is_name, opens, closes, out_of, step, may_end, IsShallow, then_step, notes_length, notes_at}
use Rattle.flatstatements.specs.declared.notes.Place.{Place}
use Rattle.flatstatements.specs.declared.notes.Place.TheVariants.{Between, BehindColons, BehindName, Within}

pub shallow_more : (p : Place) (m n : ℕ) → IsShallow p m → m ≤ n → IsShallow p n
shallow_more Between m n h l = tt
shallow_more BehindColons m n h l = tt
shallow_more BehindName m n h l = tt
shallow_more (Within d) m n h l = omega arith

either : {A : Type 0} (P : A → Type 0) (b : Bool) (x y : Option A) → IfSome x P → IfSome y P → IfSome (x if b else y) P
either P true x y h k = h
either P false x y h k = k

step_within : (d n : ℕ) → d < n → IsShallow (out_of d) (n + 1)
unfolding out_of
step_within zero n h = tt
step_within (suc d) n h = omega arith

steps_shallow : (p : Place) (t : Token) (n : ℕ) → 0 < n → IsShallow p n → IfSome (step p t) (λ q. IsShallow q (n + 1))
unfolding step
steps_shallow Between t n l h = either (λ q. IsShallow q (n + 1)) (is_colons t) (Some BehindColons) None tt tt
steps_shallow BehindColons t n l h = either (λ q. IsShallow q (n + 1)) (is_name t) (Some BehindName) None tt tt
steps_shallow BehindName t n l h =
    either (λ q. IsShallow q (n + 1)) (is_sign 40 t) (Some (Within 0)) (Some BehindColons if is_colons t else None) (omega arith) (either (λ q. IsShallow q (n + 1)) (is_colons t) (Some BehindColons) None tt tt)
steps_shallow (Within d) t n l h =
    either (λ q. IsShallow q (n + 1)) (opens t) (Some (Within (suc d))) (Some (out_of d) if closes t else Some (Within d)) (omega arith)
    (either (λ q. IsShallow q (n + 1)) (closes t) (Some (out_of d)) (Some (Within d)) (step_within d n h) (omega arith))

pub step_shallow : (p : Place) (t : Token) (q : Place) (n : ℕ) → 0 < n → IsShallow p n → step p t ≡ Some q → IsShallow q (n + 1)
step_shallow p t q n l h e = let P : Option Place → Type 0 = λ o. IfSome o (λ q. IsShallow q (n + 1)) in subst P e (steps_shallow p t n l h)

-- ---- the loop

abbrev pub counted : ℕ → Option ℕ → Option ℕ
counted i = option_map (λ n. i + n)

pub counted-zero : (r : Option ℕ) → counted 0 r ≡ r
counted-zero (Some n) = ap Some (omega arith)
counted-zero None = refl

counted-more : (i : ℕ) (r : Option ℕ) → counted i (option_map (λ n. 1 + n) r) ≡ counted (i + 1) r
counted-more i (Some n) = ap Some (omega arith)
counted-more i None = refl

module _ (p : Place) (ts rest : List Token) (t : Token) (i : ℕ) (whole : Option ℕ) (front : ts ≡ t ∷ rest) (so_far : counted i (notes_length p ts) ≡ whole) where
  pub goes_on : (q : Place) → step p t ≡ Some q → counted (i + 1) (notes_length q rest) ≡ whole
  unfolding notes_length
  goes_on q e = sym (counted-more i (notes_length q rest)) ∙ sym (ap (λ (xs : List Token). counted i (notes_length p xs)) front ∙ ap (λ (o : Option Place). counted i (then_step (Some 0 if may_end p else None) (λ q. notes_length q rest) o)) e) ∙ so_far

  pub stops : step p t ≡ None → whole ≡ (Some i if may_end p else None)
  unfolding notes_length
  stops e = sym so_far ∙ ap (λ (xs : List Token). counted i (notes_length p xs)) front ∙ ap (λ (o : Option Place). counted i (then_step (Some 0 if may_end p else None) (λ q. notes_length q rest) o)) e ∙ here (may_end p)
    where
      here : (b : Bool) → counted i (Some 0 if b else None) ≡ (Some i if b else None)
      here true = ap Some (omega arith)
      here false = refl

pub over : (p : Place) (ts : List Token) (i n : ℕ) (whole : Option ℕ) → i ≡ n → length ts ≤ i → counted i (notes_length p (drop i ts)) ≡ whole → whole ≡ (Some n if may_end p else None)
unfolding notes_length
over p ts i n whole e l so_far = sym so_far ∙ ap (λ (xs : List Token). counted i (notes_length p xs)) (drop_of_length-le ts l) ∙ here (may_end p) ∙ ap (λ (k : ℕ). Some k if may_end p else None) e
  where
    here : (b : Bool) → counted i (Some 0 if b else None) ≡ (Some i if b else None)
    here true = ap Some (omega arith)
    here false = refl

-- ---- annotations and what is behind them

pub noted : (rest notes behind : List Token) (n : ℕ) → notes_length Between rest ≡ Some n → notes ≡ take n rest → behind ≡ drop n rest → notes_at rest ≡ Some (notes, behind)
unfolding notes_at
noted rest notes behind n e f g = rw (f, g) (ap (λ (o : Option ℕ). o >>= λ n. Some (take n rest, drop n rest)) e)

pub none_noted : (rest : List Token) → notes_length Between rest ≡ None → notes_at rest ≡ None
unfolding notes_at
none_noted rest e = ap (λ (o : Option ℕ). o >>= λ n. Some (take n rest, drop n rest)) e

pub notes_fail : (e : Trouble) (rest : List Token) → Fails e (notes_length Between rest) → Fails e (notes_at rest)
notes_fail Memory rest h = tt
notes_fail (Fault m) rest h = none_noted rest h

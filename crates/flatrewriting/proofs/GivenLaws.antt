-- The arguments of a builtin, step by step.
use Rattle.std.proofs.Common.{◌≡◌, refl, sym, ap, ◌∙◌, List, [], ◌∷◌, ◌++◌, ℕ, ◌+◌, ◌<◌, ◌≤◌, add-one, arith, ℤ, map, length, get_or, drop, drop-cons, drop_of_length-le, append-nil, Option, Some, None}
use Rattle.std.proofs.lemmas.List.{length-map, get_or-map}
use Rattle.models.specs.Table.{Sort, integer}
use Rattle.flatzinc.specs.declared.Value.{Value as ValueOf}
use Rattle.flatzinc.specs.Seen.{value}
use Rattle.flatrewriting.specs.declared.sort.Sort.{Sort as SortOf}
use Rattle.flatrewriting.specs.declared.sort.Sort.TheVariants.{Integer}
use Rattle.flatrewriting.specs.Sorts.{sort}
use Rattle.flatzinc.specs.declared.Atom.{Atom}
use Rattle.flatzinc.specs.declared.Atom.TheVariants.{Whole, Truth, Variable}
use Rattle.flatzinc.specs.Items.{Value, wholes}
use Rattle.flatrewriting.specs.Arguments.{Given, Front, front, arguments}
use Rattle.flatrewriting.proofs.Walks.{one_more, fronted, regroup}

-- ---- a list of numbers

abbrev pub whole_of : Atom → Option ℤ
whole_of (Whole n) = Some n
whole_of (Truth b) = None
whole_of (Variable v) = None

pub wholes-next : (a : Atom) (as₁ : List Atom) → wholes (a ∷ as₁) ≡ one_more (whole_of a) (wholes as₁)
unfolding wholes
wholes-next (Whole n) as₁ = refl
wholes-next (Truth b) as₁ = refl
wholes-next (Variable v) as₁ = refl

pub not-whole : (a : Atom) → ((n : ℤ) → a ≡ Whole n → ⊥) → whole_of a ≡ None
not-whole (Whole n) h = absurd (h n refl)
not-whole (Truth b) h = refl
not-whole (Variable v) h = refl

-- ---- all arguments, from the i-th sort on

module _ (done : List Given) (ss : List Sort) (i : ℕ) (total : Option (List Given)) where
  pub arguments_on : (vs : List Value) (s : Sort) (f : Front) → i < length ss → get_or ss i integer ≡ s → front s vs ≡ Some f →
      fronted done (arguments (drop i ss) vs) ≡ total → fronted (done ++ f.argument ∷ []) (arguments (drop (i + 1) ss) f.rest) ≡ total
  unfolding arguments
  arguments_on vs s f l e h so_far =
      let d : drop i ss ≡ s ∷ drop (i + 1) ss = drop-cons ss i integer l ∙ rw (e, add-one) refl in
      let r : arguments (drop i ss) vs ≡ one_more (Some f.argument) (arguments (drop (i + 1) ss) f.rest) = rw (d, h) refl in
      sym (regroup done f.argument (arguments (drop (i + 1) ss) f.rest)) ∙ ap (fronted done) (sym r) ∙ so_far

  pub arguments_stop : (vs : List Value) (s : Sort) → i < length ss → get_or ss i integer ≡ s → front s vs ≡ None → fronted done (arguments (drop i ss) vs) ≡ total → total ≡ None
  unfolding arguments
  arguments_stop vs s l e h so_far =
      let d : drop i ss ≡ s ∷ drop (i + 1) ss = drop-cons ss i integer l ∙ rw (e, add-one) refl in
      let r : arguments (drop i ss) vs ≡ None = rw (d, h) refl in
      sym so_far ∙ ap (fronted done) r

  pub arguments_left : (xs : List ValueOf) → 0 < length xs → length ss ≤ i → fronted done (arguments (drop i ss) (map value xs)) ≡ total → total ≡ None
  unfolding arguments
  arguments_left [] p l so_far = absurd (omega arith)
  arguments_left (x ∷ xs) p l so_far = let r : arguments (drop i ss) (value x ∷ map value xs) ≡ None = rw (drop_of_length-le ss l) refl in sym so_far ∙ ap (fronted done) r

  pub arguments_done : (xs : List ValueOf) → length xs ≤ 0 → length ss ≤ i → fronted done (arguments (drop i ss) (map value xs)) ≡ total → total ≡ Some done
  unfolding arguments
  arguments_done (x ∷ xs) p l so_far = absurd (omega arith)
  arguments_done [] p l so_far =
      let r : arguments (drop i ss) [] ≡ Some [] = rw (drop_of_length-le ss l) refl in sym so_far ∙ ap (fronted done) r ∙ ap Some (append-nil done)

-- ---- sorts of the code and of the table

pub sort-at : (ws : List SortOf) (ss : List Sort) → map sort ws ≡ ss → (i : ℕ) → i < length ws → (i < length ss) × (get_or ss i integer ≡ sort (get_or ws i Integer))
sort-at ws ss e i l = (
  let h : length ss ≡ length ws = ap length (sym e) ∙ length-map ws sort in omega arith,
  ap (λ (xs : List Sort). get_or xs i integer) (sym e) ∙ get_or-map sort ws i Integer integer l,
)

pub past_sorts : (ws : List SortOf) (ss : List Sort) → map sort ws ≡ ss → (i : ℕ) → length ws ≤ i → length ss ≤ i
past_sorts ws ss e i l = let h : length ss ≡ length ws = ap length (sym e) ∙ length-map ws sort in omega arith

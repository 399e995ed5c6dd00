-- What codes 14 and 24 to 28 pick, by the places of the arguments as the code reads them.
use Rattle.integers.specs.declared.Bounds.{Bounds}
use Rattle.std.proofs.Common.{◌≡◌, refl, sym, ap, ap₂, ◌∙◌, Bool, true, false, List, [], ◌∷◌, ◌++◌, ℕ, ◌+◌, ◌-◌, ◌<◌, arith, ltb, ℤ, pos, length, ltb-true, ltb-false}
use Rattle.integers.specs.Number.{◌⊕◌, ◌⊖◌, ◌≟◌, count, +0, +1, -1}
use Rattle.integers.specs.Bounds.{width, values, bounds_in}
use Rattle.integers.specs.Terms.{◌·◌, value, sum}
use Rattle.integers.proofs.Linear.{◌⊑◌, linear, rep}
use Rattle.integers.proofs.Tests.{says-equal}
use Rattle.integers.proofs.Lists.{list_of-length}
use Rattle.integers.proofs.Places.{get_or-list_of}
use Rattle.models.specs.Model.{var, size, vars, nums, builtin, builtins}
use Rattle.rules.specs.Parts.{nth, places}
use Rattle.rules.specs.Pick.{pick, first_bit, gated_pick}
use Rattle.rules.proofs.Members.{places-kept}
use Rattle.rules.specs.Shared.{Encoded, pick_after}
use Rattle.arguments.specs.declared.instance.Instance.{Instance}
use Rattle.models.proofs.AllCodes.{Unknown, no_builtin}
use Rattle.encodings.specs.Uses.{shared_by}
use Rattle.encodings.proofs.Record.{shares-by, no-choosing}
use Rattle.picking.specs.Picked.{picks_of, picks_after, product_picks}
use Rattle.picking.specs.Only.{only_at, FirstAt}
use Rattle.picking.proofs.Only.{gated, times-bits, only_none}
use Rattle.picking.proofs.Labels.{some-place, no-later, label-bits}

-- for a number that no code has nothing is picked
pub unknown_picks : (Ds : List Bounds) (uses : List ℕ) (e : Encoded) (vs : List ℤ) (code : ℕ) (args : List ℕ) → Unknown code → picks_after Ds uses e vs code args ≡ []
unfolding pick pick_after
unknown_picks Ds uses e vs code args h = rw (shares-by (shared_by uses) code args, no-choosing code h, no_builtin code args h)

-- 14
pub difference : (σ : ℕ → ℤ) (a b : ℕ) → sum σ (+1 · a ∷ -1 · b ∷ []) ⊖ +0 ≡ σ a ⊖ σ b
unfolding sum
difference σ a b = rw (rep (σ a), rep (σ b)) (simp linear (omega arith))

module _ (Ds : List Bounds) (i : Instance) where
  abbrev vs : List ℤ
  vs = i.values.now

  abbrev ws : List ℕ
  ws = i.args.now

  -- the labels of 24 and 25
  abbrev pub labels : Bounds
  labels = places (bounds_in Ds (var ws 0)) (size ws 1)

  -- 24
  pub element-picks : picks_of Ds i 24 ≡ first_bit (λ j. j ≟ value vs (var ws 0)) (values labels)
  unfolding pick builtin builtins nums
  element-picks = rw list_of-length

  -- 28
  pub set-picks : picks_of Ds i 28 ≡ first_bit (λ v. v ≟ value vs (var ws 0)) (values (bounds_in Ds (var ws 0)))
  unfolding pick builtin builtins
  set-picks = refl

  -- 26
  pub maximum-picks : (h : ℕ) → FirstAt (λ k. value vs (var ws (1 + 1 + k)) ≟ value vs (var ws 0)) (size ws 1) h →
      gated_pick (value vs) (λ x. value vs x ≟ value vs (var ws 0)) (vars ws 1) ≡ only_at (size ws 1) h +1 ++ only_at (size ws 1) h (value vs (var ws (2 + h)))
  unfolding vars
  maximum-picks h w = gated (value vs) (λ x. value vs x ≟ value vs (var ws 0)) (λ k. var ws (1 + 1 + k)) (size ws 1) h w

  -- 25: the label of the place is i, and its element is that of the code
  in_list : (j : ℤ) → +1 ⊑ j → j ⊑ pos (size ws 1) → nth 0 (vars ws 1) j ≡ var ws (1 + count j)
  unfolding nth vars
  in_list j l m =
      let p : count j - 1 < size ws 1 = below j (size ws 1) l m in
      let q : 1 + 1 + (count j - 1) ≡ 1 + count j = above j l in
      get_or-list_of (λ k. var ws (1 + 1 + k)) (size ws 1) (count j - 1) 0 p ∙ ap (var ws) q
    where
      below : (j : ℤ) (n : ℕ) → +1 ⊑ j → j ⊑ pos n → count j - 1 < n
      below j n = rw (rep j) (simp linear (omega arith))

      above : (j : ℤ) → +1 ⊑ j → 1 + 1 + (count j - 1) ≡ 1 + count j
      above j = rw (rep j) (simp linear (omega arith))

  own : (h : ℕ) → h < width labels → (+1 ⊑ labels.lower ⊕ pos h) × (labels.lower ⊕ pos h ⊑ pos (size ws 1))
  unfolding places width
  own h = rw (rep (bounds_in Ds (var ws 0)).lower, rep (bounds_in Ds (var ws 0)).upper) (simp linear (omega arith))

  vars-length : length (vars ws 1) ≡ size ws 1
  unfolding vars
  vars-length = list_of-length _ _

  -- the value of that element
  abbrev chosen_value : ℤ
  chosen_value = value vs (var ws (1 + count (value vs (var ws 0))))

  module _ (h : ℕ) (w : FirstAt (λ k. labels.lower ⊕ pos k ≟ value vs (var ws 0)) (width labels) h) where
    element : h < width labels → value vs (nth 0 (vars ws 1) (labels.lower ⊕ pos h)) ≡ chosen_value
    element l =
        let o = own h l in
        ap (value vs) (in_list (labels.lower ⊕ pos h) o.0 o.1)
        ∙ ap (λ z. value vs (var ws (1 + count z))) ((says-equal _ _).0 (w.here l))

    same-element : (t : Bool) → ltb h (width labels) ≡ t → only_at (width labels) h (value vs (nth 0 (vars ws 1) (labels.lower ⊕ pos h))) ≡ only_at (width labels) h chosen_value
    same-element true e = ap (only_at (width labels) h) (element (ltb-true _ _ e))
    same-element false e = only_none _ h h _ _ (ltb-false _ _ e) (ltb-false _ _ e)

    var_element_picks : picks_of Ds i 25 ≡ only_at (width labels) h +1 ++ only_at (width labels) h chosen_value
    unfolding pick builtin builtins values
    var_element_picks =
        rw vars-length
        (gated (λ j. value vs (nth 0 (vars ws 1) j)) (λ j. j ≟ value vs (var ws 0)) (λ k. labels.lower ⊕ pos k) (width labels) h w
        ∙ ap (λ zs. only_at (width labels) h +1 ++ zs) (same-element (ltb h (width labels)) refl))

    pub product-picks : product_picks Ds i ≡ only_at (width labels) h chosen_value
    unfolding product_picks values
    product-picks =
        rw (vars-length, places-kept (bounds_in Ds (var ws 0)) (size ws 1))
        (times-bits (λ j. value vs (nth 0 (vars ws 1) j)) (λ j. j ≟ value vs (var ws 0)) (λ k. labels.lower ⊕ pos k) (width labels) h w (no-later (value vs (var ws 0)) labels.lower w)
        ∙ same-element (ltb h (width labels)) refl)

  -- the bits of 24, then the products
  pub var_element_both : picks_of Ds i 25 ≡ picks_of Ds i 24 ++ product_picks Ds i
  var_element_both =
      let p = some-place (value vs (var ws 0)) labels.lower (width labels) in
      var_element_picks p.0 p.1
      ∙ ap₂ (λ a b. a ++ b) (sym (element-picks ∙ label-bits labels (value vs (var ws 0)) p.0 p.1)) (sym (product-picks p.0 p.1))

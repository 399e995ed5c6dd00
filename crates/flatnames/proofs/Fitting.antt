-- As many values fit as are due.
use Rattle.std.proofs.Common.{◌≡◌, ◌≢◌, refl, ap, ◌∙◌, Bool, true, false, ◌&&◌, List, [], ◌∷◌, length, suc}
use Rattle.flatzinc.specs.Items.{Value, Declared}
use Rattle.flatnames.specs.Due.{Due, fits, each_fits}

and-false : (b : Bool) → (b && false) ≡ false
and-false true = refl
and-false false = refl

pub too_many : (ds : List Declared) (us : List Due) (vs : List Value) → length us ≢ length vs → each_fits ds us vs ≡ false
unfolding each_fits
too_many ds [] [] h = absurd (h refl)
too_many ds [] (v ∷ vs) h = refl
too_many ds (u ∷ us) [] h = refl
too_many ds (u ∷ us) (v ∷ vs) h = ap (λ b. fits ds u v && b) (too_many ds us vs (λ e. h (ap suc e))) ∙ and-false (fits ds u v)

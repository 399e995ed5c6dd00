-- A variable of a list with a name of the model more, for the write to it.
use Rattle.std.proofs.Common.{◌≡◌, ℕ, ◌<◌, List, length, get_or, ap, sym, ◌∙◌}
use Rattle.std.specs.Prelude.{map, slice_set, Result, Ok, Err, OnOk}
use Rattle.std.proofs.lemmas.List.{map-set, get_or-map}
use Rattle.flattext.specs.declared.text.Called.{Called as Called'}
use Rattle.flattext.specs.Called.{nameless}
use Rattle.flattext.specs.SeenCalled.{called}
use Rattle.flattext.specs.Elements.{with_label, labelled_at}

pub on_ok : {T E : Type 0} (r : Result T E) (P Q : Type 0) → (P → Q) → OnOk r P → OnOk r Q
on_ok (Ok x) P Q f h = f h
on_ok (Err e) P Q f h = h

pub label_set : (xs : List Called') (v : ℕ) (x y : Called') (label : List ℕ) → v < length xs → called y ≡ with_label (called (get_or xs v x)) label → map called (slice_set xs v y) ≡ labelled_at (map called xs) v label
label_set xs v x y label lt h =
    map-set called xs v y
    ∙ ap (slice_set (map called xs) v) (h ∙ ap (λ c. with_label c label) (sym (get_or-map called xs v x nameless lt)))

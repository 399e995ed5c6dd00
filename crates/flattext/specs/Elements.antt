-- The model's names for the variables among an output array's elements.
use Rattle.std.specs.Prelude.{List, [], ◌∷◌, ◌++◌, ℕ, ◌+◌, get_or, Option, Some, None, codes, slice_set}
use Rattle.flatzinc.specs.declared.Atom.{Atom}
use Rattle.flatzinc.specs.declared.Atom.TheVariants.{Variable}
use Rattle.flatplaces.specs.declared.annotations.IndexSet.{IndexSet}
use Rattle.flatplaces.specs.Label.{element_name}
use Rattle.flattext.specs.Called.{Called, nameless}

abbrev pub with_label : Called → List ℕ → Called
with_label c label = record { name = c.name; labels = c.labels ++ codes " " ++ label; place = c.place }

-- a variable with a name more
abbrev pub labelled_at : List Called → ℕ → List ℕ → List Called
labelled_at names v label = slice_set names v (with_label (get_or names v nameless) label)

abbrev pub labelled_by : List Called → ℕ → Option (List ℕ) → List Called
labelled_by names v None = names
labelled_by names v (Some label) = labelled_at names v label

-- an array's k-th element, if it is a variable
abbrev pub labelled_element : List Called → List ℕ → List IndexSet → ℕ → Atom → List Called
labelled_element names array sets k (Variable v) = labelled_by names v (element_name array sets k)
labelled_element names array sets k a = names

-- the elements from the k-th on
abbrev pub labelled_from : List Called → List ℕ → List IndexSet → ℕ → List Atom → List Called
labelled_from names array sets k [] = names
labelled_from names array sets k (a ∷ as₁) = labelled_from (labelled_element names array sets k a) array sets (k + 1) as₁

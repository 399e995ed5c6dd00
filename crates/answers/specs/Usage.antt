-- What is said of wrong usage and of a file that cannot be read; the status is 64.
use Rattle.std.specs.Prelude.{List, ◌++◌, ℕ, codes}
use Rattle.answers.specs.Said.{Said, complained_said}

abbrev pub usage_said : List ℕ → Said
usage_said what = complained_said (codes "pearrummy: " ++ (what ++ codes "\nTry: pearrummy --help\n")) 64

abbrev pub usage_of_said : List ℕ → List ℕ → Said
usage_of_said what which = complained_said (codes "pearrummy: " ++ (what ++ (codes ": " ++ (which ++ codes "\nTry: pearrummy --help\n")))) 64

abbrev pub file_said : List ℕ → List ℕ → Said
file_said name why = complained_said (codes "pearrummy: " ++ (name ++ (codes ": " ++ (why ++ codes "\n")))) 64

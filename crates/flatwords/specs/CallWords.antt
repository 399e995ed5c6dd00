-- The words of calls as the calls have their arguments; an atom that is no variable is written as variable 0.
use Rattle.std.specs.Prelude.{List, [], ◌∷◌, ◌++◌, map, ℕ, length}
use Rattle.words.specs.Word.{word, number_word}
use Rattle.words.specs.Kind as Kind
use Rattle.models.specs.Codes.{code_number}
use Rattle.flatzinc.specs.declared.Atom.{Atom}
use Rattle.flatzinc.specs.Numbers.{number_of}
use Rattle.flatzinc.specs.declared.Product.{Product}
use Rattle.flatzinc.specs.declared.Argument.{Argument}
use Rattle.flatzinc.specs.declared.Argument.TheVariants.{One, Number, Numbers, Many, Sum}
use Rattle.flatzinc.specs.declared.Call.{Call}

abbrev pub atom_word : Atom → ℕ
atom_word a = word Kind.variable (number_of a)

-- a list's length, its coefficients, its variables
abbrev pub written_sum : List Product → List ℕ
written_sum ps = word Kind.number (length ps) ∷ (map (λ (p : Product). number_word Kind.number p.coefficient) ps ++ map (λ (p : Product). atom_word p.atom) ps)

unfoldable pub written : Argument → List ℕ
written (One a) = atom_word a ∷ []
written (Number n) = number_word Kind.number n ∷ []
written (Numbers ns) = word Kind.number (length ns.items) ∷ map (number_word Kind.number) ns.items
written (Many as₁) = word Kind.number (length as₁.items) ∷ map atom_word as₁.items
written (Sum ps) = written_sum ps.items

unfoldable pub all_written : List Argument → List ℕ
all_written [] = []
all_written (g ∷ gs) = written g ++ all_written gs

unfoldable pub call_words : Call → List ℕ
call_words c = word Kind.constraint (code_number c.code) ∷ all_written c.arguments.items

unfoldable pub all_call_words : List Call → List ℕ
all_call_words [] = []
all_call_words (c ∷ cs) = call_words c ++ all_call_words cs

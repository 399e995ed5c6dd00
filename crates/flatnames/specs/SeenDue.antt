-- What the code's places of arguments stand for.
use Rattle.flatnames.specs.Due as d
use Rattle.flatnames.specs.declared.due.Due.{Due}
use Rattle.flatnames.specs.declared.due.Due.TheVariants.{Integer, Boolean, Number, Exponent, Set, Numbers, Integers, Booleans, ShortNumbers, ShortIntegers, ShortBooleans}

abbrev pub due_of : Due → d.Due
due_of Integer = d.integer
due_of Boolean = d.boolean
due_of Number = d.number
due_of Exponent = d.exponent
due_of Set = d.set
due_of Numbers = d.numbers
due_of Integers = d.integers
due_of Booleans = d.booleans
due_of ShortNumbers = d.short_numbers
due_of ShortIntegers = d.short_integers
due_of ShortBooleans = d.short_booleans

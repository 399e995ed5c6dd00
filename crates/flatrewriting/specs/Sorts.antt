-- What the code's sorts stand for.
use Rattle.models.specs.Table as t
use Rattle.flatrewriting.specs.declared.sort.Sort.{Sort}
use Rattle.flatrewriting.specs.declared.sort.Sort.TheVariants.{Integer, Boolean, Number, Exponent, Numbers, Set, Integers, Booleans, Parallel}

abbrev pub sort : Sort → t.Sort
sort Integer = t.integer
sort Boolean = t.boolean
sort Number = t.number
sort Exponent = t.exponent
sort Numbers = t.numbers
sort Set = t.set
sort Integers = t.integers
sort Booleans = t.booleans
sort Parallel = t.parallel

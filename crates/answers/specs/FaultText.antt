-- The faults in words, as docs/FORMAT.md has them.
use Rattle.std.specs.Prelude.{List, ℕ, codes}
use Rattle.words.specs.declared.fault.Fault.{Fault}
use Rattle.words.specs.declared.fault.Fault.TheVariants as f

abbrev pub fault_text : Fault → List ℕ
fault_text f.TooManyWords = codes "more than 8,192 words in a model, or 262,144 in a row system"
fault_text f.WordsEnd = codes "the words end too early"
fault_text f.WrongKind = codes "the kind of the word does not belong there"
fault_text f.UpperBelowLower = codes "the upper bound is below its lower one"
fault_text f.PayloadAboveZero = codes "the payload of a Boolean, product or end word is above 0"
fault_text f.TooManyVariables = codes "a 257th variable starts"
fault_text f.TooManyConstraints = codes "a 257th constraint starts"
fault_text f.UnknownCode = codes "the code is unknown"
fault_text f.LengthOutside = codes "a list length is outside 0 to 32, an exponent outside 0 to 27, or a number of terms above 66"
fault_text f.NotDeclared = codes "a variable number is not declared so far, or has the wrong type"
fault_text f.WordAfterEnd = codes "a word follows the end word"
fault_text f.SetTooWide = codes "a variable whose values are encoded as bits has more than 64 of them"
fault_text f.NumberOutside = codes "a coefficient, constant or auxiliary bound of the rows is outside the range"
fault_text f.TooManyInAll = codes "variables and auxiliaries pass 4,096"
fault_text f.WrongValueCount = codes "the number of values is not that of the variables, in rows with the auxiliaries"
fault_text f.OutputTooShort = codes "the lent list is too short"
fault_text f.ResultNotAbove = codes "the number of a product's result is not above both factors'"
fault_text f.LowestNumber = codes "a number is the lowest 28-bit number, which has no opposite"
fault_text f.BreaksGrammar = codes "the text breaks the grammar"
fault_text f.WrongName = codes "the name is unknown, or a variable is declared twice"
fault_text f.OutsideRange = codes "a number is outside -134,217,727 to 134,217,727"
fault_text f.TooManyLists = codes "more than 8 variables, or more than 65,536 value lists"
fault_text f.TooManyBits = codes "more than 1,024 bits are needed"
fault_text f.FormTooLarge = codes "a number of a row over bits is beyond 16,384, or one of the form outside the range, or the energy is 2^62 or more"
fault_text f.NotABit = codes "a bit is neither 0 nor 1"
fault_text f.NoSuchVariable = codes "there is no such variable, or no such direction"

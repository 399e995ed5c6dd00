-- The number that a case gives each call.
use Rattle.std.specs.Prelude.{ℕ}
use Rattle.suite.specs.declared.call.Call.{Call}
use Rattle.suite.specs.declared.call.Call.TheVariants as Call
use Rattle.suite.specs.declared.call.ModelCall.TheVariants as Model
use Rattle.suite.specs.declared.call.RowsCall.TheVariants as Rows
use Rattle.suite.specs.declared.call.BitsCall.TheVariants as Bits
use Rattle.suite.specs.declared.call.PairCall.TheVariants as Pair

abbrev pub call_number : Call → ℕ
call_number Call.TooFar = 0
call_number (Call.Model Model.Check) = 1
call_number (Call.Model Model.Translate) = 2
call_number (Call.Model Model.Judge) = 3
call_number (Call.Rows Rows.Judge) = 4
call_number (Call.Model Model.Fill) = 5
call_number (Call.Rows Rows.Sheet) = 6
call_number Call.Text = 7
call_number (Call.Model Model.Reason) = 8
call_number (Call.Model Model.Solutions) = 9
call_number (Call.Rows Rows.Bits) = 10
call_number (Call.Pair Pair.Check) = 11
call_number (Call.Pair Pair.Translate) = 12
call_number (Call.Pair Pair.Judge) = 13
call_number (Call.Pair Pair.Fill) = 14
call_number (Call.Bits Bits.Values) = 15
call_number (Call.Bits Bits.Energy) = 16
call_number (Call.Bits Bits.OfValues) = 17
call_number (Call.Bits Bits.Best) = 18

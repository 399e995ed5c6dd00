-- Each code by its own numbers.
use Rattle.std.proofs.Common.{rules}
use Rattle.picking.proofs.Puts.{puts_none}
use Rattle.models.specs.Model.{builtin, builtins}
use Rattle.arguments.proofs.Size.{read}
use Rattle.rules.specs.Pick.{bit_of, pick}
use Rattle.picking.proofs.pick_block.Goals as goal

pub put-requires : goal.put-requires
unfolding bit_of pick builtin builtins
put-requires c = (search rules, rw (read c.values_product.type_inv c.values_product.ensures) ((rw c.in-IntTimes.is at c.requires).ranged 0))

pub sign-requires : goal.sign-requires
unfolding bit_of pick builtin builtins
sign-requires c = (search rules, rw (read c.value-in-IntAbs.type_inv c.value-in-IntAbs.ensures.value) (rw c.in-IntAbs.is at c.requires).ranged)

pub put-requires-in-IntLinLeReif : goal.put-requires-in-IntLinLeReif
unfolding bit_of pick builtin builtins
put-requires-in-IntLinLeReif c = (search rules, rw (read c.sum_less.type_inv c.sum_less.ensures) ((rw c.in-IntLinLeReif.is at c.requires).ranged 0))

pub returns-in-IntLe : goal.returns-in-IntLe
unfolding bit_of pick builtin builtins
returns-in-IntLe c = rw c.in-IntLe.is puts_none

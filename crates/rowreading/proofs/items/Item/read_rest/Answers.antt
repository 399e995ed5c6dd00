-- Each case is the law of its word.
use Rattle.rowreading.specs.Item.{start_due, due_with, more_sources}
use Rattle.rowreading.proofs.Inner.{source-upper, auxiliary-upper, row-constant, no_word, after-end}
use Rattle.rowreading.proofs.items.Item.read_rest.Goals as goal

pub returns-in-Variable : goal.returns-in-Variable
unfolding start_due due_with more_sources
returns-in-Variable c = rw (c.in-Variable.is, c.upper_at.ensures) (source-upper _ _ _ c.requires.within _)

pub returns-in-Boolean : goal.returns-in-Boolean
unfolding start_due due_with more_sources
returns-in-Boolean c = rw c.in-Boolean.is (no_word _ _ _ c.requires.within)

pub returns-in-Auxiliary : goal.returns-in-Auxiliary
unfolding start_due due_with more_sources
returns-in-Auxiliary c = rw (c.in-Auxiliary.is, c.upper_at-in-Auxiliary.ensures) (auxiliary-upper _ _ _ c.requires.within _)

pub returns-in-Row : goal.returns-in-Row
unfolding start_due due_with more_sources
returns-in-Row c = rw (c.in-Row.is, c.number_at.ensures) (row-constant _ _ _ c.requires.within)

pub returns-in-Product : goal.returns-in-Product
unfolding start_due due_with more_sources
returns-in-Product c = rw c.in-Product.is c.read_product.ensures.step

pub returns-in-End : goal.returns-in-End
unfolding start_due due_with more_sources
returns-in-End c = rw (c.in-End.is, c.over.ensures) (after-end _ _ _ c.requires.within)

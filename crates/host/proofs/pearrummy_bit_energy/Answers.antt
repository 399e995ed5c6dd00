-- The energy as the form's value, and what it says of the row system, by the answer that a host gets.
use Rattle.host.proofs.pearrummy_bit_energy.Goals as goal

pub returns-clause-form : goal.returns-clause-form
returns-clause-form c = rw c.bit_energy.ensures.answer at c.bit_energy.ensures.form

pub returns-clause-shared : goal.returns-clause-shared
returns-clause-shared c = rw c.bit_energy.ensures.answer at c.bit_energy.ensures.shared

-- The two answers are compared by the flag that the branch tests.
use Rattle.sound_port.specs.Lent.{byte_of, after_read}
use Rattle.sound_port.proofs.lent.Laws.{stays}
use Rattle.sound_port.proofs.lent.Port.step.Goals as goal

pub returns-then-self : goal.returns-then-self
unfolding after_read
returns-then-self c = simp c.if-self.true

pub returns-else-self : goal.returns-else-self
returns-else-self c = λ i. record { byte = byte_of c.args.self; port = stays c.args.self c.if-self.false i }

-- The first space stands behind the first word.
use Rattle.std.proofs.Common.{arith}
use Rattle.std.proofs.lemmas.Grind.{common_steps}
use Rattle.std.proofs.lemmas.Bool.Decides.{nat_tests}
use Rattle.replay_text.proofs.Laws.Words.{behind-word}
use Rattle.replay_text.proofs.words.after_space.Goals as goal

pub returns-in-Some : goal.returns-in-Some
returns-in-Some c = rw (behind-word c.args.line.now) (grind (arith, common_steps, nat_tests))

pub returns-in-None : goal.returns-in-None
returns-in-None c = rw (behind-word c.args.line.now) (grind (arith, common_steps, nat_tests))

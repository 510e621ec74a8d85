use Rattle.cfi_world.proofs.PutLemmas.{not_put}
use Rattle.cfi_world.proofs.laws.nobody_is_put_on_a_jump.Goals as goal

pub returns : goal.returns
returns c = not_put

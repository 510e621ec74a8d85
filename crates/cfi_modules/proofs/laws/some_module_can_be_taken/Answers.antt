use Rattle.std.proofs.Common.{[], refl, arith}
use Rattle.cfi_aux.specs.declared.modules.Module.{Module}
use Rattle.cfi_aux.proofs.NothingLemmas.{nothing, nothing_is_sound}
use Rattle.cfi_modules.proofs.laws.some_module_can_be_taken.Goals as goal

abbrev empty : Module
empty = record { object = nothing; types = []; records = record { functions = []; branches = [] }; cells = refl }

-- the one that has nothing
pub returns : goal.returns
returns c = (
  empty,
  record {
    sound = record { object_sound = nothing_is_sound; table = record { count = omega arith; nodes = tt; names = tt } };
    text = omega arith;
    static_data = omega arith;
    relocs = omega arith;
    functions = omega arith;
  },
)

-- What is drawn for each module, in the order of the draws: how many functions; for each but the first its node and
-- whether it is taken; then for each how many constants, and these.
use Rattle.std.specs.Prelude.{◌≡◌, ℕ, ◌<◌, ◌≤◌, Bool, true, false, List, [], ◌∷◌, ◌++◌, length, map, drop, slice_get, All, Some}
use Rattle.std.specs.List.{flat_map}
use Rattle.rand_core.specs.Stream.{Stream}
use Rattle.elf_read.specs.Places.{joined}
use Rattle.cfi_gen.specs.declared.shape.Kind.{Kind}
use Rattle.cfi_gen.specs.declared.shape.Function.{Function}
use Rattle.cfi_gen.specs.declared.shape.Drawn.{Drawn}
use Rattle.cfi_gen.specs.declared.shape.TheConstants.{MAX_FUNCTIONS, MAX_CONSTANTS}
use Rattle.cfi_gen.specs.Draws.{Draw, AreDrawn, seeded}

-- 1 is for true
abbrev pub flag_of : Bool → ℕ
flag_of true = 1
flag_of false = 0

-- the draws of how a function is called
abbrev pub kind_draws : Kind → List Draw
kind_draws kind =
    record { least = 1; among = 2; number = kind.node }
    ∷ record { least = 0; among = 2; number = flag_of kind.taken } ∷ []

-- those of the constants that it adds
abbrev pub constant_draw : (constant : ℕ) → Draw
constant_draw constant = record { least = 0; among = 200; number = constant }

-- and how many there are ahead of them
abbrev pub constant_draws : (constants : List ℕ) → List Draw
constant_draws constants =
    record { least = 1; among = 6; number = length constants } ∷ map constant_draw constants

-- those of functions that are called so, but for the first
abbrev pub kinds_draws : List Kind → List Draw
kinds_draws kinds =
    record { least = 2; among = 6; number = length kinds } ∷ flat_map kind_draws (drop 1 kinds)

-- those of a module's functions
abbrev pub function_draws : List Function → List Draw
function_draws functions =
    kinds_draws (map (λ function. function.kind) functions)
    ++ flat_map (λ function. constant_draws function.constants) functions

-- the first function is of node 1 and taken
abbrev pub first_kind : Kind
first_kind = record { node = 1; taken = true }

-- the draws of modules, one after the other
abbrev pub module_draws : List Drawn → List Draw
module_draws = flat_map (λ drawn. function_draws drawn.functions)

-- what holds of each function: its node is of a function, it adds few constants, and each is small
pub record IsFunction (function : Function) : Type 0 where
  pub node : function.kind.node ≤ 2
  pub few : length function.constants ≤ MAX_CONSTANTS
  pub small : All (λ constant. constant < 200) function.constants

-- the functions of a module are few, and the first is as it is
pub record AreFunctions (functions : List Function) : Type 0 where
  pub first : slice_get (map (λ function. function.kind) functions) 0 ≡ Some first_kind
  pub few : length functions ≤ MAX_FUNCTIONS
  pub each : All IsFunction functions

-- so many modules are those of the seed
pub record AreSeeded (seed count : ℕ) (drawn : List Drawn) : Type 0 where
  pub numbers : map (λ one. one.number) drawn ≡ joined (λ number. number ∷ []) count
  pub functions : All (λ one. AreFunctions one.functions) drawn
  pub left : Stream
  pub draws : AreDrawn (seeded seed) (module_draws drawn) left

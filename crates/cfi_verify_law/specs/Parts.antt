-- A module that was linked of others stands where they may stand, one after the other.
use Rattle.std.specs.Prelude.{◌≡◌, ℕ, List, ◌++◌, length, take, slice_get, Some}
use Rattle.std.specs.List.{flat_map}
use Rattle.cfi_aux.specs.declared.modules.Module.{Module}
use Rattle.cfi_aux.specs.declared.placed.Placed.{Placed}
use Rattle.cfi_link.specs.Linked.{AreModules, Linked}
use Rattle.cfi_modules.specs.Order.{Joins, IsPlacedBehind}

-- each of the modules joins those before it: the placed ones that stand already, and the parts of the modules before
abbrev pub JoinBehind : (code_words : ℕ) → (before : List Placed) → List Module → (parts : List Placed) → Type 0
JoinBehind code_words before ms parts = (k : ℕ) (m : Module) (p : Placed) → slice_get ms k ≡ Some m
    → slice_get parts k ≡ Some p → Joins code_words (before ++ take k parts) (before ++ take k parts) m p

-- the output is linked of the modules; these join in order behind placed ones, as parts; and there the output is
-- placed, as the whole. That the whole has the words of its parts is asked for, since linking may resolve otherwise
-- than placing the modules in order does: a global definition of a later module wins against a weak one of an earlier
-- module, and of two relocations of one word the later one may be applied first, at linking.
pub record AreParts (code_words : ℕ) (before : List Placed) (ms : List Module) (output : Module)
    (parts : List Placed) (whole : Placed) : Type 0 where
  pub modules : AreModules ms
  pub linked : Linked ms output
  pub count : length parts ≡ length ms
  pub joins : JoinBehind code_words before ms parts
  pub behind : IsPlacedBehind code_words before before output whole
  pub words : whole.words ≡ flat_map (λ (p : Placed). p.words) parts

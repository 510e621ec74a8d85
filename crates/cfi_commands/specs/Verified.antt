-- What is said of the modules of a plan that verify: for each its name, how many words it has, and how many checks.
use Rattle.std.specs.Prelude.{◌≡◌, ℕ, List, [], ◌∷◌, ◌++◌, codes, length, All}
use Rattle.cfi_unit.specs.declared.unit.Unit.{Unit as CodeUnit}
use Rattle.cfi_unit.specs.Code.{UnitCode}
use Rattle.cfi_text.specs.Decimal.{dec_text}
use Rattle.cfi_aux.specs.declared.placed.Placed.{Placed}
use Rattle.cfi_plan.specs.declared.plan.Plan.{Plan}
use Rattle.cfi_plan.specs.declared.plan.PlanModule.{PlanModule}
use Rattle.cfi_graph.specs.Shaped.{slots_of}
use Rattle.cfi_commands.specs.Files.{ArePlacedFiles}

-- the words of a module are the code of units, of which as many are checks as it has branches
abbrev pub HasItsChecks : Placed → Type 0
HasItsChecks m = (code : List CodeUnit) × UnitCode m.words code × (length (slots_of code) ≡ length m.branches)

-- the line of a module
abbrev pub module_line : PlanModule → Placed → List ℕ
module_line one m =
    codes "ok " ++ one.name ++ codes " " ++ dec_text (length m.words) ++ codes " " ++ dec_text (length m.branches)
    ++ 10 ∷ []

-- a line for each module, in order
abbrev pub module_lines : List PlanModule → List Placed → List ℕ
module_lines [] placed = []
module_lines (one ∷ modules) [] = []
module_lines (one ∷ modules) (m ∷ placed) = module_line one m ++ module_lines modules placed

-- the text of the modules of a plan, whose files these are
pub record IsVerifiedText (plan : Plan) (files : List (List ℕ)) (text : List ℕ) : Type 0 where
  pub placed : List Placed
  pub are : ArePlacedFiles plan.code_words files placed
  pub checks : All HasItsChecks placed
  pub spelled : text ≡ module_lines plan.modules placed

-- The lines of a plan after the first, by their words.
use Rattle.std.specs.Prelude.{ℕ, Bool, true, false, ◌==◌, List, [], ◌∷◌, codes, if◌then◌else◌, Option, Some, None, option_and_then}
use Rattle.std.specs.Option.{option_map}
use Rattle.std.specs.Str.{bytes_eq}
use Rattle.cfi_plan.specs.declared.line.Line.{Line}
use Rattle.cfi_plan.specs.declared.line.Line.TheVariants.{Blank, Code, Versions, Epoch, Fuel, Module, Guest, Load, Retire, Refresh}
use Rattle.cfi_text.specs.Decimal.{number_in}
use Rattle.cfi_text.specs.Names.{name_in, file_in}
use Rattle.cfi_values.specs.Some.{◌>>=◌}

-- a setting, or a number of refreshes from 1 on
unfoldable pub counted_form : (keyword : List ℕ) → (number : ℕ) → Option Line
counted_form keyword number =
    if bytes_eq keyword (codes "code") then Some (Code number)
    else (if bytes_eq keyword (codes "versions") then Some (Versions number)
    else (if bytes_eq keyword (codes "epoch") then Some (Epoch number)
    else (if bytes_eq keyword (codes "fuel") then Some (Fuel number)
    else (if bytes_eq keyword (codes "refresh") then (if number == 0 then None else Some (Refresh number))
    else None))))

-- a line with a number
abbrev pub numbered_form : (keyword word : List ℕ) → Option Line
numbered_form keyword word = option_and_then (counted_form keyword) (number_in word)

-- a guest by its entry, a load or a retiring by the module's name, or a line with a number
unfoldable pub pair_form : (keyword word : List ℕ) → Option Line
pair_form keyword word =
    if bytes_eq keyword (codes "guest") then option_map Guest (name_in word)
    else (if bytes_eq keyword (codes "load") then option_map Load (name_in word)
    else (if bytes_eq keyword (codes "retire") then option_map Retire (name_in word)
    else numbered_form keyword word))

-- whether a module is there from the start
unfoldable pub start_in : (word : List ℕ) → Option Bool
start_in word =
    if bytes_eq word (codes "start") then Some true
    else (if bytes_eq word (codes "late") then Some false else None)

-- a module by its name and file
unfoldable pub module_form : (name file when : List ℕ) → Option Line
module_form name file when = do
  n ← name_in name
  f ← file_in file
  s ← start_in when
  Some (Module (record { name = n; file = f; start = s }))

-- the line that the words say
abbrev pub form_of : (words : List (List ℕ)) → Option Line
form_of [] = Some Blank
form_of (keyword ∷ []) = None
form_of (keyword ∷ word ∷ []) = pair_form keyword word
form_of (keyword ∷ name ∷ file ∷ []) = None
form_of (keyword ∷ name ∷ file ∷ when ∷ []) =
    if bytes_eq keyword (codes "module") then module_form name file when else None
form_of (keyword ∷ name ∷ file ∷ when ∷ word ∷ words) = None

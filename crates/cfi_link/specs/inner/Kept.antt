-- What the code's types keep, and the faults of parts of the work.
use Rattle.std.specs.Prelude.{◌≡◌, ℕ, Bool, true, false, if◌then◌else◌, List, Option, Some, Result, Err, ⊤}
use Rattle.std.specs.Option.{option_or}
use Rattle.cfi_aux.specs.declared.modules.Module.{Module}
use Rattle.cfi_place.specs.Names.{Names, find_in, with_name}
use Rattle.cfi_link.specs.declared.joined.Joined.TheInside.{Inside}
use Rattle.cfi_link.specs.declared.chosen.Definitions.{Definitions}
use Rattle.cfi_link.specs.declared.fault.LinkFault.{LinkFault}
use Rattle.cfi_link.specs.declared.fault.LinkFault.TheVariants as faults
use Rattle.cfi_link.specs.Joined.{Joined}
use Rattle.cfi_link.specs.Fault.{has_text, IsFirstStray, IsAfter}

-- joined modules
abbrev pub whole_of : Inside → Joined
whole_of a = record {
  text = a.text.items;
  static_data = a.static_data.items;
  symbols = a.symbols.items;
  relocs = a.relocs.items;
  types = a.types.items;
  functions = a.functions.items;
  branches = a.branches.items;
  count = a.count;
}

-- the number of the definition that is chosen for a name
abbrev pub chosen_by : Definitions → Names
chosen_by d name = option_or (find_in d.globals name) (find_in d.weaks name)

-- names with one more where a test holds
abbrev pub with_defined : (defines : Bool) (name : List ℕ) (number : ℕ) → Names → Names
with_defined defines name number names other = if defines then with_name name number names other else names other

-- a refusal for a name that is defined twice, unless memory ran out
abbrev pub IsTwice : LinkFault → (due : Option (List ℕ)) → Type 0
IsTwice (faults.Twice name) due = due ≡ Some name
IsTwice faults.Memory due = ⊤
IsTwice fault due = ⊥

-- a refusal for a text, unless memory ran out
abbrev pub IsTextFault : List Module → LinkFault → Type 0
IsTextFault modules faults.NoText = has_text modules ≡ false
IsTextFault modules (faults.NotUnit number offset) =
    IsAfter (has_text modules ≡ true) (IsFirstStray modules number offset)
IsTextFault modules faults.Memory = ⊤
IsTextFault modules fault = ⊥

-- a refusal for a relocation is what is due, unless memory ran out
abbrev pub IsRelocFault : (due : Result (List ℕ) LinkFault) → LinkFault → Type 0
IsRelocFault due (faults.BadReloc number k) = due ≡ Err (faults.BadReloc number k)
IsRelocFault due faults.Memory = ⊤
IsRelocFault due fault = ⊥

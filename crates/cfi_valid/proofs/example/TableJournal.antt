-- The journal and the code of the run with tables.
use Rattle.std.proofs.Common.{ℕ, ◌++◌, List, [], ◌∷◌, refl, arith}
use Rattle.std.specs.List.{flat_map}
use Rattle.cfi_aux.specs.declared.modules.Module.{Module}
use Rattle.cfi_policy.specs.Code.{IsCodeOf}
use Rattle.cfi_modules.specs.Loaded.{AreLoaded}
use Rattle.cfi_unit.specs.declared.unit.Unit.{Unit as CodeUnit}
use Rattle.cfi_unit.specs.Unit.{words_of}
use Rattle.cfi_valid.specs.Joining.{HasNoFault}
use Rattle.cfi_valid.specs.Journal.{JournalState, members_of, IsOpeningState, EntriesLead}
use Rattle.cfi_valid.specs.Loaded.{LoadedModule, Members}
use Rattle.cfi_valid.specs.TableExample.{lib_module, main_module, plug_module, table_plan, table_report}
use Rattle.cfi_valid.proofs.example.ExampleCode.{code_at, is_code_at}
use Rattle.cfi_valid.proofs.example.TablePlaced.{lib_units, lib_placed, main_units, main_placed, plug_units, plug_placed}
use Rattle.cfi_valid.proofs.example.TablePlaces.{lib_is, lib_verified, main_is, main_verified, plug_is, plug_verified}
use Rattle.cfi_valid.proofs.example.TablePolicy.{before, all}
use Rattle.cfi_word.specs.declared.limits.TheConstants.{MAX_CODE_WORDS}
use Rattle.cfi_valid.proofs.example.EndedExample.{are_loaded, came_first, in_order, not_loaded}

abbrev pub modules : List Module
modules = lib_module ∷ main_module ∷ plug_module ∷ []

abbrev first : LoadedModule
first = record { number = 0; placed = lib_placed; policy = 0 }

abbrev second : LoadedModule
second = record { number = 1; placed = main_placed; policy = 0 }

abbrev pub third : LoadedModule
third = record { number = 2; placed = plug_placed; policy = 1 }

abbrev pub loaded : List LoadedModule
loaded = first ∷ second ∷ third ∷ []

abbrev pub begin : JournalState
begin = record { epoch = 0; policy = 0; loaded = first ∷ second ∷ []; retired = [] }

abbrev pub end : JournalState
end = record { epoch = 1; policy = 1; loaded = loaded; retired = [] }

abbrev pub members : Members
members = members_of end

pub opening : IsOpeningState table_plan modules begin
opening = record {
  epoch = refl;
  policy = refl;
  starts = refl;
  policies = came_first (first ∷ second ∷ []) refl;
  order = in_order MAX_CODE_WORDS (lib_module ∷ main_module ∷ []) before refl (
    record { behind = lib_is; verified = lib_verified },
    (record { behind = main_is; verified = main_verified }, tt),
  );
  stay = refl;
}

clean : HasNoFault MAX_CODE_WORDS modules (first ∷ second ∷ []) (first ∷ second ∷ []) 2
clean = record {
  absent = record {
    unplaced = plug_module;
    is = refl;
    absent = not_loaded (first ∷ second ∷ []) 2 refl;
    room = omega arith;
  };
  placed = plug_placed;
  joins = record { behind = plug_is; verified = plug_verified };
}

pub leads : EntriesLead table_plan modules begin (table_report []).journal end
unfolding clean
leads = (
  end,
  (
    (omega arith, refl),
    (record { clean = clean; goes = record { left = omega arith; next = refl }; next = refl }, refl),
  ),
  refl,
)

-- ---- the code

all_loaded : AreLoaded MAX_CODE_WORDS all
all_loaded =
    are_loaded MAX_CODE_WORDS lib_placed (main_placed ∷ plug_placed ∷ [])
    (record { multiple = refl; least = omega arith; most = omega arith }) (refl, refl)
    (record { words = refl; slots = refl }, (record { words = refl; slots = refl }, tt)) refl
    (lib_verified, (main_verified, (plug_verified, tt)))

abbrev pub units : List CodeUnit
units = lib_units ++ (main_units ++ plug_units)

abbrev pub code : List ℕ
code = code_at MAX_CODE_WORDS (flat_map words_of units)

pub is_code : IsCodeOf all MAX_CODE_WORDS code
is_code = is_code_at MAX_CODE_WORDS all (flat_map words_of units) refl all_loaded

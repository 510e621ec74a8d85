-- The journal of the run with a load.
use Rattle.std.proofs.Common.{List, [], ◌∷◌, refl, arith}
use Rattle.cfi_aux.specs.declared.modules.Module.{Module}
use Rattle.cfi_valid.specs.Joining.{HasNoFault}
use Rattle.cfi_valid.specs.Journal.{JournalState, members_of, IsOpeningState, EntriesLead}
use Rattle.cfi_valid.specs.LoadExample.{opener, plug, load_plan, load_report}
use Rattle.cfi_valid.specs.Loaded.{LoadedModule, Members}
use Rattle.cfi_valid.proofs.example.LoadPlaced.{opener_placed, plug_placed, opener_joins, plug_joins}
use Rattle.cfi_word.specs.declared.limits.TheConstants.{MIN_CODE_WORDS}
use Rattle.cfi_valid.proofs.example.EndedExample.{came_first, in_order, not_loaded}

abbrev pub modules : List Module
modules = opener ∷ plug ∷ []

-- ---- the journal

abbrev pub first : LoadedModule
first = record { number = 0; placed = opener_placed; policy = 0 }

abbrev pub second : LoadedModule
second = record { number = 1; placed = plug_placed; policy = 1 }

abbrev pub loaded : List LoadedModule
loaded = first ∷ second ∷ []

abbrev pub start : JournalState
start = record { epoch = 0; policy = 0; loaded = first ∷ []; retired = [] }

abbrev pub end : JournalState
end = record { epoch = 1; policy = 1; loaded = loaded; retired = [] }

abbrev pub members : Members
members = members_of end

pub opening : IsOpeningState load_plan modules start
opening = record {
  epoch = refl;
  policy = refl;
  starts = refl;
  policies = came_first (first ∷ []) refl;
  order = in_order MIN_CODE_WORDS (opener ∷ []) (opener_placed ∷ []) refl (opener_joins, tt);
  stay = refl;
}

clean : HasNoFault MIN_CODE_WORDS modules (first ∷ []) (first ∷ []) 1
clean = record {
  absent = record { unplaced = plug; is = refl; absent = not_loaded (first ∷ []) 1 refl; room = omega arith };
  placed = plug_placed;
  joins = plug_joins;
}

pub leads : EntriesLead load_plan modules start (load_report 1).journal end
unfolding clean
leads = (
  end,
  (
    (omega arith, refl),
    (record { clean = clean; goes = record { left = omega arith; next = refl }; next = refl }, refl),
  ),
  refl,
)

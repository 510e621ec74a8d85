-- What a module of the plan meets behind those that are loaded, beside those that are live.
use Rattle.std.proofs.Common.{◌≡◌, ℕ, ◌<◌, List, [], ◌∷◌, length, Some, None, sym, ap, subst, ◌∙◌, arith}
use Rattle.std.specs.List.{slice_get}
use Rattle.cfi_aux.specs.declared.modules.Module.{Module}
use Rattle.cfi_aux.specs.declared.placed.Placed.{Placed}
use Rattle.cfi_ledger.specs.Loads.{IsListed, IsUnlisted, IsProspect}
use Rattle.cfi_ledger.specs.Roster.{Roster, live_placed, loaded_in_roster, origin_of}
use Rattle.cfi_ledger.specs.declared.prospect.Prospect.TheVariants.{Full, Open}
use Rattle.cfi_ledger.proofs.RosterLemmas.{listed_loaded, unlisted_absent}
use Rattle.cfi_modules.specs.Order.{Joins, IsJoinFault}
use Rattle.cfi_modules.specs.declared.fault.JoinFault.{JoinFault}
use Rattle.cfi_modules.specs.declared.fault.JoinFault.TheVariants.{Memory}
use Rattle.cfi_modules.specs.declared.numbers.FaultNumbers.{FaultNumbers}
use Rattle.cfi_modules.specs.Numbers.{numbers_of}
use Rattle.cfi_valid.specs.Joining.{HasFault, HasNoFault, IsFull, IsUnloaded}
use Rattle.cfi_valid.specs.Loaded.{LoadedModule, IsLoaded, placed_modules}
use Rattle.cfi_valid.proofs.KeptLemmas.{places_are, many_are}
use Rattle.cfi_judge.specs.inner.Meets.{HasLive, IsLined, Meets}
use Rattle.cfi_judge.proofs.ItemLemmas.{found}

-- ---- one answer

pub told_not_memory : (fault : JoinFault) (numbers : FaultNumbers) → numbers_of fault ≡ Some numbers
    → fault ≡ Memory → ⊥
told_not_memory fault numbers told same =
    let none : numbers_of fault ≡ None = ap numbers_of same in cc

-- ---- the loaded modules

module _ (r : Roster) (lined : IsLined r) (number : ℕ) where
  abbrev loaded : List LoadedModule
  loaded = loaded_in_roster r

  places : placed_modules loaded ≡ r.placed
  places = places_are origin_of r.lines r.placed lined

  count : length loaded ≡ length r.lines
  count = many_are origin_of r.lines r.placed lined ∙ sym lined

  first_of : (placed : List Placed) → 0 < length placed → Placed
  first_of (p ∷ placed) some = p
  first_of [] some = absurd (omega (arith, some))

  pub is_listed : (at : ℕ) → IsListed r number at → IsLoaded loaded number
  is_listed at listed =
      listed_loaded r lined number at listed (first_of r.placed (omega (arith, listed.within)))

  pub is_absent : IsUnlisted r number → ¬ IsLoaded loaded number
  is_absent unlisted = unlisted_absent r lined number unlisted

  module _ (modules : List Module) where
    pub full : (within : number < length modules) → IsProspect r number Full → IsFull modules loaded number
    full within is = record {
      known = within;
      absent = is_absent is.0;
      full = omega (arith, is.1, count);
    }

    pub listed_not_full : (at : ℕ) → IsListed r number at → ¬ IsFull modules loaded number
    listed_not_full at listed full = full.absent (is_listed at listed)

    pub open_not_full : IsProspect r number Open → ¬ IsFull modules loaded number
    open_not_full is full = absurd (omega (arith, is.1, full.full, count))

    pub unloaded : number < length modules → IsProspect r number Open → IsUnloaded modules loaded number
    unloaded within is = let there = found modules number within in record {
      unplaced = there.0;
      is = there.1;
      absent = is_absent is.0;
      room = omega (arith, is.1, count);
    }

    pub listed_not_unloaded : (at : ℕ) → IsListed r number at → ¬ IsUnloaded modules loaded number
    listed_not_unloaded at listed free = free.absent (is_listed at listed)

    pub full_not_unloaded : IsProspect r number Full → ¬ IsUnloaded modules loaded number
    full_not_unloaded is free = absurd (omega (arith, is.1, free.room, count))

    -- ---- a module that is not loaded

    module _ (live : List LoadedModule) (has : HasLive r live) (m : Module) (there : slice_get modules number ≡ Some m)
      where
        same_module : (free : IsUnloaded modules loaded number) → free.unplaced ≡ m
        same_module free =
            let both : Some free.unplaced ≡ Some m = sym free.is ∙ there in cc

        pub has_fault : (numbers : FaultNumbers) → IsUnloaded modules loaded number → Meets r m (Some numbers)
            → HasFault r.code_words modules loaded live number numbers
        has_fault numbers free meets = record {
          absent = free;
          fault = meets.0;
          stands = subst (λ (ps : List Placed). IsJoinFault r.code_words ps (placed_modules live) free.unplaced meets.0)
              (sym places)
              (subst (λ (ls : List Placed). IsJoinFault r.code_words r.placed ls free.unplaced meets.0) (sym has.places)
              (subst (λ (x : Module). IsJoinFault r.code_words r.placed (live_placed r) x meets.0)
              (sym (same_module free)) meets.1));
          told = meets.2;
        }

        pub joins_there : (free : IsUnloaded modules loaded number) (p : Placed)
            → Joins r.code_words r.placed (live_placed r) m p
            → Joins r.code_words (placed_modules loaded) (placed_modules live) free.unplaced p
        joins_there free p joins =
            subst (λ (ps : List Placed). Joins r.code_words ps (placed_modules live) free.unplaced p) (sym places)
            (subst (λ (ls : List Placed). Joins r.code_words r.placed ls free.unplaced p) (sym has.places)
            (subst (λ (x : Module). Joins r.code_words r.placed (live_placed r) x p) (sym (same_module free)) joins))

        pub has_none : IsUnloaded modules loaded number → Meets r m None
            → HasNoFault r.code_words modules loaded live number
        has_none free meets =
            record { absent = free; placed = meets.0; joins = joins_there free meets.0 meets.1 }

        pub none_meets : HasNoFault r.code_words modules loaded live number → Meets r m None
        none_meets clean = (
          clean.placed,
          subst (λ (x : Module). Joins r.code_words r.placed (live_placed r) x clean.placed) (same_module clean.absent)
              (subst (λ (ls : List Placed). Joins r.code_words r.placed ls clean.absent.unplaced clean.placed)
              has.places
              (subst (λ (ps : List Placed).
              Joins r.code_words ps (placed_modules live) clean.absent.unplaced clean.placed) places clean.joins)),
        )

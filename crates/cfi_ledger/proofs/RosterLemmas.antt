-- The loaded modules as their lines and their places.
use Rattle.std.proofs.Common.{◌≡◌, ◌≢◌, ℕ, ◌+◌, ◌-◌, ◌++◌, List, [], ◌∷◌, length, take, length-append, get_or, Option, Some, None, sym, ap, ◌∙◌, arith}
use Rattle.std.specs.List.{Contains}
use Rattle.std.proofs.Math.Seq.{take-length}
use Rattle.std.proofs.lemmas.List.{length-map, length-take-le, take-append-le, take-map}
use Rattle.std.proofs.lemmas.List.Elements.{All-contains}
use Rattle.std.proofs.lemmas.Option.{slice_get-get_or}
use Rattle.cfi_aux.specs.declared.placed.Placed.{Placed}
use Rattle.cfi_graph.proofs.BoundLemmas.{contains_at, at_contains}
use Rattle.cfi_plan.specs.declared.journal.ModuleLine.{ModuleLine}
use Rattle.cfi_modules.specs.Fills.{fill_of, fills_of}
use Rattle.cfi_unit.specs.declared.fill.Fill.{Fill}
use Rattle.cfi_valid.proofs.KeptLemmas.{kept_at, loaded_at}
use Rattle.cfi_valid.specs.Kept.{module_from}
use Rattle.cfi_valid.specs.Loaded.{LoadedModule, IsLoaded}
use Rattle.cfi_ledger.specs.Opens.{IsAddressOf, IsFirstGlobal}
use Rattle.cfi_ledger.specs.Loads.{IsListed, IsUnlisted}
use Rattle.cfi_ledger.specs.Roster.{Roster, line_by, loaded_of, origin_of}

-- ---- a module at its place in load order

module _ (r : Roster) (many : length r.lines ≡ length r.placed) (number : ℕ) where
  abbrev loaded : List LoadedModule
  loaded = loaded_of r.lines r.placed

  -- one that stands there is loaded
  module _ (at : ℕ) (listed : IsListed r number at) (p : Placed) where
    abbrev line : ModuleLine
    line = line_by number [] 0 p

    abbrev here : LoadedModule
    here = module_from (origin_of (get_or r.lines at line)) (get_or r.placed at p)

    contains_here : Contains loaded here
    contains_here =
        let its_line = slice_get-get_or r.lines at line (omega (arith, listed.within, many)) in
        let its_place = slice_get-get_or r.placed at p listed.within in
        contains_at loaded at here
        (loaded_at origin_of r.lines r.placed at (get_or r.lines at line) (get_or r.placed at p) its_line its_place)

    pub listed_loaded : IsLoaded loaded number
    listed_loaded = (here, contains_here, listed.number_is line)

    pub listed_address : (address : Option ℕ) → IsFirstGlobal (get_or r.placed at p) address
        → IsAddressOf loaded number address
    listed_address (Some address) first =
        record { one = here; has = contains_here; is = listed.number_is line; first = first }
    listed_address None none = record { one = here; has = contains_here; is = listed.number_is line; none = none }

  -- one that stands nowhere is not
  pub unlisted_absent : IsUnlisted r number → ¬ IsLoaded loaded number
  unlisted_absent unlisted there =
      let at : ℕ = there.1.0 in
      let its_line = kept_at origin_of r.lines r.placed at there.0 (at_contains loaded there.0 there.1) in
      All-contains (λ (line : ModuleLine). line.number ≢ number) r.lines its_line.0 unlisted
      (contains_at r.lines at its_line.0 its_line.1) (its_line.2 ∙ there.2)

-- ---- without the last module

pub init_listed : (lines n : ℕ) (placed : List Placed) → lines + 1 ≡ length placed → n ≡ length placed
    → lines ≡ length (take (n - 1) placed)
init_listed lines n placed more same =
    omega (arith, more, same, length-take-le (n - 1) placed (omega (arith, same)))

pub init_fills : (fills : List Fill) (fill : Fill) (placed : List Placed) → fills ++ fill ∷ [] ≡ fills_of placed
    → fills ≡ fills_of (take (length placed - 1) placed)
init_fills fills fill placed are =
    let long : length placed ≡ length fills + 1 =
    sym (length-map placed fill_of) ∙ sym (ap (λ (fs : List Fill). length fs) are)
    ∙ length-append fills (fill ∷ []) in
    sym (take-length fills)
    ∙ sym (take-append-le (length fills) fills (fill ∷ []) (omega arith))
    ∙ ap (take (length fills)) are
    ∙ take-map fill_of (length fills) placed
    ∙ ap (λ (n : ℕ). fills_of (take n placed)) (omega (arith, long))

-- What an open finds, by the places of loaded modules.
use Rattle.std.proofs.Common.{◌≡◌, ℕ, ◌<◌, List, length, slice_get, Some, sym, ◌∙◌, ap, subst}
use Rattle.cfi_aux.specs.declared.placed.Placed.{Placed}
use Rattle.cfi_graph.proofs.BoundLemmas.{contains_at, at_contains}
use Rattle.cfi_ledger.specs.Roster.{Roster, loaded_of, origin_of}
use Rattle.cfi_model.specs.World.{World}
use Rattle.cfi_plan.specs.declared.journal.ModuleLine.{ModuleLine}
use Rattle.cfi_plan.specs.declared.plan.Plan.{Plan}
use Rattle.cfi_modules.specs.Entry.{IsGlobal, HasNoneOf}
use Rattle.cfi_sim.specs.Agrees.{NumbersAreApart}
use Rattle.cfi_sim.specs.Events.{IsFound}
use Rattle.cfi_sim.specs.declared.found.Found.{Found}
use Rattle.cfi_sim.specs.declared.found.Found.TheVariants.{Unknown, Functionless, Opened, Unloaded}
use Rattle.cfi_sim.specs.inner.Loaded.{FindsIn}
use Rattle.cfi_valid.proofs.KeptLemmas.{loaded_at}
use Rattle.cfi_valid.specs.Kept.{module_from}
use Rattle.cfi_valid.specs.Loaded.{LoadedModule, IsLoaded}
use Rattle.cfi_valid.specs.Log.{HasNoFunction}

module _ (plan : Plan) (world : World) (r : Roster) (number : ℕ) (known : number < length plan.modules) where
  abbrev loaded : List LoadedModule
  loaded = loaded_of r.lines r.placed

  -- no module has the number
  pub none_found : ¬ IsLoaded loaded number → IsFound plan world loaded number Unloaded
  none_found none = (
    known,
    (λ found. none (found.one, found.has, found.is)),
    (λ address found. none (found.opened.one, found.opened.has, found.opened.is)),
  )

  -- one does
  module _ (apart : NumbersAreApart loaded) (at : ℕ) (line : ModuleLine) (one : Placed)
      (here : slice_get r.lines at ≡ Some line)
      (same : line.number ≡ number) (there : slice_get r.placed at ≡ Some one) where
    abbrev module_there : LoadedModule
    module_there = module_from (origin_of line) one

    stands : slice_get loaded at ≡ Some module_there
    stands = loaded_at origin_of r.lines r.placed at line one here there

    none_in : HasNoFunction loaded number → HasNoneOf IsGlobal one
    none_in found =
        let other = at_contains loaded found.one found.has in
        let one_place : at ≡ found.has.0 =
        apart at found.has.0 module_there found.one stands other (same ∙ sym found.is) in
        let both : Some module_there ≡ Some found.one =
        sym stands ∙ ap (λ (k : ℕ). slice_get loaded k) one_place ∙ other in
        let is : module_there ≡ found.one = cc in
        subst (λ (m : LoadedModule). HasNoneOf IsGlobal m.placed) (sym is) found.none

    pub one_found : (found : Found) → FindsIn world one found → IsFound plan world loaded number found
    one_found Unknown finds = absurd finds
    one_found Functionless finds = (
      known,
      record { one = module_there; has = contains_at loaded at module_there stands; is = same; none = finds },
    )
    one_found (Opened address) finds = (
      known,
      record {
        opened = record {
          one = module_there;
          has = contains_at loaded at module_there stands;
          is = same;
          first = finds.0;
        };
        idle = finds.1;
      },
    )
    one_found Unloaded finds =
        (known, (λ found. finds.0 (none_in found)), (λ address found. finds.1 found.idle))

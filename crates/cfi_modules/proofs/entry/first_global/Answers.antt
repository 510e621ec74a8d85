use Rattle.std.proofs.Common.{◌≡◌, ◌∙◌, Bool, Some, None, sym, ap}
use Rattle.std.specs.Prelude.{find}
use Rattle.cfi_aux.specs.declared.placed.PlacedFunction.{PlacedFunction}
use Rattle.cfi_modules.specs.Entry.{IsGlobal}
use Rattle.cfi_modules.proofs.EntryLemmas.{global_yes, first_is, first_only, none_of, found_fits}
use Rattle.cfi_modules.proofs.entry.first_global.Goals as goal

-- the function has an address
pub address_of-requires : goal.address_of-requires
address_of-requires c =
    let p : PlacedFunction → Bool = λ f. f.global in
    let m = c.args.placed.now in
    let f = c.in-Some.function.now in
    let found : find p m.functions ≡ Some f = ap (find p) (sym c.as_slice.ensures) ∙ sym c.in-Some.ensures in
    found_fits p IsGlobal global_yes global_yes m f found c.requires

-- it is the first
pub returns-in-Some-clause-some : goal.returns-in-Some-clause-some
returns-in-Some-clause-some c =
    let p : PlacedFunction → Bool = λ f. f.global in
    let m = c.args.placed.now in
    let f = c.in-Some.function.now in
    let found : find p m.functions ≡ Some f = ap (find p) (sym c.as_slice.ensures) ∙ sym c.in-Some.ensures in
    first_is p IsGlobal global_yes global_yes m f _ found c.address_of.ensures

pub returns-in-Some-clause-only : goal.returns-in-Some-clause-only
returns-in-Some-clause-only c = λ address first.
    let p : PlacedFunction → Bool = λ f. f.global in
    let m = c.args.placed.now in
    let f = c.in-Some.function.now in
    let found : find p m.functions ≡ Some f = ap (find p) (sym c.as_slice.ensures) ∙ sym c.in-Some.ensures in
    ap (λ n. Some n) (c.address_of.ensures ∙ sym (first_only p IsGlobal global_yes global_yes m f address found first))

-- there is none
pub returns-in-None : goal.returns-in-None
returns-in-None c =
    let p : PlacedFunction → Bool = λ f. f.global in
    let m = c.args.placed.now in
    let found : find p m.functions ≡ None = ap (find p) (sym c.as_slice.ensures) ∙ sym c.in-None.ensures in
    let none = none_of p IsGlobal global_yes global_yes m found in
    record {
      some = tt;
      none = none;
      only = λ address first. absurd (none first.number first.function first.is first.holds);
    }

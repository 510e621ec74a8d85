use Rattle.std.proofs.Common.{◌≡◌, List, ap, subst}
use Rattle.std.proofs.lemmas.Result.{IfOk-weaker, IfErr-weaker}
use Rattle.elf_read.specs.declared.object.Symbol.{Symbol}
use Rattle.cfi_place.specs.declared.fault.PlaceFault.{PlaceFault}
use Rattle.cfi_place.specs.Names.{find_in}
use Rattle.cfi_place.specs.Value.{own_in, values_by}
use Rattle.cfi_place.specs.Placed.{IsPlaced, IsFault, placed_in, placed_by, values_in}
use Rattle.cfi_modules.specs.Order.{names_of}
use Rattle.cfi_modules.proofs.AskedLemmas.{placed_alike}
use Rattle.cfi_modules.proofs.joining.place_behind.Goals as goal

-- what the symbols ask for is all that placing asks for
pub returns : goal.returns
returns c =
    let m = c.args.unplaced.now in
    let room = c.args.room.now in
    let all = names_of c.args.live.now in
    let found = find_in c.in_ok-names.names in
    let same : values_in m.object room found ≡ values_in m.object room all =
    subst (λ (symbols : List Symbol). values_by room (own_in room m.object.symbols) found symbols
    ≡ values_by room (own_in room m.object.symbols) all symbols) c.as_slice.ensures
    (c.in_ok-names.ensures room (own_in room m.object.symbols)) in
    record {
      ok = IfOk-weaker c.place.result (IsPlaced m room found) _ (λ placed is. placed_alike m room found all placed same is)
          c.place.ensures.ok;
      fault = IfErr-weaker c.place.result (λ (fault : PlaceFault). IsFault fault (placed_in m.object room found)) _
          (λ fault is. subst (IsFault fault) (ap (placed_by m.object room) same) is) c.place.ensures.fault;
    }

use Rattle.std.proofs.Common.{◌<◌, false, List, [], ◌∷◌, ◌++◌, length, refl, ap, subst, arith}
use Rattle.std.specs.Prelude.{slice_set}
use Rattle.std.proofs.lemmas.Option.{slice_get_read}
use Rattle.cfi_valid.specs.declared.retirement.Retirement.{Retirement}
use Rattle.cfi_ledger.specs.Roster.{HasRetired, Roster, roster_of}
use Rattle.cfi_ledger.proofs.roster.Roster.depart.Goals as goal

-- the flag of the module at the place is gone, and it is among those that were retired
pub returns-in-Ok-clause-ok : goal.returns-in-Ok-clause-ok
returns-in-Ok-clause-ok c =
    let inside = c.self.inside in
    let lines = inside.lines.items in
    let line = c.index.result.now in
    let gone : Retirement = record { number = line.number; policy = c.args.policy } in
    let of : List Retirement → Roster = λ rs. record (roster_of inside) {
      flags = slice_set inside.series.flags c.args.place false;
      retired = rs ++ gone ∷ [];
      cells = c.in-Ok.cells.items;
    } in
    let within : c.args.place < length lines = omega (
      arith,
      c.requires.within,
      c.self.invariant.0,
      ap (λ (r : Roster). length r.placed) c.self.view_is,
    ) in
    subst (λ (old : Roster). HasRetired c.args.place c.args.policy old (of c.left.new.retired.items)) c.self.view_is
    (record {
      line = line;
      line_is = slice_get_read lines (length lines) c.args.place line refl within c.index.ensures;
      is = ap of c.left.ensures.retired;
    })

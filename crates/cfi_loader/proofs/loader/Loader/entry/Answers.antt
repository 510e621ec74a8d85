use Rattle.std.proofs.Common.{List, length, ap, arith, sym, subst}
use Rattle.std.proofs.lemmas.List.{length-take-le}
use Rattle.cfi_aux.specs.declared.placed.Placed.{Placed}
use Rattle.cfi_ledger.proofs.DueLemmas.{count_most}
use Rattle.std.specs.Prelude.{IfSome}
use Rattle.cfi_plan.specs.declared.plan.Plan.{Plan}
use Rattle.cfi_valid.specs.Guests.{GuestBegins}
use Rattle.cfi_loader.specs.Ledger.{Ledger}
use Rattle.cfi_ledger.specs.Books.{loaded_in}
use Rattle.cfi_loader.proofs.ReadLemmas.{entry_some, entry_only}
use Rattle.cfi_loader.proofs.loader.Loader.entry.Goals as goal

-- the start modules are some of the loaded ones
pub slice_bounds-starts-end : goal.slice_bounds-starts-end
slice_bounds-starts-end g c =
    let r = c.self.inside.books.force.roster in
    let most = count_most 0 r in
    sym (length-take-le c.starts.result c.modules.result.now
    (omega (
      arith,
      c.starts.ensures,
      most,
      c.self.invariant.kept.roster_is.many,
      ap (λ (ps : List Placed). length ps) c.modules.ensures.value,
    )))

pub returns-clause-some : goal.returns-clause-some
returns-clause-some g c =
    let b = c.self.inside.books in
    let name = c.args.name.now in
    let found = c.entry_at.result in
    let some = entry_some g.N.TableName.key b c.self.inside.keeper c.self.invariant.kept c.starts.result
    c.starts.ensures c.modules.result.now c.modules.ensures.value name found c.entry_at.ensures.some in
    subst (λ (l : Ledger). IfSome found (GuestBegins g.N.LoaderName.plan l.course.end.loaded name)) c.self.view_is
    (subst (λ (p : Plan). IfSome found (GuestBegins p (loaded_in b) name)) c.self.invariant.plan_is some)

pub returns-clause-only : goal.returns-clause-only
returns-clause-only g c = λ address begins.
    let b = c.self.inside.books in
    let name = c.args.name.now in
    let here : GuestBegins b.plan (loaded_in b) name address =
    subst (λ (p : Plan). GuestBegins p (loaded_in b) name address) (sym c.self.invariant.plan_is)
    (subst (λ (l : Ledger). GuestBegins g.N.LoaderName.plan l.course.end.loaded name address) (sym c.self.view_is)
    begins) in
    entry_only g.N.TableName.key b c.self.inside.keeper c.self.invariant.kept c.starts.result
    c.starts.ensures c.modules.result.now c.modules.ensures.value name
    c.entry_at.result c.entry_at.ensures.only address here

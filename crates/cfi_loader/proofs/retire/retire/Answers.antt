use Rattle.std.proofs.Common.{◌≡◌, ℕ, List, length, get_or, arith, ap, sym, subst, ◌∙◌}
use Rattle.std.proofs.lemmas.Option.{slice_get_within}
use Rattle.cfi_ledger.proofs.FlagLemmas.{has_no_user}
use Rattle.cfi_ledger.specs.declared.books.Books.{Books}
use Rattle.cfi_plan.specs.declared.journal.ModuleLine.{ModuleLine}
use Rattle.cfi_plan.specs.declared.journal.JournalLine.TheVariants.{RetireInUse}
use Rattle.cfi_plan.specs.declared.journal.Who.TheVariants.{Script}
use Rattle.cfi_ledger.specs.Journal.{asked_by, HasLine}
use Rattle.cfi_loader.specs.declared.retire.RetireFault.{RetireFault}
use Rattle.cfi_loader.specs.declared.retire.RetireFault.TheVariants.{InUse}
use Rattle.cfi_loader.specs.inner.Retirements.{RefusesRetirement}
use Rattle.cfi_loader.proofs.DepartLemmas.{in_use_refuses, not_live, not_live_refuses, spent_refuses}
use Rattle.cfi_loader.proofs.retire.retire.Goals as goal

-- it is not live
pub returns-in_default : goal.returns-in_default
returns-in_default g c =
    let k = g.N.TableName.key in
    let b = c.args.books.now in
    let n = c.args.number in
    let keeping = c.args.keeper.now in
    let new = c.refuse.new.books in
    let r = c.refuse.ensures in
    record {
      ok = tt;
      admitted = tt;
      fault = subst (λ (f : RetireFault). RefusesRetirement k n f b new keeping keeping) (sym r.fault)
          (not_live_refuses k b keeping c.requires.kept n c.requires.due new r.line r.same
          (not_live k b keeping c.requires.kept n c.requires.due c.prospect.result c.prospect.ensures
          c.in_default.not-Again));
      same = record {
        plan_is = ap (λ (x : Books). x.plan) r.same;
        modules_are = ap (λ (x : Books). x.modules) r.same;
      };
    }

-- the module that jumps into it has a line
pub bounds-lines-user : goal.bounds-lines-user
bounds-lines-user g c =
    let r = c.args.books.now.force.roster in
    let user = c.in-Some.ensures.some.is in
    omega (
      arith,
      slice_get_within r.placed c.in-Some.user user.user user.is,
      c.lines.ensures.many,
      ap (λ (ls : List ModuleLine). length ls) c.lines.ensures.value,
    )

pub bounds-lines-user-in-Some : goal.bounds-lines-user-in-Some
bounds-lines-user-in-Some g c = bounds-lines-user g c

pub offset_bounds-lines-user : goal.offset_bounds-lines-user
offset_bounds-lines-user g c = omega (arith, bounds-lines-user g c, c.lines.type_inv)

pub returns-in-Some-clause-fault : goal.returns-in-Some-clause-fault
returns-in-Some-clause-fault g c =
    let k = g.N.TableName.key in
    let b = c.args.books.now in
    let n = c.args.number in
    let keeping = c.args.keeper.now in
    let new = c.refuse-in-Some.new.books in
    let r = c.refuse-in-Some.ensures in
    let again = c.in-Again.ensures in
    let line = c.index-lines-user.result in
    let number : (get_or c.lines.result.now c.in-Some.user line).number ≡ line.number =
    ap (λ (l : ModuleLine). l.number) (sym c.index-lines-user.is) in
    let has = subst (λ (u : ℕ). HasLine (asked_by Script (RetireInUse n u)) b.force.journal new.force.journal) number
    r.line in
    subst (λ (f : RetireFault). RefusesRetirement k n f b new keeping keeping) (sym (r.fault ∙ ap InUse number))
    (in_use_refuses k b keeping c.requires.kept n c.requires.due c.in-Again.place again.0 again.1 c.in-Some.user
    c.in-Some.ensures.some line
    (c.index-lines-user.is ∙ ap (λ (ls : List ModuleLine). get_or ls c.in-Some.user line) c.lines.ensures.value) new
    has r.same)

-- no module does, and no epoch is left
pub returns-then-books-eq-MAX_EPOCH-clause-fault : goal.returns-then-books-eq-MAX_EPOCH-clause-fault
returns-then-books-eq-MAX_EPOCH-clause-fault g c =
    let k = g.N.TableName.key in
    let b = c.args.books.now in
    let n = c.args.number in
    let keeping = c.args.keeper.now in
    let kept = c.requires.kept in
    let new = c.refuse-then-books-eq-MAX_EPOCH.new.books in
    let r = c.refuse-then-books-eq-MAX_EPOCH.ensures in
    let again = c.in-Again.ensures in
    let unused = has_no_user b.force kept.roster_is.many kept.flags_are n c.in-Again.place again.0 again.1
    c.in_default-user_of.ensures.none in
    subst (λ (f : RetireFault). RefusesRetirement k n f b new keeping keeping) (sym r.fault)
    (spent_refuses k b keeping kept n c.requires.due c.in-Again.place again.0 again.1 unused new
    (omega (arith, c.if-books-eq-MAX_EPOCH.true)) r.line r.same)

-- or one is left
pub withdraw-requires-clause-unused : goal.withdraw-requires-clause-unused
withdraw-requires-clause-unused g c =
    let kept = c.requires.kept in
    let again = c.in-Again.ensures in
    has_no_user c.args.books.now.force kept.roster_is.many kept.flags_are c.args.number c.in-Again.place again.0 again.1
    c.in_default-user_of.ensures.none

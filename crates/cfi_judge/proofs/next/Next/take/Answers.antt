use Rattle.std.proofs.Common.{length, sym, subst}
use Rattle.cfi_aux.specs.Sound.{IsSoundModule}
use Rattle.cfi_judge.specs.inner.Next.{StandsThere}
use Rattle.cfi_judge.specs.inner.Told.{origin_by}
use Rattle.cfi_judge.proofs.ItemLemmas.{item_there}
use Rattle.cfi_judge.proofs.NextLemmas.{fits_at, takes_no_place, takes_one}
use Rattle.cfi_judge.proofs.next.Next.take.Goals as goal

pub pass-requires : goal.pass-requires
pass-requires c =
    let n = c.args.load.number in
    let m = c.index-modules-load.result in
    let sound : IsSoundModule m =
    subst IsSoundModule (sym c.index-modules-load.is) (c.requires.can.taken n m c.if-load-modules.false).sound in
    fits_at c.args.plan.now.code_words (length c.args.modules.now) c.requires.next.0 c.requires.next.1 c.args.self
    c.requires.next.2 m c.in-Some.placed sound
    (subst (StandsThere c.args.self m) c.in-Some.is c.in_ok-placed.ensures)
    (c.has_line.ensures.few c.if-not-has_line.false)

pub returns-in_ok-pass-in-Some : goal.returns-in_ok-pass-in-Some
returns-in_ok-pass-in-Some c = λ before gone next.
    let n = c.args.load.number in
    let m = c.index-modules-load.result in
    let sound : IsSoundModule m =
    subst IsSoundModule (sym c.index-modules-load.is) (c.requires.can.taken n m c.if-load-modules.false).sound in
    let few = c.has_line.ensures.few c.if-not-has_line.false in
    let there = item_there c.args.modules.now n m c.if-load-modules.false c.index-modules-load.is in
    let stands = subst (StandsThere c.args.self m) c.in-Some.is c.in_ok-placed.ensures in
    takes_one c.args.plan.now c.args.modules.now before gone c.args.line.now (origin_by c.args.load) c.args.self next m
    there
    sound (c.has_line.ensures.same.0 c.if-not-has_line.false) c.in-Some.placed stands
    (fits_at c.args.plan.now.code_words (length c.args.modules.now) before gone c.args.self next m c.in-Some.placed
    sound stands few)
    c.in_ok-pass-in-Some.field-0 c.in_ok-pass-in-Some.ensures

pub returns-in-None : goal.returns-in-None
returns-in-None c = λ before gone next.
    let n = c.args.load.number in
    let m = c.index-modules-load.result in
    let there = item_there c.args.modules.now n m c.if-load-modules.false c.index-modules-load.is in
    takes_no_place c.args.plan.now c.args.modules.now before gone c.args.line.now (origin_by c.args.load) c.args.self
    next m
    there (subst (StandsThere c.args.self m) c.in-None.is c.in_ok-placed.ensures)

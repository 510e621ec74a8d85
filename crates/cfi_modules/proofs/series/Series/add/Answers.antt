use Rattle.std.proofs.Common.{inl, inr, sym, ap, subst, ◌∙◌, rules}
use Rattle.cfi_modules.specs.Series.{Series, live_in, JoinsTo, with_module}
use Rattle.cfi_modules.proofs.OrderLemmas.{joins_once}
use Rattle.cfi_modules.proofs.series.Series.add.Goals as goal

-- it joins the series as it was
pub rejoin-requires : goal.rejoin-requires
rejoin-requires c = (
  c.args.unplaced.now,
  c.requires.sound,
  subst (λ (s : Series). JoinsTo s c.args.unplaced.now c.in_ok-placed.placed) (sym c.place_next.ensures.same)
      c.in_ok-placed.ensures.joins,
)

-- the series has the module as it joined
pub returns-clause-ok : goal.returns-clause-ok
returns-clause-ok c =
    let m = c.in_ok-placed.placed in (
      m,
      c.in_ok-placed.ensures.joins,
      c.in_ok-rejoin.ensures.ok ∙ ap (λ (s : Series). with_module s m) c.place_next.ensures.same,
    )

-- a module joins in one way
pub returns-clause-only : goal.returns-clause-only
returns-clause-only c placed joins =
    let old = c.args.self.now in
    let m = c.in_ok-placed.placed in
    inl
    (c.in_ok-rejoin.ensures.ok
    ∙ ap (λ (s : Series). with_module s m) c.place_next.ensures.same
    ∙ ap (with_module old) (joins_once old.code_words old.placed (live_in old) c.args.unplaced.now m placed
    c.in_ok-placed.ensures.joins joins))

-- and is refused for memory alone
pub returns-in_err-placed-clause-only : goal.returns-in_err-placed-clause-only
returns-in_err-placed-clause-only c placed joins =
    let only = c.in_err-placed.ensures.only placed joins in
    let left = c.from_residual.ensures in
    inr (search rules)

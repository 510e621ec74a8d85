use Rattle.std.proofs.Common.{◌∙◌, ◌++◌, ◌∷◌, [], true, Bool, List, sym, ap, subst}
use Rattle.cfi_aux.specs.declared.placed.Placed.{Placed}
use Rattle.cfi_modules.specs.Series.{HasLive}
use Rattle.cfi_modules.proofs.LiveLemmas.{kept_more, on_err}
use Rattle.cfi_modules.proofs.series.add_copy.Goals as goal

-- nothing was added
pub returns-in_err-push-clause-same : goal.returns-in_err-push-clause-same
returns-in_err-push-clause-same c =
    on_err c.from_residual-in_err-push.result
    (λ (ms : List Placed) (flags : List Bool) (has : HasLive ms flags c.args.live.now).
    subst (HasLive ms flags) c.in-Some.is has ∙ sym c.in_err-push.ensures.items)

-- the copy stands behind the others
pub returns-in_ok-push-clause-ok : goal.returns-in_ok-push-clause-ok
returns-in_ok-push-clause-ok c = λ ms flags many has.
    kept_more ms flags c.args.placed.now c.in-Some.live.items many (subst (HasLive ms flags) c.in-Some.is has)
    ∙ ap (λ (x : Placed). c.in-Some.live.items ++ x ∷ []) (sym c.in_ok-copied_placed.ensures)
    ∙ sym c.in_ok-push.ensures.items

-- all are live, and one more
pub returns-in_default-clause-ok : goal.returns-in_default-clause-ok
returns-in_default-clause-ok c = λ ms flags many has.
    let m = c.args.placed.now in
    subst (HasLive (ms ++ m ∷ []) (flags ++ true ∷ [])) (sym c.in_default.is)
    (kept_more ms flags m ms many (subst (HasLive ms flags) c.in_default.is has))

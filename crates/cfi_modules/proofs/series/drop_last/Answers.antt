use Rattle.std.proofs.Common.{◌≡◌, ◌∙◌, ℕ, ◌-◌, ◌++◌, ◌∷◌, [], true, length, take, ap, sym, subst, arith}
use Rattle.std.specs.Prelude.{vec_len}
use Rattle.cfi_modules.specs.Series.{HasLive}
use Rattle.cfi_modules.proofs.LiveLemmas.{kept_less, all_less}
use Rattle.cfi_modules.proofs.series.drop_last.Goals as goal

pub returns-in-Some : goal.returns-in-Some
returns-in-Some c = λ ms flags m many has.
    let long : length c.in-Some.live.items ≡ vec_len c.in-Some.live = omega (arith, c.in-Some.live.ok) in
    kept_less ms flags m c.in-Some.live.items many (subst (HasLive (ms ++ m ∷ []) (flags ++ true ∷ [])) c.in-Some.is has)
    ∙ ap (λ (n : ℕ). take (n - 1) c.in-Some.live.items) long ∙ sym c.pop.ensures.rest

pub returns-in_default : goal.returns-in_default
returns-in_default c = λ ms flags m many has.
    subst (HasLive ms flags) (sym c.in_default.is)
    (all_less ms flags m many (subst (HasLive (ms ++ m ∷ []) (flags ++ true ∷ [])) c.in_default.is has))

use Rattle.std.proofs.Common.{List, ℕ, ◌++◌, ◌∙◌, ap, sym}
use Rattle.std.specs.Prelude.{string_bytes}
use Rattle.std.proofs.lemmas.List.{append-nil}
use Rattle.std.proofs.Common.{rules, ◌≡◌, []}
use Rattle.cfi_gen.specs.Plan.{setting_lines}
use Rattle.cfi_gen.proofs.plan.plan_of.Goals as goal

-- no module is named yet
pub loop-number-init : goal.loop-number-init
loop-number-init c =
    let none : string_bytes c.new-text.result ≡ [] = search rules in
    c.in_ok-put_settings.ensures ∙ ap (λ (text : List ℕ). text ++ setting_lines) none
    ∙ sym (append-nil setting_lines)

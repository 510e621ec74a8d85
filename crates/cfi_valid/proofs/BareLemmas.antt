-- No plan that is read stands for a bare file.
use Rattle.std.proofs.Common.{◌≡◌, ◌==◌, true, false, List, ℕ, length, get_or, arith}
use Rattle.std.specs.Prelude.{nat_le, ◌&&◌}
use Rattle.std.proofs.lemmas.Bool.{and_parts, leb-true, ne_eqb}
use Rattle.std.proofs.lemmas.List.Folds.{list_any_none}
use Rattle.cfi_plan.specs.declared.plan.Plan.{Plan}
use Rattle.cfi_plan.specs.declared.plan.PlanModule.{PlanModule}
use Rattle.cfi_plan.specs.Plan.{IsNamed, IsPlan}
use Rattle.cfi_text.specs.Names.{is_file}
use Rattle.cfi_valid.specs.Bare.{has_no_file, is_bare_plan}
use Rattle.cfi_word.specs.declared.limits.TheConstants.{MAX_NAME}

file_some : (file : List ℕ) → is_file file ≡ true → (length file == 0) ≡ false
unfolding is_file
file_some file is =
    let front = and_parts (nat_le 1 (length file) && nat_le (length file) MAX_NAME) _ is in
    let some = leb-true 1 (length file) (and_parts (nat_le 1 (length file)) (nat_le (length file) MAX_NAME) front.0).0 in
    ne_eqb (length file) 0 (λ none. omega (arith, some, none))

pub not_bare : (plan : Plan) → IsPlan plan → is_bare_plan plan ≡ false
not_bare plan is =
    list_any_none has_no_file plan.modules
    (λ k d within.
    let one : PlanModule = get_or plan.modules k d in
    let named : IsNamed one = is.modules.named k d within in
    file_some one.file named.1)

-- Texts that grow line by line.
use Rattle.std.proofs.Common.{◌≡◌, ℕ, zero, suc, ◌+◌, ◌<◌, ◌++◌, List, [], ◌∷◌, length, take, get_or, ap, sym, ◌∙◌, append_assoc, add-one, arith}
use Rattle.std.proofs.lemmas.List.{append-nil}
use Rattle.cfi_aux.specs.declared.placed.Placed.{Placed}
use Rattle.cfi_plan.specs.declared.plan.PlanModule.{PlanModule}
use Rattle.cfi_commands.specs.Verified.{module_line, module_lines}

-- one module more
lines_more : (modules : List PlanModule) (placed : List Placed) (k : ℕ) (one : PlanModule) (m : Placed)
    → k < length modules → k < length placed
    → module_lines (take (suc k) modules) (take (suc k) placed)
    ≡ module_lines (take k modules) (take k placed) ++ module_line (get_or modules k one) (get_or placed k m)
lines_more [] placed k one m here there = absurd (omega (arith, here))
lines_more (x ∷ modules) [] k one m here there = absurd (omega (arith, there))
lines_more (x ∷ modules) (p ∷ placed) zero one m here there = append-nil (module_line x p)
lines_more (x ∷ modules) (p ∷ placed) (suc k) one m here there =
    ap (λ (text : List ℕ). module_line x p ++ text)
    (lines_more modules placed k one m (omega (arith, here)) (omega (arith, there)))
    ∙ sym (append_assoc (module_line x p) (module_lines (take k modules) (take k placed))
    (module_line (get_or modules k one) (get_or placed k m)))

pub lines_grow : (modules : List PlanModule) (placed : List Placed) (k : ℕ) (one : PlanModule) (m : Placed)
    (old new : List ℕ) → k < length modules → length placed ≡ length modules → one ≡ get_or modules k one
    → m ≡ get_or placed k m → old ≡ module_lines (take k modules) (take k placed) → new ≡ old ++ module_line one m
    → new ≡ module_lines (take (k + 1) modules) (take (k + 1) placed)
lines_grow modules placed k one m old new here same is there was added =
    added ∙ ap (λ (text : List ℕ). text ++ module_line one m) was
    ∙ ap (λ (x : PlanModule). module_lines (take k modules) (take k placed) ++ module_line x m) is
    ∙ ap (λ (p : Placed). module_lines (take k modules) (take k placed) ++ module_line (get_or modules k one) p) there
    ∙ sym (lines_more modules placed k one m here (omega (arith, here, same)))
    ∙ ap (λ (n : ℕ). module_lines (take n modules) (take n placed)) (sym (add-one k))

use Rattle.std.proofs.Common.{rules, ◌≡◌, ◌∙◌, ◌≤◌, ◌∷◌, ℕ, List, length, map, Bor, sym, ap, arith}
use Rattle.std.proofs.lemmas.List.{length-map}
use Rattle.cfi_word.specs.declared.limits.TheConstants.{MAX_INPUTS}
use Rattle.cfi_request.proofs.CommandLemmas.{link_spelled}
use Rattle.cfi_request.proofs.command.linking.Goals as goal

-- the output and the inputs are the operands
pub returns : goal.returns
returns c =
    let now : Bor (List ℕ) → List ℕ = λ word. word.now in
    let inputs = c.in-Some.inputs.now in
    let rest = map now inputs in
    let split : map now c.args.operands.now ≡ c.in_ok-output.output ∷ rest =
    ap (λ (ws : List (Bor (List ℕ))). map now ws) c.in-Some.ensures.cases.0
    ∙ ap (λ (name : List ℕ). name ∷ rest) (sym c.in_ok-output.ensures) in
    let some : 1 ≤ length inputs = search rules in
    let few : length inputs ≤ MAX_INPUTS = search rules in
    let count : length rest ≡ length inputs = length-map inputs now in
    link_spelled (map now c.args.operands.now) rest c.in_ok-output.output c.from_vec-inputs.result split
    (c.from_vec-inputs.ensures ∙ c.in_ok-names_of.ensures) c.requires.operands (omega (arith, some, count))
    (omega (arith, few, count))

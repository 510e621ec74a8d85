-- Texts that grow line by line.
use Rattle.std.proofs.Common.{◌≡◌, ◌∙◌, ◌+◌, ◌<◌, ◌≤◌, ℕ, List, length, ◌++◌, Bor, Option, Some, None, IfSome, refl, sym, ap, add-one, append_assoc, get_or}
use Rattle.std.specs.Prelude.{slice_get, option_map, MatchOption, HoldsAt}
use Rattle.std.proofs.lemmas.Option.{slice_get_past, slice_get_read}
use Rattle.elf_read.specs.Places.{joined}
use Rattle.cfi_gen.specs.declared.shape.Drawn.{Drawn}
use Rattle.cfi_gen.specs.declared.shape.Function.{Function}
use Rattle.cfi_gen.specs.Source.{function_lines, lines_at, node_lines}

-- two pieces more, and three
pub two_more : (a b c x y : List ℕ) → b ≡ a ++ x → c ≡ b ++ y → c ≡ a ++ (x ++ y)
two_more a b c x y first second = second ∙ ap (λ (text : List ℕ). text ++ y) first ∙ append_assoc a x y

pub three_more : (a b c d x y z : List ℕ) → b ≡ a ++ x → c ≡ b ++ y → d ≡ c ++ z → d ≡ a ++ ((x ++ y) ++ z)
three_more a b c d x y z first second third = two_more a c d (x ++ y) z (two_more a b c x y first second) third

-- what is got of a list is what stands there
pub got_is : {X : Type 0} (xs : List X) (i : ℕ) (found : Option (Bor X)) → IfSome found (λ x. x.now ≡ get_or xs i x.now)
    → MatchOption found (length xs ≤ i) (λ x. (i < length xs) × HoldsAt (λ y. x.now ≡ y) xs i)
    → option_map (λ x. x.now) found ≡ slice_get xs i
got_is xs i None is there = sym (slice_get_past xs i there)
got_is xs i (Some x) is there = sym (slice_get_read xs (length xs) i x.now refl there.0 is)

-- the lines of one function more
pub function_more : (drawn : Drawn) (functions : List Function) (place : ℕ) (old new : List ℕ) (function : Function)
    (next : Option Function) → functions ≡ drawn.functions → slice_get functions place ≡ Some function
    → next ≡ slice_get functions (place + 1) → old ≡ node_lines ++ joined (lines_at drawn) place
    → new ≡ old ++ function_lines drawn.number place (Some function) next
    → new ≡ node_lines ++ joined (lines_at drawn) (place + 1)
function_more drawn functions place old new function next same here behind was added =
    let number = drawn.number in
    let before = joined (lines_at drawn) place in
    let lines : function_lines number place (Some function) next ≡ lines_at drawn place =
    ap (λ (o : Option Function). function_lines number place o next) (sym here)
    ∙ ap (function_lines number place (slice_get functions place)) behind
    ∙ ap (λ (fs : List Function). function_lines number place (slice_get fs place) (slice_get fs (place + 1))) same in
    added ∙ ap (λ (text : List ℕ). text ++ function_lines number place (Some function) next) was
    ∙ append_assoc node_lines before (function_lines number place (Some function) next)
    ∙ ap (λ (more : List ℕ). node_lines ++ (before ++ more)) lines
    ∙ ap (λ (n : ℕ). node_lines ++ joined (lines_at drawn) n) (sym (add-one place))

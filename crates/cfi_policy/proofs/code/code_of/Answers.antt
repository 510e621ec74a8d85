use Rattle.std.proofs.Common.{◌≡◌, ◌⊎◌, ℕ, ◌+◌, ◌<◌, ◌≤◌, length, drop, get_or, ap, sym, subst, arith}
use Rattle.std.proofs.lemmas.List.{take_at}
use Rattle.cfi_policy.specs.Code.{HasWords}
use Rattle.cfi_policy.proofs.CodeLemmas.{IsCodeSoFar, one_more_module}
use Rattle.cfi_policy.proofs.code.code_of.Goals as goal

-- the module ends within the code
pub put-requires : goal.put-requires
put-requires c =
    let item = c.placed-item.result in
    let within = subst (λ m. m.base + length m.words ≤ c.args.layout.now) (sym c.placed-item.is)
    (c.requires.within c.loop-placed.placed-index item c.loop-placed-test.true) in
    let words = ap length c.as_slice.ensures in
    let code = ap length c.as_mut_slice.ensures.value in
    omega (arith, c.loop-placed.invariant.len)

pub loop-placed-preserved : goal.loop-placed-preserved
loop-placed-preserved c =
    let old = c.loop-placed.code.items in
    let new = c.put.new.code in
    let item = c.placed-item.result in
    let same = ap length c.as_mut_slice.ensures.value in
    let kept_len = c.put.auto.code in
    let ok = c.loop-placed.code.ok in
    let len : length new ≡ length old = omega arith in
    let all : length new ≡ c.loop-placed.code.len = omega arith in
    let placed : HasWords new item =
    subst (λ list. (k : ℕ) → k < length list → get_or new (item.base + k) 0 ≡ get_or list k 0) c.as_slice.ensures
    c.put.ensures.placed in
    let kept : (word : ℕ) → (word < item.base) ⊎ (item.base + length item.words ≤ word)
    → get_or new word 0 ≡ get_or old word 0 = λ word side.
    subst (λ list. get_or new word 0 ≡ get_or list word 0) c.as_mut_slice.ensures.value
    (c.put.ensures.kept word (subst (λ list. (word < item.base) ⊎ (item.base + length list ≤ word))
    (sym c.as_slice.ensures) side)) in
    subst (IsCodeSoFar c.args.modules.now (c.loop-placed.placed-index + 1) c.args.layout.now)
    (sym (take_at new (drop (length new) old) c.loop-placed.code.len all))
    (one_more_module c.args.modules.now c.args.layout.now c.requires c.loop-placed.placed-index
    c.loop-placed-test.true item c.placed-item.is old new c.loop-placed.invariant len placed kept)

use Rattle.std.proofs.Common.{◌≡◌, ◌∙◌, ◌+◌, ◌++◌, ◌∷◌, ℕ, List, [], length, refl, ap}
use Rattle.std.specs.Int.{next_multiple_of}
use Rattle.cfi_word.specs.declared.map.TheConstants.{DATA_ALIGNMENT}
use Rattle.cfi_judge.proofs.NextLemmas.{added_one}
use Rattle.cfi_judge.proofs.next.Next.pass.Goals as goal

abbrev Pairs : Type 0
Pairs = List (List ℕ × ℕ)

pub returns : goal.returns
returns c =
    let n = c.args.number in
    let gone = c.args.self.gone.items in
    let exports = c.in_ok-copied_exports.field-0 in
    let same : exports ≡ c.args.placed.now.exports = c.in_ok-copied_exports.ensures ∙ c.as_slice.ensures in
    record {
      words = refl;
      base = ap (λ (k : ℕ). c.args.self.base + k) c.len-2.ensures;
      slot = ap (λ bs. c.args.self.slot + length bs) c.as_slice-2.ensures;
      data_base = c.next_multiple_of.ensures.value
          ∙ ap (λ (k : ℕ). next_multiple_of (c.args.self.data_base + k) DATA_ALIGNMENT) c.len.ensures;
      gone = refl;
      stood = c.in_ok-push.ensures.items
          ∙ ap (λ (pairs : Pairs). c.args.self.stood.items ++ record { number = n; exports = pairs } ∷ []) same;
      names = λ before was.
          added_one c.deref.result.now gone c.deref.ensures.value n exports c.args.placed.now.exports same before
          c.add_left.new.names (c.in_ok-add_left.ensures before was);
    }

use Rattle.std.proofs.Common.{◌≡◌, ◌<◌, ◌^◌, ◌++◌, ◌∷◌, [], length, Some, None, refl, arith, length-append}
use Rattle.std.proofs.lemmas.Grind.{common_steps}
use Rattle.std.proofs.lemmas.List.Elements.{All-push}
use Rattle.cfi_word.specs.declared.limits.TheConstants.{MAX_FUNCTIONS}
use Rattle.cfi_aux.specs.declared.records.Function.{Function}
use Rattle.rv_asm.proofs.draft.Draft.end_function.Goals as goal

pub invariant_of-self-in-Some : goal.invariant_of-self-in-Some
invariant_of-self-in-Some c =
    let list = c.self.inside.functions.items in
    let is : c.self.inside.function ≡ Some c.in-Some.function = grind (arith, common_steps) in
    let room : length list < MAX_FUNCTIONS = c.self.invariant.room c.in-Some.function is in
    let named : length c.in-Some.function.name < 2 ^ 32 = c.self.invariant.name c.in-Some.function is in
    let one : Function = record c.in-Some.function { length = c.saturating_sub.result } in
    let pushed : c.push_reserved.new.self.items ≡ list ++ one ∷ [] =
    rw (c.push_reserved.ensures.items, c.in_ok-reserve.ensures.items) refl in
    let longer = length-append list (one ∷ []) in
    let none : c.take.new.self ≡ None = grind (arith, common_steps) in
    record {
      node_count = c.self.invariant.node_count;
      fields = c.self.invariant.fields;
      function_count = rw pushed (omega arith);
      names = rw pushed (All-push (λ (f : Function). length f.name < 2 ^ 32) list one c.self.invariant.names named);
      name = λ x e. absurd (cc);
      room = λ x e. absurd (cc);
      branch_count = c.self.invariant.branch_count;
      words = c.self.invariant.words;
      word = c.self.invariant.word;
    }

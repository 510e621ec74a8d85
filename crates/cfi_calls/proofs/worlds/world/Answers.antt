use Rattle.std.proofs.Common.{rules, ◌≡◌, sym, subst}
use Rattle.cfi_word.specs.declared.limits.TheConstants.{MIN_CODE_WORDS}
use Rattle.cfi_world.specs.Example.{open_image, open_guests}
use Rattle.cfi_world.specs.Premises.{CanOpen}
use Rattle.cfi_world.proofs.ExampleLemmas.{some_can}
use Rattle.cfi_calls.proofs.worlds.world.Goals as goal

pub open-requires-3 : goal.open-requires-3
open-requires-3 c =
    let guests : c.push-2.new.self.items ≡ open_guests = search rules in
    let image : c.in_ok-image.field-0 ≡ open_image = search rules in
    subst (λ n. CanOpen n 3 0 c.in_ok-image.field-0 c.push-2.new.self.items 3) (sym c.requires)
    (subst (λ i. CanOpen MIN_CODE_WORDS 3 0 i c.push-2.new.self.items 3) (sym image)
    (subst (λ gs. CanOpen MIN_CODE_WORDS 3 0 open_image gs 3) (sym guests) some_can))

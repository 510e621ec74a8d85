use Rattle.std.proofs.Common.{Option, IfSome, IfNone, ◌≡◌, ◌∙◌, ◌/◌, ◌<◌, ◌^◌, ℕ, List, true, All, length, ap, sym, subst, arith, rules}
use Rattle.std.proofs.lemmas.Grind.{common_steps}
use Rattle.std.proofs.lemmas.List.{take_all}
use Rattle.std.proofs.lemmas.List.Elements.{All-more}
use Rattle.cfi_aux.specs.declared.modules.Module.{Module}
use Rattle.cfi_place.specs.Placed.{bytes_as_words}
use Rattle.cfi_place.proofs.PlacingLemmas.{length-words_in}
use Rattle.cfi_link.specs.Fault.{has_text, HasUnits}
use Rattle.cfi_unit.specs.Spots.{AreUnits, StopsAt}
use Rattle.cfi_link.proofs.TextLemmas.{stray_at}
use Rattle.cfi_link.proofs.texts.check_texts.Goals as goal

pub stray_word-requires : goal.stray_word-requires
stray_word-requires c =
    let text = c.index-modules-number.result.object.text in
    let small : length text < 2 ^ 32 =
    subst (λ (m : Module). length m.object.text < 2 ^ 32) (sym c.index-modules-number.is)
    (c.requires.texts c.loop-number.number c.index-modules-number.result c.loop-number-test.true) in
    let count : length c.deref.result.now ≡ length text / 4 =
    ap length (c.deref.ensures.value ∙ c.in_ok-words.ensures ∙ ap bytes_as_words c.as_slice.ensures)
    ∙ length-words_in text in
    omega (arith, small, count)

pub overflow_mul-result : goal.overflow_mul-result
overflow_mul-result c =
    let text = c.index-modules-number.result.object.text in
    let small : length text < 2 ^ 32 =
    subst (λ (m : Module). length m.object.text < 2 ^ 32) (sym c.index-modules-number.is)
    (c.requires.texts c.loop-number.number c.index-modules-number.result c.loop-number-test.true) in
    let count : length c.deref.result.now ≡ length text / 4 =
    ap length (c.deref.ensures.value ∙ c.in_ok-words.ensures ∙ ap bytes_as_words c.as_slice.ensures)
    ∙ length-words_in text in
    let stops : StopsAt c.deref.result.now c.in-Some.at = (subst (λ (o : Option ℕ). IfSome o (StopsAt c.deref.result.now)) c.in-Some.is c.in_ok-stray.ensures.some) in
    let within : c.in-Some.at < length c.deref.result.now = stops.within in
    omega (arith, small, count, within)

pub returns-in-Some-clause-fault : goal.returns-in-Some-clause-fault
returns-in-Some-clause-fault c =
    let words = c.deref.ensures.value ∙ c.in_ok-words.ensures ∙ ap bytes_as_words c.as_slice.ensures in
    let some : has_text c.args.modules.now ≡ true =
    first_of (cc (c.has_text.ensures, c.if-not-has_text.false), search rules, grind (arith, common_steps)) in
    record {
      earlier = some;
      here = stray_at c.args.modules.now c.loop-number.number c.in-Some.at c.index-modules-number.result
          c.loop-number-test.true c.index-modules-number.is c.loop-number.invariant
          (subst (λ (ws : List ℕ). StopsAt ws c.in-Some.at) words (subst (λ (o : Option ℕ). IfSome o (StopsAt c.deref.result.now)) c.in-Some.is c.in_ok-stray.ensures.some));
    }

pub loop-number-preserved : goal.loop-number-preserved
loop-number-preserved c =
    let words = c.deref.ensures.value ∙ c.in_ok-words.ensures ∙ ap bytes_as_words c.as_slice.ensures in
    All-more HasUnits c.args.modules.now c.loop-number.number c.index-modules-number.result c.loop-number-test.true
    c.loop-number.invariant
    (subst HasUnits c.index-modules-number.is (subst AreUnits words (subst (λ (o : Option ℕ). IfNone o (AreUnits c.deref.result.now)) c.in_default.is c.in_ok-stray.ensures.none)))

pub returns-clause-ok : goal.returns-clause-ok
returns-clause-ok c =
    let some : has_text c.args.modules.now ≡ true =
    first_of (cc (c.has_text.ensures, c.if-not-has_text.false), search rules, grind (arith, common_steps)) in
    record {
      some = some;
      units = subst (All HasUnits) (take_all c.loop-number.number c.args.modules.now c.loop-number-test.false)
          c.loop-number.invariant;
    }

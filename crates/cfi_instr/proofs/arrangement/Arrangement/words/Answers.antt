-- The words are those of the units so far, and the number is that of the next indirect jump.
use Rattle.std.proofs.Common.{◌≡◌, ◌∙◌, ◌+◌, ◌++◌, ℕ, List, true, false, sym, ap, add-one, arith}
use Rattle.std.specs.List.{flat_map}
use Rattle.std.proofs.lemmas.Grind.{flat_map-append}
use Rattle.elf_read.specs.Places.{joined}
use Rattle.cfi_unit.specs.Unit.{words_of}
use Rattle.cfi_instr.specs.Items.{is_indirect}
use Rattle.cfi_instr.proofs.JumpLemmas.{ordinal-more}
use Rattle.cfi_instr.specs.inner.Arrangement.{Arrangement, units_at_by}
use Rattle.cfi_instr.proofs.arrangement.Arrangement.words.Goals as goal
use Rattle.cfi_instr.proofs.arrangement.Arrangement.words.Goals.{then-is_indirect, else-is_indirect}

pub loop-w-preserved : goal.loop-w-preserved
loop-w-preserved c =
    let t = c.args.self.now.source in
    let w = c.loop-w.w in
    let give = units_at_by c.args.self.now in
    let more : flat_map words_of (joined give (w + 1)) ≡ flat_map words_of (joined give w) ++ flat_map words_of (give w) =
    ap (λ (n : ℕ). flat_map words_of (joined give n)) (add-one w) ∙ flat_map-append words_of (joined give w) (give w) in
    let spelled : c.put_item.new.out.items ≡ flat_map words_of (joined give (w + 1)) =
    c.in_ok-put_item.ensures
    ∙ ap (λ (xs : List ℕ). xs ++ flat_map words_of (give w)) c.loop-w.invariant.spelled ∙ sym more in
    let seen = ap (λ (a : Arrangement). is_indirect a.source w) c.self.view_is in
    elim c.if-is_indirect.branch [
      | then-is_indirect v ↦
          let next = ordinal-more t w true (v.if-is_indirect.ensures ∙ seen) in
          record {
            spelled = spelled;
            next = omega (arith, next, v.number-is, c.loop-w.invariant.next);
            few = omega (arith, v.number-is, c.loop-w.invariant.few);
          }
      | else-is_indirect v ↦
          let next = ordinal-more t w false (v.if-is_indirect.ensures ∙ seen) in
          record {
            spelled = spelled;
            next = omega (arith, next, v.number-is, c.loop-w.invariant.next);
            few = omega (arith, v.number-is, c.loop-w.invariant.few);
          }
    ]

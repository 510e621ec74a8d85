use Rattle.std.proofs.Common.{◌≡◌, ◌∙◌, ℕ, ◌+◌, ◌*◌, ◌/◌, map, ◌++◌, ◌∷◌, [], ap, sym, subst, length, Option, List, arith}
use Rattle.std.specs.List.{range_with_len}
use Rattle.std.proofs.lemmas.List.FromFn.{map-range_with_len_more, length-map-range_with_len}
use Rattle.rv_insn.specs.declared.insn.Insn.{Insn}
use Rattle.std.specs.Option.{IfSome}
use Rattle.std.proofs.lemmas.List.Elements.{All-push}
use Rattle.rv_insn.specs.Insn.{InRange}
use Rattle.rv_insn.specs.InsnOf.{insn_of}
use Rattle.rv_reloc.specs.Bytes.{word_at}
use Rattle.cfi_instr.specs.Words.{AreInsnsInRange}
use Rattle.cfi_instr.proofs.source.insns_in.Goals as goal

pub loop-w-preserved : goal.loop-w-preserved
loop-w-preserved c =
    let text = c.args.text.now in
    let w = c.loop-w.w in
    let more : map (λ (n : ℕ). insn_of (word_at (4 * n) text)) (range_with_len 0 (w + 1))
    ≡ map (λ (n : ℕ). insn_of (word_at (4 * n) text)) (range_with_len 0 w) ++ insn_of (word_at (4 * w) text) ∷ [] =
    map-range_with_len_more (λ (n : ℕ). insn_of (word_at (4 * n) text)) 0 w w (omega arith) in
    let pushed = c.in_ok-push.ensures.items in
    let decoded = c.insn_of.ensures.same in
    let word = c.word_at.ensures in
    let before = c.loop-w.invariant.each in
    record {
      each = cc;
      range =
          subst (λ (xs : List (Option Insn)). AreInsnsInRange xs) (sym c.in_ok-push.ensures.items)
          (All-push (λ (insn : Option Insn). IfSome insn InRange) c.loop-w.insns.items c.insn_of.result c.loop-w.invariant.range
          c.insn_of.ensures.range);
    }

pub returns-clause-len : goal.returns-clause-len
returns-clause-len c =
    let text = c.args.text.now in
    let w = c.loop-w.w in
    let made : length (map (λ (n : ℕ). insn_of (word_at (4 * n) text)) (range_with_len 0 w)) ≡ w =
    length-map-range_with_len (λ (n : ℕ). insn_of (word_at (4 * n) text)) 0 w in
    let all : w ≡ length text / 4 = omega (arith, c.loop-w-test.false, c.loop-w.auto.w-end) in
    ap (λ (xs : List (Option Insn)). length xs) c.loop-w.invariant.each ∙ made ∙ all

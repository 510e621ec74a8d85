use Rattle.std.proofs.Common.{◌+◌, ◌/◌, ◌<◌, sym, ◌∙◌, arith}
use Rattle.std.proofs.lemmas.Bool.{eqb-true, eq-eqb, false≢true}
use Rattle.cfi_class.specs.Labels.{HasEdge}
use Rattle.cfi_class.proofs.JoinedLemmas.{chain_root, chain_from_roots, chain_within}
use Rattle.cfi_class.proofs.joined.are_joined.Goals as goal
use Rattle.cfi_class.proofs.joined.are_joined.Goals.{then-branch-slots-via-then-branch-slots, then-branch-slots-via-else-branch-slots+then-target-ne0, then-branch-slots-via-else-branch-slots+else-target-ne0+then-target-code_words}

-- no chain leads from past the slots, or to the address of no code word
pub returns-then-branch-slots : goal.returns-then-branch-slots
returns-then-branch-slots c = (
  λ is. absurd (false≢true is),
  λ chain.
      let is = chain_within c.args.edges.now c.args.slots c.args.code_words c.requires.within c.args.branch c.args.target
      chain in
      elim c.then-branch-slots.branch [
        | then-branch-slots-via-then-branch-slots w ↦ absurd (omega (arith, is.branch, w.if-branch-slots.true))
        | then-branch-slots-via-else-branch-slots+then-target-ne0 w ↦ absurd (w.if-target-ne0.true is.whole)
        | then-branch-slots-via-else-branch-slots+else-target-ne0+then-target-code_words w ↦
            absurd (omega (arith, is.target, w.if-target-code_words.true))
      ],
)

-- a chain leads from the slot to the address exactly where they have one root
pub returns : goal.returns
returns c =
    let forest = c.in_ok-forest.ensures in
    let joins = HasEdge c.args.edges.now in
    let parents = c.in_ok-forest.forest in
    let slot_root = c.root-slot_root.ensures in
    let word_root = c.root-word_root.ensures in
    let len = forest.len in
    let slot_within : c.args.branch < c.args.slots = c.if-branch-slots.false in
    let word_within : c.args.target / 4 < c.args.code_words = c.if-target-code_words.false in
    let aligned = c.if-target-ne0.false in
    let word = word_root.value ∙ slot_root.roots (c.args.slots + c.args.target / 4) (omega arith) in (
      λ equal. chain_from_roots joins c.args.slots c.args.code_words parents forest c.args.branch c.args.target slot_within
          (aligned, omega arith)
          (sym slot_root.value ∙ eqb-true c.root-slot_root.result c.root-word_root.result equal ∙ word),
      λ chain. eq-eqb c.root-slot_root.result c.root-word_root.result
          (slot_root.value
          ∙ chain_root joins c.args.slots c.args.code_words parents forest chain.more c.args.branch c.args.target
          chain.chain
          ∙ sym word),
    )

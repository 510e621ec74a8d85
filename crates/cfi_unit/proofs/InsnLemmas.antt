-- Lists of instructions and their words.
use Rattle.std.proofs.Common.{◌≡◌, ℕ, zero, suc, ◌<◌, length, get_or, arith, List, [], ◌∷◌, ◌++◌, map, Option, Some, None, refl, ap, ◌∙◌}
use Rattle.std.specs.List.{AllByRecursion}
use Rattle.rv_insn.specs.declared.insn.Insn.{Insn}
use Rattle.rv_insn.specs.Insn.{InRange, IsWord, word_of}
use Rattle.rv_insn.specs.InsnOf.{insn_of}
use Rattle.rv_insn.proofs.InsnOfLemmas.{insn_of-IsWord}

-- the instructions of words, up to the first word that is none
abbrev pub insns_from : Option Insn → List Insn → List Insn
insns_from None rest = []
insns_from (Some insn) rest = insn ∷ rest

abbrev pub insns_at : List ℕ → List Insn
insns_at [] = []
insns_at (word ∷ words) = insns_from (insn_of word) (insns_at words)

-- an instruction in range is the one of its word
pub insn_of-word_of : (insn : Insn) → InRange insn → insn_of (word_of insn) ≡ Some insn
insn_of-word_of insn range = insn_of-IsWord insn (word_of insn) (record { range = range; spelled = refl })

-- instructions in range are read again from their words, whatever follows
pub insns_at-append : (insns : List Insn) (words : List ℕ) → AllByRecursion InRange insns →
    insns_at (map word_of insns ++ words) ≡ insns ++ insns_at words
insns_at-append [] words all = refl
insns_at-append (insn ∷ insns) words all =
    ap (λ o. insns_from o (insns_at (map word_of insns ++ words))) (insn_of-word_of insn all.0)
    ∙ ap (λ is. insn ∷ is) (insns_at-append insns words all.1)

-- each word of a list is its instruction
pub insn_of-words : (insns : List Insn) → AllByRecursion InRange insns →
    map insn_of (map word_of insns) ≡ map (λ i. Some i) insns
insn_of-words [] all = refl
insn_of-words (insn ∷ insns) all =
    ap (λ o. o ∷ map insn_of (map word_of insns)) (insn_of-word_of insn all.0)
    ∙ ap (λ os. Some insn ∷ os) (insn_of-words insns all.1)

-- a word of a list is the instruction at its place
pub IsWord-get : (insns : List Insn) → AllByRecursion InRange insns → (k : ℕ) (d : Insn) → k < length insns →
    IsWord (get_or insns k d) (get_or (map word_of insns) k 0)
IsWord-get [] all k d h = absurd (omega arith)
IsWord-get (insn ∷ insns) all zero d h = record { range = all.0; spelled = refl }
IsWord-get (insn ∷ insns) all (suc k) d h = IsWord-get insns all.1 k d (omega arith)

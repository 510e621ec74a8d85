-- Words are read exactly as they are spelled.
use Rattle.std.proofs.Common.{◌≡◌, ℕ, ◌^◌, Bool, true, List, ◌++◌, Ok, IsTrue, refl, subst}
use Rattle.std.specs.Int.{w32}
use Rattle.cfi_type_table.specs.Spelling.{word}
use Rattle.cfi_type_table.proofs.Parts.{IsBytes, Takes, wide32, number_takes, number_again}
use Rattle.cfi_aux.specs.declared.fault.AuxFault.{AuxFault}
use Rattle.cfi_aux.specs.declared.fault.AuxFault.TheVariants.{Short}
use Rattle.cfi_aux.specs.Records.{IsWordSized}
use Rattle.cfi_aux.specs.Reading.{next_word, word_where}
use Rattle.cfi_values.specs.Then.{unless_bad}
use Rattle.cfi_aux.proofs.Formats.{Reads}
use Rattle.cfi_values.proofs.ThenLemmas.{then_ok, unless_bad_ok, ok_is}

pub word_takes : (bytes : List ℕ) (n : ℕ) (rest : List ℕ) → IsBytes bytes → next_word bytes ≡ Ok (n, rest)
    → Takes bytes (word n) rest × IsWordSized n
word_takes bytes n rest fits e = number_takes Short w32 (2 ^ 32) wide32 bytes n rest fits e

pub word_again : (n : ℕ) (rest : List ℕ) → IsWordSized n → next_word (word n ++ rest) ≡ Ok (n, rest)
word_again n rest lt = number_again Short w32 (2 ^ 32) wide32 n rest lt

-- a number that a word has, and that passes a test
abbrev pub Passes : (test : ℕ → Bool) → ℕ → Type 0
Passes test n = IsWordSized n × IsTrue (test n)

where_takes : (test : ℕ → Bool) (fault : AuxFault) (bytes : List ℕ) (x : ℕ × List ℕ) → IsBytes bytes
    → word_where test fault bytes ≡ Ok x → Takes bytes (word x.0) x.1 × Passes test x.0
unfolding word_where
where_takes test fault bytes x fits e =
    let a = then_ok (next_word bytes) (λ w. unless_bad (test w.0) fault (Ok w)) x e in
    let g = unless_bad_ok (test a.0.0) fault (Ok a.0) x a.2 in
    let one = word_takes bytes a.0.0 a.0.1 fits a.1 in
    subst (λ (y : ℕ × List ℕ). Takes bytes (word y.0) y.1 × Passes test y.0) (ok_is a.0 x g.1) (one.0, (one.1, g.0))

where_again : (test : ℕ → Bool) (fault : AuxFault) (n : ℕ) (rest : List ℕ) → Passes test n
    → word_where test fault (word n ++ rest) ≡ Ok (n, rest)
unfolding word_where
where_again test fault n rest h =
    let good : test n ≡ true = h.1 in
    rw (word_again n rest h.0, good) refl

pub Reads-word : (test : ℕ → Bool) (fault : AuxFault) → Reads ℕ word (Passes test) (word_where test fault)
Reads-word test fault = record { takes = where_takes test fault; again = where_again test fault }

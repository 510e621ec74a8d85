-- Indirect jumps and their numbers.
use Rattle.std.proofs.Common.{◌≡◌, ◌≢◌, ℕ, ◌+◌, ◌<◌, Bool, true, false, cond, List, length, eqb, ltb, sym, ap, ◌∙◌, add-one, arith}
use Rattle.std.proofs.lemmas.Bool.{eq-eqb, ne_eqb, lt-ltb}
use Rattle.elf_read.specs.Places.{IsFirst, IsNone}
use Rattle.cfi_aux.specs.declared.records.Function.{Function}
use Rattle.cfi_aux.specs.declared.records.Kind.{Kind}
use Rattle.cfi_instr.specs.Words.{Words, count_of}
use Rattle.cfi_instr.specs.Items.{is_indirect}
use Rattle.cfi_instr.specs.Jumps.{ordinal_of}
use Rattle.cfi_instr.specs.inner.Jumps.{lacks_kind_by, has_bad_switch_by}

-- records are left over after so many
abbrev pub has_rest : List Kind → (number : ℕ) → Bool
has_rest branches number = ltb number (length branches)

-- the indirect jump at the word has no fitting record; at the text's end records are left over
abbrev pub lacks_kind : Words → List Kind → (w : ℕ) → Bool
lacks_kind t branches w =
    cond (eqb w (count_of t)) (has_rest branches (ordinal_of t w)) (lacks_kind_by t branches w (ordinal_of t w))

-- the record of the indirect jump at the word has an entry that is no item of the jump's function
abbrev pub has_bad_switch : Words → List Function → List Kind → (w : ℕ) → Bool
has_bad_switch t functions branches w = has_bad_switch_by t functions branches w (ordinal_of t w)

-- one word more
pub ordinal-more : (t : Words) (w : ℕ) (here : Bool) → here ≡ is_indirect t w
    → ordinal_of t (w + 1) ≡ ordinal_of t w + cond here 1 0
ordinal-more t w here is = ap (ordinal_of t) (add-one w) ∙ ap (λ (b : Bool). ordinal_of t w + cond b 1 0) (sym is)

-- a word that is no indirect jump without its record
pub kind-here : (t : Words) (branches : List Kind) (w number : ℕ) (lacks : Bool) → w < count_of t
    → number ≡ ordinal_of t w → lacks ≡ lacks_kind_by t branches w number → lacks_kind t branches w ≡ lacks
kind-here t branches w number lacks lt is by =
    let ne : w ≢ count_of t = omega arith in
    let inside : eqb w (count_of t) ≡ false = ne_eqb w (count_of t) ne in
    rw (inside, ← is) (sym by)

-- records are left over at the text's end
pub rest-here : (t : Words) (branches : List Kind) (w number at : ℕ) → IsNone (lacks_kind t branches) w
    → w ≡ count_of t → at ≡ count_of t → number ≡ ordinal_of t w → number < length branches
    → IsFirst (lacks_kind t branches) (count_of t + 1) at
rest-here t branches w number at none end is_end is more =
    let last : eqb at (count_of t) ≡ true = eq-eqb at (count_of t) is_end in
    let same : at ≡ w = is_end ∙ sym end in
    let number_is : ordinal_of t at ≡ number = ap (ordinal_of t) same ∙ sym is in
    let rest = lt-ltb number (length branches) more in
    record {
      within = omega arith;
      here = rw (last, number_is) rest;
      before = λ j lt. none j (omega arith);
    }

use Rattle.std.proofs.Common.{◌≡◌, ◌++◌, ℕ, List, take}
use Rattle.cfi_place.specs.Names.{find_in, first_in}
use Rattle.cfi_judge.proofs.next.add_exports.Given as goal

-- the names of the exports so far are there
abbrev pub invariant-loop-name : goal.invariant-loop-name
invariant-loop-name l =
    (before : List (List ℕ × ℕ)) → ((name : List ℕ) → find_in l.initial.names name ≡ first_in before name)
    → (name : List ℕ) → find_in l.names name ≡ first_in (before ++ take l.name-index l.exports) name

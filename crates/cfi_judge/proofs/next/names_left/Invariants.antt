use Rattle.std.proofs.Common.{◌≡◌, ℕ, List, take}
use Rattle.cfi_place.specs.Names.{find_in, first_in}
use Rattle.cfi_judge.specs.inner.Next.{exports_left}
use Rattle.cfi_judge.proofs.next.names_left.Given as goal

-- the names of those so far are there
abbrev pub invariant-loop-one : goal.invariant-loop-one
invariant-loop-one l =
    (name : List ℕ) → find_in l.names name ≡ first_in (exports_left l.gone (take l.one-index l.stood)) name

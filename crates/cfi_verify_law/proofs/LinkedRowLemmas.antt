-- The rows of a verifier, read along the lists of functions and of checks.
use Rattle.std.proofs.Common.{◌≡◌, ℕ, zero, suc, ◌+◌, ◌<◌, ◌≤◌, List, [], ◌∷◌, ◌++◌, length, Some, refl, sym, ap, subst, ⊎_elim, arith}
use Rattle.std.specs.List.{slice_get}
use Rattle.std.proofs.lemmas.Bool.{cases_lt}
use Rattle.cfi_aux.specs.Extent.{end_of}
use Rattle.cfi_aux.specs.Records.{AllEntries, AllEntriesIn}
use Rattle.cfi_aux.specs.declared.placed.Placed.{Placed}
use Rattle.cfi_aux.specs.declared.placed.PlacedFunction.{PlacedFunction}
use Rattle.cfi_aux.specs.declared.records.Kind.{Kind}
use Rattle.cfi_unit.specs.declared.spot.Spot.{Spot}
use Rattle.elf_read.specs.Lists.{Each}
use Rattle.cfi_verify.specs.declared.checks.CheckSpot.{CheckSpot}
use Rattle.cfi_verify.specs.Functions.{end_in, end_before, IsIdle, FunctionFits, FitsBehind, IsIdleBehind, EndsWell}
use Rattle.cfi_verify.specs.Branches.{IsKindOf, IsRecordOf, IsEntry}

-- ---- functions

-- a function fits, and ends as it must
pub record FitsIn (m : Placed) (spots : List Spot) (before : ℕ) (f : PlacedFunction) : Type 0 where
  pub fits : FunctionFits m spots before f
  pub last : EndsWell spots 0 f

-- functions fit one after the other, the first behind the word `from`, and what stands behind them up to `to` is idle
abbrev pub Lie : (m : Placed) → List Spot → (from to : ℕ) → List PlacedFunction → Type 0
Lie m spots from to [] = (from ≤ to) × IsIdle spots from to
Lie m spots from to (f ∷ fs) = FitsIn m spots from f × Lie m spots (end_of f) to fs

-- where the functions before the number end
abbrev end_from : (from : ℕ) → List PlacedFunction → (number : ℕ) → ℕ
end_from from fs zero = from
end_from from [] (suc number) = 0
end_from from (f ∷ fs) (suc number) = end_from (end_of f) fs number

end-next : (from : ℕ) (fs : List PlacedFunction) (k : ℕ) → k < length fs
    → end_from from fs (suc k) ≡ end_in (slice_get fs k)
end-next from [] k less = absurd (omega (arith, less))
end-next from (f ∷ fs) zero less = refl
end-next from (f ∷ fs) (suc k) less = end-next (end_of f) fs k (omega (arith, less))

end-before : (fs : List PlacedFunction) (k : ℕ) → k ≤ length fs → end_from 0 fs k ≡ end_before fs k
end-before fs zero within = refl
end-before fs (suc k) within = end-next 0 fs k (omega (arith, within))

-- ... from the rows of a verifier
lie-from : (m : Placed) (spots : List Spot) (from : ℕ) (fs : List PlacedFunction) → from ≤ length m.words
    → ((k : ℕ) (f : PlacedFunction) → slice_get fs k ≡ Some f → FitsIn m spots (end_from from fs k) f)
    → IsIdle spots (end_from from fs (length fs)) (length m.words) → Lie m spots from (length m.words) fs
lie-from m spots from [] low each idle = (low, idle)
lie-from m spots from (f ∷ fs) low each idle =
    let one = each 0 f refl in
    (one, lie-from m spots (end_of f) fs one.fits.within (λ k g is. each (suc k) g is) idle)

within-of : {X : Type 0} (xs : List X) (k : ℕ) (x : X) → slice_get xs k ≡ Some x → k < length xs
within-of [] k x is = absurd (cc)
within-of (y ∷ xs) zero x is = omega arith
within-of (y ∷ xs) (suc k) x is = omega (arith, within-of xs k x is)

pub lie-rows : (m : Placed) (spots : List Spot) → Each m.functions (FitsBehind m spots) → IsIdleBehind m spots
    → Each m.functions (EndsWell spots) → Lie m spots 0 (length m.words) m.functions
lie-rows m spots fits idle ends =
    lie-from m spots 0 m.functions (omega arith)
    (λ k f is.
    let here = end-before m.functions k (omega (arith, within-of m.functions k f is)) in
    record {
      fits = subst (λ (n : ℕ). FunctionFits m spots n f) (sym here) (fits k f is);
      last = ends k f is;
    })
    (subst (λ (n : ℕ). IsIdle spots n (length m.words))
    (sym (end-before m.functions (length m.functions) (omega arith))) idle)

-- ... and back
fits-at : (m : Placed) (spots : List Spot) (from to : ℕ) (fs : List PlacedFunction) → Lie m spots from to fs → (k : ℕ)
    → (f : PlacedFunction) → slice_get fs k ≡ Some f → FitsIn m spots (end_from from fs k) f
fits-at m spots from to [] lie k f is = absurd (cc)
fits-at m spots from to (g ∷ fs) lie zero f is =
    let same : g ≡ f = cc in
    subst (λ (h : PlacedFunction). FitsIn m spots from h) same lie.0
fits-at m spots from to (g ∷ fs) lie (suc k) f is = fits-at m spots (end_of g) to fs lie.1 k f is

idle-at : (m : Placed) (spots : List Spot) (from to : ℕ) (fs : List PlacedFunction) → Lie m spots from to fs
    → IsIdle spots (end_from from fs (length fs)) to
idle-at m spots from to [] lie = lie.1
idle-at m spots from to (g ∷ fs) lie = idle-at m spots (end_of g) to fs lie.1

module _ (m : Placed) (spots : List Spot) (lie : Lie m spots 0 (length m.words) m.functions) where
  pub rows-fit : Each m.functions (FitsBehind m spots)
  rows-fit k f is =
      subst (λ (n : ℕ). FunctionFits m spots n f)
      (end-before m.functions k (omega (arith, within-of m.functions k f is)))
      (fits-at m spots 0 (length m.words) m.functions lie k f is).fits

  pub rows-end : Each m.functions (EndsWell spots)
  rows-end k f is = (fits-at m spots 0 (length m.words) m.functions lie k f is).last

  pub rows-idle : IsIdleBehind m spots
  rows-idle =
      subst (λ (n : ℕ). IsIdle spots n (length m.words)) (end-before m.functions (length m.functions) (omega arith))
      (idle-at m spots 0 (length m.words) m.functions lie)

-- ---- functions behind others

idle-join : (spots : List Spot) (a b c : ℕ) → IsIdle spots a b → IsIdle spots b c → IsIdle spots a c
idle-join spots a b c one other = λ s has low high.
    ⊎_elim (λ (less : s.at < b). one s has low less) (λ (more : b ≤ s.at). other s has more high) (cases_lt s.at b)

lie-earlier : (m : Placed) (spots : List Spot) (a b c : ℕ) (fs : List PlacedFunction) → a ≤ b → IsIdle spots a b
    → Lie m spots b c fs → Lie m spots a c fs
lie-earlier m spots a b c [] low idle lie = (omega (arith, low, lie.0), idle-join spots a b c idle lie.1)
lie-earlier m spots a b c (f ∷ fs) low idle lie =
    let old = lie.0.fits in
    let fits : FunctionFits m spots a f = record {
      some = old.some;
      order = omega (arith, low, old.order);
      within = old.within;
      begins = old.begins;
      ends = old.ends;
      typed = old.typed;
      idle = idle-join spots a b f.first idle old.idle;
    } in
    (record { fits = fits; last = lie.0.last }, lie.1)

pub lie-append : (m : Placed) (spots : List Spot) (a b c : ℕ) (fs gs : List PlacedFunction) → Lie m spots a b fs
    → Lie m spots b c gs → Lie m spots a c (fs ++ gs)
lie-append m spots a b c [] gs one other = lie-earlier m spots a b c gs one.0 one.1 other
lie-append m spots a b c (f ∷ fs) gs one other = (one.0, lie-append m spots (end_of f) b c fs gs one.1 other)

-- ---- checks

-- a check names the slot, and has the branch
pub record HasBranch (m : Placed) (spots : List Spot) (slot : ℕ) (c : CheckSpot) (b : Kind) : Type 0 where
  pub here : c.slot ≡ slot
  pub kind : IsKindOf m.types c.link b
  pub entries : AllEntries (IsEntry m spots c.at) b

-- checks name the slots from `slot` on, and have these branches
abbrev pub HaveBranches : (m : Placed) → List Spot → (slot : ℕ) → List CheckSpot → List Kind → Type 0
HaveBranches m spots slot [] [] = Unit {0}
HaveBranches m spots slot [] (b ∷ bs) = ⊥
HaveBranches m spots slot (c ∷ cs) [] = ⊥
HaveBranches m spots slot (c ∷ cs) (b ∷ bs) = HasBranch m spots slot c b × HaveBranches m spots (slot + 1) cs bs

pub have-rows : (m : Placed) (spots : List Spot) (slot : ℕ) (cs : List CheckSpot) (bs : List Kind)
    → ((k : ℕ) (c : CheckSpot) → slice_get cs k ≡ Some c → c.slot ≡ slot + k)
    → ((k : ℕ) (c : CheckSpot) → slice_get cs k ≡ Some c → IsRecordOf m.types c.link (slice_get bs k))
    → ((k : ℕ) (c : CheckSpot) → slice_get cs k ≡ Some c → AllEntriesIn (IsEntry m spots c.at) (slice_get bs k))
    → length bs ≤ length cs → HaveBranches m spots slot cs bs
have-rows m spots slot [] [] slots kinds entries few = tt
have-rows m spots slot [] (b ∷ bs) slots kinds entries few = absurd (omega (arith, few))
have-rows m spots slot (c ∷ cs) [] slots kinds entries few = absurd (kinds 0 c refl)
have-rows m spots slot (c ∷ cs) (b ∷ bs) slots kinds entries few =
    let one : HasBranch m spots slot c b = record {
      here = omega (arith, slots 0 c refl);
      kind = kinds 0 c refl;
      entries = entries 0 c refl;
    } in (
      one,
      have-rows m spots (slot + 1) cs bs (λ k d is. omega (arith, slots (suc k) d is)) (λ k d is. kinds (suc k) d is)
          (λ k d is. entries (suc k) d is) (omega (arith, few)),
    )

module _ (m : Placed) (spots : List Spot) where
  pub rows-slots : (slot : ℕ) (cs : List CheckSpot) (bs : List Kind) → HaveBranches m spots slot cs bs → (k : ℕ)
      → (c : CheckSpot) → slice_get cs k ≡ Some c → c.slot ≡ slot + k
  rows-slots slot [] bs have k c is = absurd (cc)
  rows-slots slot (d ∷ cs) [] have k c is = absurd have
  rows-slots slot (d ∷ cs) (b ∷ bs) have zero c is =
      let same : d ≡ c = cc in
      omega (arith, have.0.here, ap (λ (e : CheckSpot). e.slot) same)
  rows-slots slot (d ∷ cs) (b ∷ bs) have (suc k) c is = omega (arith, rows-slots (slot + 1) cs bs have.1 k c is)

  pub rows-kinds : (slot : ℕ) (cs : List CheckSpot) (bs : List Kind) → HaveBranches m spots slot cs bs → (k : ℕ)
      → (c : CheckSpot) → slice_get cs k ≡ Some c → IsRecordOf m.types c.link (slice_get bs k)
  rows-kinds slot [] bs have k c is = absurd (cc)
  rows-kinds slot (d ∷ cs) [] have k c is = absurd have
  rows-kinds slot (d ∷ cs) (b ∷ bs) have zero c is =
      let same : d ≡ c = cc in
      subst (λ (e : CheckSpot). IsKindOf m.types e.link b) same have.0.kind
  rows-kinds slot (d ∷ cs) (b ∷ bs) have (suc k) c is = rows-kinds (slot + 1) cs bs have.1 k c is

  pub rows-entries : (slot : ℕ) (cs : List CheckSpot) (bs : List Kind) → HaveBranches m spots slot cs bs → (k : ℕ)
      → (c : CheckSpot) → slice_get cs k ≡ Some c → AllEntriesIn (IsEntry m spots c.at) (slice_get bs k)
  rows-entries slot [] bs have k c is = absurd (cc)
  rows-entries slot (d ∷ cs) [] have k c is = absurd have
  rows-entries slot (d ∷ cs) (b ∷ bs) have zero c is =
      let same : d ≡ c = cc in
      subst (λ (e : CheckSpot). AllEntries (IsEntry m spots e.at) b) same have.0.entries
  rows-entries slot (d ∷ cs) (b ∷ bs) have (suc k) c is = rows-entries (slot + 1) cs bs have.1 k c is

  -- as many checks as branches
  pub rows-count : (slot : ℕ) (cs : List CheckSpot) (bs : List Kind) → HaveBranches m spots slot cs bs
      → length cs ≡ length bs
  rows-count slot [] [] have = refl
  rows-count slot [] (b ∷ bs) have = absurd have
  rows-count slot (c ∷ cs) [] have = absurd have
  rows-count slot (c ∷ cs) (b ∷ bs) have = omega (arith, rows-count (slot + 1) cs bs have.1)

  pub have-append : (slot next : ℕ) (cs ds : List CheckSpot) (bs es : List Kind) → next ≡ slot + length bs
      → HaveBranches m spots slot cs bs → HaveBranches m spots next ds es
      → HaveBranches m spots slot (cs ++ ds) (bs ++ es)
  have-append slot next [] ds [] es is one other =
      let same : next ≡ slot = omega (arith, is) in
      subst (λ (n : ℕ). HaveBranches m spots n ds es) same other
  have-append slot next [] ds (b ∷ bs) es is one other = absurd one
  have-append slot next (c ∷ cs) ds [] es is one other = absurd one
  have-append slot next (c ∷ cs) ds (b ∷ bs) es is one other =
      (one.0, have-append (slot + 1) next cs ds bs es (omega (arith, is)) one.1 other)

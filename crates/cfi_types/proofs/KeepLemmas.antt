-- Divisions by lists that tell equal nodes alike keep equal nodes together.
use Rattle.std.proofs.Common.{◌≡◌, ◌∙◌, ℕ, ◌+◌, ◌<◌, Bool, true, false, cond, List, [], length, get_or, replicate, All, refl, sym, ap, arith}
use Rattle.std.specs.List.{range_with_len}
use Rattle.std.proofs.lemmas.List.{length-replicate, get_or-replicate}
use Rattle.std.proofs.lemmas.List.FromFn.{get_or-range_with_len}
use Rattle.cfi_word.specs.declared.limits.TheConstants.{MAX_FIELDS}
use Rattle.cfi_type_table.specs.Node.{Node}
use Rattle.cfi_types.specs.inner.Hits.{has}
use Rattle.cfi_types.specs.inner.Division.{AreClear, KeepTogether, TellEqual}
use Rattle.cfi_types.specs.inner.Keeping.{KeepEqual}
use Rattle.cfi_types.specs.inner.Whole.{IsDivided}

pub divided_keeps : (nodes : List Node) (old list new : List ℕ) → KeepTogether nodes old → TellEqual nodes list
    → IsDivided old list new → KeepTogether nodes new
divided_keeps nodes old list new keep tells divided =
    let targets = divided.targets in
    record {
      len = divided.put.len ∙ keep.len;
      kept = λ a b la lb h.
          divided.put.each a (omega (arith, la, keep.len))
          ∙ ap (λ t. cond t (get_or targets (get_or old a 0) 0) (get_or old a 0)) (tells a b la lb h)
          ∙ ap (λ k. cond (has list b) (get_or targets k 0) k) (keep.kept a b la lb h)
          ∙ sym (divided.put.each b (omega (arith, lb, keep.len)));
    }

-- ---- before the first division

pub together : (nodes : List Node) (classes parts : List ℕ) → parts ≡ classes → KeepEqual nodes classes
    → KeepTogether nodes parts
together nodes classes parts is keep = record {
  len = ap length is ∙ keep.len;
  kept = λ a b la lb h.
      ap (λ l. get_or l a 0) is ∙ keep.kept a b la lb h ∙ ap (λ l. get_or l b 0) (sym is);
}

pub none_hit : (hits : List (List ℕ)) → hits ≡ replicate MAX_FIELDS [] → AreClear MAX_FIELDS hits
none_hit hits is = record {
  len = ap length is ∙ length-replicate {A = List ℕ} MAX_FIELDS [];
  none = λ k lt. ap (λ (l : List (List ℕ)). get_or l k []) is ∙ get_or-replicate MAX_FIELDS k [] [] lt;
}

-- ---- a division that leaves all as it is

one_choice : (test : Bool) (k : ℕ) → cond test k k ≡ k
one_choice true k = refl
one_choice false k = refl

pub all_stay : (old nodes : List ℕ) → All (λ k. k < length old) old → IsDivided old nodes old
all_stay old nodes below = record {
  targets = range_with_len 0 (length old);
  put = record {
    len = refl;
    each = λ a la.
        let k = get_or old a 0 in
        let from : get_or (range_with_len 0 (length old)) k 0 ≡ 0 + k =
        get_or-range_with_len 0 (length old) k 0 (below a 0 la) in
        let own : get_or (range_with_len 0 (length old)) k 0 ≡ k = omega (arith, from) in
        sym (ap (λ t. cond (has nodes a) t k) own ∙ one_choice (has nodes a) k);
  };
}

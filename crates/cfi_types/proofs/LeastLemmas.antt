-- The least nodes of keys, one node more, and classes that are named by them.
use Rattle.std.proofs.Common.{◌≡◌, ◌∙◌, ℕ, ◌+◌, ◌<◌, List, [], ◌∷◌, ◌++◌, length, get_or, min, Vec, Global, Result, Ok, Err, sym, ap, subst, arith, inl, inr}
use Rattle.std.specs.Prelude.{Option, IfOk}
use Rattle.std.specs.declared.alloc.AllocError.{AllocError}
use Rattle.std.proofs.lemmas.Bool.{cases_lt}
use Rattle.std.proofs.lemmas.List.Elements.{length_all_zip}
use Rattle.std.proofs.lemmas.List.{length_push, get_or_push, get_or_append_left}
use Rattle.cfi_word.specs.declared.limits.TheConstants.{MAX_FIELDS}
use Rattle.cfi_type_table.specs.Node.{Node, node_of}
use Rattle.cfi_type_table.specs.Kind.{numbers_of, nodes_of}
use Rattle.cfi_types.specs.Same.{Same, Equal}
use Rattle.cfi_types.specs.inner.Leader.{PutsFirst}
use Rattle.cfi_types.specs.inner.Splitting.{IsFirstOfKey}
use Rattle.cfi_types.specs.inner.Keeping.{label_of, AreNamed, KeepEqual}
use Rattle.cfi_types.specs.inner.Division.{KeepTogether}
use Rattle.cfi_types.proofs.Firsts.{AreFirsts, least_found, more_firsts}
use Rattle.cfi_types.proofs.Steps.{least_alike}

-- the least nodes of the keys of the first i nodes
pub record LeastSoFar (key : ℕ → List ℕ) (i : ℕ) (found : List ℕ → Option ℕ) (next : List ℕ) : Type 0 where
  pub len : length next ≡ i
  pub firsts : AreFirsts key i found
  pub least : (a : ℕ) → a < i → IsFirstOfKey key a (get_or next a 0)

pub least_more : (key : ℕ → List ℕ) (i m : ℕ) (found found' : List ℕ → Option ℕ) (next next' : List ℕ)
    → LeastSoFar key i found next → PutsFirst found found' (key i) i m → next' ≡ next ++ m ∷ []
    → LeastSoFar key (i + 1) found' next'
least_more key i m found found' next next' so_far puts pushed =
    let least : IsFirstOfKey key i m = least_found key i found found' m so_far.firsts puts in
    record {
      len = rw pushed (omega (arith, length_push next m, so_far.len));
      firsts = more_firsts key i found found' m so_far.firsts puts;
      least = λ a below. subst (λ (l : List ℕ). IsFirstOfKey key a (get_or l a 0)) (sym pushed)
          (elim (cases_lt a i) [
            | inl less ↦ subst (IsFirstOfKey key a)
                (sym (get_or_append_left next (m ∷ []) 0 a (omega (arith, so_far.len, less)))) (so_far.least a less)
            | inr more ↦
                let at : a ≡ i = omega (arith, more, below) in
                let value : get_or (next ++ m ∷ []) a 0 ≡ m = get_or_push next m 0 a (so_far.len ∙ sym at) in
                subst (λ k. IsFirstOfKey key k (get_or (next ++ m ∷ []) a 0)) (sym at)
                (subst (IsFirstOfKey key i) (sym value) least)
          ]);
    }

-- ---- names

-- least nodes of keys that equal nodes share keep equal nodes together
pub least_keep : (nodes : List Node) (key : ℕ → List ℕ) (least : List ℕ) → length least ≡ length nodes
    → ((a : ℕ) → a < length nodes → IsFirstOfKey key a (get_or least a 0))
    → ((a b : ℕ) → a < length nodes → b < length nodes → Equal nodes a nodes b → key a ≡ key b)
    → KeepEqual nodes least
least_keep nodes key least len is share = record {
  len = len;
  low = λ a lt. (is a (omega (arith, lt, len))).within;
  own = λ a la.
      let m = get_or least a 0 in
      let lm : m < length nodes = omega (arith, (is a la).within, la) in
      least_alike key m a (get_or least m 0) m (is m lm) (is a la) (is a la).alike;
  kept = λ a b la lb h.
      least_alike key a b (get_or least a 0) (get_or least b 0) (is a la) (is b lb) (share a b la lb h);
}

-- equal nodes have one label
pub one_label : (nodes : List Node) (a b : ℕ) → Equal nodes a nodes b
    → label_of (node_of nodes a) ≡ label_of (node_of nodes b)
one_label nodes a b h =
    let x = node_of nodes a in
    let y = node_of nodes b in
    let len : length (nodes_of x) ≡ length (nodes_of y) =
    length_all_zip (λ c d. Same 0 nodes c nodes d) (nodes_of x) (nodes_of y) (h 1).2 in
    ap (λ k. k ∷ min (length (nodes_of x)) MAX_FIELDS ∷ numbers_of x) (h 1).0
    ∙ ap (λ n. y.kind ∷ min n MAX_FIELDS ∷ numbers_of x) len
    ∙ ap (λ ns. y.kind ∷ min (length (nodes_of y)) MAX_FIELDS ∷ ns) (h 1).1

named_keep : (nodes : List Node) (parts least : List ℕ) → KeepTogether nodes parts → AreNamed parts least
    → KeepEqual nodes least
named_keep nodes parts least keep named =
    least_keep nodes (λ b. get_or parts b 0 ∷ []) least (named.len ∙ keep.len)
    (λ a la. named.least a (omega (arith, la, keep.len)))
    (λ a b la lb h. ap (λ k. k ∷ []) (keep.kept a b la lb h))

pub names_keep : (nodes : List Node) (slice parts : List ℕ) (r : Result (Vec ℕ Global) AllocError) → slice ≡ parts
    → KeepTogether nodes parts → IfOk r (λ names. AreNamed slice names.items) → IfOk r
    (λ names. KeepEqual nodes names.items)
names_keep nodes slice parts (Ok names) is keep named =
    named_keep nodes parts names.items keep (subst (λ (l : List ℕ). AreNamed l names.items) is named)
names_keep nodes slice parts (Err e) is keep named = tt

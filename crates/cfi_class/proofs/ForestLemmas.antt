-- The roots of a forest: each node has its parent's root, a root has itself, and nothing else is like that.
use Rattle.std.proofs.Common.{◌≡◌, ℕ, zero, suc, ◌<◌, ◌≤◌, List, length, get_or, set, refl, sym, zero-add, ◌∙◌, ap, subst, arith, inl, inr}
use Rattle.std.proofs.lemmas.Bool.{cases_eq}
use Rattle.std.proofs.lemmas.List.{length-set, get_or-set_same, get_or-set_other}
use Rattle.std.proofs.lemmas.List.FromFn.{length-range_with_len, get_or-range_with_len}
use Rattle.std.specs.List.{range_with_len}
use Rattle.cfi_class.specs.inner.Forest.{IsForest, HasSameRoots, ancestor_of, root_of}

-- any number of steps leads from a root to itself
ancestor_of-root : (steps : ℕ) (parents : List ℕ) (node : ℕ) → get_or parents node 0 ≡ node
    → ancestor_of steps parents node ≡ node
unfolding ancestor_of
ancestor_of-root zero parents node own = refl
ancestor_of-root (suc steps) parents node own =
    ap (ancestor_of steps parents) own ∙ ancestor_of-root steps parents node own

-- as many steps as the node's number lead as far as more of them
ancestor_of-enough : (bound : ℕ) (parents : List ℕ) (steps node : ℕ) → IsForest parents → node < length parents
    → node ≤ bound → node ≤ steps → ancestor_of steps parents node ≡ root_of parents node
unfolding ancestor_of root_of
ancestor_of-enough zero parents steps node forest within low enough =
    let least : get_or parents node 0 ≤ node = forest node within in
    let own : get_or parents node 0 ≡ node = omega arith in
    ancestor_of-root steps parents node own ∙ sym (ancestor_of-root node parents node own)
ancestor_of-enough (suc bound) parents steps zero forest within low enough =
    let least : get_or parents 0 0 ≤ 0 = forest 0 within in
    let own : get_or parents 0 0 ≡ 0 = omega arith in
    ancestor_of-root steps parents 0 own
ancestor_of-enough (suc bound) parents zero (suc node) forest within low enough = absurd (omega arith)
ancestor_of-enough (suc bound) parents (suc steps) (suc node) forest within low enough =
    let least : get_or parents (suc node) 0 ≤ suc node = forest (suc node) within in
    elim (cases_eq (get_or parents (suc node) 0) (suc node)) [
      | inl own ↦ ancestor_of-root (suc steps) parents (suc node) own
          ∙ sym (ancestor_of-root (suc node) parents (suc node) own)
      | inr lower ↦ ancestor_of-enough bound parents steps (get_or parents (suc node) 0) forest (omega arith)
          (omega arith) (omega arith)
          ∙ sym (ancestor_of-enough bound parents node (get_or parents (suc node) 0) forest (omega arith)
          (omega arith) (omega arith))
    ]

-- a root is its own
pub root_of-root : (parents : List ℕ) (node : ℕ) → get_or parents node 0 ≡ node → root_of parents node ≡ node
unfolding root_of
root_of-root parents node own = ancestor_of-root node parents node own

-- a node has its parent's root
pub root_of-parent : (parents : List ℕ) (node : ℕ) → IsForest parents → node < length parents
    → root_of parents (get_or parents node 0) ≡ root_of parents node
unfolding ancestor_of
root_of-parent parents node forest within =
    let least : get_or parents node 0 ≤ node = forest node within in
    sym (ancestor_of-enough (get_or parents node 0) parents node (get_or parents node 0) forest (omega arith)
    (omega arith) least)
    ∙ ancestor_of-enough node parents (suc node) node forest within (omega arith) (omega arith)

-- what each node shares with its parent, and each root has of itself, is its root
pub record AreRoots (parents : List ℕ) (roots : ℕ → ℕ) : Type 0 where
  pub shared : (node : ℕ) → node < length parents → roots (get_or parents node 0) ≡ roots node
  pub own : (node : ℕ) → node < length parents → get_or parents node 0 ≡ node → roots node ≡ node

roots_are : (bound : ℕ) (parents : List ℕ) (roots : ℕ → ℕ) (node : ℕ) → IsForest parents → AreRoots parents roots
    → node < length parents → node ≤ bound → root_of parents node ≡ roots node
roots_are zero parents roots node forest are within low =
    let least : get_or parents node 0 ≤ node = forest node within in
    let own : get_or parents node 0 ≡ node = omega arith in
    root_of-root parents node own ∙ sym (are.own node within own)
roots_are (suc bound) parents roots node forest are within low =
    let least : get_or parents node 0 ≤ node = forest node within in
    elim (cases_eq (get_or parents node 0) node) [
      | inl own ↦ root_of-root parents node own ∙ sym (are.own node within own)
      | inr lower ↦ sym (root_of-parent parents node forest within)
          ∙ roots_are bound parents roots (get_or parents node 0) forest are (omega arith) (omega arith)
          ∙ are.shared node within
    ]

pub root_of-unique : (parents : List ℕ) (roots : ℕ → ℕ) (node : ℕ) → IsForest parents → AreRoots parents roots
    → node < length parents → root_of parents node ≡ roots node
root_of-unique parents roots node forest are within =
    roots_are node parents roots node forest are within (omega arith)

-- the root of a node is not above it, and is the root of itself
record Tops (parents : List ℕ) (node : ℕ) : Type 0 where
  low : root_of parents node ≤ node
  top : get_or parents (root_of parents node) 0 ≡ root_of parents node

top_of-own : (parents : List ℕ) (node : ℕ) → get_or parents node 0 ≡ node → Tops parents node
top_of-own parents node own =
    let root : root_of parents node ≡ node = root_of-root parents node own in
    record { low = omega arith; top = ap (λ n. get_or parents n 0) root ∙ own ∙ sym root }

tops_of : (bound : ℕ) (parents : List ℕ) (node : ℕ) → IsForest parents → node < length parents → node ≤ bound
    → Tops parents node
tops_of zero parents node forest within low =
    let least : get_or parents node 0 ≤ node = forest node within in
    top_of-own parents node (omega arith)
tops_of (suc bound) parents node forest within low =
    let least : get_or parents node 0 ≤ node = forest node within in
    elim (cases_eq (get_or parents node 0) node) [
      | inl own ↦ top_of-own parents node own
      | inr lower ↦
          let same : root_of parents (get_or parents node 0) ≡ root_of parents node =
          root_of-parent parents node forest within in
          let tops : Tops parents (get_or parents node 0) =
          tops_of bound parents (get_or parents node 0) forest (omega arith) (omega arith) in
          record {
            low = let below = tops.low in omega arith;
            top = ap (λ n. get_or parents n 0) (sym same) ∙ tops.top ∙ same;
          }
    ]

pub root_of-low : (parents : List ℕ) (node : ℕ) → IsForest parents → node < length parents
    → root_of parents node ≤ node
root_of-low parents node forest within = (tops_of node parents node forest within (omega arith)).low

pub root_of-top : (parents : List ℕ) (node : ℕ) → IsForest parents → node < length parents
    → get_or parents (root_of parents node) 0 ≡ root_of parents node
root_of-top parents node forest within = (tops_of node parents node forest within (omega arith)).top

pub root_of-root_of : (parents : List ℕ) (node : ℕ) → IsForest parents → node < length parents
    → root_of parents (root_of parents node) ≡ root_of parents node
root_of-root_of parents node forest within =
    root_of-root parents (root_of parents node) (root_of-top parents node forest within)

-- ---- a node's parent's parent becomes its parent

module _ (parents : List ℕ) (node next : ℕ) (forest : IsForest parents) (within : node < length parents)
    (is : get_or parents (get_or parents node 0) 0 ≡ next) where
  next_low : next ≤ get_or parents node 0
  next_low =
      let least : get_or parents node 0 ≤ node = forest node within in
      let lower : get_or parents (get_or parents node 0) 0 ≤ get_or parents node 0 =
      forest (get_or parents node 0) (omega arith) in
      omega arith

  pub halved_forest : IsForest (set parents node next)
  halved_forest other there =
      let there' : other < length parents = omega (arith, length-set {A = ℕ}) in
      let least : get_or parents node 0 ≤ node = forest node within in
      let lower = next_low in
      elim (cases_eq other node) [
        | inl same ↦ subst (λ n. get_or (set parents node next) n 0 ≤ n)
            (sym same) (rw get_or-set_same (omega arith))
        | inr differ ↦ rw get_or-set_other (forest other there')
      ]

  -- the parent's parent has the node's root
  pub halved_way : root_of parents next ≡ root_of parents node
  halved_way =
      let least : get_or parents node 0 ≤ node = forest node within in
      ap (root_of parents) (sym is) ∙ root_of-parent parents (get_or parents node 0) forest (omega arith)
      ∙ root_of-parent parents node forest within

  halved_shared : (other : ℕ) → other < length (set parents node next)
      → root_of parents (get_or (set parents node next) other 0)
      ≡ root_of parents other
  halved_shared other there =
      let there' : other < length parents = omega (arith, length-set {A = ℕ}) in
      elim (cases_eq other node) [
        | inl same ↦
            ap (λ n. root_of parents (get_or (set parents node next) n 0)) same
            ∙ ap (root_of parents) (get_or-set_same parents node next 0 within)
            ∙ halved_way ∙ ap (root_of parents) (sym same)
        | inr differ ↦
            ap (root_of parents) (get_or-set_other parents node other next 0 differ)
            ∙ root_of-parent parents other forest there'
      ]

  halved_own : (other : ℕ) → other < length (set parents node next)
      → get_or (set parents node next) other 0 ≡ other
      → root_of parents other ≡ other
  halved_own other there own =
      let least : get_or parents node 0 ≤ node = forest node within in
      let lower = next_low in
      elim (cases_eq other node) [
        | inl same ↦
            let at : get_or (set parents node next) node 0 ≡ node =
            subst (λ n. get_or (set parents node next) n 0 ≡ n) same own in
            let is = get_or-set_same parents node next 0 within in
            let parent : get_or parents node 0 ≡ node = omega arith in
            ap (root_of parents) same ∙ root_of-root parents node parent ∙ sym same
        | inr differ ↦ root_of-root parents other
            (sym (get_or-set_other parents node other next 0 differ) ∙ own)
      ]

  -- each node keeps its root
  pub halved_roots : HasSameRoots parents (set parents node next)
  halved_roots other there =
      root_of-unique (set parents node next) (root_of parents) other
      halved_forest (record { shared = halved_shared; own = halved_own }) (rw length-set there)

-- ---- at first

-- the numbers from 0 are a forest of trees of one node
module _ (nodes : ℕ) where
  at_own : (node : ℕ) → node < length (range_with_len 0 nodes) → get_or (range_with_len 0 nodes) node 0 ≡ node
  at_own node there = get_or-range_with_len 0 nodes node 0 (rw length-range_with_len at there) ∙ zero-add node

  pub first_forest : IsForest (range_with_len 0 nodes)
  first_forest node there = let own = at_own node there in omega arith

  pub first_roots : (node : ℕ) → node < nodes → root_of (range_with_len 0 nodes) node ≡ node
  first_roots node within =
      root_of-root (range_with_len 0 nodes) node (at_own node (rw length-range_with_len within))

-- The nodes of a table: a loop reads them, what is read is spelled so, and what is spelled so is read.
use Rattle.std.proofs.Common.{◌≡◌, ℕ, zero, suc, ◌+◌, ◌-◌, ◌<◌, ◌≤◌, true, leb, List, [], ◌∷◌, ◌++◌, length, Result, Ok, refl, sym, ap, subst, ◌∙◌, add-one, arith}
use Rattle.std.specs.List.{flat_map, AllByRecursion}
use Rattle.std.proofs.lemmas.List.Concat.{flat_map-cons}
use Rattle.cfi_type_table.specs.declared.kind.TheConstants.{VARFUNC}
use Rattle.cfi_type_table.specs.declared.fault.TypeFault.{TypeFault}
use Rattle.cfi_type_table.specs.declared.fault.TypeFault.TheVariants.{BadNode}
use Rattle.cfi_type_table.specs.Node.{Node, make_node}
use Rattle.cfi_type_table.specs.Kind.{has_arity}
use Rattle.cfi_type_table.specs.Spelling.{word, node_bytes, IsNode}
use Rattle.cfi_type_table.specs.Reading.{ReadingFails, next_word, fields_at, node_at, nodes_at}
use Rattle.cfi_values.specs.Then.{◌>>=◌, unless_bad}
use Rattle.cfi_type_table.proofs.Parts.{IsBytes, Takes, Takes-then, word_takes, with_front, regroup, with_front_nil, Fails-bind}
use Rattle.cfi_values.proofs.ThenLemmas.{then_ok, unless_bad_ok, ok_is}
use Rattle.cfi_type_table.proofs.Fields.{fields_take}

pub nodes_go_on : (count i : ℕ) (front : List Node) (bytes : List ℕ) (x : Node) (after : List ℕ)
    (total : Result (List Node × List ℕ) TypeFault) → i < count → node_at i bytes ≡ Ok (x, after)
    → with_front front (nodes_at i (count - i) bytes) ≡ total
    → with_front (front ++ x ∷ []) (nodes_at (i + 1) (count - (i + 1)) after) ≡ total
unfolding nodes_at
nodes_go_on count i front bytes x after total lt h so_far =
    let left : count - i ≡ suc (count - (i + 1)) = omega arith in
    let one : with_front front (nodes_at i (count - i) bytes) ≡ with_front (front ++ x ∷ [])
    (nodes_at (i + 1) (count - (i + 1)) after) =
    rw (left, h, add-one) (regroup front x (nodes_at (suc i) (count - suc i) after)) in
    sym one ∙ so_far

pub nodes_end : (e : TypeFault) (count i : ℕ) (front : List Node) (bytes : List ℕ)
    (total : Result (List Node × List ℕ) TypeFault) → i < count → ReadingFails e (node_at i bytes)
    → with_front front (nodes_at i (count - i) bytes) ≡ total → ReadingFails e total
unfolding nodes_at
nodes_end e count i front bytes total lt h so_far =
    let left : count - i ≡ suc (count - (i + 1)) = omega arith in
    let one : ReadingFails e (with_front front (nodes_at i (suc (count - (i + 1))) bytes)) =
    Fails-bind e (nodes_at i (suc (count - (i + 1))) bytes) (λ x. Ok (front ++ x.0, x.1))
    (Fails-bind e (node_at i bytes)
    (λ first. nodes_at (suc i) (count - (i + 1)) first.1 >>= λ others. Ok (first.0 ∷ others.0, others.1)) h) in
    subst (ReadingFails e) so_far (subst (λ n. ReadingFails e (with_front front (nodes_at i n bytes))) (sym left) one)

pub nodes_done : (count i : ℕ) (front : List Node) (bytes : List ℕ) (total : Result (List Node × List ℕ) TypeFault)
    → count ≤ i → with_front front (nodes_at i (count - i) bytes) ≡ total → total ≡ Ok (front, bytes)
unfolding nodes_at
nodes_done count i front bytes total le so_far =
    let left : count - i ≡ 0 = omega arith in
    let one : with_front front (nodes_at i (count - i) bytes) ≡ Ok (front, bytes) =
    rw left (with_front_nil front bytes) in
    sym so_far ∙ one

-- ---- read and spelled

pub node_takes : (k : ℕ) (bytes : List ℕ) (x : Node × List ℕ) → IsBytes bytes → node_at k bytes ≡ Ok x
    → Takes bytes (node_bytes x.0) x.1 × IsNode x.0
unfolding node_at
node_takes k bytes x fits e =
    let a = then_ok (next_word bytes)
    (λ kind. unless_bad (leb kind.0 VARFUNC) (BadNode k)
    (next_word kind.1 >>= λ count. unless_bad (has_arity kind.0 count.0) (BadNode k)
    (fields_at k kind.0 0 count.0 count.1 >>= λ fields. Ok (make_node kind.0 fields.0, fields.1)))) x e in
    let g = unless_bad_ok (leb a.0.0 VARFUNC) (BadNode k)
    (next_word a.0.1 >>= λ count. unless_bad (has_arity a.0.0 count.0) (BadNode k)
    (fields_at k a.0.0 0 count.0 count.1 >>= λ fields. Ok (make_node a.0.0 fields.0, fields.1))) x a.2 in
    let b = then_ok (next_word a.0.1)
    (λ count. unless_bad (has_arity a.0.0 count.0) (BadNode k)
    (fields_at k a.0.0 0 count.0 count.1 >>= λ fields. Ok (make_node a.0.0 fields.0, fields.1))) x g.1 in
    let h = unless_bad_ok (has_arity a.0.0 b.0.0) (BadNode k)
    (fields_at k a.0.0 0 b.0.0 b.0.1 >>= λ fields. Ok (make_node a.0.0 fields.0, fields.1)) x b.2 in
    let c = then_ok (fields_at k a.0.0 0 b.0.0 b.0.1) (λ fields. Ok (make_node a.0.0 fields.0, fields.1)) x h.1 in
    let t0 = word_takes bytes a.0.0 a.0.1 fits a.1 in
    let t1 = word_takes a.0.1 b.0.0 b.0.1 t0.0.rest_fits b.1 in
    let t2 = fields_take k a.0.0 0 b.0.0 b.0.1 c.0 t1.0.rest_fits c.1 in
    let e12 = Takes-then a.0.1 (word b.0.0) b.0.1 (flat_map word c.0.0) c.0.1 t1.0 t2.0 in
    let e02 = Takes-then bytes (word a.0.0) a.0.1 (word b.0.0 ++ flat_map word c.0.0) c.0.1 t0.0 e12 in
    let counted : Takes bytes (node_bytes (make_node a.0.0 c.0.0)) c.0.1 =
    subst (λ (n : ℕ). Takes bytes (word a.0.0 ++ (word n ++ flat_map word c.0.0)) c.0.1) (sym t2.1) e02 in
    let made : Node × List ℕ = (make_node a.0.0 c.0.0, c.0.1) in
    let good : has_arity a.0.0 (length c.0.0) ≡ true = subst (λ (n : ℕ). has_arity a.0.0 n ≡ true) (sym t2.1) h.0 in
    let node : IsNode (make_node a.0.0 c.0.0) = record { arity = good; fields = t2.2 } in
    subst (λ (y : Node × List ℕ). Takes bytes (node_bytes y.0) y.1 × IsNode y.0) (ok_is made x c.2) (counted, node)

pub nodes_take : (k count : ℕ) (bytes : List ℕ) (x : List Node × List ℕ) → IsBytes bytes
    → nodes_at k count bytes ≡ Ok x → Takes bytes (flat_map node_bytes x.0) x.1 × (length x.0 ≡ count)
    × AllByRecursion IsNode x.0
unfolding nodes_at
nodes_take k zero bytes x fits e =
    subst (λ (y : List Node × List ℕ). Takes bytes (flat_map node_bytes y.0) y.1 × (length y.0 ≡ 0)
    × AllByRecursion IsNode y.0) (ok_is ([], bytes) x e) (record { parts = refl; rest_fits = fits }, refl, tt)
nodes_take k (suc count) bytes x fits e =
    let a = then_ok (node_at k bytes)
    (λ first. nodes_at (suc k) count first.1 >>= λ others. Ok (first.0 ∷ others.0, others.1)) x e in
    let b = then_ok (nodes_at (suc k) count a.0.1) (λ others. Ok (a.0.0 ∷ others.0, others.1)) x a.2 in
    let first = node_takes k bytes a.0 fits a.1 in
    let second = nodes_take (suc k) count a.0.1 b.0 first.0.rest_fits b.1 in
    let both = Takes-then bytes (node_bytes a.0.0) a.0.1 (flat_map node_bytes b.0.0) b.0.1 first.0 second.0 in
    let made : List Node × List ℕ = (a.0.0 ∷ b.0.0, b.0.1) in
    subst (λ (y : List Node × List ℕ). Takes bytes (flat_map node_bytes y.0) y.1 × (length y.0 ≡ suc count)
    × AllByRecursion IsNode y.0) (ok_is made x b.2) (rw flat_map-cons both, ap suc second.1, (first.1, second.2))

-- A whole table: what is read is spelled so, and what is spelled so is read.
use Rattle.std.proofs.Common.{◌≡◌, ℕ, suc, ◌+◌, ◌<◌, ◌≤◌, ◌^◌, Bool, true, false, cond, eqb, ltb, leb, List, [], ◌∷◌, ◌++◌, length, drop, get_or, All, Option, Some, None, Result, Ok, Err, refl, sym, ap, subst, ◌∙◌, append_assoc, add-one, arith}
use Rattle.std.specs.Prelude.{◌&&◌, IfOk}
use Rattle.std.specs.List.{flat_map, AllByRecursion, list_all}
use Rattle.std.proofs.lemmas.Bool.{eqb-true, ltb-true, lt-ltb, le-leb, leb-true}
use Rattle.std.proofs.lemmas.Bool.Decides.{nat_tests}
use Rattle.std.proofs.lemmas.List.{append-nil, nil_from_length, drop_more, drop_all}
use Rattle.std.proofs.lemmas.List.Concat.{flat_map-cons}
use Rattle.std.proofs.lemmas.List.Elements.{All-from_recursion, recursion_from_All}
use Rattle.cfi_type_table.specs.declared.kind.TheConstants.{VARFUNC}
use Rattle.cfi_word.specs.declared.limits.TheConstants.{MAX_FIELDS, MAX_NODES}
use Rattle.cfi_type_table.specs.declared.fault.TypeFault.{TypeFault}
use Rattle.cfi_type_table.specs.declared.fault.TypeFault.TheVariants.{BadNode, Short}
use Rattle.cfi_type_table.specs.Node.{Node}
use Rattle.cfi_type_table.specs.Kind.{nodes_of, has_arity}
use Rattle.cfi_type_table.specs.Spelling.{word, node_bytes, spelling, IsNode, NamesBelow, AreTypes}
use Rattle.cfi_type_table.specs.Reading.{ReadingGives, next_word, node_at, nodes_at, stray_from, judged, types_in}
use Rattle.cfi_values.specs.Then.{◌>>=◌, unless_bad}
use Rattle.cfi_type_table.proofs.Parts.{IsBytes, Takes-then, word_takes, word_again}
use Rattle.cfi_values.proofs.ThenLemmas.{then_ok, unless_bad_ok, ok_is}
use Rattle.cfi_type_table.proofs.Fields.{fields_again}
use Rattle.cfi_type_table.proofs.Nodes.{nodes_take}

-- ---- the nodes that are named

drop_is : (i : ℕ) (xs : List Node) (x : Node) → i < length xs → x ≡ get_or xs i x → drop i xs ≡ x ∷ drop (i + 1) xs
drop_is i xs x lt is = drop_more xs i x lt ∙ ap (λ (y : Node). y ∷ drop (i + 1) xs) (sym is)

pub stray_here : (count i : ℕ) (xs : List Node) (x : Node) (total : Option ℕ) → i < length xs → x ≡ get_or xs i x
    → list_all (λ k. ltb k count) (nodes_of x) ≡ false
    → stray_from count i (drop i xs) ≡ total → Some i ≡ total
unfolding stray_from
stray_here count i xs x total lt is bad so_far =
    let one : stray_from count i (x ∷ drop (i + 1) xs) ≡ Some i = rw bad refl in
    sym one ∙ sym (ap (stray_from count i) (drop_is i xs x lt is)) ∙ so_far

pub stray_on : (count i : ℕ) (xs : List Node) (x : Node) (total : Option ℕ) → i < length xs → x ≡ get_or xs i x
    → list_all (λ k. ltb k count) (nodes_of x) ≡ true
    → stray_from count i (drop i xs) ≡ total → stray_from count (i + 1) (drop (i + 1) xs) ≡ total
unfolding stray_from
stray_on count i xs x total lt is good so_far =
    let one : stray_from count i (x ∷ drop (i + 1) xs) ≡ stray_from count (i + 1) (drop (i + 1) xs) =
    rw good (ap (λ (k : ℕ). stray_from count k (drop (i + 1) xs)) (sym (add-one i))) in
    sym one ∙ sym (ap (stray_from count i) (drop_is i xs x lt is)) ∙ so_far

pub stray_none : (count i : ℕ) (xs : List Node) (total : Option ℕ) → length xs ≤ i
    → stray_from count i (drop i xs) ≡ total → None ≡ total
unfolding stray_from
stray_none count i xs total le so_far =
    let one : stray_from count i [] ≡ None = refl in
    sym one ∙ sym (ap (stray_from count i) (drop_all i xs le)) ∙ so_far

both_true : (a b : Bool) → (a && b) ≡ true → (a ≡ true) × (b ≡ true)
both_true true b e = (refl, e)
both_true false b e = absurd cc

all_below : (count : ℕ) (ks : List ℕ) → list_all (λ k. ltb k count) ks ≡ true → AllByRecursion (λ k. k < count) ks
all_below count [] e = tt
all_below count (k ∷ ks) e =
    let parts = both_true (ltb k count) (list_all (λ k. ltb k count) ks) e in
    (ltb-true k count parts.0, all_below count ks parts.1)

below_all : (count : ℕ) (ks : List ℕ) → AllByRecursion (λ k. k < count) ks → list_all (λ k. ltb k count) ks ≡ true
below_all count [] h = refl
below_all count (k ∷ ks) h =
    let here : ltb k count ≡ true = lt-ltb k count h.0 in
    rw here (below_all count ks h.1)

stray_test : (count k : ℕ) (x : Node) (xs : List Node) (b : Bool) → list_all (λ f. ltb f count) (nodes_of x) ≡ b
    → cond b (stray_from count (suc k) xs) (Some k) ≡ None → NamesBelow count x × (stray_from count (suc k) xs ≡ None)
stray_test count k x xs true is on =
    (All-from_recursion (λ f. f < count) (nodes_of x) (all_below count (nodes_of x) is), on)
stray_test count k x xs false is on = absurd cc

no_stray : (count k : ℕ) (xs : List Node) → stray_from count k xs ≡ None → AllByRecursion (NamesBelow count) xs
unfolding stray_from
no_stray count k [] e = tt
no_stray count k (x ∷ xs) e =
    let here = stray_test count k x xs (list_all (λ f. ltb f count) (nodes_of x)) refl e in
    (here.0, no_stray count (suc k) xs here.1)

stray_free : (count k : ℕ) (xs : List Node) → AllByRecursion (NamesBelow count) xs → stray_from count k xs ≡ None
unfolding stray_from
stray_free count k [] h = refl
stray_free count k (x ∷ xs) h =
    let good : list_all (λ f. ltb f count) (nodes_of x) ≡ true =
    below_all count (nodes_of x) (recursion_from_All (λ f. f < count) (nodes_of x) h.0) in
    rw good (stray_free count (suc k) xs h.1)

-- ---- nodes

-- a kind is known, and a number of fields small, where they fit
arity_bounds : (kind n : ℕ) → has_arity kind n ≡ true → (kind ≤ VARFUNC) × (n ≤ MAX_FIELDS)
arity_bounds kind n h = (grind (arith, nat_tests), grind (arith, nat_tests))

node_again : (k : ℕ) (x : Node) (rest : List ℕ) → IsNode x → node_at k (node_bytes x ++ rest) ≡ Ok (x, rest)
unfolding node_at
node_again k x rest node =
    let good : has_arity x.kind (length x.fields) ≡ true = node.arity in
    let bounds = arity_bounds x.kind (length x.fields) good in
    let known : leb x.kind VARFUNC ≡ true = le-leb x.kind VARFUNC bounds.0 in
    let regrouped : node_bytes x ++ rest ≡ word x.kind ++ (word (length x.fields) ++ (flat_map word x.fields ++ rest)) =
    append_assoc (word x.kind) (word (length x.fields) ++ flat_map word x.fields) rest
    ∙ ap (λ (t : List ℕ). word x.kind ++ t) (append_assoc (word (length x.fields)) (flat_map word x.fields) rest) in
    ap (node_at k) regrouped
    ∙ rw (
      word_again x.kind (word (length x.fields) ++ (flat_map word x.fields ++ rest)) (omega (arith, bounds.0)),
      known,
      word_again (length x.fields) (flat_map word x.fields ++ rest) (omega (arith, bounds.1)),
      good,
      fields_again k x.kind 0 x.fields rest node.fields,
    ) refl

nodes_again : (k : ℕ) (xs : List Node) (rest : List ℕ) → AllByRecursion IsNode xs
    → nodes_at k (length xs) (flat_map node_bytes xs ++ rest) ≡ Ok (xs, rest)
unfolding nodes_at
nodes_again k [] rest fits = refl
nodes_again k (x ∷ xs) rest fits =
    let regrouped : flat_map node_bytes (x ∷ xs) ++ rest ≡ node_bytes x ++ (flat_map node_bytes xs ++ rest) =
    ap (λ (t : List ℕ). t ++ rest) (flat_map-cons node_bytes x xs)
    ∙ append_assoc (node_bytes x) (flat_map node_bytes xs) rest in
    ap (nodes_at k (suc (length xs))) regrouped
    ∙ rw (node_again k x (flat_map node_bytes xs ++ rest) fits.0, nodes_again (suc k) xs rest fits.1) refl

-- ---- all of the bytes

judged_ok : (xs ys : List Node) (o : Option ℕ) → judged xs o ≡ Ok ys → (o ≡ None) × (xs ≡ ys)
judged_ok xs ys None e = (refl, ok_is xs ys e)
judged_ok xs ys (Some k) e = absurd cc

pub types_take : (bytes : List ℕ) (xs : List Node) → IsBytes bytes → types_in bytes ≡ Ok xs
    → AreTypes xs × (bytes ≡ spelling xs)
unfolding types_in
types_take bytes xs fits e =
    let a = then_ok (next_word bytes)
    (λ count. unless_bad (leb count.0 MAX_NODES) (BadNode MAX_NODES)
    (nodes_at 0 count.0 count.1 >>= λ nodes. unless_bad (eqb (length nodes.1) 0) Short
    (judged nodes.0 (stray_from count.0 0 nodes.0)))) xs e in
    let g = unless_bad_ok (leb a.0.0 MAX_NODES) (BadNode MAX_NODES)
    (nodes_at 0 a.0.0 a.0.1 >>= λ nodes. unless_bad (eqb (length nodes.1) 0) Short
    (judged nodes.0 (stray_from a.0.0 0 nodes.0))) xs a.2 in
    let b = then_ok (nodes_at 0 a.0.0 a.0.1)
    (λ nodes. unless_bad (eqb (length nodes.1) 0) Short (judged nodes.0 (stray_from a.0.0 0 nodes.0))) xs g.1 in
    let h = unless_bad_ok (eqb (length b.0.1) 0) Short (judged b.0.0 (stray_from a.0.0 0 b.0.0)) xs b.2 in
    let j = judged_ok b.0.0 xs (stray_from a.0.0 0 b.0.0) h.1 in
    let first = word_takes bytes a.0.0 a.0.1 fits a.1 in
    let second = nodes_take 0 a.0.0 a.0.1 b.0 first.0.rest_fits b.1 in
    let nothing : b.0.1 ≡ [] = nil_from_length b.0.1 (eqb-true _ _ h.0) in
    let both = (Takes-then bytes (word a.0.0) a.0.1 (flat_map node_bytes b.0.0) b.0.1 first.0 second.0).parts in
    let whole : bytes ≡ spelling b.0.0 =
    both ∙ ap (λ (r : List ℕ). (word a.0.0 ++ flat_map node_bytes b.0.0) ++ r) nothing
    ∙ append-nil (word a.0.0 ++ flat_map node_bytes b.0.0)
    ∙ ap (λ (k : ℕ). word k ++ flat_map node_bytes b.0.0) (sym second.1) in
    let few : a.0.0 ≤ MAX_NODES = leb-true a.0.0 MAX_NODES g.0 in
    let count : length b.0.0 ≤ MAX_NODES = subst (λ (n : ℕ). n ≤ MAX_NODES) (sym second.1) few in
    let names : AllByRecursion (NamesBelow (length b.0.0)) b.0.0 =
    subst (λ (n : ℕ). AllByRecursion (NamesBelow n) b.0.0) (sym second.1) (no_stray a.0.0 0 b.0.0 j.0) in
    let types : AreTypes b.0.0 = record { count = count; nodes = second.2; names = names } in
    subst (λ (v : List Node). AreTypes v × (bytes ≡ spelling v)) j.1 (types, whole)

pub types_again : (xs : List Node) → AreTypes xs → types_in (spelling xs) ≡ Ok xs
unfolding types_in
types_again xs types =
    let few : leb (length xs) MAX_NODES ≡ true = le-leb (length xs) MAX_NODES types.count in
    let read : nodes_at 0 (length xs) (flat_map node_bytes xs) ≡ Ok (xs, []) =
    ap (nodes_at 0 (length xs)) (sym (append-nil (flat_map node_bytes xs))) ∙ nodes_again 0 xs [] types.nodes in
    rw (
      word_again (length xs) (flat_map node_bytes xs) (omega (arith, types.count)),
      few,
      read,
      stray_free (length xs) 0 xs types.names,
    ) refl

pub is_read : (bytes : List ℕ) (r : Result (List Node) TypeFault) → IsBytes bytes
    → ReadingGives (λ xs. xs) r (types_in bytes) → IfOk r (λ xs. AreTypes xs × (bytes ≡ spelling xs))
is_read bytes (Ok xs) fits given = types_take bytes xs fits given
is_read bytes (Err e) fits given = tt

-- ---- sizes

pub small_count : (xs : List Node) → AreTypes xs → length xs < 2 ^ 32
small_count xs types = omega (arith, types.count)

small_each : (xs : List Node) → AllByRecursion IsNode xs → AllByRecursion (λ x. length x.fields < 2 ^ 32) xs
small_each [] h = tt
small_each (x ∷ xs) h = (omega (arith, (arity_bounds x.kind (length x.fields) h.0.arity).1), small_each xs h.1)

pub small_fields : (xs : List Node) → AreTypes xs → All (λ x. length x.fields < 2 ^ 32) xs
small_fields xs types = All-from_recursion (λ x. length x.fields < 2 ^ 32) xs (small_each xs types.nodes)

-- What equal signatures and equal keys say of two nodes.
use Rattle.std.proofs.Common.{◌≡◌, ℕ, ◌+◌, ◌-◌, List, ◌++◌, length, map, take, drop, get_or, refl, sym, ap, ◌∙◌, arith}
use Rattle.std.specs.Prelude.{min}
use Rattle.std.proofs.lemmas.List.{take_at, drop_at, length-append, length-take, length-drop, length-map}
use Rattle.cfi_type_table.specs.Node.{Node, node_of}
use Rattle.cfi_type_table.specs.Kind.{number_count, numbers_of, nodes_of}
use Rattle.cfi_types.specs.inner.Splitting.{signature, key_of}

-- two nodes of one kind and the same numbers, whose named nodes have the same classes
pub record IsAlike (classes : List ℕ) (x y : Node) : Type 0 where
  pub kind : x.kind ≡ y.kind
  pub numbers : numbers_of x ≡ numbers_of y
  pub named : map (λ k. get_or classes k 0) (nodes_of x) ≡ map (λ k. get_or classes k 0) (nodes_of y)

-- parts of lists that are as long
left_part : (p q r s : List ℕ) → length p ≡ length r → p ++ q ≡ r ++ s → p ≡ r
left_part p q r s len e = sym (take_at p q (length p) refl) ∙ ap (take (length p)) e ∙ take_at r s (length p) (sym len)

right_part : (p q r s : List ℕ) → length p ≡ length r → p ++ q ≡ r ++ s → q ≡ s
right_part p q r s len e = sym (drop_at p q (length p) refl) ∙ ap (drop (length p)) e ∙ drop_at r s (length p) (sym len)

alike_by : (classes : List ℕ) (x y : Node) → x.kind ≡ y.kind
    → numbers_of x ++ map (λ k. get_or classes k 0) (nodes_of x) ≡ numbers_of y ++ map (λ k. get_or classes k 0)
    (nodes_of y) → IsAlike classes x y
alike_by classes x y kinds parts =
    let f : ℕ → ℕ = λ k. get_or classes k 0 in
    let counts : number_count x.kind ≡ number_count y.kind = ap number_count kinds in
    let whole : length (numbers_of x ++ map f (nodes_of x)) ≡ length (numbers_of y ++ map f (nodes_of y)) =
    ap (length {A = ℕ}) parts in
    let lx : length (numbers_of x ++ map f (nodes_of x)) ≡ length (numbers_of x) + length (nodes_of x) =
    length-append (numbers_of x) (map f (nodes_of x))
    ∙ ap (λ n. length (numbers_of x) + n) (length-map (nodes_of x) f) in
    let ly : length (numbers_of y ++ map f (nodes_of y)) ≡ length (numbers_of y) + length (nodes_of y) =
    length-append (numbers_of y) (map f (nodes_of y))
    ∙ ap (λ n. length (numbers_of y) + n) (length-map (nodes_of y) f) in
    let len : length (numbers_of x) ≡ length (numbers_of y) =
    same_front (number_count x.kind) (number_count y.kind) (length x.fields) (length y.fields) (length (numbers_of x))
    (length (numbers_of y)) (length (nodes_of x)) (length (nodes_of y)) counts
    (length-take (number_count x.kind) x.fields) (length-take (number_count y.kind) y.fields)
    (length-drop (number_count x.kind) x.fields) (length-drop (number_count y.kind) y.fields) (sym lx ∙ whole ∙ ly) in
    record {
      kind = kinds;
      numbers = left_part (numbers_of x) (map f (nodes_of x)) (numbers_of y) (map f (nodes_of y)) len parts;
      named = right_part (numbers_of x) (map f (nodes_of x)) (numbers_of y) (map f (nodes_of y)) len parts;
    }
  where
    same_front : (c d m n tx ty dx dy : ℕ) → c ≡ d → tx ≡ min c m → ty ≡ min d n → dx ≡ m - c → dy ≡ n - d
        → tx + dx ≡ ty + dy → tx ≡ ty
    same_front c d m n tx ty dx dy e p q r s t = omega arith

-- equal signatures are signatures of nodes that are alike
pub alike_from_signature : (classes : List ℕ) (x y : Node) → signature classes x ≡ signature classes y
    → IsAlike classes x y
alike_from_signature classes x y e =
    let f : ℕ → ℕ = λ k. get_or classes k 0 in
    let kinds : x.kind ≡ y.kind = cc in
    let parts : numbers_of x ++ map f (nodes_of x) ≡ numbers_of y ++ map f (nodes_of y) = cc in
    alike_by classes x y kinds parts

pub signature_from_alike : (classes : List ℕ) (x y : Node) → IsAlike classes x y
    → signature classes x ≡ signature classes y
signature_from_alike classes x y h =
    let f : ℕ → ℕ = λ k. get_or classes k 0 in
    let numbers : numbers_of x ≡ numbers_of y = h.numbers in
    let named : map f (nodes_of x) ≡ map f (nodes_of y) = h.named in
    let kinds : x.kind ≡ y.kind = h.kind in
    let parts : numbers_of x ++ map f (nodes_of x) ≡ numbers_of y ++ map f (nodes_of y) =
    ap (λ (p : List ℕ). p ++ map f (nodes_of x)) numbers ∙ ap (λ (q : List ℕ). numbers_of y ++ q) named in
    cc

-- ---- keys

pub class_from_key : (nodes : List Node) (classes : List ℕ) (a b : ℕ)
    → key_of nodes classes a ≡ key_of nodes classes b → get_or classes a 0 ≡ get_or classes b 0
class_from_key nodes classes a b e = cc

pub signature_from_key : (nodes : List Node) (classes : List ℕ) (a b : ℕ)
    → key_of nodes classes a ≡ key_of nodes classes b
    → signature classes (node_of nodes a) ≡ signature classes (node_of nodes b)
signature_from_key nodes classes a b e = cc

pub key_from_parts : (nodes : List Node) (classes : List ℕ) (a b : ℕ) → get_or classes a 0 ≡ get_or classes b 0
    → signature classes (node_of nodes a) ≡ signature classes (node_of nodes b)
    → key_of nodes classes a ≡ key_of nodes classes b
key_from_parts nodes classes a b class sign = cc

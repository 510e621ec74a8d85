-- Digests of nodes to a depth.
use Rattle.std.proofs.Common.{◌≡◌, ℕ, zero, suc, ◌+◌, ◌<◌, List, [], ◌∷◌, ◌++◌, length, map, take, get_or, All, refl, sym, ap, subst, ◌∙◌, arith}
use Rattle.std.specs.Prelude.{replicate}
use Rattle.std.specs.List.{AllZip}
use Rattle.std.proofs.lemmas.List.{length-map, get_or-map, map_push, take_more}
use Rattle.std.proofs.lemmas.List.Elements.{All-from_recursion, All-get_or, All-head, All-tail}
use Rattle.cfi_type_table.specs.Node.{Node, make_node, node_of}
use Rattle.cfi_type_table.specs.Kind.{numbers_of, nodes_of}
use Rattle.cfi_type_table.specs.Spelling.{AreTypes, NamesBelow}
use Rattle.cfi_types.specs.Same.{Same, Equal}
use Rattle.cfi_types.specs.inner.Joined.{shifted}
use Rattle.cfi_types.specs.inner.Splitting.{signature}
use Rattle.cfi_types.specs.inner.Digest.{digest_of}
use Rattle.cfi_types.specs.inner.Depth.{digests_to}
use Rattle.cfi_types.proofs.Places.{shifted_numbers, shifted_nodes}

map-none : (ks : List ℕ) → map (λ k. 0 + k) ks ≡ ks
map-none [] = refl
map-none (k ∷ ks) =
    ap (λ (n : ℕ). n ∷ map (λ j. 0 + j) ks) (zero-plus k) ∙ ap (λ (more : List ℕ). k ∷ more) (map-none ks)
  where
    zero-plus : (n : ℕ) → 0 + n ≡ n
    zero-plus n = omega arith

-- a node in a list in which its table begins at 0
pub same_signature : (classes : List ℕ) (x : Node) → signature classes (shifted 0 x) ≡ signature classes x
same_signature classes x =
    let named : nodes_of (shifted 0 x) ≡ nodes_of x = shifted_nodes 0 x ∙ map-none (nodes_of x) in
    ap (λ (ns : List ℕ). x.kind ∷ (ns ++ map (λ k. get_or classes k 0) (nodes_of (shifted 0 x)))) (shifted_numbers 0 x)
    ∙ ap (λ (ks : List ℕ). x.kind ∷ (numbers_of x ++ map (λ k. get_or classes k 0) ks)) named

-- so many digests as nodes
pub length-digests : (depth : ℕ) (xs : List Node) → length (digests_to depth xs) ≡ length xs
unfolding digests_to
length-digests zero xs = length-map xs (λ x. 0)
length-digests (suc depth) xs = length-map xs (λ x. digest_of (signature (digests_to depth xs) x))

pub no-digests : (xs : List Node) → replicate (length xs) 0 ≡ digests_to 0 xs
unfolding digests_to
no-digests [] = refl
no-digests (x ∷ xs) = ap (λ (more : List ℕ). 0 ∷ more) (no-digests xs)

pub deeper-digests : (depth : ℕ) (xs : List Node)
    → map (λ x. digest_of (signature (digests_to depth xs) x)) xs ≡ digests_to (depth + 1) xs
unfolding digests_to
deeper-digests depth xs = ap (λ (n : ℕ). digests_to n xs) (one-more depth)
  where
    one-more : (n : ℕ) → suc n ≡ n + 1
    one-more n = omega arith

-- what two lists of nodes that agree pair by pair have
named_alike : (f g : ℕ → ℕ) (P : ℕ → ℕ → Type 0) → (m n : ℕ) → (cs ds : List ℕ)
    → ((c d : ℕ) → c < m → d < n → P c d → f c ≡ g d) → All (λ k. k < m) cs → All (λ k. k < n) ds → AllZip P cs ds
    → map f cs ≡ map g ds
named_alike f g P m n [] [] same inner outer pairs = refl
named_alike f g P m n [] (d ∷ ds) same inner outer pairs = absurd pairs
named_alike f g P m n (c ∷ cs) [] same inner outer pairs = absurd pairs
named_alike f g P m n (c ∷ cs) (d ∷ ds) same inner outer pairs =
    ap (λ (k : ℕ). k ∷ map f cs)
    (same c d (All-head (λ k. k < m) c cs inner) (All-head (λ k. k < n) d ds outer) pairs.0)
    ∙ ap (λ (ks : List ℕ). g d ∷ ks)
    (named_alike f g P m n cs ds same (All-tail (λ k. k < m) c cs inner) (All-tail (λ k. k < n) d ds outer) pairs.1)

-- ---- agreement

zip_flip : (P Q : ℕ → ℕ → Type 0) → ((c d : ℕ) → P c d → Q d c) → (cs ds : List ℕ) → AllZip P cs ds → AllZip Q ds cs
zip_flip P Q flip [] [] pairs = tt
zip_flip P Q flip [] (d ∷ ds) pairs = pairs
zip_flip P Q flip (c ∷ cs) [] pairs = pairs
zip_flip P Q flip (c ∷ cs) (d ∷ ds) pairs = (flip c d pairs.0, zip_flip P Q flip cs ds pairs.1)

zip_chain : (P Q R : ℕ → ℕ → Type 0) → ((c d e : ℕ) → P c d → Q d e → R c e) → (cs ds es : List ℕ)
    → AllZip P cs ds → AllZip Q ds es → AllZip R cs es
zip_chain P Q R chain [] [] [] p q = tt
zip_chain P Q R chain [] [] (e ∷ es) p q = q
zip_chain P Q R chain [] (d ∷ ds) es p q = absurd p
zip_chain P Q R chain (c ∷ cs) [] es p q = absurd p
zip_chain P Q R chain (c ∷ cs) (d ∷ ds) [] p q = q
zip_chain P Q R chain (c ∷ cs) (d ∷ ds) (e ∷ es) p q =
    (chain c d e p.0 q.0, zip_chain P Q R chain cs ds es p.1 q.1)

Same-sym : (depth : ℕ) (xs : List Node) (a : ℕ) (ys : List Node) (b : ℕ) → Same depth xs a ys b → Same depth ys b xs a
Same-sym zero xs a ys b same = tt
Same-sym (suc depth) xs a ys b same = (
  sym same.0,
  sym same.1,
  zip_flip (λ c d. Same depth xs c ys d) (λ d c. Same depth ys d xs c) (λ c d p. Same-sym depth xs c ys d p)
      (nodes_of (node_of xs a)) (nodes_of (node_of ys b)) same.2,
)

Same-trans : (depth : ℕ) (xs : List Node) (a : ℕ) (ys : List Node) (b : ℕ) (zs : List Node) (c : ℕ)
    → Same depth xs a ys b → Same depth ys b zs c → Same depth xs a zs c
Same-trans zero xs a ys b zs c one other = tt
Same-trans (suc depth) xs a ys b zs c one other = (
  one.0 ∙ other.0,
  one.1 ∙ other.1,
  zip_chain (λ d e. Same depth xs d ys e) (λ e f. Same depth ys e zs f) (λ d f. Same depth xs d zs f)
      (λ d e f p q. Same-trans depth xs d ys e zs f p q) (nodes_of (node_of xs a)) (nodes_of (node_of ys b))
      (nodes_of (node_of zs c)) one.2 other.2,
)

pub Equal-sym : (xs : List Node) (a : ℕ) (ys : List Node) (b : ℕ) → Equal xs a ys b → Equal ys b xs a
Equal-sym xs a ys b same depth = Same-sym depth xs a ys b (same depth)

pub Equal-trans : (xs : List Node) (a : ℕ) (ys : List Node) (b : ℕ) (zs : List Node) (c : ℕ) → Equal xs a ys b
    → Equal ys b zs c → Equal xs a zs c
Equal-trans xs a ys b zs c one other depth = Same-trans depth xs a ys b zs c (one depth) (other depth)

-- nodes that agree to a depth have one digest to it
pub same_digest : (depth : ℕ) (xs ys : List Node) → AreTypes xs → AreTypes ys → (a b : ℕ) → a < length xs
    → b < length ys → Same depth xs a ys b → get_or (digests_to depth xs) a 0 ≡ get_or (digests_to depth ys) b 0
unfolding digests_to
same_digest zero xs ys one other a b la lb same =
    get_or-map (λ (x : Node). 0) xs a (make_node 0 []) 0 la
    ∙ sym (get_or-map (λ (x : Node). 0) ys b (make_node 0 []) 0 lb)
same_digest (suc depth) xs ys one other a b la lb same =
    let x = node_of xs a in
    let y = node_of ys b in
    let below : NamesBelow (length xs) x =
    All-get_or (NamesBelow (length xs)) xs a (make_node 0 []) la (All-from_recursion (NamesBelow (length xs)) xs one.names) in
    let above : NamesBelow (length ys) y =
    All-get_or (NamesBelow (length ys)) ys b (make_node 0 []) lb (All-from_recursion (NamesBelow (length ys)) ys other.names) in
    let named : map (λ k. get_or (digests_to depth xs) k 0) (nodes_of x)
    ≡ map (λ k. get_or (digests_to depth ys) k 0) (nodes_of y) =
    named_alike (λ k. get_or (digests_to depth xs) k 0) (λ k. get_or (digests_to depth ys) k 0)
    (λ c d. Same depth xs c ys d) (length xs) (length ys) (nodes_of x) (nodes_of y)
    (λ c d lc ld p. same_digest depth xs ys one other c d lc ld p) below above same.2 in
    let sign : signature (digests_to depth xs) x ≡ signature (digests_to depth ys) y =
    ap (λ (kind : ℕ). kind ∷ (numbers_of x ++ map (λ k. get_or (digests_to depth xs) k 0) (nodes_of x))) same.0
    ∙ ap (λ (ns : List ℕ). y.kind ∷ (ns ++ map (λ k. get_or (digests_to depth xs) k 0) (nodes_of x))) same.1
    ∙ ap (λ (ks : List ℕ). y.kind ∷ (numbers_of y ++ ks)) named in
    get_or-map (λ (z : Node). digest_of (signature (digests_to depth xs) z)) xs a (make_node 0 []) 0 la
    ∙ ap digest_of sign
    ∙ sym (get_or-map (λ (z : Node). digest_of (signature (digests_to depth ys) z)) ys b (make_node 0 []) 0 lb)

-- a node of a table names nodes of it
pub names_below : (xs : List Node) (a n : ℕ) (x y : Node) → AreTypes xs → a < length xs → x ≡ node_of xs a
    → y ≡ shifted 0 x → n ≡ length xs → NamesBelow n y
names_below xs a n x y types la is made count =
    let named : nodes_of y ≡ nodes_of (node_of xs a) =
    ap nodes_of made ∙ shifted_nodes 0 x ∙ map-none (nodes_of x) ∙ ap nodes_of is in
    subst (λ (ks : List ℕ). All (λ k. k < n) ks) (sym named)
    (subst (λ (m : ℕ). All (λ k. k < m) (nodes_of (node_of xs a))) (sym count)
    (All-get_or (NamesBelow (length xs)) xs a (make_node 0 []) la (All-from_recursion (NamesBelow (length xs)) xs types.names)))

-- the digest of one more node
pub deeper_more : (xs : List Node) (digests so_far next : List ℕ) (a digest : ℕ) (x y : Node) → a < length xs
    → x ≡ node_of xs a → y ≡ shifted 0 x → digest ≡ digest_of (signature digests y)
    → so_far ≡ map (λ z. digest_of (signature digests z)) (take a xs) → next ≡ so_far ++ digest ∷ []
    → next ≡ map (λ z. digest_of (signature digests z)) (take (a + 1) xs)
deeper_more xs digests so_far next a digest x y la is made value before push =
    let f : Node → ℕ = λ z. digest_of (signature digests z) in
    let one : digest ≡ f (node_of xs a) =
    value ∙ ap f made ∙ ap digest_of (same_signature digests x) ∙ ap f is in
    push ∙ ap (λ (ns : List ℕ). ns ++ digest ∷ []) before
    ∙ ap (λ (n : ℕ). map f (take a xs) ++ n ∷ []) one
    ∙ sym (map_push f (take a xs) (node_of xs a))
    ∙ ap (map f) (sym (take_more xs a (make_node 0 []) la))

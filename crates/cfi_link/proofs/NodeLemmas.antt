-- Nodes of types whose numbers go up.
use Rattle.std.proofs.Common.{◌≡◌, ◌∙◌, ℕ, zero, suc, ◌+◌, ◌<◌, ◌≤◌, ◌^◌, true, false, eqb, List, [], ◌∷◌, ◌++◌, length, take, drop, map, All, refl, sym, ap, subst, inl, inr, arith, length-append}
use Rattle.std.specs.Prelude.{IsTrue}
use Rattle.std.proofs.lemmas.Bool.{cases_Bool, eqb-true}
use Rattle.std.proofs.lemmas.List.{length-map, drop_all, append-nil, take-append-drop, take_all}
use Rattle.std.proofs.lemmas.List.Elements.{All-weaker, All-map, All-head, All-tail, All-append, All-take, All-cons, All-nil}
use Rattle.cfi_type_table.specs.declared.kind.TheConstants.{INT}
use Rattle.cfi_type_table.specs.Node.{Node}
use Rattle.cfi_type_table.specs.Kind.{number_count, nodes_of, has_arity, field_fits}
use Rattle.cfi_type_table.specs.Spelling.{AreFields, IsNode, NamesBelow}
use Rattle.cfi_link.specs.declared.start.Start.{Start}
use Rattle.cfi_link.specs.Joined.{node_at}

-- fields of which those from n on go up
abbrev raised : (by n : ℕ) → List ℕ → List ℕ
raised by n fields = take n fields ++ map (λ k. by + k) (drop n fields)

length-raised : (by n : ℕ) (fields : List ℕ) → length (raised by n fields) ≡ length fields
length-raised by n fields =
    length-append (take n fields) (map (λ k. by + k) (drop n fields))
    ∙ ap (λ (m : ℕ). length (take n fields) + m) (length-map (drop n fields) (λ k. by + k))
    ∙ sym (length-append (take n fields) (drop n fields))
    ∙ ap length (take-append-drop n fields)

drop-raised : (by n : ℕ) (fields : List ℕ) → drop n (raised by n fields) ≡ map (λ k. by + k) (drop n fields)
drop-raised by zero fields = refl
drop-raised by (suc n) [] = refl
drop-raised by (suc n) (w ∷ fields) = drop-raised by n fields

-- words of four bytes are fields where every word may be one
are_fields : (kind : ℕ) → ((place w : ℕ) → IsTrue (field_fits kind place w)) → (place : ℕ) (fields : List ℕ)
    → All (λ w. w < 2 ^ 32) fields → AreFields kind place fields
are_fields kind fit place [] small = tt
are_fields kind fit place (w ∷ fields) small = (
  All-head (λ w. w < 2 ^ 32) w fields small,
  fit place w,
  are_fields kind fit (suc place) fields (All-tail (λ w. w < 2 ^ 32) w fields small),
)

small_fields : (kind place : ℕ) (fields : List ℕ) → AreFields kind place fields → All (λ w. w < 2 ^ 32) fields
small_fields kind place [] are = All-nil (λ w. w < 2 ^ 32)
small_fields kind place (w ∷ fields) are =
    All-cons (λ w. w < 2 ^ 32) w fields are.0 (small_fields kind (suc place) fields are.2)

-- the raised fields are small where the nodes that they name are
small_raised : (by n : ℕ) (fields : List ℕ) → All (λ w. w < 2 ^ 32) fields → All (λ k. by + k < 2 ^ 32) (drop n fields)
    → All (λ w. w < 2 ^ 32) (raised by n fields)
small_raised by n fields small raise =
    All-append (λ w. w < 2 ^ 32) (take n fields) (map (λ k. by + k) (drop n fields))
    (All-take (λ w. w < 2 ^ 32) n fields small) (All-map (λ w. w < 2 ^ 32) (λ k. by + k) (drop n fields) raise)

-- an integer names no node
int_fields : (by : ℕ) (fields : List ℕ) → IsTrue (has_arity INT (length fields)) → raised by 2 fields ≡ fields
int_fields by fields arity =
    let two : length fields ≡ 2 = eqb-true (length fields) 2 arity in
    let le : length fields ≤ 2 = omega arith in
    ap (λ (ks : List ℕ). take 2 fields ++ map (λ k. by + k) ks) (drop_all 2 fields le)
    ∙ append-nil (take 2 fields)
    ∙ take_all 2 fields le

int_raised : (by kind : ℕ) (fields : List ℕ) → eqb kind INT ≡ true → IsTrue (has_arity kind (length fields))
    → raised by (number_count kind) fields ≡ fields
int_raised by kind fields int arity =
    subst (λ (k : ℕ). IsTrue (has_arity k (length fields)) → raised by (number_count k) fields ≡ fields)
    (sym (eqb-true kind INT int)) (int_fields by fields) arity

other_fits : (kind : ℕ) → eqb kind INT ≡ false → (place w : ℕ) → IsTrue (field_fits kind place w)
other_fits kind other place w = rw other refl

pub node_shift : (start : Start) (x : Node) → IsNode x → All (λ k. start.types + k < 2 ^ 32) (nodes_of x)
    → IsNode (node_at start x)
node_shift start x good raise =
    let n = number_count x.kind in
    record {
      arity = subst (λ (m : ℕ). IsTrue (has_arity x.kind m)) (sym (length-raised start.types n x.fields)) good.arity;
      fields = elim (cases_Bool (eqb x.kind INT)) [
        | inl int ↦ subst (AreFields x.kind 0) (sym (int_raised start.types x.kind x.fields int good.arity)) good.fields
        | inr other ↦ are_fields x.kind (other_fits x.kind other) 0 (raised start.types n x.fields)
            (small_raised start.types n x.fields (small_fields x.kind 0 x.fields good.fields) raise)
      ];
    }

pub names_shift : (start : Start) (x : Node) (count total : ℕ) → start.types + count ≤ total → NamesBelow count x
    → NamesBelow total (node_at start x)
names_shift start x count total within below =
    let n = number_count x.kind in
    subst (λ (ks : List ℕ). All (λ k. k < total) ks) (sym (drop-raised start.types n x.fields))
    (All-map (λ k. k < total) (λ k. start.types + k) (nodes_of x)
    (All-weaker (λ k. k < count) (λ k. start.types + k < total) (λ k lt. omega arith) (nodes_of x) below))

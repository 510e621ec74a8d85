-- Links by where they begin, one link more.
use Rattle.std.proofs.Common.{◌≡◌, ◌∙◌, ℕ, ◌<◌, ◌==◌, true, false, cond, List, [], ◌∷◌, ◌++◌, length, map, filter, set, slice_index_or, replicate, refl, sym, ap, subst, inl, inr, arith}
use Rattle.std.specs.List.{Contains}
use Rattle.std.proofs.lemmas.Bool.{cases_eq, eq-eqb, ne_eqb, eqb-true}
use Rattle.std.proofs.lemmas.List.{length-set, length-replicate, get_or-set_same, get_or-set_other, get_or-replicate}
use Rattle.cfi_flow.specs.declared.links.Link.{Link}
use Rattle.cfi_flow.specs.Rows.{ends_from, AreRows}
use Rattle.cfi_flow.specs.Flow.{Links}
use Rattle.cfi_flow.proofs.Members.{member_map, from_map, member_filter, from_filter}

-- no link, no end
pub no_rows : (count : ℕ) (rows : List (List ℕ)) → rows ≡ replicate count [] → AreRows count [] rows
no_rows count rows e = record {
  len = ap length e ∙ length-replicate count [];
  row = λ k h. ap (λ r. slice_index_or r k []) e ∙ get_or-replicate count k [] [] h;
}

own : (k : ℕ) → (k == k) ≡ true
own k = eq-eqb k k refl

other : (a b : ℕ) → (a ≡ b → ⊥) → (a == b) ≡ false
other a b h = ne_eqb a b h

ends_same : (k : ℕ) (links : List Link) (link : Link) → link.from ≡ k
    → ends_from k (links ++ link ∷ []) ≡ ends_from k links ++ link.to ∷ []
ends_same k [] link e =
    let test : (link.from == k) ≡ true = eq-eqb link.from k e in
    ap (λ b. map (λ l. l.to) (cond b (link ∷ []) [])) test
ends_same k (x ∷ xs) link e =
    let rest : ends_from k (xs ++ link ∷ []) ≡ ends_from k xs ++ link.to ∷ [] = ends_same k xs link e in
    elim (x.from == k) as (λ b. map (λ l. l.to) (cond b (x ∷ filter (λ l. l.from == k) (xs ++ link ∷ [])) (filter (λ l. l.from == k) (xs ++ link ∷ [])))
    ≡ map (λ l. l.to) (cond b (x ∷ filter (λ l. l.from == k) xs) (filter (λ l. l.from == k) xs)) ++ link.to ∷ []) [
      | true ↦ ap (λ ys. x.to ∷ ys) rest
      | false ↦ rest
    ]

ends_other : (k : ℕ) (links : List Link) (link : Link) → (link.from ≡ k → ⊥)
    → ends_from k (links ++ link ∷ []) ≡ ends_from k links
ends_other k [] link n =
    let test : (link.from == k) ≡ false = other link.from k n in
    ap (λ b. map (λ l. l.to) (cond b (link ∷ []) [])) test
ends_other k (x ∷ xs) link n =
    let rest : ends_from k (xs ++ link ∷ []) ≡ ends_from k xs = ends_other k xs link n in
    elim (x.from == k) as (λ b. map (λ l. l.to) (cond b (x ∷ filter (λ l. l.from == k) (xs ++ link ∷ [])) (filter (λ l. l.from == k) (xs ++ link ∷ [])))
    ≡ map (λ l. l.to) (cond b (x ∷ filter (λ l. l.from == k) xs) (filter (λ l. l.from == k) xs))) [
      | true ↦ ap (λ ys. x.to ∷ ys) rest
      | false ↦ rest
    ]

-- one link more is added to its row
pub more_rows : (count : ℕ) (links : List Link) (rows : List (List ℕ)) (link : Link) → AreRows count links rows
    → link.from < count
    → AreRows count (links ++ link ∷ []) (set rows link.from (slice_index_or rows link.from [] ++ link.to ∷ []))
more_rows count links rows link r h =
    let within : link.from < length rows = omega (arith, r.len) in
    let row = slice_index_or rows link.from [] ++ link.to ∷ [] in
    record {
      len = length-set rows link.from row ∙ r.len;
      row = λ k below. elim (cases_eq k link.from) [
        | inl e ↦
            subst (λ j. slice_index_or (set rows link.from row) j [] ≡ ends_from j (links ++ link ∷ [])) (sym e)
            (get_or-set_same rows link.from row [] within
            ∙ ap (λ ys. ys ++ link.to ∷ []) (r.row link.from h)
            ∙ sym (ends_same link.from links link refl))
        | inr n ↦
            get_or-set_other rows link.from k row [] n
            ∙ r.row k below
            ∙ sym (ends_other k links link (λ e. n (sym e)))
      ];
    }

abbrev pub make_link : ℕ → ℕ → Link
make_link a b = record { from = a; to = b }

pub link_is : (link : Link) (a b : ℕ) → link.from ≡ a → link.to ≡ b → link ≡ record { from = a; to = b }
link_is link a b e f =
    ap (λ n. make_link n link.to) e ∙ ap (λ n. make_link a n) f

-- the members of a row
pub from_row : (k : ℕ) (links : List Link) (end : ℕ) → Contains (ends_from k links) end → Links links k end
from_row k links end h =
    let m = from_map (λ link. link.to) (filter (λ link. link.from == k) links) end h in
    let f = from_filter (λ link. link.from == k) links m.0 m.1 in
    let from : m.0.from ≡ k = eqb-true m.0.from k f.1 in
    let same : m.0 ≡ record { from = k; to = end } = link_is m.0 k end from m.2 in
    subst (λ l. Contains links l) same f.0

pub to_row : (k : ℕ) (links : List Link) (end : ℕ) → Links links k end → Contains (ends_from k links) end
to_row k links end h =
    member_map (λ link. link.to) (filter (λ link. link.from == k) links) (make_link k end)
    (member_filter (λ link. link.from == k) links (make_link k end) h (own k))

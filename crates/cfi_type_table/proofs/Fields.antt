-- The fields of a node: a loop reads them, what is read is spelled so, and what is spelled so is read.
use Rattle.std.proofs.Common.{◌≡◌, ℕ, zero, suc, ◌+◌, ◌-◌, ◌<◌, ◌≤◌, true, false, List, [], ◌∷◌, ◌++◌, length, Result, Ok, Err, refl, sym, ap, subst, ◌∙◌, append_assoc, add-one, arith}
use Rattle.std.specs.List.{flat_map}
use Rattle.std.proofs.lemmas.List.Concat.{flat_map-cons}
use Rattle.cfi_type_table.specs.declared.fault.TypeFault.{TypeFault}
use Rattle.cfi_type_table.specs.declared.fault.TypeFault.TheVariants.{BadNode}
use Rattle.cfi_type_table.specs.Kind.{field_fits}
use Rattle.cfi_type_table.specs.Spelling.{word, AreFields}
use Rattle.cfi_type_table.specs.Reading.{ReadingFails, next_word, fields_at}
use Rattle.cfi_values.specs.Then.{◌>>=◌, unless_bad}
use Rattle.cfi_type_table.proofs.Parts.{IsBytes, Takes, Takes-then, word_takes, word_again, with_front, regroup, with_front_nil, Fails-bind}
use Rattle.cfi_values.proofs.ThenLemmas.{then_ok, unless_bad_ok, ok_is}

pub fields_go_on : (k kind count i : ℕ) (front bytes : List ℕ) (w : ℕ) (after : List ℕ)
    (total : Result (List ℕ × List ℕ) TypeFault) → i < count → next_word bytes ≡ Ok (w, after)
    → field_fits kind i w ≡ true
    → with_front front (fields_at k kind i (count - i) bytes) ≡ total
    → with_front (front ++ w ∷ []) (fields_at k kind (i + 1) (count - (i + 1)) after) ≡ total
unfolding fields_at
fields_go_on k kind count i front bytes w after total lt h fits so_far =
    let left : count - i ≡ suc (count - (i + 1)) = omega arith in
    let one : with_front front (fields_at k kind i (count - i) bytes) ≡ with_front (front ++ w ∷ [])
    (fields_at k kind (i + 1) (count - (i + 1)) after) =
    rw (left, h, fits, add-one) (regroup front w (fields_at k kind (suc i) (count - suc i) after)) in
    sym one ∙ so_far

pub fields_end : (e : TypeFault) (k kind count i : ℕ) (front bytes : List ℕ)
    (total : Result (List ℕ × List ℕ) TypeFault) → i < count → ReadingFails e (next_word bytes)
    → with_front front (fields_at k kind i (count - i) bytes) ≡ total → ReadingFails e total
unfolding fields_at
fields_end e k kind count i front bytes total lt h so_far =
    let left : count - i ≡ suc (count - (i + 1)) = omega arith in
    let one : ReadingFails e (with_front front (fields_at k kind i (suc (count - (i + 1))) bytes)) =
    Fails-bind e (fields_at k kind i (suc (count - (i + 1))) bytes) (λ x. Ok (front ++ x.0, x.1))
    (Fails-bind e (next_word bytes)
    (λ w. unless_bad (field_fits kind i w.0) (BadNode k)
    (fields_at k kind (suc i) (count - (i + 1)) w.1 >>= λ ws. Ok (w.0 ∷ ws.0, ws.1))) h) in
    subst (ReadingFails e) so_far (subst (λ n. ReadingFails e (with_front front (fields_at k kind i n bytes))) (sym left) one)

pub fields_bad : (k kind count i : ℕ) (front bytes : List ℕ) (w : ℕ) (after : List ℕ)
    (total : Result (List ℕ × List ℕ) TypeFault) → i < count → next_word bytes ≡ Ok (w, after)
    → field_fits kind i w ≡ false
    → with_front front (fields_at k kind i (count - i) bytes) ≡ total → total ≡ Err (BadNode k)
unfolding fields_at
fields_bad k kind count i front bytes w after total lt h bad so_far =
    let left : count - i ≡ suc (count - (i + 1)) = omega arith in
    let one : with_front front (fields_at k kind i (count - i) bytes) ≡ Err (BadNode k) = rw (left, h, bad) refl in
    sym so_far ∙ one

pub fields_done : (k kind count i : ℕ) (front bytes : List ℕ) (total : Result (List ℕ × List ℕ) TypeFault) → count ≤ i
    → with_front front (fields_at k kind i (count - i) bytes) ≡ total → total ≡ Ok (front, bytes)
unfolding fields_at
fields_done k kind count i front bytes total le so_far =
    let left : count - i ≡ 0 = omega arith in
    let one : with_front front (fields_at k kind i (count - i) bytes) ≡ Ok (front, bytes) =
    rw left (with_front_nil front bytes) in
    sym so_far ∙ one

-- ---- read and spelled

pub fields_take : (k kind place count : ℕ) (bytes : List ℕ) (x : List ℕ × List ℕ) → IsBytes bytes
    → fields_at k kind place count bytes ≡ Ok x
    → Takes bytes (flat_map word x.0) x.1 × (length x.0 ≡ count) × AreFields kind place x.0
unfolding fields_at
fields_take k kind place zero bytes x fits e =
    subst (λ (y : List ℕ × List ℕ). Takes bytes (flat_map word y.0) y.1 × (length y.0 ≡ 0) × AreFields kind place y.0)
    (ok_is ([], bytes) x e) (record { parts = refl; rest_fits = fits }, refl, tt)
fields_take k kind place (suc count) bytes x fits e =
    let a = then_ok (next_word bytes)
    (λ w. unless_bad (field_fits kind place w.0) (BadNode k)
    (fields_at k kind (suc place) count w.1 >>= λ ws. Ok (w.0 ∷ ws.0, ws.1))) x e in
    let g = unless_bad_ok (field_fits kind place a.0.0) (BadNode k)
    (fields_at k kind (suc place) count a.0.1 >>= λ ws. Ok (a.0.0 ∷ ws.0, ws.1)) x a.2 in
    let b = then_ok (fields_at k kind (suc place) count a.0.1) (λ ws. Ok (a.0.0 ∷ ws.0, ws.1)) x g.1 in
    let first = word_takes bytes a.0.0 a.0.1 fits a.1 in
    let second = fields_take k kind (suc place) count a.0.1 b.0 first.0.rest_fits b.1 in
    let both = Takes-then bytes (word a.0.0) a.0.1 (flat_map word b.0.0) b.0.1 first.0 second.0 in
    let made : List ℕ × List ℕ = (a.0.0 ∷ b.0.0, b.0.1) in
    subst (λ (y : List ℕ × List ℕ). Takes bytes (flat_map word y.0) y.1 × (length y.0 ≡ suc count)
    × AreFields kind place y.0) (ok_is made x b.2) (rw flat_map-cons both, ap suc second.1, (first.1, g.0, second.2))

pub fields_again : (k kind place : ℕ) (ws rest : List ℕ) → AreFields kind place ws
    → fields_at k kind place (length ws) (flat_map word ws ++ rest) ≡ Ok (ws, rest)
unfolding fields_at
fields_again k kind place [] rest fits = refl
fields_again k kind place (w ∷ ws) rest fits =
    let regrouped : flat_map word (w ∷ ws) ++ rest ≡ word w ++ (flat_map word ws ++ rest) =
    ap (λ (x : List ℕ). x ++ rest) (flat_map-cons word w ws) ∙ append_assoc (word w) (flat_map word ws) rest in
    let good : field_fits kind place w ≡ true = fits.1 in
    ap (fields_at k kind place (suc (length ws))) regrouped
    ∙ rw (word_again w (flat_map word ws ++ rest) fits.0, good, fields_again k kind (suc place) ws rest fits.2) refl

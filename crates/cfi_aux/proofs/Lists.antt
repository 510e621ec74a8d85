-- Several in turn, texts and zero bytes are read exactly as they are spelled.
use Rattle.std.proofs.Common.{◌≡◌, ℕ, zero, suc, ◌≤◌, Bool, true, false, cond, eqb, ltb, List, [], ◌∷◌, ◌++◌, length, take, drop, replicate, Result, Ok, Err, refl, sym, ap, subst, ◌∙◌, append_assoc, arith}
use Rattle.std.specs.List.{flat_map, AllByRecursion}
use Rattle.std.specs.Str.{is_utf8}
use Rattle.std.proofs.lemmas.Bool.{ltb-false, le-ltb, eqb-true}
use Rattle.std.proofs.lemmas.List.{take_at, drop_at, take-append-drop, length-append, length-take}
use Rattle.std.proofs.lemmas.List.Concat.{flat_map-cons}
use Rattle.cfi_aux.specs.declared.fault.AuxFault.{AuxFault}
use Rattle.cfi_aux.specs.declared.fault.AuxFault.TheVariants.{Short, BadRecord}
use Rattle.cfi_aux.specs.Reading.{Reader, each}
use Rattle.cfi_values.specs.Then.{◌>>=◌, unless_bad}
use Rattle.cfi_aux.specs.Fault.{text_at, zeroes_at}
use Rattle.cfi_type_table.proofs.Parts.{IsBytes, IsBytes-drop, Takes, Takes-then}
use Rattle.cfi_aux.proofs.Formats.{Reads}
use Rattle.cfi_values.proofs.ThenLemmas.{then_ok, unless_bad_ok, ok_is}

-- so many values, each of which is good
abbrev pub AreGood : {A : Type 0} → (A → Type 0) → (count : ℕ) → List A → Type 0
AreGood good count xs = (length xs ≡ count) × AllByRecursion good xs

each_takes : {A : Type 0} (spell : A → List ℕ) (good : A → Type 0) (one : ℕ → Reader A)
    → ((i : ℕ) → Reads A spell good (one i)) → (at count : ℕ) (bytes : List ℕ) (x : List A × List ℕ) → IsBytes bytes
    → each one at count bytes ≡ Ok x → Takes bytes (flat_map spell x.0) x.1 × AreGood good count x.0
unfolding each
each_takes {A = A} spell good one reads at zero bytes x fits e =
    subst (λ (y : List A × List ℕ). Takes bytes (flat_map spell y.0) y.1 × AreGood good 0 y.0) (ok_is ([], bytes) x e)
    (record { parts = refl; rest_fits = fits }, (refl, tt))
each_takes {A = A} spell good one reads at (suc count) bytes x fits e =
    let a = then_ok (one at bytes)
    (λ first. each one (suc at) count first.1 >>= λ others. Ok (first.0 ∷ others.0, others.1)) x e in
    let b = then_ok (each one (suc at) count a.0.1) (λ others. Ok (a.0.0 ∷ others.0, others.1)) x a.2 in
    let first = (reads at).takes bytes a.0 fits a.1 in
    let second = each_takes spell good one reads (suc at) count a.0.1 b.0 first.0.rest_fits b.1 in
    let both = Takes-then bytes (spell a.0.0) a.0.1 (flat_map spell b.0.0) b.0.1 first.0 second.0 in
    let made : List A × List ℕ = (a.0.0 ∷ b.0.0, b.0.1) in
    subst (λ (y : List A × List ℕ). Takes bytes (flat_map spell y.0) y.1 × AreGood good (suc count) y.0)
    (ok_is made x b.2) (rw flat_map-cons both, (ap suc second.1.0, (first.1, second.1.1)))

each_again : {A : Type 0} (spell : A → List ℕ) (good : A → Type 0) (one : ℕ → Reader A)
    → ((i : ℕ) → Reads A spell good (one i)) → (at : ℕ) (xs : List A) (rest : List ℕ) → AllByRecursion good xs
    → each one at (length xs) (flat_map spell xs ++ rest) ≡ Ok (xs, rest)
unfolding each
each_again spell good one reads at [] rest h = refl
each_again spell good one reads at (x ∷ xs) rest h =
    let regrouped : flat_map spell (x ∷ xs) ++ rest ≡ spell x ++ (flat_map spell xs ++ rest) =
    ap (λ (s : List ℕ). s ++ rest) (flat_map-cons spell x xs) ∙ append_assoc (spell x) (flat_map spell xs) rest in
    ap (each one at (suc (length xs))) regrouped
    ∙ rw ((reads at).again x (flat_map spell xs ++ rest) h.0, each_again spell good one reads (suc at) xs rest h.1) refl

pub Reads-each : {A : Type 0} (spell : A → List ℕ) (good : A → Type 0) (one : ℕ → Reader A)
    → ((i : ℕ) → Reads A spell good (one i)) → (at count : ℕ)
    → Reads (List A) (flat_map spell) (AreGood good count) (each one at count)
Reads-each {A = A} spell good one reads at count = record {
  takes = each_takes spell good one reads at count;
  again = λ xs rest h. subst (λ (n : ℕ). each one at n (flat_map spell xs ++ rest) ≡ Ok (xs, rest)) h.0
      (each_again spell good one reads at xs rest h.1);
}

-- ---- texts

-- a text of n bytes
abbrev pub IsText : (n : ℕ) → List ℕ → Type 0
IsText n text = (length text ≡ n) × (is_utf8 text ≡ true)

guard_ok : {A : Type 0} (b : Bool) (d : AuxFault) (r : Result A AuxFault) (y : A) → cond b (Err d) r ≡ Ok y
    → (b ≡ false) × (r ≡ Ok y)
guard_ok true d r y e = absurd cc
guard_ok false d r y e = (refl, e)

text_takes : (k n : ℕ) (bytes : List ℕ) (x : List ℕ × List ℕ) → IsBytes bytes → text_at k n bytes ≡ Ok x
    → Takes bytes x.0 x.1 × IsText n x.0
unfolding text_at
text_takes k n bytes x fits e =
    let cut : List ℕ × List ℕ = (take n bytes, drop n bytes) in
    let g = guard_ok (ltb (length bytes) n) Short (unless_bad (is_utf8 (take n bytes)) (BadRecord k) (Ok cut)) x e in
    let h = unless_bad_ok (is_utf8 (take n bytes)) (BadRecord k) (Ok cut) x g.1 in
    let long : n ≤ length bytes = ltb-false _ _ g.0 in
    let taken : Takes bytes (take n bytes) (drop n bytes) =
    record { parts = sym (take-append-drop n bytes); rest_fits = IsBytes-drop n bytes fits } in
    subst (λ (y : List ℕ × List ℕ). Takes bytes y.0 y.1 × IsText n y.0) (ok_is cut x h.1)
    (taken, (omega (arith, length-take n bytes), h.0))

text_again : (k n : ℕ) (text rest : List ℕ) → IsText n text → text_at k n (text ++ rest) ≡ Ok (text, rest)
unfolding text_at
text_again k n text rest h =
    let len : length text ≡ n = h.0 in
    let long : ltb (length (text ++ rest)) n ≡ false = le-ltb _ _ (omega (arith, length-append text rest)) in
    let good : is_utf8 text ≡ true = h.1 in
    rw (long, take_at text rest n len, drop_at text rest n len, good) refl

pub Reads-text : (k n : ℕ) → Reads (List ℕ) (λ text. text) (IsText n) (text_at k n)
Reads-text k n = record { takes = text_takes k n; again = text_again k n }

-- ---- zero bytes

zeroes_take : (k count : ℕ) (bytes : List ℕ) (x : (Unit {0}) × List ℕ) → IsBytes bytes → zeroes_at k count bytes ≡ Ok x
    → Takes bytes (replicate count 0) x.1
unfolding zeroes_at
zeroes_take k zero bytes x fits e =
    subst (λ (y : (Unit {0}) × List ℕ). Takes bytes [] y.1) (ok_is (tt, bytes) x e)
    (record { parts = refl; rest_fits = fits })
zeroes_take k (suc count) [] x fits e = absurd cc
zeroes_take k (suc count) (byte ∷ bytes) x fits e =
    let g = unless_bad_ok (eqb byte 0) (BadRecord k) (zeroes_at k count bytes) x e in
    let is : byte ≡ 0 = eqb-true byte 0 g.0 in
    let others = zeroes_take k count bytes x (IsBytes-drop 1 (byte ∷ bytes) fits) g.1 in
    record { parts = rw is (ap (λ (s : List ℕ). 0 ∷ s) others.parts); rest_fits = others.rest_fits }

zeroes_again : (k count : ℕ) (x : Unit {0}) (rest : List ℕ)
    → zeroes_at k count (replicate count 0 ++ rest) ≡ Ok (x, rest)
unfolding zeroes_at
zeroes_again k zero x rest = refl
zeroes_again k (suc count) x rest = zeroes_again k count x rest

pub Reads-zeroes : (k count : ℕ) → Reads (Unit {0}) (λ x. replicate count 0) (λ x. Unit {0}) (zeroes_at k count)
Reads-zeroes k count = record {
  takes = λ bytes x fits e. (zeroes_take k count bytes x fits e, tt);
  again = λ x rest h. zeroes_again k count x rest;
}

-- Reading step by step: what a step that did not fail gave, and what was read before the step.
use Rattle.std.proofs.Common.{◌≡◌, ℕ, ◌+◌, ◌<◌, ◌≤◌, ◌^◌, Bool, true, false, cond, ltb, List, [], ◌∷◌, ◌++◌, length, get_or, take, drop, Result, Ok, Err, refl, sym, ap, ◌∙◌, append_assoc, arith, inl, inr}
use Rattle.std.specs.Int.{Width, w32, byte_len, from_le_bytes, to_le_bytes}
use Rattle.std.proofs.lemmas.Bool.{cases_lt, ltb-false, le-ltb}
use Rattle.std.proofs.lemmas.List.{take_at, drop_at, take-append-drop, length-append, length-take, get_or-drop, get_or-take, get_or_past, append-nil}
use Rattle.std.proofs.lemmas.Nat.{le_bytes_4, from_le_bytes-to_le_bytes_4}
use Rattle.cfi_type_table.specs.declared.fault.TypeFault.{TypeFault}
use Rattle.cfi_type_table.specs.declared.fault.TypeFault.TheVariants.{BadNode, BadIndex, Short, Memory}
use Rattle.cfi_type_table.specs.Spelling.{word}
use Rattle.cfi_type_table.specs.Reading.{ReadingFails, next_word}
use Rattle.cfi_values.specs.Then.{◌>>=◌}

abbrev pub IsBytes : List ℕ → Type 0
IsBytes bytes = (i : ℕ) → get_or bytes i 0 < 256

pub IsBytes-drop : (n : ℕ) (bytes : List ℕ) → IsBytes bytes → IsBytes (drop n bytes)
IsBytes-drop n bytes h i = rw get_or-drop (h (n + i))

pub IsBytes-take : (n : ℕ) (bytes : List ℕ) → IsBytes bytes → IsBytes (take n bytes)
IsBytes-take n bytes h i =
    elim (cases_lt i n) [
      | inl lt ↦ rw (get_or-take n bytes i 0 lt) (h i)
      | inr le ↦ rw (get_or_past (take n bytes) i 0 (omega (arith, length-take n bytes))) (omega arith)
    ]

-- what a reader took from the front
pub record Takes (bytes text rest : List ℕ) : Type 0 where
  pub parts : bytes ≡ text ++ rest
  pub rest_fits : IsBytes rest

pub Takes-then : (a x b y c : List ℕ) → Takes a x b → Takes b y c → Takes a (x ++ y) c
Takes-then a x b y c p q =
    record { parts = p.parts ∙ ap (λ (t : List ℕ). x ++ t) q.parts ∙ sym (append_assoc x y c); rest_fits = q.rest_fits }

guard_ok : {A E : Type 0} (b : Bool) (d : E) (x y : A) → cond b (Err d) (Ok x) ≡ Ok y → (b ≡ false) × (x ≡ y)
guard_ok true d x y e = absurd cc
guard_ok false d x y e = (refl, cc)

-- a number of some width, as `next_word` reads one of four bytes; the fault where bytes are missing is any
abbrev pub number_at : {E : Type 0} → (short : E) → Width → List ℕ → Result (ℕ × List ℕ) E
number_at short w bytes =
    cond (ltb (length bytes) (byte_len w)) (Err short)
    (Ok (from_le_bytes w (take (byte_len w) bytes), drop (byte_len w) bytes))

pub record IsWide (w : Width) (limit : ℕ) : Type 0 where
  pub len : (n : ℕ) → length (to_le_bytes w n) ≡ byte_len w
  pub back : (bytes : List ℕ) → length bytes ≡ byte_len w → IsBytes bytes
      → to_le_bytes w (from_le_bytes w bytes) ≡ bytes
  pub again : (n : ℕ) → n < limit → from_le_bytes w (to_le_bytes w n) ≡ n
  pub below : (bytes : List ℕ) → IsBytes bytes → from_le_bytes w bytes < limit

pub wide32 : IsWide w32 (2 ^ 32)
wide32 = record {
  len = λ n. refl;
  back = λ bytes len fits. le_bytes_4 bytes _ len fits refl;
  again = λ n lt. from_le_bytes-to_le_bytes_4 n lt;
  below = λ bytes fits. omega (arith, fits 0, fits 1, fits 2, fits 3);
}

pub number_takes : {E : Type 0} (short : E) (w : Width) (limit : ℕ) (wide : IsWide w limit) (bytes : List ℕ) (n : ℕ)
    (rest : List ℕ) → IsBytes bytes → number_at short w bytes ≡ Ok (n, rest)
    → Takes bytes (to_le_bytes w n) rest × (n < limit)
number_takes short w limit wide bytes n rest fits e =
    let g = guard_ok (ltb (length bytes) (byte_len w)) short
    (from_le_bytes w (take (byte_len w) bytes), drop (byte_len w) bytes) (n, rest) e in
    let long : byte_len w ≤ length bytes = ltb-false _ _ g.0 in
    let n-is : from_le_bytes w (take (byte_len w) bytes) ≡ n = ap (λ (p : ℕ × List ℕ). p.0) g.1 in
    let rest-is : drop (byte_len w) bytes ≡ rest = ap (λ (p : ℕ × List ℕ). p.1) g.1 in
    let front : to_le_bytes w n ≡ take (byte_len w) bytes =
    rw (← n-is)
    (wide.back (take (byte_len w) bytes) (omega (arith, length-take (byte_len w) bytes))
    (IsBytes-take (byte_len w) bytes fits)) in (
      record {
        parts = rw (front, ← rest-is) (sym (take-append-drop (byte_len w) bytes));
        rest_fits =
            rw (← rest-is) (IsBytes-drop (byte_len w) bytes fits);
      },
      rw (← n-is) (wide.below (take (byte_len w) bytes) (IsBytes-take (byte_len w) bytes fits)),
    )

pub number_again : {E : Type 0} (short : E) (w : Width) (limit : ℕ) (wide : IsWide w limit) (n : ℕ) (rest : List ℕ)
    → n < limit → number_at short w (to_le_bytes w n ++ rest) ≡ Ok (n, rest)
number_again short w limit wide n rest lt =
    let len = wide.len n in
    let long : ltb (length (to_le_bytes w n ++ rest)) (byte_len w) ≡ false =
    le-ltb _ _ (omega (arith, length-append (to_le_bytes w n) rest)) in
    rw (
      long,
      take_at (to_le_bytes w n) rest (byte_len w) len,
      drop_at (to_le_bytes w n) rest (byte_len w) len,
      wide.again n lt,
    ) refl

pub word_takes : (bytes : List ℕ) (n : ℕ) (rest : List ℕ) → IsBytes bytes → next_word bytes ≡ Ok (n, rest)
    → Takes bytes (word n) rest × (n < 2 ^ 32)
word_takes bytes n rest fits e = number_takes Short w32 (2 ^ 32) wide32 bytes n rest fits e

pub word_again : (n : ℕ) (rest : List ℕ) → n < 2 ^ 32 → next_word (word n ++ rest) ≡ Ok (n, rest)
word_again n rest lt = number_again Short w32 (2 ^ 32) wide32 n rest lt

-- ---- one after the other

-- what was read before, and what is still read
abbrev pub with_front : {A E : Type 0} → List A → Result (List A × List ℕ) E → Result (List A × List ℕ) E
with_front front read = read >>= λ x. Ok (front ++ x.0, x.1)

pub regroup : {A E : Type 0} (front : List A) (n : A) (read : Result (List A × List ℕ) E)
    → with_front front (read >>= λ x. Ok (n ∷ x.0, x.1)) ≡ with_front (front ++ n ∷ []) read
regroup {A = A} front n (Ok x) = ap (λ (ns : List A). Ok (ns, x.1)) (simp append_assoc)
regroup front n (Err f) = refl

pub with_front_nil : {A E : Type 0} (front : List A) (bytes : List ℕ)
    → with_front {E = E} front (Ok ([], bytes)) ≡ Ok (front, bytes)
with_front_nil {A = A} front bytes = ap (λ (ns : List A). Ok (ns, bytes)) (append-nil front)

-- a step's fault is the fault of the steps
pub Fails-bind : {A B : Type 0} (e : TypeFault) (r : Result A TypeFault) (f : A → Result B TypeFault) → ReadingFails e r
    → ReadingFails e (r >>= f)
Fails-bind Memory r f h = tt
Fails-bind (BadNode k) r f h = rw h refl
Fails-bind (BadIndex k) r f h = rw h refl
Fails-bind Short r f h = rw h refl

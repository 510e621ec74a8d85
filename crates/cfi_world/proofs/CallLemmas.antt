-- The images of a guest that calls through a pointer are closed, and the later one keeps the code.
use Rattle.std.proofs.Common.{◌≡◌, ◌≢◌, ℕ, zero, suc, ◌+◌, ◌*◌, ◌<◌, ◌≤◌, List, [], ◌∷◌, replicate, slice_get, slice_index, Some, ◌++◌, refl, sym, ◌∙◌, subst, arith, true, false, pos}
use Rattle.rv_insn.specs.declared.insn.Insn.TheVariants.{Auipc, OpImm}
use Rattle.rv_insn.specs.declared.insn.ImmOp.TheVariants.{Addi}
use Rattle.cfi_unit.specs.declared.unit.Unit.{Unit as CodeUnit}
use Rattle.cfi_unit.specs.declared.unit.Unit.TheVariants as units
use Rattle.cfi_word.specs.Table.{slots_of}
use Rattle.cfi_word.specs.declared.ids.TheConstants.{FIELD_MAX}
use Rattle.cfi_word.specs.declared.limits.TheConstants.{MIN_CODE_WORDS}
use Rattle.cfi_word.specs.declared.map.TheConstants.{FIRST_BASE}
use Rattle.cfi_model.specs.Closed.{IsReadAs, IsStartOf, IsStartIn, StandsIn, StaysInside, IsClosed, unit_address}
use Rattle.cfi_model.specs.Tables.{KeepsCode}
use Rattle.cfi_world.specs.Retry.{call_code, more_code, call_image, more_image}
use Rattle.cfi_world.proofs.ClassLemmas.{repeated_most, repeated_zero, repeated_is}

-- no element is above the limit
abbrev AreAtMost : (most : ℕ) → List ℕ → Type 0
AreAtMost most xs = (k : ℕ) → slice_index xs k ≤ most

-- elements of lists, one after the other
front_most : (xs ys : List ℕ) (most : ℕ) → AreAtMost most xs → AreAtMost most ys → AreAtMost most (xs ++ ys)
front_most [] ys most one other k = other k
front_most (x ∷ xs) ys most one other zero = one 0
front_most (x ∷ xs) ys most one other (suc k) = front_most xs ys most (λ j. one (suc j)) other k

-- an element past zeros
past_zeros : (n k : ℕ) (ys : List ℕ) → slice_index (replicate n 0 ++ ys) k ≢ 0
    → (j : ℕ) × (k ≡ n + j) × (slice_index ys j ≢ 0)
past_zeros zero k ys some = (k, omega arith, some)
past_zeros (suc n) zero ys some = absurd (some refl)
past_zeros (suc n) (suc k) ys some =
    let past = past_zeros n k ys some in (past.0, omega (arith, past.1), past.2)

front_keeps : (xs ys zs : List ℕ) → ((k : ℕ) → slice_index ys k ≡ 0) → (k : ℕ) → slice_index (xs ++ ys) k ≢ 0
    → slice_index (xs ++ zs) k ≡ slice_index (xs ++ ys) k
front_keeps [] ys zs none k some = absurd (some (none k))
front_keeps (x ∷ xs) ys zs none zero some = refl
front_keeps (x ∷ xs) ys zs none (suc k) some = front_keeps xs ys zs none k some

abbrev pub body : List CodeUnit → List CodeUnit
body later =
    units.Plain (Auipc 5 0) ∷ units.Plain (OpImm Addi 5 5 (pos 84)) ∷ units.Check true 5 (pos 0) 0
    ∷ units.Plain (OpImm Addi 17 0 (pos 3)) ∷ units.Service ∷ units.Plain (OpImm Addi 17 0 (pos 1)) ∷ units.Service
    ∷ units.Jump false (pos 0) ∷ units.Check false 1 (pos 0) 1 ∷ later

abbrev more_units : List CodeUnit
more_units = units.Check false 1 (pos 0) 2 ∷ []

module _ (later : List CodeUnit) (slots : ℕ) (two : 2 ≤ slots) where
  starts : (number : ℕ) → number < 9 → IsStartOf (body later) (unit_address (body later) number)
  starts number less = (number, omega (arith, less), refl)

  leads : ((number : ℕ) (unit : CodeUnit) → slice_get later number ≡ Some unit
      → (address : ℕ) → StaysInside (body later) slots address unit)
      → (number : ℕ) (unit : CodeUnit) → slice_get (body later) number ≡ Some unit
      → StaysInside (body later) slots (unit_address (body later) number) unit
  leads rest zero unit there =
      let same : units.Plain (Auipc 5 0) ≡ unit = cc in
      subst (λ u. StaysInside (body later) slots (unit_address (body later) 0) u) same (starts 1 (omega arith))
  leads rest (suc zero) unit there =
      let same : units.Plain (OpImm Addi 5 5 (pos 84)) ≡ unit = cc in
      subst (λ u. StaysInside (body later) slots (unit_address (body later) 1) u) same (starts 2 (omega arith))
  leads rest (suc (suc zero)) unit there =
      let same : units.Check true 5 (pos 0) 0 ≡ unit = cc in
      subst (λ u. StaysInside (body later) slots (unit_address (body later) 2) u) same
      (starts 3 (omega arith), omega (arith, two))
  leads rest (suc (suc (suc zero))) unit there =
      let same : units.Plain (OpImm Addi 17 0 (pos 3)) ≡ unit = cc in
      subst (λ u. StaysInside (body later) slots (unit_address (body later) 3) u) same (starts 4 (omega arith))
  leads rest (suc (suc (suc (suc zero)))) unit there =
      let same : units.Service ≡ unit = cc in
      subst (λ u. StaysInside (body later) slots (unit_address (body later) 4) u) same (starts 5 (omega arith))
  leads rest (suc (suc (suc (suc (suc zero))))) unit there =
      let same : units.Plain (OpImm Addi 17 0 (pos 1)) ≡ unit = cc in
      subst (λ u. StaysInside (body later) slots (unit_address (body later) 5) u) same (starts 6 (omega arith))
  leads rest (suc (suc (suc (suc (suc (suc zero)))))) unit there =
      let same : units.Service ≡ unit = cc in
      subst (λ u. StaysInside (body later) slots (unit_address (body later) 6) u) same (starts 7 (omega arith))
  leads rest (suc (suc (suc (suc (suc (suc (suc zero))))))) unit there =
      let same : units.Jump false (pos 0) ≡ unit = cc in
      subst (λ u. StaysInside (body later) slots (unit_address (body later) 7) u) same (tt, starts 7 (omega arith))
  leads rest (suc (suc (suc (suc (suc (suc (suc (suc zero)))))))) unit there =
      let same : units.Check false 1 (pos 0) 1 ≡ unit = cc in
      subst (λ u. StaysInside (body later) slots (unit_address (body later) 8) u) same (tt, omega (arith, two))
  leads rest (suc (suc (suc (suc (suc (suc (suc (suc (suc n))))))))) unit there =
      rest n unit there (unit_address (body later) (suc (suc (suc (suc (suc (suc (suc (suc (suc n))))))))))

  inside : ((number : ℕ) (unit : CodeUnit) → slice_get later number ≡ Some unit
      → (address : ℕ) → StaysInside (body later) slots address unit)
      → (address : ℕ) (unit : CodeUnit) → StandsIn (body later) address unit
      → StaysInside (body later) slots address unit
  inside rest address unit (number, there, at) =
      subst (λ a. StaysInside (body later) slots a unit) (sym at) (leads rest number unit there)

one_more : (x : ℕ) (xs : List ℕ) → x ≤ FIELD_MAX → AreAtMost FIELD_MAX xs → AreAtMost FIELD_MAX (x ∷ xs)
one_more x xs fits rest zero = fits
one_more x xs fits rest (suc k) = rest k

zeros_more : (n : ℕ) (xs : List ℕ) → AreAtMost FIELD_MAX xs → AreAtMost FIELD_MAX (replicate n 0 ++ xs)
zeros_more n xs rest = front_most (replicate n 0) xs FIELD_MAX (λ k. repeated_most n k FIELD_MAX 0 (omega arith)) rest

-- the classes of targets: the place after the call, the function, and later ones
module _ (later : List CodeUnit) (slots : ℕ) (two : 2 ≤ slots) (classes : List ℕ) where
  abbrev targets_of : List ℕ
  targets_of = replicate 32 0 ++ (2 ∷ (replicate 4 0 ++ (1 ∷ classes)))

  targets_most : AreAtMost FIELD_MAX classes → AreAtMost FIELD_MAX targets_of
  targets_most rest =
      zeros_more 32 (2 ∷ (replicate 4 0 ++ (1 ∷ classes)))
      (one_more 2 (replicate 4 0 ++ (1 ∷ classes)) (omega arith)
      (zeros_more 4 (1 ∷ classes) (one_more 1 classes (omega arith) rest)))

  abbrev Leads : (place : ℕ) → Type 0
  Leads place = IsStartOf (body later) (4 * place)

  late : ((j : ℕ) → slice_index classes j ≢ 0 → Leads (38 + j)) → (k j : ℕ) → k ≡ 37 + j
      → slice_index (1 ∷ classes) j ≢ 0 → Leads k
  late rest k zero at some = subst Leads (sym at) (starts later slots two 8 (omega arith))
  late rest k (suc j) at some = subst Leads (omega (arith, at)) (rest j some)

  middle : ((j : ℕ) → slice_index classes j ≢ 0 → Leads (38 + j)) → (k j : ℕ) → k ≡ 32 + j
      → slice_index (2 ∷ (replicate 4 0 ++ (1 ∷ classes))) j ≢ 0 → Leads k
  middle rest k zero at some = subst Leads (sym at) (starts later slots two 3 (omega arith))
  middle rest k (suc j) at some =
      let past = past_zeros 4 j (1 ∷ classes) some in
      late rest k past.0 (omega (arith, at, past.1)) past.2

  targets_lead : ((j : ℕ) → slice_index classes j ≢ 0 → Leads (38 + j)) → (k : ℕ) → slice_index targets_of k ≢ 0
      → Leads k
  targets_lead rest k some =
      let past = past_zeros 32 k (2 ∷ (replicate 4 0 ++ (1 ∷ classes))) some in
      middle rest k past.0 past.1 past.2

-- the classes of slots: the last ones have no branch
slots_most : (n : ℕ) → AreAtMost FIELD_MAX (replicate n FIELD_MAX)
slots_most n k = repeated_most n k FIELD_MAX FIELD_MAX (omega arith)

slots_least : (n k : ℕ) → k < n → slice_index (replicate n FIELD_MAX) k ≢ 0
slots_least n k within e = let is = sym (repeated_is n k FIELD_MAX within) ∙ e in absurd (cc)

call_least : (slot : ℕ) → slot < slots_of MIN_CODE_WORDS → slice_index call_image.bary slot ≢ 0
call_least zero within e = absurd (cc)
call_least (suc zero) within e = absurd (cc)
call_least (suc (suc slot)) within e = slots_least 72 slot (omega (arith, within)) e

more_least : (slot : ℕ) → slot < slots_of MIN_CODE_WORDS → slice_index more_image.bary slot ≢ 0
more_least zero within e = absurd (cc)
more_least (suc zero) within e = absurd (cc)
more_least (suc (suc zero)) within e = absurd (cc)
more_least (suc (suc (suc slot))) within e = slots_least 71 slot (omega (arith, within)) e

none_more : (slots : ℕ) (number : ℕ) (unit : CodeUnit) → slice_get [] number ≡ Some unit
    → (address : ℕ) → StaysInside (body []) slots address unit
none_more slots number unit there address = absurd (cc)

check_more : (number : ℕ) (unit : CodeUnit) → slice_get more_units number ≡ Some unit
    → (address : ℕ) → StaysInside (body more_units) 74 address unit
check_more zero unit there address =
    let same : units.Check false 1 (pos 0) 2 ≡ unit = cc in
    subst (λ u. StaysInside (body more_units) 74 address u) same (tt, omega arith)
check_more (suc number) unit there address = absurd (cc)

pub call_read : IsReadAs call_image.code (body []) 0 973
call_read = record {
  fit = (
    (omega arith, omega arith),
    (
      (omega arith, omega arith, omega arith),
      (
        (omega arith, omega arith, omega arith),
        (
          (omega arith, omega arith, omega arith),
          (
            tt,
            (
              (omega arith, omega arith, omega arith),
              (tt, ((omega arith, refl), ((omega arith, omega arith, omega arith), tt))),
            ),
          ),
        ),
      ),
    ),
  );
  spelled = refl;
  busy = λ e. absurd (cc);
}

pub call_closed : IsClosed MIN_CODE_WORDS call_image
call_closed = (
  body [],
  record {
    classes = record {
      tary_length = refl;
      bary_length = refl;
      code_length = refl;
      tary_most =
          targets_most [] 74 (omega arith) (replicate 986 0) (λ k. repeated_most 986 k FIELD_MAX 0 (omega arith));
      bary_most =
          one_more 1 (2 ∷ replicate 72 FIELD_MAX) (omega arith)
          (one_more 2 (replicate 72 FIELD_MAX) (omega arith) (slots_most 72));
      bary_least = call_least;
    };
    idles = 0;
    zeros = 973;
    code = call_read;
    inside = inside [] 74 (omega arith) (none_more 74);
    targets =
        targets_lead [] 74 (omega arith) (replicate 986 0)
        (λ j some. absurd (some (repeated_zero 986 j)));
  },
)

pub more_read : IsReadAs more_image.code (body more_units) 0 959
more_read = record {
  fit = (
    (omega arith, omega arith),
    (
      (omega arith, omega arith, omega arith),
      (
        (omega arith, omega arith, omega arith),
        (
          (omega arith, omega arith, omega arith),
          (
            tt,
            (
              (omega arith, omega arith, omega arith),
              (
                tt,
                (
                  (omega arith, refl),
                  ((omega arith, omega arith, omega arith), ((omega arith, omega arith, omega arith), tt)),
                ),
              ),
            ),
          ),
        ),
      ),
    ),
  );
  spelled = refl;
  busy = λ e. absurd (cc);
}

-- the second function's class
abbrev more_classes : List ℕ
more_classes = replicate 13 0 ++ (1 ∷ replicate 972 0)

more_at : (i j : ℕ) → j ≡ 13 + i → slice_index (1 ∷ replicate 972 0) i ≢ 0
    → IsStartOf (body more_units) (4 * (38 + j))
more_at zero j at some = (9, omega arith, omega (arith, at))
more_at (suc i) j at some = absurd (some (repeated_zero 972 i))

more_leads : (j : ℕ) → slice_index more_classes j ≢ 0 → IsStartOf (body more_units) (4 * (38 + j))
more_leads j some =
    let past = past_zeros 13 j (1 ∷ replicate 972 0) some in
    more_at past.0 j past.1 past.2

pub more_closed : IsClosed MIN_CODE_WORDS more_image
more_closed = (
  body more_units,
  record {
    classes = record {
      tary_length = refl;
      bary_length = refl;
      code_length = refl;
      tary_most =
          targets_most more_units 74 (omega arith) more_classes
          (zeros_more 13 (1 ∷ replicate 972 0)
          (one_more 1 (replicate 972 0) (omega arith) (λ k. repeated_most 972 k FIELD_MAX 0 (omega arith))));
      bary_most =
          one_more 1 (2 ∷ 2 ∷ replicate 71 FIELD_MAX) (omega arith)
          (one_more 2 (2 ∷ replicate 71 FIELD_MAX) (omega arith)
          (one_more 2 (replicate 71 FIELD_MAX) (omega arith) (slots_most 71)));
      bary_least = more_least;
    };
    idles = 0;
    zeros = 959;
    code = more_read;
    inside = inside more_units 74 (omega arith) check_more;
    targets = targets_lead more_units 74 (omega arith) more_classes more_leads;
  },
)

pub more_keeps : KeepsCode call_image more_image
more_keeps =
    front_keeps (replicate FIRST_BASE 0 ++ call_code) (replicate 973 0) (more_code ++ replicate 959 0)
    (repeated_zero 973)

pub call_start : IsStartIn call_image (4 * FIRST_BASE)
call_start = record { body = body []; idles = 0; zeros = 973; code = call_read; starts = (0, omega arith, refl) }

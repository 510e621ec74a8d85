-- An instrumented module breaks no rule of objects.
use Rattle.std.proofs.Common.{◌≡◌, ℕ, ◌+◌, ◌-◌, ◌*◌, ◌/◌, ◌<◌, ◌≤◌, ◌^◌, ◌||◌, ◌==◌, Bool, true, false, ℤ, pos, negsuc, List, map, All, length, get_or, Option, Some, None, refl, ap, sym, subst, ◌∙◌, inl, inr, arith}
use Rattle.std.specs.Prelude.{FitsSigned, nat_le}
use Rattle.std.specs.Int.{w32}
use Rattle.std.specs.List.{AllPairs}
use Rattle.std.proofs.lemmas.Bool.{cases_Bool, cases_lt}
use Rattle.std.proofs.lemmas.Int.{fits_signed_from_abs}
use Rattle.std.proofs.lemmas.List.{length-map, get_or-map}
use Rattle.std.proofs.lemmas.List.Elements.{All-map, All-weaker}
use Rattle.elf_read.specs.Relocation.{is_known, is_dropped, is_of_data, is_of_instruction, is_of_pair, field_size}
use Rattle.elf_read.specs.declared.relocation.TheConstants.{JAL, PCREL_LO12_I, PCREL_LO12_S, LO12_I, LO12_S}
use Rattle.elf_read.specs.declared.object.Area.{Area}
use Rattle.elf_read.specs.declared.object.Area.TheVariants as areas
use Rattle.elf_read.specs.declared.object.Place.{Place}
use Rattle.elf_read.specs.declared.object.Place.TheVariants as places
use Rattle.elf_read.specs.declared.object.Reloc.{Reloc}
use Rattle.elf_read.specs.declared.object.Symbol.{Symbol}
use Rattle.elf_read.specs.Sound.{are_rivals, IsInsideArea, HasField, HasSymbol, IsSoundSymbol, IsSoundReloc, IsSoundObject}
use Rattle.cfi_aux.specs.declared.modules.Module.{Module}
use Rattle.cfi_instr.specs.Words.{Words, read_words, count_of}
use Rattle.cfi_instr.specs.Items.{item_of}
use Rattle.cfi_instr.specs.Target.{offset_from, named_symbol}
use Rattle.cfi_instr.specs.Fault.{input_of}
use Rattle.cfi_instr.proofs.RowTests.{PassesAll, passes}
use Rattle.cfi_instr.specs.Sizes.{size_at, words_before, offsets_of, moved}
use Rattle.cfi_instr.specs.Units.{distance}
use Rattle.cfi_instr.specs.Moves.{moved_value, moved_symbol, addend_to, addend_in, addend_by, is_of_long, kind_in, offset_in, moved_by, moved_reloc}
use Rattle.cfi_instr.specs.Output.{IsInstrumented}
use Rattle.cfi_instr.proofs.SizeLemmas.{total-grows, offset-read, offset-past}
use Rattle.cfi_instr_law.proofs.BytesLemmas.{length-spelled}
use Rattle.cfi_instr_law.proofs.ItemLemmas.{place-item, begins-within}
use Rattle.cfi_instr_law.proofs.MovedLemmas.{reloc-fits, goes-well}
use Rattle.cfi_made_law.proofs.ReadLemmas.{IsSmall, IsFit}

-- ---- kinds

-- a kind that one instruction of the text has
record IsOne (kind : ℕ) : Type 0 where
  pub known : is_known kind ≡ true
  pub kept : is_dropped kind ≡ false
  pub code : is_of_data kind ≡ false
  pub size : field_size kind ≡ 4

jal-one : IsOne JAL
unfolding is_known is_of_instruction field_size
jal-one = record { known = refl; kept = refl; code = refl; size = refl }

low-one : IsOne LO12_I
unfolding is_known is_of_instruction field_size
low-one = record { known = refl; kept = refl; code = refl; size = refl }

partner-one : IsOne PCREL_LO12_I
unfolding is_known is_of_instruction field_size
partner-one = record { known = refl; kept = refl; code = refl; size = refl }

size-one : (kind : ℕ) → is_of_pair kind ≡ false → is_dropped kind ≡ false → field_size kind ≡ 4
unfolding field_size
size-one kind single kept = rw (single, kept) refl

or-second : (a b : Bool) → (a || b) ≡ false → b ≡ false
or-second true b h = cc
or-second false b h = h

kind-one : (long : Bool) (kind : ℕ) → is_known kind ≡ true → is_dropped kind ≡ false → is_of_data kind ≡ false
    → IsOne (kind_in long kind)
kind-one long kind known kept code = elim (cases_Bool (long || is_of_pair kind)) [
  | inl jump ↦ rw jump jal-one
  | inr other ↦ elim (cases_Bool (kind == LO12_S)) [
    | inl low ↦ rw (other, low) low-one
    | inr next ↦ elim (cases_Bool (kind == PCREL_LO12_S)) [
      | inl partner ↦ rw (other, next, partner) partner-one
      | inr last ↦ rw (other, next, last) (record {
        known = known;
        kept = kept;
        code = code;
        size = size-one kind (or-second long (is_of_pair kind) other) kept;
      })
    ]
  ]
]

-- ---- the module

module _ (source out : Module) (made : IsInstrumented source out) where
  abbrev pub t : Words
  t = read_words source.object

  abbrev pub long : List Bool
  long = made.long

  abbrev pub offsets : List ℕ
  offsets = offsets_of t long

  abbrev pub end : ℕ
  end = words_before t long (count_of t)

  pub sound : PassesAll (input_of source)
  sound = passes (input_of source) made.sound

  pub same : made.offsets ≡ offsets
  same = made.plan.placed

  pub text-length : length out.object.text ≡ 4 * end
  text-length =
      let is = made.object.text in
      omega (
        arith,
        ap (λ (xs : List ℕ). length xs) is.bytes,
        length-spelled is.words,
        ap (λ (xs : List ℕ). length xs) is.units.spelled,
        place-item t source.object.symbols long made.offsets (count_of t),
      )

  pub grows : (v w : ℕ) → v ≤ w → words_before t long v ≤ words_before t long w
  grows v w le = total-grows (size_at t long) v w le

  -- the offset is that of a word of the text, or its end
  pub record HasWord (n : ℕ) : Type 0 where
    pub word : ℕ
    pub is : n ≡ 4 * word
    pub within : word ≤ end

  -- so is where each offset goes
  read-word : (w : ℕ) → HasWord (get_or offsets w 0)
  read-word w = elim (cases_lt w (count_of t + 1)) [
    | inl below ↦
        record {
          word = words_before t long w;
          is = offset-read t long w below;
          within = grows w (count_of t) (omega (arith, below));
        }
    | inr above ↦ record { word = 0; is = offset-past t long w above; within = omega arith }
  ]

  pub moved-word : (offset : ℕ) → HasWord (moved t offsets offset)
  moved-word offset = read-word (item_of t (offset / 4))

  moved-within : (offset : ℕ) → moved t offsets offset ≤ 4 * end
  moved-within offset = let at = moved-word offset in omega (arith, at.is, at.within)

  -- ---- symbols

  abbrev pub moves : Symbol → Symbol
  moves = moved_symbol t offsets

  pub symbols : out.object.symbols ≡ map moves source.object.symbols
  symbols =
      made.object.symbols ∙ ap (λ (xs : List ℕ). map (moved_symbol t xs) source.object.symbols) same

  symbols-count : length out.object.symbols ≡ length source.object.symbols
  symbols-count = ap (λ (xs : List Symbol). length xs) symbols ∙ length-map source.object.symbols moves

  data-length : length out.object.static_data ≡ length source.object.static_data
  data-length = ap (λ (xs : List ℕ). length xs) made.object.static_data

  value-inside : (place : Place) (value : ℕ) → IsInsideArea source.object place value
      → IsInsideArea out.object place (moved_value t offsets place value)
  value-inside places.Undefined value inside = tt
  value-inside places.Absolute value inside = tt
  value-inside places.Text value inside = omega (arith, text-length, moved-within value)
  value-inside places.Data value inside = omega (arith, inside, data-length)

  symbol-sound : (s : Symbol) → IsSoundSymbol source.object s → IsSoundSymbol out.object (moves s)
  symbol-sound s is = record {
    name_size = is.name_size;
    name_text = is.name_text;
    name_bytes = is.name_bytes;
    named = is.named;
    found = is.found;
    inside = value-inside s.place s.value is.inside;
  }

  symbols-apart : AllPairs (λ a b. are_rivals a b ≡ false) source.object.symbols
      → AllPairs (λ a b. are_rivals a b ≡ false) (map moves source.object.symbols)
  symbols-apart all i j d less inside =
      let olds = source.object.symbols in
      let within : j < length olds = omega (arith, inside, length-map olds moves) in
      let one : get_or (map moves olds) i d ≡ moves (get_or olds i d) = get_or-map moves olds i d d (omega arith) in
      let other : get_or (map moves olds) j d ≡ moves (get_or olds j d) = get_or-map moves olds j d d within in
      rw (one, other) (all i j d less within)

  value-small : (place : Place) (value : ℕ) → value < 2 ^ 32 → moved_value t offsets place value < 2 ^ 32
  value-small places.Text value small = omega (arith, moved-within value, made.fits)
  value-small places.Undefined value small = small
  value-small places.Absolute value small = small
  value-small places.Data value small = small

  -- ---- relocations

  abbrev pub goes : Reloc → Reloc
  goes = moved_reloc t source.object.symbols long offsets

  pub relocs : out.object.relocs ≡ map goes source.object.relocs
  relocs =
      made.object.relocs
      ∙ ap (λ (xs : List ℕ). map (moved_reloc t source.object.symbols long xs) source.object.relocs) same

  has-symbol : (symbol : Option ℕ) → HasSymbol source.object symbol → HasSymbol out.object symbol
  has-symbol None has = tt
  has-symbol (Some k) has = omega (arith, has, symbols-count)

  -- a relocation of the area goes to a field of the output
  reloc-by : (reloc : Reloc) (addend : ℤ) (area : Area) → reloc.area ≡ area → IsSoundReloc source.object reloc
      → HasField source.object area reloc.kind reloc.offset
      → (area ≡ areas.Text → (at : ℕ)
      × (offset_in t offsets (is_of_long long reloc) reloc.offset ≡ 4 * at) × (at < end))
      → IsSoundReloc out.object (moved_by area t long offsets addend reloc)
  reloc-by reloc addend areas.Text is sound field goes =
      let kind = kind-one (is_of_long long reloc) reloc.kind sound.known sound.kept field.2 in
      let to = goes refl in
      record {
        known = kind.known;
        kept = kind.kept;
        symbol = has-symbol reloc.symbol sound.symbol;
        field = subst (λ (a : Area). HasField out.object a (kind_in (is_of_long long reloc) reloc.kind)
            (offset_in t offsets (is_of_long long reloc) reloc.offset)) (sym is)
            (omega (arith, kind.size, to.1, to.2, text-length), omega (arith, to.1), kind.code);
      }
  reloc-by reloc addend areas.Data is sound field goes = record {
    known = sound.known;
    kept = sound.kept;
    symbol = has-symbol reloc.symbol sound.symbol;
    field = subst (λ (a : Area). HasField out.object a reloc.kind reloc.offset) (sym is)
        (omega (arith, field.0, data-length), field.1);
  }

  reloc-sound : (k : ℕ) (d : Reloc) → k < length source.object.relocs
      → IsSoundReloc source.object (get_or source.object.relocs k d)
      → IsSoundReloc out.object (goes (get_or source.object.relocs k d))
  reloc-sound k d inside is =
      let reloc = get_or source.object.relocs k d in
      let symbols = source.object.symbols in
      reloc-by reloc (addend_by t offsets (named_symbol symbols reloc) reloc.addend) reloc.area refl is is.field
      (λ text.
      let fits = reloc-fits t symbols source.records.functions source.object.relocs k d inside
      (sound.linked.shaped.relocs k inside) text in
      let to = goes-well t symbols long sound.linked.shaped.words reloc fits.fits in
      let w : ℕ = item_of t (reloc.offset / 4) in
      let range = begins-within t symbols long offsets w to.at to.begins in
      (to.at, to.offset_is, omega (arith, range.1, grows (w + 1) (count_of t) (omega (arith, to.inside)))))

  all-sound : All (IsSoundReloc source.object) source.object.relocs
      → All (IsSoundReloc out.object) (map goes source.object.relocs)
  all-sound all =
      All-map (IsSoundReloc out.object) goes source.object.relocs
      (λ k d inside. reloc-sound k d inside (all k d inside))

  pub object-sound : IsSoundObject source.object → IsSoundObject out.object
  object-sound is = record {
    words = omega (arith, text-length);
    symbols = subst (All (IsSoundSymbol out.object)) (sym symbols)
        (All-map (IsSoundSymbol out.object) moves source.object.symbols
        (All-weaker (IsSoundSymbol source.object) (λ s. IsSoundSymbol out.object (moves s)) symbol-sound
        source.object.symbols is.symbols));
    definitions = subst (AllPairs (λ a b. are_rivals a b ≡ false)) (sym symbols) (symbols-apart is.definitions);
    relocs = subst (All (IsSoundReloc out.object)) (sym relocs) (all-sound is.relocs);
  }

  -- ---- addends

  distance-fits : (from to : ℕ) → from ≤ 4 * end → to ≤ 4 * end → FitsSigned w32 (distance from to)
  distance-fits from to one other = elim (cases_Bool (nat_le from to)) [
    | inl up ↦ rw up (fits_signed_from_abs w32 (pos (to - from)) (omega (arith, other, made.fits)))
    | inr down ↦ rw down
        (fits_signed_from_abs w32 (negsuc (from - to - 1)) (omega (arith, one, made.fits)))
  ]

  addend-target : (value : ℕ) (target : Option ℕ) (addend : ℤ) → FitsSigned w32 addend
      → FitsSigned w32 (addend_to t offsets value target addend)
  addend-target value None addend fits = fits
  addend-target value (Some target) addend fits =
      distance-fits (moved t offsets value) (moved t offsets target) (moved-within value) (moved-within target)

  addend-place : (place : Place) (value : ℕ) (addend : ℤ) → FitsSigned w32 addend
      → FitsSigned w32 (addend_in t offsets place value addend)
  addend-place places.Text value addend fits = addend-target value (offset_from value addend) addend fits
  addend-place places.Undefined value addend fits = fits
  addend-place places.Absolute value addend fits = fits
  addend-place places.Data value addend fits = fits

  addend-symbol : (symbol : Option Symbol) (addend : ℤ) → FitsSigned w32 addend
      → FitsSigned w32 (addend_by t offsets symbol addend)
  addend-symbol None addend fits = fits
  addend-symbol (Some symbol) addend fits = addend-place symbol.place symbol.value addend fits

  addend-area : (area : Area) (addend : ℤ) (reloc : Reloc) → FitsSigned w32 addend
      → FitsSigned w32 (moved_by area t long offsets addend reloc).addend
  addend-area areas.Text addend reloc fits = fits
  addend-area areas.Data addend reloc fits = fits

  addend-fits : (reloc : Reloc) → FitsSigned w32 reloc.addend → FitsSigned w32 (goes reloc).addend
  addend-fits reloc fits =
      addend-area reloc.area _ reloc
      (addend-symbol (named_symbol source.object.symbols reloc) reloc.addend fits)

  pub object-small : IsSmall source.object → IsSmall out.object
  object-small is = record {
    sound = object-sound is.sound;
    text = omega (arith, text-length, made.fits);
    static_data = omega (arith, data-length, is.static_data);
    symbols = omega (arith, symbols-count, is.symbols);
    relocs = omega (
      arith,
      ap (λ (xs : List Reloc). length xs) relocs,
      length-map source.object.relocs goes,
      is.relocs,
    );
  }

  pub object-fits : IsFit source.object → IsFit out.object
  object-fits is = record {
    small = object-small is.small;
    values = subst (λ (xs : List Symbol). All (λ s. s.value < 2 ^ 32) xs) (sym symbols)
        (All-map (λ s. s.value < 2 ^ 32) moves source.object.symbols
        (All-weaker (λ s. s.value < 2 ^ 32) (λ s. (moves s).value < 2 ^ 32)
        (λ s small. value-small s.place s.value small) source.object.symbols is.values));
    addends = subst (λ (xs : List Reloc). All (λ r. FitsSigned w32 r.addend) xs) (sym relocs)
        (All-map (λ r. FitsSigned w32 r.addend) goes source.object.relocs
        (All-weaker (λ r. FitsSigned w32 r.addend) (λ r. FitsSigned w32 (goes r).addend) addend-fits
        source.object.relocs is.addends));
  }

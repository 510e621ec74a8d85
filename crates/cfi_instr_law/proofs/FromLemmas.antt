-- What is known of a module that was made of another by instrumenting it, and placed.
use Rattle.std.proofs.Common.{◌≡◌, ℕ, ◌+◌, ◌*◌, ◌/◌, ◌<◌, ◌≤◌, Bool, false, List, [], ◌∷◌, map, All, length, get_or, IsTrue, refl, ap, sym, subst, ◌∙◌, arith}
use Rattle.std.proofs.lemmas.List.{length-map, get_or-map}
use Rattle.std.proofs.lemmas.List.FromFn.{length-map-range_with_len}
use Rattle.elf_read.specs.declared.object.Reloc.{Reloc}
use Rattle.elf_read.specs.declared.object.Symbol.{Symbol}
use Rattle.cfi_type_table.specs.Node.{Node}
use Rattle.cfi_unit.specs.declared.unit.Unit.{Unit as CodeUnit}
use Rattle.cfi_unit.specs.Unit.{size_of}
use Rattle.cfi_type_table.specs.Kind.{is_callable}
use Rattle.cfi_aux.specs.declared.modules.Module.{Module}
use Rattle.cfi_aux.specs.declared.placed.Placed.{Placed}
use Rattle.cfi_aux.specs.declared.records.Function.{Function}
use Rattle.cfi_aux.specs.declared.records.Kind.{Kind}
use Rattle.cfi_aux.specs.declared.records.Records.{Records}
use Rattle.cfi_instr.specs.Words.{Words, read_words, count_of}
use Rattle.cfi_instr.specs.Items.{is_inner}
use Rattle.cfi_instr.specs.inner.Functions.{is_covered}
use Rattle.cfi_instr.specs.Fault.{input_of}
use Rattle.cfi_instr.proofs.RowTests.{PassesAll, passes}
use Rattle.cfi_instr.specs.Sizes.{size_at, words_before, offsets_of}
use Rattle.cfi_instr.specs.Units.{units_of}
use Rattle.cfi_instr.specs.Moves.{moved_function, moved_kind, moved_reloc}
use Rattle.cfi_instr.specs.Output.{IsText, IsInstrumented}
use Rattle.cfi_instr.proofs.SizeLemmas.{total-grows}
use Rattle.cfi_place.specs.declared.room.Room.{Room}
use Rattle.cfi_place.specs.Functions.{placed_functions}
use Rattle.cfi_place.specs.Names.{Names}
use Rattle.cfi_place.specs.Placed.{IsRoom, IsPlaced}
use Rattle.cfi_unit.specs.Spots.{spots_of}
use Rattle.rv_insn.specs.InsnOf.{insn_of}
use Rattle.rv_reloc.specs.Bytes.{word_at}
use Rattle.cfi_unit.specs.declared.spot.Spot.{Spot}
use Rattle.cfi_instr_law.specs.Proper.{NamesCallable, IsTyped, IsMadeAt}
use Rattle.cfi_instr_law.proofs.SeenLemmas.{seen_from, size-seen}
use Rattle.cfi_instr_law.proofs.CodeLemmas.{words_in, words-cons}
use Rattle.cfi_instr_law.proofs.ItemLemmas.{place-item, item-some}
use Rattle.cfi_instr_law.proofs.LaidLemmas.{touches, IsLaid, all-sit, laid-by}
use Rattle.cfi_instr_law.proofs.RelocatedLemmas.{Sits}
use Rattle.cfi_instr_law.proofs.FreeLemmas.{untouched}

-- units that look the same have as many words
sizes : List Spot → ℕ
sizes [] = 0
sizes (s ∷ spots) = size_of s.unit + sizes spots

words-seen : (touched : ℕ → Bool) (at : ℕ) (code : List CodeUnit) → words_in code ≡ sizes (seen_from touched at code)
unfolding sizes
words-seen touched at [] = refl
words-seen touched at (u ∷ us) =
    omega (arith, words-cons u us, size-seen (touched at) u, words-seen touched (at + size_of u) us)

same-words : (touched : ℕ → Bool) (code other : List CodeUnit)
    → seen_from touched 0 code ≡ seen_from touched 0 other → words_in code ≡ words_in other
same-words touched code other same =
    words-seen touched 0 code ∙ ap sizes same ∙ sym (words-seen touched 0 other)

-- a module that was made of another, at its place
pub record IsFrom (source : Module) (placed : Placed) : Type 0 where
  pub long : List Bool
  pub sound : PassesAll (input_of source)
  pub touched : ℕ → Bool
  pub free : (w : ℕ) → w < count_of (read_words source.object) → is_inner (read_words source.object) w ≡ false
      → is_covered source.records.functions (4 * w) ≡ false
      → touched (words_before (read_words source.object) long w) ≡ false
  pub laid : IsLaid touched (units_of (read_words source.object) source.object.symbols long
      (offsets_of (read_words source.object) long)) placed
  pub some : 0 < length placed.words
  pub symbols : List Symbol
  pub functions : placed.functions ≡ placed_functions symbols
      (map (moved_function (read_words source.object) (offsets_of (read_words source.object) long))
      source.records.functions)
  pub branches : placed.branches
      ≡ map (moved_kind (read_words source.object) (offsets_of (read_words source.object) long)) source.records.branches
  pub func_types : All (λ f. IsTrue (is_callable placed.types f.ty)) source.records.functions
  pub branch_types : All (NamesCallable placed.types) placed.branches

-- its words end where the last item does
laid-end : (t : Words) (symbols : List Symbol) (long : List Bool) (offsets : List ℕ) (touched : ℕ → Bool)
    (placed : Placed) → IsLaid touched (units_of t symbols long offsets) placed
    → length placed.words ≡ words_before t long (count_of t)
laid-end t symbols long offsets touched placed laid =
    ap (λ (ws : List ℕ). length ws) laid.units.spelled
    ∙ same-words touched laid.code (units_of t symbols long offsets) laid.looks
    ∙ place-item t symbols long offsets (count_of t)

pub words-end : (source : Module) (placed : Placed) (s : IsFrom source placed)
    → length placed.words ≡ words_before (read_words source.object) s.long (count_of (read_words source.object))
words-end source placed s =
    let t = read_words source.object in
    laid-end t source.object.symbols s.long (offsets_of t s.long) s.touched placed s.laid

-- a text with a word has words once it is instrumented
made-some : (source : Module) (long : List Bool) → PassesAll (input_of source) → 4 ≤ length source.object.text
    → 0 < words_before (read_words source.object) long (count_of (read_words source.object))
made-some source long sound some =
    let t = read_words source.object in
    let count : count_of t ≡ length source.object.text / 4 =
    length-map-range_with_len (λ (w : ℕ). insn_of (word_at (4 * w) source.object.text)) 0
    (length source.object.text / 4) in
    let first = item-some t source.object.symbols long (offsets_of t long) 0 refl
    (sound.linked.shaped.words.legal 0 (omega (arith, count, some))) in
    omega (arith, first, count, some, total-grows (size_at t long) 1 (count_of t) (omega (arith, count, some)))

typed-before : (types : List Node) (moves : Function → Function) (functions : List Function)
    → ((f : Function) → (moves f).ty ≡ f.ty) → All (λ f. IsTrue (is_callable types f.ty)) (map moves functions)
    → All (λ f. IsTrue (is_callable types f.ty)) functions
typed-before types moves functions same all k d inside =
    let f = get_or functions k d in
    let there : get_or (map moves functions) k d ≡ moves f = get_or-map moves functions k d d inside in
    subst (λ (n : ℕ). IsTrue (is_callable types n)) (ap (λ (g : Function). g.ty) there ∙ same f)
    (all k d (subst (λ (n : ℕ). k < n) (sym (length-map functions moves)) inside))

-- a module that is another one, made by instrumenting, but for the order of its relocations
pub record IsLike (out m : Module) : Type 1 where
  pub text : m.object.text ≡ out.object.text
  pub relocs : (P : Reloc → Type 0) → All P out.object.relocs → All P m.object.relocs
  pub records : m.records ≡ out.records

pub from-made-like : (source out m : Module) (room : Room) (names : Names) (placed : Placed) → IsInstrumented source out
    → IsLike out m → 4 ≤ length source.object.text → IsTyped m → IsRoom room → IsPlaced m room names placed
    → IsFrom source placed
from-made-like source out m room names placed made like some typed fits stands =
    let t = read_words source.object in
    let long = made.long in
    let offsets = offsets_of t long in
    let sound = passes (input_of source) made.sound in
    let relocs = map (moved_reloc t source.object.symbols long offsets) source.object.relocs in
    let code = spots_of 0 (units_of t source.object.symbols long offsets) in
    let same : made.offsets ≡ offsets = made.plan.placed in
    let moves = moved_function t offsets in
    let functions : m.records.functions ≡ map moves source.records.functions =
    ap (λ (r : Records). r.functions) like.records ∙ made.records.functions
    ∙ ap (λ (xs : List ℕ). map (moved_function t xs) source.records.functions) same in
    let moved : out.object.relocs ≡ relocs =
    made.object.relocs
    ∙ ap (λ (xs : List ℕ). map (moved_reloc t source.object.symbols long xs) source.object.relocs) same in
    let laid =
    laid-by source m long sound room names placed fits
    (subst (λ (xs : List ℕ). IsText source long offsets xs) (sym like.text)
    (subst (λ (xs : List ℕ). IsText source long xs out.object.text) same made.object.text))
    (like.relocs (Sits (touches relocs) code)
    (subst (λ (rs : List Reloc). All (Sits (touches relocs) code) rs) (sym moved) (all-sit source m long sound)))
    stands in
    record {
      long = long;
      sound = sound;
      touched = touches relocs;
      free = untouched source long sound;
      laid = laid;
      some =
          subst (λ (n : ℕ). 0 < n)
          (sym (laid-end t source.object.symbols long offsets (touches relocs) placed laid))
          (made-some source long sound some);
      symbols = m.object.symbols;
      functions = stands.functions ∙ ap (placed_functions m.object.symbols) functions;
      branches =
          stands.branches ∙ ap (λ (r : Records). r.branches) like.records ∙ made.records.branches
          ∙ ap (λ (xs : List ℕ). map (moved_kind t xs) source.records.branches) same;
      func_types =
          typed-before placed.types moves source.records.functions (λ f. refl)
          (subst (λ (fs : List Function). All (λ f. IsTrue (is_callable placed.types f.ty)) fs) functions
          (subst (λ (ns : List Node). All (λ f. IsTrue (is_callable ns f.ty)) m.records.functions)
          (sym stands.types) typed.functions));
      branch_types =
          subst (λ (ks : List Kind). All (NamesCallable placed.types) ks) (sym stands.branches)
          (subst (λ (ns : List Node). All (NamesCallable ns) m.records.branches) (sym stands.types) typed.branches);
    }

pub from-made : (source m : Module) (room : Room) (names : Names) (placed : Placed)
    → IsMadeAt source m room names placed → IsFrom source placed
from-made source m room names placed at =
    from-made-like source m m room names placed at.made
    (record { text = refl; relocs = λ P all. all; records = refl }) at.some at.typed at.fits at.stands

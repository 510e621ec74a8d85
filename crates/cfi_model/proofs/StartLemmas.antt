-- Where a closed image's units stand, and where they lead.
use Rattle.std.proofs.Common.{◌≡◌, ◌≢◌, ℕ, zero, suc, ◌+◌, ◌/◌, ◌^◌, ◌<◌, Some, List, [], ◌∷◌, ◌++◌, length, take, drop, replicate, slice_get, slice_index, get_or, refl, sym, ◌∙◌, ap, subst, arith, length-take, length-drop, get_or-drop, get_or-take}
use Rattle.std.specs.List.{AllByRecursion}
use Rattle.std.proofs.lemmas.List.{take-append-drop, ext_get_or, append_assoc, drop-drop}
use Rattle.std.proofs.lemmas.Option.{slice_get_within, get_or_from_slice_get, slice_get-get_or}
use Rattle.std.proofs.lemmas.List.Concat.{flat_map-append}
use Rattle.std.proofs.Math.Seq.{drop-append_seam, take-append_seam, drop-cons}
use Rattle.cfi_unit.specs.declared.unit.Unit.{Unit as CodeUnit}
use Rattle.cfi_unit.specs.Unit.{IsUnit, words_of, size_of}
use Rattle.cfi_unit.specs.Code.{BeginsAt}
use Rattle.cfi_unit.proofs.CodeLemmas.{BeginsAt-within, length-words_of}
use Rattle.cfi_unit.proofs.UnitLemmas.{size_pos}
use Rattle.cfi_word.specs.declared.map.TheConstants.{FIRST_BASE}
use Rattle.cfi_model.specs.Closed.{code_of, idle, unit_address, IsReadAs, IsStartOf, StandsIn}
use Rattle.cfi_model.specs.History.{History, IsHistory, IsEpoch, IsStart}
use Rattle.cfi_model.specs.Shows.{Stands}
use Rattle.cfi_model.proofs.ReadLemmas.{no_zero, read_once}

-- what holds of all units of a list holds of each
unit_fits : (us : List CodeUnit) → AllByRecursion IsUnit us → (k : ℕ) (d : CodeUnit) → k < length us
    → IsUnit (get_or us k d)
unit_fits [] all k d h = absurd (omega arith)
unit_fits (u ∷ us) all zero d h = all.0
unit_fits (u ∷ us) all (suc k) d h = unit_fits us all.1 k d (omega arith)

-- a list at one of its items
split : (us : List CodeUnit) (n : ℕ) (u : CodeUnit) → slice_get us n ≡ Some u
    → us ≡ take n us ++ (u ∷ drop (suc n) us)
split us n u h =
    let inside = slice_get_within us n u h in
    let item = get_or_from_slice_get us n u u h in
    sym (take-append-drop n us)
    ∙ ap (λ xs. take n us ++ xs) (drop-cons us n u inside ∙ ap (λ x. x ∷ drop (suc n) us) item)

-- the unit's words stand at its place
begins_in : (code : List ℕ) (body : List CodeUnit) (idles zeros n : ℕ) (u : CodeUnit)
    → IsReadAs code body idles zeros → slice_get body n ≡ Some u
    → BeginsAt code (FIRST_BASE + length (code_of (take n body))) u
begins_in code body idles zeros n u read h =
    let before : List ℕ = code_of (take n body) in
    let after : List ℕ = code_of (drop (suc n) body) in
    let idle_words : List ℕ = code_of (replicate idles idle) in
    let zero_words : List ℕ = replicate zeros 0 in
    let tail : List ℕ = (after ++ idle_words) ++ zero_words in
    let parts : code_of body ≡ before ++ (words_of u ++ after) =
    ap code_of (split body n u h) ∙ flat_map-append words_of (take n body) (u ∷ drop (suc n) body) in
    let whole : drop FIRST_BASE code ≡ before ++ (words_of u ++ tail) =
    read.spelled
    ∙ ap (λ xs. (xs ++ idle_words) ++ zero_words) parts
    ∙ ap (λ xs. xs ++ zero_words) (append_assoc before (words_of u ++ after) idle_words)
    ∙ append_assoc before ((words_of u ++ after) ++ idle_words) zero_words
    ∙ ap (λ xs. before ++ xs) (ap (λ xs. xs ++ zero_words) (append_assoc (words_of u) after idle_words)
    ∙ append_assoc (words_of u) (after ++ idle_words) zero_words) in
    let there : drop (FIRST_BASE + length before) code ≡ words_of u ++ tail =
    sym (drop-drop (length before) FIRST_BASE code) ∙ ap (drop (length before)) whole
    ∙ drop-append_seam before (words_of u ++ tail) in
    let size = length-words_of u in
    let front : take (size_of u) (words_of u ++ tail) ≡ words_of u =
    subst (λ k. take k (words_of u ++ tail) ≡ words_of u) size (take-append_seam (words_of u) tail) in
    let inside = slice_get_within body n u h in
    record {
      fits = subst IsUnit (get_or_from_slice_get body n u u h) (unit_fits body read.fit n u inside);
      spelled = ap (take (size_of u)) there ∙ front;
    }

-- the unit stands in each list that keeps the words that are not 0
pub begins_on : (old new : List ℕ) (at : ℕ) (u : CodeUnit) → BeginsAt old at u → length old ≡ length new
    → ((k : ℕ) → slice_index old k ≢ 0 → slice_index new k ≡ slice_index old k)
    → BeginsAt new at u
begins_on old new at u begins same kept =
    let inside = BeginsAt-within old at u begins in
    let sizes : length (take (size_of u) (drop at old)) ≡ length (take (size_of u) (drop at new)) =
    omega (
      arith,
      length-take (size_of u) (drop at old),
      length-take (size_of u) (drop at new),
      length-drop at old,
      length-drop at new,
    ) in
    let each : (i : ℕ) → i < length (take (size_of u) (drop at old))
    → get_or (take (size_of u) (drop at old)) i 0 ≡ get_or (take (size_of u) (drop at new)) i 0 =
    λ i h.
    let below : i < size_of u = omega (arith, length-take (size_of u) (drop at old)) in
    get_or-take (size_of u) (drop at old) i 0 below ∙ get_or-drop at old i 0
    ∙ sym (kept (at + i) (no_zero old at u begins i below))
    ∙ sym (get_or-drop at new i 0) ∙ sym (get_or-take (size_of u) (drop at new) i 0 below) in
    record {
      fits = begins.fits;
      spelled = sym (ext_get_or 0 _ _ sizes each) ∙ begins.spelled;
    }

-- the units as which an epoch's code is read
abbrev pub body_at : (h : History) (code : List ℕ) (epoch : ℕ) → IsHistory h code → IsEpoch h epoch → List CodeUnit
body_at h code epoch known is = (known.closed epoch is).0

-- the unit at a start, and the epoch whose start it is
pub record Started (h : History) (code : List ℕ) (known : IsHistory h code) (address : ℕ) : Type 0 where
  pub epoch : ℕ
  pub is : IsEpoch h epoch
  pub unit : CodeUnit
  pub stands_in : StandsIn (body_at h code epoch known is) address unit
  pub stands : Stands code address unit
  pub small : address < 2 ^ 18

-- a start's address is one of the code
unit_starts : (h : History) (code : List ℕ) (epoch n : ℕ) (u : CodeUnit) (known : IsHistory h code)
    (is : IsEpoch h epoch) → slice_get (body_at h code epoch known is) n ≡ Some u
    → Started h code known (unit_address (body_at h code epoch known is) n)
unit_starts h code epoch n u known is item =
    let body : List CodeUnit = body_at h code epoch known is in
    let closed = (known.closed epoch is).1 in
    let read = begins_in (h.image epoch).code body closed.idles closed.zeros n u closed.code item in
    let begins = begins_on (h.image epoch).code code _ u read closed.classes.code_length
    (λ k. known.kept epoch k is) in
    let inside = BeginsAt-within code _ u begins in
    let some = size_pos u in
    let most = known.size.most in
    let place : unit_address body n / 4 ≡ FIRST_BASE + length (code_of (take n body)) = omega arith in
    record {
      epoch = epoch;
      is = is;
      unit = u;
      stands_in = (n, item, refl);
      stands = record {
        aligned = omega arith;
        begins = subst (λ k. BeginsAt code k u) (sym place) begins;
      };
      small = omega arith;
    }

-- a start of the epoch's code
pub start_in : (h : History) (code : List ℕ) (epoch address : ℕ) (known : IsHistory h code) (is : IsEpoch h epoch)
    → IsStartOf (body_at h code epoch known is) address → Started h code known address
start_in h code epoch address known is start =
    let body : List CodeUnit = body_at h code epoch known is in
    let u : CodeUnit = get_or body start.0 idle in
    let item : slice_get body start.0 ≡ Some u = slice_get-get_or body start.0 idle start.1 in
    subst (Started h code known) (sym start.2) (unit_starts h code epoch start.0 u known is item)

pub started : (h : History) (code : List ℕ) (address : ℕ) (known : IsHistory h code) → IsStart h address
    → Started h code known address
started h code address known start =
    let closed = (known.closed start.epoch start.known).1 in
    let one = read_once (h.image start.epoch).code _ _ start.starts.idles closed.idles start.starts.zeros closed.zeros
    start.starts.code closed.code in
    start_in h code start.epoch address known start.known (subst (λ b. IsStartOf b address) one start.starts.starts)

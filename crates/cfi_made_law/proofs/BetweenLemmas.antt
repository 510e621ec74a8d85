-- Lists with something added in between, and objects that have more text and data than others.
use Rattle.std.proofs.Common.{◌≡◌, ℕ, zero, suc, ◌%◌, ◌<◌, ◌≤◌, false, List, [], ◌∷◌, ◌++◌, length, take, drop, get_or, All, Option, Some, None, sym, ap, subst, arith}
use Rattle.std.specs.List.{AllPairs}
use Rattle.std.proofs.lemmas.List.{take-append-drop}
use Rattle.std.proofs.lemmas.List.Kept.{AllPairs-cons}
use Rattle.std.proofs.lemmas.List.Elements.{All-nil, All-cons, All-head, All-tail, All-append, All-weaker}
use Rattle.elf_read.specs.Places.{joined}
use Rattle.elf_read.specs.Sound.{are_rivals, IsInsideArea, HasField, HasSymbol, IsSoundSymbol, IsSoundReloc, IsSoundObject}
use Rattle.elf_read.specs.declared.object.Area.{Area}
use Rattle.elf_read.specs.declared.object.Area.TheVariants as areas
use Rattle.elf_read.specs.declared.object.Place.{Place}
use Rattle.elf_read.specs.declared.object.Place.TheVariants as places
use Rattle.elf_read.specs.declared.object.Object.{Object}
use Rattle.elf_read.specs.declared.object.Symbol.{Symbol}

-- ---- lists with something added in between

pub all-two : {T : Type 0} (P : T → Type 0) (x y : T) → P x → P y → All P (x ∷ y ∷ [])
all-two P x y one other = All-cons P x (y ∷ []) one (All-cons P y [] other (All-nil P))

-- each of what several add
pub all-joined : {T : Type 0} (P : T → Type 0) (add : ℕ → List T) (count : ℕ)
    → ((place : ℕ) → place < count → All P (add place)) → All P (joined add count)
all-joined P add zero each = All-nil P
all-joined P add (suc count) each =
    All-append P (joined add count) (add count) (all-joined P add count (λ place lt. each place (omega (arith, lt))))
    (each count (omega arith))

-- a list in two parts
pub in-two : {T : Type 0} (P : List T → Type 0) (k : ℕ) (xs : List T) → P xs → P (take k xs ++ drop k xs)
in-two P k xs is = subst P (sym (take-append-drop k xs)) is

pairs-head : {T : Type 0} (R : T → T → Type 0) (x : T) (xs : List T) → AllPairs R (x ∷ xs) → All (R x) xs
pairs-head R x xs pairs k d lt = pairs 0 (suc k) d (omega arith) (omega (arith, lt))

pairs-tail : {T : Type 0} (R : T → T → Type 0) (x : T) (xs : List T) → AllPairs R (x ∷ xs) → AllPairs R xs
pairs-tail R x xs pairs i j d less lt = pairs (suc i) (suc j) d (omega (arith, less)) (omega (arith, lt))

pub all-left : {T : Type 0} (P : T → Type 0) (xs ys : List T) → All P (xs ++ ys) → All P xs
all-left P [] ys all = All-nil P
all-left P (x ∷ xs) ys all =
    All-cons P x xs (All-head P x (xs ++ ys) all) (all-left P xs ys (All-tail P x (xs ++ ys) all))

pub all-right : {T : Type 0} (P : T → Type 0) (xs ys : List T) → All P (xs ++ ys) → All P ys
all-right P [] ys all = all
all-right P (x ∷ xs) ys all = all-right P xs ys (All-tail P x (xs ++ ys) all)

-- what stands apart from all that is there comes first
pairs-before : {T : Type 0} (R : T → T → Type 0) (added after : List T) → All (λ x. (y : T) → R x y) added
    → AllPairs R after → AllPairs R (added ++ after)
pairs-before R [] after apart pairs = pairs
pairs-before R (x ∷ added) after apart pairs =
    AllPairs-cons R x (added ++ after)
    (λ k d lt. All-head (λ x. (y : _) → R x y) x added apart (get_or (added ++ after) k d))
    (pairs-before R added after (All-tail (λ x. (y : _) → R x y) x added apart) pairs)

-- ... or in between
pub pairs-between : {T : Type 0} (R : T → T → Type 0) (before added after : List T)
    → All (λ x. (y : T) → R x y) added → All (λ y. (x : T) → R x y) added → AllPairs R (before ++ after)
    → AllPairs R (before ++ (added ++ after))
pairs-between R [] added after left right pairs = pairs-before R added after left pairs
pairs-between R (x ∷ before) added after left right pairs =
    let others = pairs-head R x (before ++ after) pairs in
    AllPairs-cons R x (before ++ (added ++ after))
    (All-append (R x) before (added ++ after) (all-left (R x) before after others)
    (All-append (R x) added after
    (All-weaker (λ y. (x : _) → R x y) (R x) (λ y apart. apart x) added right)
    (all-right (R x) before after others)))
    (pairs-between R before added after left right (pairs-tail R x (before ++ after) pairs))

-- ---- objects that have more

pub record HasMore (a b : Object) : Type 0 where
  pub text : length a.text ≤ length b.text
  pub static_data : length a.static_data ≤ length b.static_data

inside-more : (a b : Object) (place : Place) (value : ℕ) → HasMore a b → IsInsideArea a place value
    → IsInsideArea b place value
inside-more a b places.Undefined value more inside = inside
inside-more a b places.Absolute value more inside = inside
inside-more a b places.Text value more inside = omega (arith, inside, more.text)
inside-more a b places.Data value more inside = omega (arith, inside, more.static_data)

pub symbol-more : (a b : Object) (s : Symbol) → HasMore a b → IsSoundSymbol a s → IsSoundSymbol b s
symbol-more a b s more is = record {
  name_size = is.name_size;
  name_text = is.name_text;
  name_bytes = is.name_bytes;
  named = is.named;
  found = is.found;
  inside = inside-more a b s.place s.value more is.inside;
}

pub field-more : (a b : Object) (area : Area) (kind offset : ℕ) → HasMore a b → HasField a area kind offset
    → HasField b area kind offset
field-more a b areas.Text kind offset more is = (omega (arith, is.0, more.text), is.1, is.2)
field-more a b areas.Data kind offset more is = (omega (arith, is.0, more.static_data), is.1)

pub same-object : (a b : Object) → a.text ≡ b.text → a.static_data ≡ b.static_data → a.symbols ≡ b.symbols
    → a.relocs ≡ b.relocs → IsSoundObject a → IsSoundObject b
same-object a b text static_data symbols relocs sound =
    let one = ap length text in
    let two = ap length static_data in
    let count = ap length symbols in
    let more : HasMore a b = record { text = omega (arith, one); static_data = omega (arith, two) } in
    record {
      words = subst (λ (n : ℕ). n % 4 ≡ 0) one sound.words;
      symbols = All-weaker (IsSoundSymbol a) (IsSoundSymbol b) (λ s is. symbol-more a b s more is) b.symbols
          (subst (All (IsSoundSymbol a)) symbols sound.symbols);
      definitions = subst (AllPairs (λ x y. are_rivals x y ≡ false)) symbols sound.definitions;
      relocs = All-weaker (IsSoundReloc a) (IsSoundReloc b)
          (λ r is. record {
            known = is.known;
            kept = is.kept;
            symbol = same-symbol r.symbol count is.symbol;
            field = field-more a b r.area r.kind r.offset more is.field;
          }) b.relocs
          (subst (All (IsSoundReloc a)) relocs sound.relocs);
    }
  where
    same-symbol : (symbol : Option ℕ) → length a.symbols ≡ length b.symbols → HasSymbol a symbol → HasSymbol b symbol
    same-symbol None count has = has
    same-symbol (Some k) count has = omega (arith, count, has)

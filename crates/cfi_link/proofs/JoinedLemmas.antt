-- Modules joined in order: one more, and what the first of them have.
use Rattle.std.proofs.Common.{◌≡◌, ◌∙◌, ℕ, ◌+◌, ◌<◌, ◌≤◌, List, [], ◌∷◌, ◌++◌, length, take, drop, get_or, map, fold, replicate, refl, sym, ap, subst, arith, length-append}
use Rattle.std.proofs.lemmas.List.{length-map, take_more, length-replicate, length-take-le, take-append-drop}
use Rattle.std.proofs.lemmas.List.Sums.{fold-append}
use Rattle.std.proofs.lemmas.List.FromFn.{length-enumerate_from}
use Rattle.cfi_aux.specs.declared.modules.Module.{Module}
use Rattle.elf_read.specs.declared.object.Symbol.{Symbol}
use Rattle.cfi_type_table.specs.Node.{Node}
use Rattle.cfi_aux.specs.declared.records.Function.{Function}
use Rattle.cfi_aux.specs.declared.records.Kind.{Kind}
use Rattle.cfi_link.specs.declared.joined.OwnReloc.{OwnReloc}
use Rattle.cfi_link.specs.declared.start.Start.{Start}
use Rattle.cfi_link.specs.Gap.{gap}
use Rattle.cfi_link.specs.Joined.{Joined, nothing, with_module, with_data, joined_of, start_of}

-- one module more
pub joined-more : (modules : List Module) (i : ℕ) (d : Module) → i < length modules
    → joined_of (take (i + 1) modules) ≡ with_module (joined_of (take i modules)) (get_or modules i d)
joined-more modules i d lt =
    ap joined_of (take_more modules i d lt) ∙ fold-append with_module nothing (take i modules) (get_or modules i d ∷ [])

-- all of them, by the first ones
pub joined-rest : (modules : List Module) (i : ℕ)
    → joined_of modules ≡ fold with_module (joined_of (take i modules)) (drop i modules)
joined-rest modules i =
    ap joined_of (sym (take-append-drop i modules)) ∙ fold-append with_module nothing (take i modules) (drop i modules)

-- ---- lengths

-- joined modules have no more of anything than these
pub record IsBelow (a b : Joined) : Type 0 where
  pub text : length a.text ≤ length b.text
  pub static_data : length a.static_data ≤ length b.static_data
  pub symbols : length a.symbols ≤ length b.symbols
  pub relocs : length a.relocs ≤ length b.relocs
  pub types : length a.types ≤ length b.types

-- the lengths with one module more
pub record HasLengths (joined : Joined) (m : Module) (next : Joined) : Type 0 where
  pub text : length next.text ≡ length joined.text + length m.object.text
  pub static_data : length next.static_data ≡ (start_of joined).static_data + length m.object.static_data
  pub symbols : length next.symbols ≡ length joined.symbols + length m.object.symbols
  pub relocs : length next.relocs ≡ length joined.relocs + length m.object.relocs
  pub types : length next.types ≡ length joined.types + length m.types
  pub functions : length next.functions ≡ length joined.functions + length m.records.functions
  pub branches : length next.branches ≡ length joined.branches + length m.records.branches
  pub count : next.count ≡ joined.count + 1

length-with_data : (old more : List ℕ) → length (with_data old more) ≡ length old + gap (length old) + length more
length-with_data old more =
    length-append (old ++ replicate (gap (length old)) 0) more
    ∙ ap (λ (n : ℕ). n + length more) (length-append old (replicate (gap (length old)) 0)
    ∙ ap (λ (n : ℕ). length old + n) (length-replicate (gap (length old)) 0))

length-mapped : {A B : Type 0} (old : List B) (f : A → B) (more : List A)
    → length (old ++ map f more) ≡ length old + length more
length-mapped old f more =
    length-append old (map f more) ∙ ap (λ (n : ℕ). length old + n) (length-map more f)

pub with_module-lengths : (joined : Joined) (m : Module) → HasLengths joined m (with_module joined m)
unfolding with_module
with_module-lengths joined m = record {
  text = length-append joined.text m.object.text;
  static_data = length-with_data joined.static_data m.object.static_data;
  symbols = length-mapped joined.symbols _ m.object.symbols;
  relocs = length-mapped joined.relocs _ _
      ∙ ap (λ (n : ℕ). length joined.relocs + n) (length-enumerate_from 0 m.object.relocs);
  types = length-mapped joined.types _ m.types;
  functions = length-mapped joined.functions _ m.records.functions;
  branches = length-mapped joined.branches _ m.records.branches;
  count = refl;
}

pub IsBelow-refl : (a : Joined) → IsBelow a a
IsBelow-refl a = record {
  text = omega arith;
  static_data = omega arith;
  symbols = omega arith;
  relocs = omega arith;
  types = omega arith;
}

pub IsBelow-trans : (a b c : Joined) → IsBelow a b → IsBelow b c → IsBelow a c
IsBelow-trans a b c one other = record {
  text = omega (arith, one.text, other.text);
  static_data = omega (arith, one.static_data, other.static_data);
  symbols = omega (arith, one.symbols, other.symbols);
  relocs = omega (arith, one.relocs, other.relocs);
  types = omega (arith, one.types, other.types);
}

pub with_module-below : (joined : Joined) (m : Module) → IsBelow joined (with_module joined m)
with_module-below joined m =
    let lengths = with_module-lengths joined m in
    record {
      text = omega (arith, lengths.text);
      static_data = omega (arith, lengths.static_data);
      symbols = omega (arith, lengths.symbols);
      relocs = omega (arith, lengths.relocs);
      types = omega (arith, lengths.types);
    }

pub fold-below : (modules : List Module) (joined : Joined) → IsBelow joined (fold with_module joined modules)
fold-below [] joined = IsBelow-refl joined
fold-below (m ∷ modules) joined =
    IsBelow-trans joined (with_module joined m) (fold with_module joined (m ∷ modules)) (with_module-below joined m)
    (fold-below modules (with_module joined m))

-- the first ones have no more than all
pub take-below : (modules : List Module) (i : ℕ) → IsBelow (joined_of (take i modules)) (joined_of modules)
take-below modules i =
    subst (λ (all : Joined). IsBelow (joined_of (take i modules)) all) (sym (joined-rest modules i))
    (fold-below (drop i modules) (joined_of (take i modules)))

-- how many they are
fold-count : (modules : List Module) (joined : Joined)
    → (fold with_module joined modules).count ≡ joined.count + length modules
fold-count [] joined = omega arith
fold-count (m ∷ modules) joined =
    let next = fold-count modules (with_module joined m) in
    let one = (with_module-lengths joined m).count in
    omega (arith, next, one)

pub take-count : (modules : List Module) (i : ℕ) → i ≤ length modules → (joined_of (take i modules)).count ≡ i
take-count modules i le =
    let all = fold-count (take i modules) nothing in
    let taken = length-take-le i modules le in
    omega (arith, all, taken)

-- ---- what the code makes

unfoldable joined_by : (text static_data : List ℕ) (symbols : List Symbol) (relocs : List OwnReloc) (types : List Node)
    (functions : List Function) (branches : List Kind) (count : ℕ) → Joined
joined_by text static_data symbols relocs types functions branches count = record {
  text = text;
  static_data = static_data;
  symbols = symbols;
  relocs = relocs;
  types = types;
  functions = functions;
  branches = branches;
  count = count;
}

-- joined modules that have equal parts
pub same_joined : (a b : Joined) → a.text ≡ b.text → a.static_data ≡ b.static_data → a.symbols ≡ b.symbols
    → a.relocs ≡ b.relocs → a.types ≡ b.types → a.functions ≡ b.functions → a.branches ≡ b.branches
    → a.count ≡ b.count → a ≡ b
same_joined a b e1 e2 e3 e4 e5 e6 e7 e8 =
    let here : a ≡ joined_by a.text a.static_data a.symbols a.relocs a.types a.functions a.branches a.count =
    unfold joined_by in refl in
    let there : b ≡ joined_by b.text b.static_data b.symbols b.relocs b.types b.functions b.branches b.count =
    unfold joined_by in refl in
    cc

-- a list that was added, by equal starts, to an equal list
pub mapped_is : {A B : Type 0} (at : Start → A → B) (s t : Start) (old base new : List B) (xs ys : List A)
    → new ≡ old ++ map (at s) xs → s ≡ t → base ≡ old → xs ≡ ys → new ≡ base ++ map (at t) ys
mapped_is at s t old base new xs ys made start same items =
    made
    ∙ ap (λ z. old ++ map (at z) xs) start
    ∙ ap (λ z. z ++ map (at t) xs) (sym same)
    ∙ ap (λ z. base ++ map (at t) z) items

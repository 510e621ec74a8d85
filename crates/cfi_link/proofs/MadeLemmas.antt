-- What joined modules make: its parts, its faults, and that it breaks no rule.
use Rattle.std.proofs.Common.{◌≡◌, ◌∙◌, ℕ, ◌%◌, ◌<◌, ◌^◌, List, length, All, Option, Some, None, false, refl, sym, ap, subst, arith}
use Rattle.std.specs.Prelude.{IsTrue}
use Rattle.std.proofs.lemmas.Bool.Decides.{nat_tests}
use Rattle.std.proofs.lemmas.List.Elements.{All-weaker, recursion_from_All}
use Rattle.std.specs.List.{AllPairs}
use Rattle.std.proofs.Math.Path.{fun_ext}
use Rattle.elf_read.specs.declared.fault.Limit.{Limit}
use Rattle.elf_read.specs.declared.object.Symbol.{Symbol}
use Rattle.cfi_type_table.specs.Node.{Node}
use Rattle.cfi_type_table.specs.Kind.{has_arity}
use Rattle.cfi_type_table.specs.Spelling.{IsNode, NamesBelow, AreTypes}
use Rattle.cfi_aux.specs.declared.modules.Module.{Module}
use Rattle.cfi_aux.specs.Sound.{IsSoundModule}
use Rattle.elf_read.specs.Sound.{IsSoundSymbol, IsSoundReloc, are_rivals}
use Rattle.cfi_place.specs.Names.{Names}
use Rattle.cfi_link.specs.declared.joined.OwnReloc.{OwnReloc}
use Rattle.cfi_link.specs.Joined.{Joined}
use Rattle.cfi_link.specs.Chosen.{chosen_in, reaches_of, numbers_of}
use Rattle.cfi_link.specs.Applied.{applied_from, kept_in, by_area}
use Rattle.cfi_link.specs.Fault.{sizes_of, passed, relocated_by}
use Rattle.cfi_link.specs.Linked.{IsMadeOf, kept_relocs}
use Rattle.cfi_link.specs.inner.Made.{object_of, AreSound}
use Rattle.cfi_link.proofs.AppliedLemmas.{applied_same, kept_same}
use Rattle.cfi_link.proofs.LimitLemmas.{few}
use Rattle.cfi_link.proofs.SoundLemmas.{Holds, first}
use Rattle.cfi_link.proofs.OutputLemmas.{symbols_sound, symbols_apart, relocs_sound, length-in_order}

-- no value is there where each is refused
pub none_left : (found : Option Limit) → ((what : Limit) → found ≡ Some what → ⊥) → found ≡ None
none_left None never = refl
none_left (Some what) never = absurd (never what refl)

-- ---- the parts of what is made

-- where symbols lead, by names and symbols that are equal to those of joined modules
pub reaches_is : (joined : Joined) (chosen : Names) (symbols : List Symbol)
    → ((name : List ℕ) → chosen name ≡ chosen_in joined.symbols name) → symbols ≡ joined.symbols
    → reaches_of chosen symbols ≡ reaches_of (chosen_in joined.symbols) joined.symbols
reaches_is joined chosen symbols names same =
    ap (λ (f : Names). reaches_of f symbols) (fun_ext names)
    ∙ ap (λ (xs : List Symbol). reaches_of (chosen_in joined.symbols) xs) same

pub relocated_is : (joined : Joined) (chosen : Names) (symbols : List Symbol) (reaches : List (Option ℕ))
    (relocs : List OwnReloc) (text : List ℕ) → reaches ≡ reaches_of chosen symbols
    → ((name : List ℕ) → chosen name ≡ chosen_in joined.symbols name) → symbols ≡ joined.symbols
    → relocs ≡ joined.relocs → text ≡ joined.text → relocated_by joined ≡ applied_from reaches relocs text
relocated_is joined chosen symbols reaches relocs text found names same others bytes =
    applied_same reaches (reaches_of (chosen_in joined.symbols) joined.symbols) relocs joined.relocs text joined.text
    (found ∙ reaches_is joined chosen symbols names same) others bytes

pub relocs_is : (joined : Joined) (chosen : Names) (symbols : List Symbol) (reaches : List (Option ℕ))
    (numbers : List ℕ) (relocs : List OwnReloc) → reaches ≡ reaches_of chosen symbols
    → ((name : List ℕ) → chosen name ≡ chosen_in joined.symbols name) → symbols ≡ joined.symbols
    → numbers ≡ numbers_of symbols → relocs ≡ joined.relocs
    → by_area (kept_in reaches numbers relocs) ≡ kept_relocs joined
relocs_is joined chosen symbols reaches numbers relocs found names same counted others =
    ap by_area (kept_same reaches (reaches_of (chosen_in joined.symbols) joined.symbols) numbers
    (numbers_of joined.symbols) relocs joined.relocs (found ∙ reaches_is joined chosen symbols names same)
    (counted ∙ ap numbers_of same) others)

-- ---- what is made breaks no rule

-- a node has few fields
arity_small : (kind n : ℕ) → IsTrue (has_arity kind n) → n < 2 ^ 32
arity_small kind n arity = grind (arith, nat_tests)

pub fields_small : (types : List Node) → All IsNode types → All (λ x. length x.fields < 2 ^ 32) types
fields_small types good =
    All-weaker IsNode (λ x. length x.fields < 2 ^ 32)
    (λ x one. arity_small x.kind (length x.fields) one.arity) types good

-- what is made breaks no rule
pub sound_made : (joined : Joined) (m : Module) → AreSound joined → passed (sizes_of joined) ≡ None
    → length m.object.text ≡ length joined.text → IsMadeOf joined m → IsSoundModule m
sound_made joined m sound none size made =
    let a = object_of joined in
    let b = m.object in
    let chosen = chosen_in joined.symbols in
    let count : length b.symbols ≡ length a.symbols =
    ap length made.symbols ∙ length-in_order chosen joined.symbols in
    let holds : Holds first a b = record {
      whole = refl;
      text = omega (arith, size);
      static_data = omega (arith, ap length made.static_data);
      symbols = omega (arith, count);
    } in
    record {
      object_sound = record {
        words = subst (λ (n : ℕ). n % 4 ≡ 0) (sym size) sound.words;
        symbols = subst (All (IsSoundSymbol b)) (sym made.symbols)
            (symbols_sound a b holds chosen joined.symbols sound.symbols);
        definitions = subst (AllPairs (λ x y. are_rivals x y ≡ false)) (sym made.symbols)
            (symbols_apart chosen joined.symbols);
        relocs = subst (All (IsSoundReloc b)) (sym made.relocs)
            (relocs_sound a b holds (reaches_of chosen joined.symbols) joined.relocs count sound.relocs);
      };
      table = subst AreTypes (sym made.types) (record {
        count = (few (sizes_of joined) none).types;
        nodes = recursion_from_All IsNode joined.types sound.nodes;
        names = recursion_from_All (NamesBelow (length joined.types)) joined.types sound.names;
      });
    }

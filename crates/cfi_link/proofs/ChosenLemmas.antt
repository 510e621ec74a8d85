-- The definitions among the first symbols, and among one more.
use Rattle.std.proofs.Common.{◌≡◌, ◌∙◌, ℕ, ◌+◌, ◌<◌, ◌≤◌, ◌&&◌, Bool, true, false, cond, List, [], ◌∷◌, ◌++◌, length, take, drop, get_or, map, filter, Option, Some, None, is_some, refl, sym, ap, inl, inr, arith}
use Rattle.std.specs.List.{enumerate_from}
use Rattle.std.specs.Option.{option_or}
use Rattle.std.proofs.lemmas.Bool.{cases_Bool}
use Rattle.std.proofs.lemmas.List.{take_more, take_all, at_drop_more, append-nil, map-append, drop_all, length-take-le}
use Rattle.std.proofs.lemmas.List.Elements.{filter-append}
use Rattle.elf_read.specs.declared.object.Symbol.{Symbol}
use Rattle.cfi_place.specs.Names.{Names, find_in, first_in}
use Rattle.cfi_place.proofs.NameLemmas.{first_in-push, with_name-same}
use Rattle.cfi_link.specs.declared.fault.LinkFault.{LinkFault}
use Rattle.cfi_link.specs.declared.fault.LinkFault.TheVariants as faults
use Rattle.cfi_link.specs.declared.chosen.Definitions.{Definitions}
use Rattle.cfi_link.specs.Chosen.{defines_global, defines_weak, names_with, global_in, weak_in, chosen_in, is_second, twice_from, twice_in}
use Rattle.cfi_link.specs.inner.Kept.{with_defined, chosen_by, IsTwice}

-- ---- symbols with their numbers

enumerate-push : {A : Type 0} (n : ℕ) (xs : List A) (x : A)
    → enumerate_from n (xs ++ x ∷ []) ≡ enumerate_from n xs ++ (n + length xs, x) ∷ []
enumerate-push n [] x =
    let same : n ≡ n + 0 = omega arith in
    ap (λ (k : ℕ). (k, x) ∷ []) same
enumerate-push n (y ∷ ys) x =
    let same : n + 1 + length ys ≡ n + length (y ∷ ys) = omega arith in
    ap (λ rest. (n, y) ∷ rest) (enumerate-push (n + 1) ys x)
    ∙ ap (λ (k : ℕ). (n, y) ∷ (enumerate_from (n + 1) ys ++ (k, x) ∷ [])) same

pub enumerate-more : {A : Type 0} (xs : List A) (k : ℕ) (d : A) → k < length xs
    → enumerate_from 0 (take (k + 1) xs) ≡ enumerate_from 0 (take k xs) ++ (k, get_or xs k d) ∷ []
enumerate-more xs k d lt =
    let taken : 0 + length (take k xs) ≡ k = omega (arith, length-take-le k xs (omega arith)) in
    ap (enumerate_from 0) (take_more xs k d lt)
    ∙ enumerate-push 0 (take k xs) (get_or xs k d)
    ∙ ap (λ (n : ℕ). enumerate_from 0 (take k xs) ++ (n, get_or xs k d) ∷ []) taken

-- ---- names of definitions

abbrev named : ℕ × Symbol → List ℕ × ℕ
named s = (s.1.name, s.0)

last_name : (test : Symbol → Bool) (k : ℕ) (s : Symbol)
    → map named (filter (λ p. test p.1) ((k, s) ∷ [])) ≡ cond (test s) ((s.name, k) ∷ []) []
last_name test k s = elim (cases_Bool (test s)) [ inl passes ↦ rw passes refl | inr other ↦ rw other refl ]

names_with-more : (test : Symbol → Bool) (symbols : List Symbol) (k : ℕ) (d : Symbol) → k < length symbols
    → names_with test (take (k + 1) symbols)
    ≡ names_with test (take k symbols) ++ cond (test (get_or symbols k d)) (((get_or symbols k d).name, k) ∷ []) []
names_with-more test symbols k d lt =
    let s = get_or symbols k d in
    let before = enumerate_from 0 (take k symbols) in
    ap (λ (es : List (ℕ × Symbol)). map named (filter (λ p. test p.1) es)) (enumerate-more symbols k d lt)
    ∙ ap (map named) (filter-append (λ (p : ℕ × Symbol). test p.1) before ((k, s) ∷ []))
    ∙ map-append named (filter (λ (p : ℕ × Symbol). test p.1) before)
    (filter (λ (p : ℕ × Symbol). test p.1) ((k, s) ∷ []))
    ∙ ap (λ (es : List (List ℕ × ℕ)). names_with test (take k symbols) ++ es) (last_name test k s)

first_in-defined : (pairs : List (List ℕ × ℕ)) (defines : Bool) (x : List ℕ) (n : ℕ) (name : List ℕ)
    → first_in (pairs ++ cond defines ((x, n) ∷ []) []) name ≡ with_defined defines x n (first_in pairs) name
first_in-defined pairs true x n name = first_in-push pairs x n name
first_in-defined pairs false x n name = ap (λ (es : List (List ℕ × ℕ)). first_in es name) (append-nil pairs)

with_defined-same : (defines : Bool) (x : List ℕ) (n : ℕ) (f g : Names) → ((name : List ℕ) → f name ≡ g name)
    → (name : List ℕ) → with_defined defines x n f name ≡ with_defined defines x n g name
with_defined-same true x n f g same name = with_name-same x n f g same name
with_defined-same false x n f g same name = same name

-- names with one symbol more
names-more : (test : Symbol → Bool) (symbols : List Symbol) (k : ℕ) (d : Symbol) → k < length symbols
    → (old new : Names) → ((name : List ℕ) → old name ≡ first_in (names_with test (take k symbols)) name)
    → ((name : List ℕ) → new name ≡ with_defined (test (get_or symbols k d)) (get_or symbols k d).name k old name)
    → (name : List ℕ) → new name ≡ first_in (names_with test (take (k + 1) symbols)) name
names-more test symbols k d lt old new was added name =
    let s = get_or symbols k d in
    added name
    ∙ with_defined-same (test s) s.name k old (first_in (names_with test (take k symbols))) was name
    ∙ sym (first_in-defined (names_with test (take k symbols)) (test s) s.name k name)
    ∙ ap (λ (es : List (List ℕ × ℕ)). first_in es name) (sym (names_with-more test symbols k d lt))

-- ---- what the code's names are

-- those of the first symbols
pub record HasDefinitions (symbols : List Symbol) (k : ℕ) (d : Definitions) : Type 0 where
  pub globals : (name : List ℕ) → find_in d.globals name ≡ global_in (take k symbols) name
  pub weaks : (name : List ℕ) → find_in d.weaks name ≡ weak_in (take k symbols) name
  pub once : twice_from (take k symbols) (drop k symbols) ≡ twice_in symbols

pub has_none : (symbols : List Symbol) (d : Definitions) → ((name : List ℕ) → find_in d.globals name ≡ None)
    → ((name : List ℕ) → find_in d.weaks name ≡ None) → HasDefinitions symbols 0 d
has_none symbols d globals weaks = record { globals = globals; weaks = weaks; once = refl }

second-same : (f g : Names) (s : Symbol) → f s.name ≡ g s.name → is_second f s ≡ is_second g s
second-same f g s same = ap (λ (found : Option ℕ). defines_global s && is_some found) same

-- the next symbol, where it is no second one and where it is
twice-next : (before : List Symbol) (symbols : List Symbol) (k : ℕ) (d : Symbol) → k < length symbols
    → twice_from before (drop k symbols)
    ≡ cond (is_second (global_in before) (get_or symbols k d)) (Some (get_or symbols k d).name)
    (twice_from (before ++ get_or symbols k d ∷ []) (drop (k + 1) symbols))
unfolding twice_from
twice-next before symbols k d lt = at_drop_more (λ (rest : List Symbol). twice_from before rest) symbols k d lt

pub has_more : (symbols : List Symbol) (k : ℕ) (old new : Definitions) (s : Symbol) → k < length symbols
    → s ≡ get_or symbols k s → HasDefinitions symbols k old
    → ((name : List ℕ) → find_in new.globals name ≡ with_defined (defines_global s) s.name k (find_in old.globals) name)
    → ((name : List ℕ) → find_in new.weaks name ≡ with_defined (defines_weak s) s.name k (find_in old.weaks) name)
    → is_second (find_in old.globals) s ≡ false → HasDefinitions symbols (k + 1) new
has_more symbols k old new s lt is has globals weaks once =
    let here = get_or symbols k s in
    let first : is_second (global_in (take k symbols)) here ≡ false =
    ap (is_second (global_in (take k symbols))) (sym is)
    ∙ sym (second-same (find_in old.globals) (global_in (take k symbols)) s (has.globals s.name)) ∙ once in
    record {
      globals = names-more defines_global symbols k s lt (find_in old.globals) (find_in new.globals) has.globals
          (rw is at globals);
      weaks = names-more defines_weak symbols k s lt (find_in old.weaks) (find_in new.weaks) has.weaks (rw is at weaks);
      once = ap (λ (before : List Symbol). twice_from before (drop (k + 1) symbols)) (take_more symbols k s lt)
          ∙ sym (twice-next (take k symbols) symbols k s lt
          ∙ ap (λ (b : Bool). cond b (Some here.name) (twice_from (take k symbols ++ here ∷ []) (drop (k + 1) symbols)))
          first)
          ∙ has.once;
    }

-- the next symbol is a second one
pub twice-here : (symbols : List Symbol) (k : ℕ) (old : Definitions) (s : Symbol) → k < length symbols
    → s ≡ get_or symbols k s → HasDefinitions symbols k old → is_second (find_in old.globals) s ≡ true
    → twice_in symbols ≡ Some s.name
twice-here symbols k old s lt is has second =
    let here = get_or symbols k s in
    let there : is_second (global_in (take k symbols)) here ≡ true =
    ap (is_second (global_in (take k symbols))) (sym is)
    ∙ sym (second-same (find_in old.globals) (global_in (take k symbols)) s (has.globals s.name)) ∙ second in
    sym has.once
    ∙ twice-next (take k symbols) symbols k s lt
    ∙ ap (λ (b : Bool). cond b (Some here.name) (twice_from (take k symbols ++ here ∷ []) (drop (k + 1) symbols))) there
    ∙ ap (λ (x : Symbol). Some x.name) (sym is)

-- a refusal for a name is one for the first that is defined twice
pub twice_fault : (fault : LinkFault) (here all : Option (List ℕ)) → IsTwice fault here
    → ((name : List ℕ) → here ≡ Some name → all ≡ Some name) → IsTwice fault all
twice_fault faults.NoText here all is more = is
twice_fault (faults.NotUnit number offset) here all is more = is
twice_fault (faults.TooMany what) here all is more = is
twice_fault (faults.Twice name) here all is more = more name is
twice_fault (faults.BadReloc number k) here all is more = is
twice_fault faults.Memory here all is more = is

pub twice_is : (symbols : List Symbol) (k : ℕ) (old : Definitions) (s : Symbol) → k < length symbols
    → s ≡ get_or symbols k s → HasDefinitions symbols k old → (name : List ℕ)
    → cond (is_second (find_in old.globals) s) (Some s.name) None ≡ Some name → twice_in symbols ≡ Some name
twice_is symbols k old s lt is has name due =
    elim (cases_Bool (is_second (find_in old.globals) s)) [
      | inl second ↦ twice-here symbols k old s lt is has second ∙ rw second at due
      | inr first ↦ let clash = rw first at due in cc
    ]

-- ---- the names of all symbols

pub has_all : (symbols : List Symbol) (k : ℕ) (d : Definitions) → length symbols ≤ k → HasDefinitions symbols k d
    → (name : List ℕ) → chosen_by d name ≡ chosen_in symbols name
has_all symbols k d le has name =
    let whole = take_all k symbols le in
    let globals : find_in d.globals name ≡ global_in symbols name =
    has.globals name ∙ ap (λ (xs : List Symbol). global_in xs name) whole in
    let weaks : find_in d.weaks name ≡ weak_in symbols name =
    has.weaks name ∙ ap (λ (xs : List Symbol). weak_in xs name) whole in
    ap (λ (found : Option ℕ). option_or found (find_in d.weaks name)) globals
    ∙ ap (λ (found : Option ℕ). option_or (global_in symbols name) found) weaks

pub once_all : (symbols : List Symbol) (k : ℕ) (d : Definitions) → length symbols ≤ k → HasDefinitions symbols k d
    → twice_in symbols ≡ None
unfolding twice_from
once_all symbols k d le has =
    sym has.once ∙ ap (λ (rest : List Symbol). twice_from (take k symbols) rest) (drop_all k symbols le)

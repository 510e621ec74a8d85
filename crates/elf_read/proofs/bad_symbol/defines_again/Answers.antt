-- The map gains the name that the symbol defines, and has told whether it was there.
use Rattle.std.proofs.Common.{◌≡◌, true, ◌&&◌, ◌||◌, is_some, ◌∙◌, ap, refl}
use Rattle.std.proofs.lemmas.Map.Text.{btree_map_updates_str}
use Rattle.std.specs.BTreeMap.{get_by}
use Rattle.std.specs.Cmp.Lexicographic.{slice_cmp}
use Rattle.std.specs.Ordering.{nat_cmp}
use Rattle.std.specs.Str.{bytes_eq}
use Rattle.elf_read.specs.Places.{some_below}
use Rattle.elf_read.specs.Symbol.{is_definition_at, is_second_definition, defines, name_of}
use Rattle.elf_read.proofs.SymbolLemmas.{looked_up}
use Rattle.elf_read.proofs.bad_symbol.defines_again.Goals as goal

pub returns-in-Some-clause-same : goal.returns-in-Some-clause-same
unfolding is_second_definition
returns-in-Some-clause-same c =
    let bytes = c.args.table.now in
    let looked : c.is_some.result ≡ is_some (get_by (λ key. slice_cmp nat_cmp c.in-Some.name.now key.now)
    c.args.defined.now) = c.is_some.ensures ∙ ap is_some c.in_ok-insert.ensures.old in
    let named = ap (λ q. is_some (get_by (λ key. slice_cmp nat_cmp q key.now) c.args.defined.now)) c.in-Some.ensures.some in
    let known = c.requires.defined (name_of bytes c.args.k) in
    let found : c.is_some.result ≡ some_below (defines bytes (name_of bytes c.args.k)) c.args.k =
    looked ∙ named ∙ known in
    let def : is_definition_at bytes c.args.k ≡ true = cc in
    rw def found

pub returns-in-Some-clause-ok : goal.returns-in-Some-clause-ok
unfolding defines
returns-in-Some-clause-ok c = λ q.
    let bytes = c.args.table.now in
    let name = c.in-Some.name.now in
    let old = get_by (λ key. slice_cmp nat_cmp q key.now) c.args.defined.now in
    let def : is_definition_at bytes c.args.k ≡ true = cc in
    let named : name ≡ name_of bytes c.args.k = c.in-Some.ensures.some in
    let gains = btree_map_updates_str name c.args.defined.now c.insert.new.self _ c.in_ok-insert.ensures.updates q in
    let same : bytes_eq name q ≡ (is_definition_at bytes c.args.k && bytes_eq (name_of bytes c.args.k) q) =
    rw (def, named) refl in
    ap is_some gains ∙ looked_up (bytes_eq name q) old c.args.k ∙ ap (λ b. is_some old || b) same
    ∙ ap (λ b. b || is_definition_at bytes c.args.k && bytes_eq (name_of bytes c.args.k) q) (c.requires.defined q)

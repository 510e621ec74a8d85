use Rattle.std.proofs.Common.{◌≡◌, ◌∙◌, ◌++◌, ℕ, List, Option, length, sym, ap, subst, rules}
use Rattle.cfi_import.specs.declared.start.Start.{Start}
use Rattle.cfi_import.specs.Imports.{imports_of, names_of, place_of}
use Rattle.cfi_import.specs.Start.{start_of}
use Rattle.cfi_import.specs.Stubs.{stub_nodes}
use Rattle.cfi_import.specs.Stubbed.{with_cells}
use Rattle.cfi_import.specs.inner.Found.{place_in}
use Rattle.cfi_import.specs.inner.Made.{IsReady, AreRecordsWith, IsObjectWith}
use Rattle.cfi_import.specs.inner.Room.{HasRoom}
use Rattle.cfi_import.proofs.MadeLemmas.{has-room, is-ready, are-writable}
use Rattle.cfi_import.proofs.PartLemmas.{begins-by, some-by, few-by, records-by, cells-made, made_stubbed}
use Rattle.cfi_import.proofs.stubbed.make.Goals as goal

pub records_with-requires-clause-room : goal.records_with-requires-clause-room
records_with-requires-clause-room c =
    let m = c.args.source.now in
    let names = c.args.found.now.names.items in
    let number : c.len.result ≡ length names = search rules in
    let begins = begins-by m names c.len.result c.start_of-start.result c.requires.names number c.start_of-start.ensures in
    subst HasRoom (sym begins)
    (has-room m (imports_of m.object) (some-by m names c.requires.names c.requires.some) (few-by m c.requires.within))

pub object_with-requires-clause-ready : goal.object_with-requires-clause-ready
object_with-requires-clause-ready c =
    let m = c.args.source.now in
    let names = c.args.found.now.names.items in
    let number : c.len.result ≡ length names = search rules in
    let begins = begins-by m names c.len.result c.start_of-start.result c.requires.names number c.start_of-start.ensures in
    let find = place_in c.deref-2.result.now in
    subst (λ (s : Start). IsReady m.object s find) (sym begins)
    (is-ready m (imports_of m.object) find c.requires.sound (some-by m names c.requires.names c.requires.some)
    (few-by m c.requires.within)
    (λ k. ap (λ (ps : List (Option ℕ)). place_in ps k) c.deref-2.ensures.value ∙ c.requires.places k))

pub object_with-requires-clause-written : goal.object_with-requires-clause-written
object_with-requires-clause-written c =
    let m = c.args.source.now in
    let names = c.args.found.now.names.items in
    let number : c.len.result ≡ length names = search rules in
    let begins = begins-by m names c.len.result c.start_of-start.result c.requires.names number c.start_of-start.ensures in
    are-writable m c.in_ok-types.types c.in_ok-records.records c.requires.sound c.requires.written
    (some-by m names c.requires.names c.requires.some) (few-by m c.requires.within)
    (c.in_ok-types.ensures ∙ ap (λ (s : Start). m.types ++ stub_nodes s) begins)
    (records-by m c.start_of-start.result (start_of m (length (imports_of m.object))) c.deref.result.now
    (names_of (imports_of m.object)) c.in_ok-records.records begins (c.deref.ensures.value ∙ c.requires.names)
    c.in_ok-records.ensures)

pub invariant_of-result : goal.invariant_of-result
invariant_of-result c =
    let m = c.args.source.now in
    let names = c.args.found.now.names.items in
    let number : c.len.result ≡ length names = search rules in
    let begins = begins-by m names c.len.result c.start_of-start.result c.requires.names number c.start_of-start.ensures in
    record {
      cells = cells-made m (imports_of m.object) c.in_ok-records.records c.in_ok-object.object.static_data
          (c.in_ok-object.ensures.static_data
          ∙ ap (λ (s : Start). with_cells s.count m.object.static_data) begins)
          (records-by m c.start_of-start.result (start_of m (length (imports_of m.object))) c.deref.result.now
          (names_of (imports_of m.object)) c.in_ok-records.records begins (c.deref.ensures.value ∙ c.requires.names)
          c.in_ok-records.ensures);
    }

pub returns : goal.returns
returns c =
    let m = c.args.source.now in
    let names = c.args.found.now.names.items in
    let number : c.len.result ≡ length names = search rules in
    let begins = begins-by m names c.len.result c.start_of-start.result c.requires.names number c.start_of-start.ensures in
    let find = place_in c.deref-2.result.now in
    made_stubbed m (record {
      object = c.in_ok-object.object;
      types = c.in_ok-types.types;
      records = c.in_ok-records.records;
      cells = _;
    }) find (some-by m names c.requires.names c.requires.some)
    (λ k. ap (λ (ps : List (Option ℕ)). place_in ps k) c.deref-2.ensures.value ∙ c.requires.places k)
    (c.in_ok-types.ensures ∙ ap (λ (s : Start). m.types ++ stub_nodes s) begins)
    (records-by m c.start_of-start.result (start_of m (length (imports_of m.object))) c.deref.result.now
    (names_of (imports_of m.object)) c.in_ok-records.records begins (c.deref.ensures.value ∙ c.requires.names)
    c.in_ok-records.ensures)
    (subst (λ (s : Start). IsObjectWith s find c.in_ok-types.types c.in_ok-records.records m.object
    c.in_ok-object.object) begins c.in_ok-object.ensures)

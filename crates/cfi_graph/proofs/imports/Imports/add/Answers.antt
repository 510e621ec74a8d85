use Rattle.std.proofs.Common.{◌≡◌, true, Some, None, is_some, if◌then◌else◌}
use Rattle.std.proofs.lemmas.Map.Text.{btree_map_updates_str}
use Rattle.std.specs.BTreeMap.{get_by}
use Rattle.std.specs.Cmp.Lexicographic.{slice_cmp}
use Rattle.std.specs.Ordering.{nat_cmp}
use Rattle.std.specs.Str.{bytes_eq}
use Rattle.cfi_graph.specs.inner.Imports.{imports_in}
use Rattle.cfi_graph.proofs.ImportLemmas.{none_of, name_kept, name_given}
use Rattle.cfi_graph.proofs.imports.Imports.add.Goals as goal

pub returns-then-contains_key : goal.returns-then-contains_key
unfolding imports_in
returns-then-contains_key c = λ other.
    let there : is_some (imports_in c.args.self.now c.args.name.now) ≡ true = cc in
    name_kept (imports_in c.args.self.now) c.args.name.now other c.args.entry there

pub returns : goal.returns
unfolding imports_in
returns c = λ other.
    let name = c.args.name.now in
    let new = c.insert.new.self in
    let missing : imports_in c.args.self.now name ≡ None =
    none_of (imports_in c.args.self.now name) (λ is. cc) in
    let gains : get_by (λ key. slice_cmp nat_cmp other key.now) new
    ≡ (if bytes_eq name other then Some c.args.entry else imports_in c.args.self.now other) =
    btree_map_updates_str name c.args.self.now.entries new _ c.in_ok-insert.ensures.updates other in
    name_given (imports_in c.args.self.now) (imports_in (record { entries = new })) name other c.args.entry missing gains

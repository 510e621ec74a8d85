use Rattle.std.proofs.Common.{◌≡◌, ◌++◌, List, [], ◌∷◌, ℕ, length, All, ap, sym, subst, ◌∙◌, append_assoc, arith}
use Rattle.std.specs.Vec.Iter.{into_iter_items}
use Rattle.std.proofs.lemmas.List.Elements.{All-push}
use Rattle.std.proofs.lemmas.Grind.{common_steps}
use Rattle.std.proofs.lemmas.Result.{err_from_is_err_and}
use Rattle.cfi_aux.specs.Sound.{IsSoundModule}
use Rattle.cfi_commands.specs.Reading.{IsModuleFile, IsFileFault}
use Rattle.cfi_commands.specs.Fault.{IsOfFile}
use Rattle.cfi_commands.specs.Modules.{AreModuleFiles}
use Rattle.cfi_commands.proofs.FileLemmas.{all_taken}
use Rattle.cfi_commands.proofs.ModulesLemmas.{more_modules, modules_fault}
use Rattle.cfi_commands.proofs.modules.read_modules.Goals as goal

-- the file is no module, and those before it are
pub returns-in_err-found-clause-fault : goal.returns-in_err-found-clause-fault
returns-in_err-found-clause-fault c =
    let p = err_from_is_err_and c.from_residual.result c.from_residual.ensures.1 in
    let is = c.loop-file.invariant in
    let done = c.loop-file.yielded in
    let all = is.left ∙ ap (λ (files : List (List ℕ)). done ++ files) c.in-Some.ensures.steps.0 in
    let modules = c.loop-file.modules.items in
    let fault = c.in_err-found.field-0.0 in
    let count : c.len.result ≡ length modules = omega (arith, c.len.ensures, c.loop-file.modules.ok) in
    let told =
    subst (λ (bytes : List ℕ). IsOfFile (length modules) (IsFileFault bytes) fault) c.as_slice.ensures
    (subst (λ (n : ℕ). IsOfFile n (IsFileFault c.as_slice.result.now) fault) count
    c.in_err-found.ensures.fault) in
    rw (p.1, p.2, all)
    (modules_fault done (into_iter_items c.next.new.self) c.in-Some.file modules is.are fault told)

-- the file is a module too
pub loop-file-preserved : goal.loop-file-preserved
loop-file-preserved c =
    let is = c.loop-file.invariant in
    let done = c.loop-file.yielded in
    let modules = c.loop-file.modules.items in
    let found = c.in_ok-found.found in
    let items = c.in_ok-push.ensures.items in
    record {
      are = rw items (more_modules done modules c.in-Some.file found is.are
          (subst (λ (bytes : List ℕ). IsModuleFile bytes found) c.as_slice.ensures c.in_ok-found.ensures.ok));
      sound = subst (All IsSoundModule) (sym items)
          (All-push IsSoundModule modules found is.sound c.in_ok-found.ensures.sound);
      left = is.left ∙ ap (λ (files : List (List ℕ)). done ++ files) c.in-Some.ensures.steps.0
          ∙ sym (append_assoc done (c.in-Some.file ∷ []) (into_iter_items c.next.new.self));
    }

-- what was read of the files can be taken
pub returns-clause-taken : goal.returns-clause-taken
returns-clause-taken c =
    let files = c.args.files in
    let modules = c.from_vec.result in
    let are : AreModuleFiles files modules = grind (arith, common_steps) in
    let sound : All IsSoundModule modules = grind (arith, common_steps) in
    all_taken files modules are sound

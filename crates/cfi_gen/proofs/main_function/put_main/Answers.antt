use Rattle.std.proofs.Common.{◌++◌, ◌∙◌, sym}
use Rattle.std.specs.Prelude.{string_bytes}
use Rattle.std.proofs.lemmas.List.{append-nil}
use Rattle.cfi_gen.specs.Source.{main_head}
use Rattle.cfi_gen.proofs.main_function.put_main.Goals as goal

-- no module is opened yet
pub loop-before-init : goal.loop-before-init
loop-before-init c = c.in_ok-put_head.ensures ∙ sym (append-nil (string_bytes c.args.text.now ++ main_head))

use Rattle.std.proofs.Common.{rules, ◌≡◌, ℕ, List, replicate, slice_set, ◌∙◌, ap}
use Rattle.cfi_word.specs.declared.lists.Image.{Image}
use Rattle.cfi_world.specs.Example.{open_image}
use Rattle.cfi_calls.proofs.worlds.image.Goals as goal

abbrev image_by : (tary bary code : List ℕ) → Image
image_by tary bary code = record { tary = tary; bary = bary; code = code }

pub returns : goal.returns
returns c =
    let zeros : c.in_ok-code.code.items ≡ replicate 1024 0 = search rules in
    let tary : c.in_ok-vec.field-0.items ≡ replicate 1024 0 = search rules in
    let bary : c.in_ok-vec-2.field-0.items ≡ replicate 74 16383 = search rules in
    let code : c.from_vec-3.result ≡ open_image.code =
    c.from_vec-3.ensures
    ∙ ap (λ xs. slice_set (slice_set (slice_set (slice_set xs 16 0x400893) 17 0x73) 18 0x6f) 19 0x6f) zeros in
    ap (λ xs. image_by xs c.from_vec-2.result c.from_vec-3.result) (c.from_vec.ensures ∙ tary)
    ∙ ap (λ xs. image_by open_image.tary xs c.from_vec-3.result) (c.from_vec-2.ensures ∙ bary)
    ∙ ap (image_by open_image.tary open_image.bary) code

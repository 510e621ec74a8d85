-- The image of the modules of a series.
use Rattle.std.specs.Prelude.{List}
use Rattle.cfi_aux.specs.declared.placed.Placed.{Placed}
use Rattle.cfi_class.specs.Labels.{AreOrderedBySlot}
use Rattle.cfi_word.specs.declared.lists.Image.{Image}
use Rattle.cfi_graph.specs.Direct.{DirectEdge}
use Rattle.cfi_policy.specs.Image.{IsImage}
use Rattle.cfi_modules.specs.Series.{Series, live_in}

-- the image of the modules of a series, under the policy of all
abbrev pub IsImageOfSeries : Series → Image → Type 0
IsImageOfSeries series image = IsImage (DirectEdge series.placed) series.placed series.code_words image

-- the one under the policy of the live ones
abbrev pub IsLiveImageOf : Series → Image → Type 0
IsLiveImageOf series image = IsImage (DirectEdge (live_in series)) series.placed series.code_words image

-- its classes are numbered from 1 in the order of their least slots, so that it is the only one
abbrev pub IsOrderedImage : List Placed → Image → Type 0
IsOrderedImage ms image = AreOrderedBySlot (DirectEdge ms) image.bary

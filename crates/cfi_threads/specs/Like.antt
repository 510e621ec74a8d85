-- What a refresh takes for granted.
use Rattle.std.specs.Prelude.{◌≡◌, List}
use Rattle.cfi_word.specs.declared.lists.Image.{Image}
use Rattle.cfi_model.specs.declared.history.Entry.{Entry}
use Rattle.cfi_tables.specs.Keeping.{last_of}

-- the last entry has this image and the policy 0
abbrev pub IsLike : Image → List Entry → Type 0
IsLike image entries = (image ≡ (last_of entries).image) × ((last_of entries).policy ≡ 0)

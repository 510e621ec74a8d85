-- What a shelf and a sink in memory hold, and which of their calls fail. Calls are numbered from 0.
use Rattle.std.specs.Prelude.{ℕ, List, reverse, find, Option, Some, String, Vec, string_bytes, bytes_eq}
use Rattle.std.specs.Option.{option_map}
use Rattle.std.specs.declared.alloc.Global.{Global}
use Rattle.cfi_io.specs.Files.{Files}
use Rattle.cfi_io.specs.Seen.{ShelfView, SinkView}
use Rattle.cfi_io.specs.declared.mem_shelf.MemShelf.{MemShelf}
use Rattle.cfi_io.specs.declared.mem_sink.MemSink.{MemSink}
use Rattle.cfi_io.specs.declared.undone.Undone.{Undone}

-- the files of these pairs of name and bytes: of two pairs with one name the later counts
abbrev pub files_of : List (String Global × Vec ℕ Global) → Files
files_of pairs name =
    option_map (λ pair. pair.1.items) (find (λ pair. bytes_eq (string_bytes pair.0) name) (reverse pairs))

-- the files that the shelf holds
abbrev pub files_held : MemShelf → Files
files_held shelf = files_of shelf.files.items

-- how many calls of the shelf were made
abbrev pub shelf_calls : MemShelf → ℕ
shelf_calls shelf = shelf.calls.made

-- the numbers of the shelf's calls that fail
abbrev pub shelf_fails : MemShelf → List ℕ
shelf_fails shelf = shelf.calls.fails.items

-- how many faults of the shelf there were, and how many misses
abbrev pub shelf_faults : MemShelf → ℕ
shelf_faults shelf = shelf.calls.faults

-- a shelf has counted its calls that were to fail
abbrev pub shelf_misses : MemShelf → ℕ
shelf_misses shelf = shelf.misses

-- the last of its calls that was not done
abbrev pub shelf_last : MemShelf → Option Undone
shelf_last shelf = shelf.last

-- the bytes that the sink holds
abbrev pub bytes_held : MemSink → List ℕ
bytes_held sink = sink.bytes.items

-- how many calls of the sink were made
abbrev pub sink_calls : MemSink → ℕ
sink_calls sink = sink.calls.made

-- the numbers of the sink's calls that fail
abbrev pub sink_fails : MemSink → List ℕ
sink_fails sink = sink.calls.fails.items

-- how many faults of the sink there were
abbrev pub sink_faults : MemSink → ℕ
sink_faults sink = sink.calls.faults

-- what the shelf and the sink tell and count
abbrev pub shelf_seen : MemShelf → ShelfView
shelf_seen shelf = record {
  files = Some (files_held shelf);
  faults = shelf_faults shelf;
  misses = shelf_misses shelf;
  last = shelf_last shelf;
}

-- what can be seen of a sink in memory
abbrev pub sink_seen : MemSink → SinkView
sink_seen sink = record { written = Some (bytes_held sink); faults = sink_faults sink }

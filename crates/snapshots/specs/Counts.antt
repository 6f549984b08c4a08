-- What an entry of a skeleton adds to the counts of its tree.
use Rattle.std.specs.Prelude.{ℕ}
use Rattle.skeleton.specs.declared.entry.Entry.{Entry}
use Rattle.skeleton.specs.declared.entry.EntryKind.TheVariants.{Folder, File}

abbrev pub one_file : Entry → ℕ
one_file e = elim e.kind [ Folder ↦ 0 | File ↦ 1 ]

abbrev pub one_folder : Entry → ℕ
one_folder e = elim e.kind [ Folder ↦ 1 | File ↦ 0 ]

abbrev pub its_bytes : Entry → ℕ
its_bytes e = elim e.kind [ Folder ↦ 0 | File ↦ e.size ]

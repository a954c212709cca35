-- What the code's structs say: an entry, the entries of a table, and the texts in which they stand.
use Rattle.std.specs.Prelude.{List}
use Rattle.rows.specs.declared.table.Entry.{Entry as EntryNumbers}
use Rattle.rows.specs.declared.table.Entries.{Entries}
use Rattle.rows.specs.declared.table.Texts.{Texts as LentTexts}
use Rattle.rows.specs.Rows.{Entry, Texts, texts}
use Rattle.rows.specs.Tables.{first_of, entries_of}

abbrev pub the_entry : EntryNumbers → Entry
the_entry e = first_of e.numbers.now

abbrev pub the_entries : Entries → List Entry
the_entries es = entries_of es.count es.table.now

abbrev pub the_texts : LentTexts → Texts
the_texts t = texts t.header.now t.shared.now t.own.now

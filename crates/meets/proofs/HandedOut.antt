-- What is handed out, as rows: the list's numbers are those of the members, the members that the reader collects of a
-- text are those of its reading, and so a compact message hands out its header and that header's members.
use mathlib.Core.Path.{◌≡◌, refl, ap, ap₂, sym, subst, ◌∙◌}
use mathlib.Core.List.{List, [], ◌∷◌, ◌++◌, flat_map, append-nil}
use Prim.Native.Nat.{ℕ, suc, ◌+◌}
use lib.ListN.{length, length-append}
use Rattle.grammar.specs.Places.{Member, Placed, item, kind_of, start_of, parts_of}
use Rattle.grammar.specs.Reader.{elements_at}
use Rattle.grammar.specs.Places.{elements}
use Rattle.grammar.specs.Readings.{Reading}
use Rattle.grammar.specs.Shown.{Shown, Everywhere}
use Rattle.rows.specs.Rows.{Entry, entries_in}
use Rattle.rows.specs.Tables.{listed, list_row}
use Rattle.headers.specs.Headers.{header_text, outermost, protected_entries}
pub use Rattle.headers.proofs.Outermost.{shown_members, outermost_rows}
use Rattle.jwe.specs.Compact.{compact_components}
use Rattle.jwe.specs.Inner.Outcomes.{compact_outcome}
use Rattle.meets.specs.Meets.{Compact}
use Rattle.meets.specs.Handed.{Rows, entry, entries, count, ProtectedRows, Applies, compact}
use Rattle.meets.proofs.SpelledDecided.{Spelled, spelled_header}

-- The list of entries

module _ (names : List (List ℕ)) (s : List ℕ) (o : ℕ) where
  -- Six numbers for each member, in order ..
  pub listed_entries : (ms : List Member) → listed (entries_in names s o ms) ≡ flat_map (entry o) ms
  unfolding listed entries_in flat_map
  listed_entries [] = refl
  listed_entries (m ∷ ms) = ap (λ (xs : List ℕ). entry o m ++ xs) (listed_entries ms)

  -- .. and one entry for each.
  pub entries_count : (ms : List Member) → length (entries_in names s o ms) ≡ length ms
  unfolding entries_in
  entries_count [] = refl
  entries_count (m ∷ ms) = ap suc (entries_count ms)

pub listed_append : (es fs : List Entry) → listed (es ++ fs) ≡ listed es ++ listed fs
unfolding listed
listed_append [] fs = refl
listed_append (e ∷ es) fs = ap (λ (xs : List ℕ). list_row e ++ xs) (listed_append es fs)

-- The entries of three headers are listed as their rows, and counted so.
module _ (names : List (List ℕ)) (header message : List ℕ) (x : Rows) where
  abbrev pub row_entries : List Entry
  row_entries =
      entries_in names header 0 x.protected
      ++ (entries_in names message 1 x.shared ++ entries_in names message 2 x.own)

  pub listed_rows : listed row_entries ≡ entries x
  unfolding entries
  listed_rows =
      let ps = entries_in names header 0 x.protected in
      let ss = entries_in names message 1 x.shared in
      let os = entries_in names message 2 x.own in
      listed_append ps (ss ++ os)
      ∙ ap₂ ◌++◌ (listed_entries names header 0 x.protected)
      (listed_append ss os
      ∙ ap₂ ◌++◌ (listed_entries names message 1 x.shared) (listed_entries names message 2 x.own))

  pub counted_rows : length row_entries ≡ count x
  counted_rows =
      let ps = entries_in names header 0 x.protected in
      let ss = entries_in names message 1 x.shared in
      let os = entries_in names message 2 x.own in
      length-append ps (ss ++ os)
      ∙ ap₂ ◌+◌ (entries_count names header 0 x.protected)
      (length-append ss os
      ∙ ap₂ ◌+◌ (entries_count names message 1 x.shared) (entries_count names message 2 x.own))

-- What the reader shows of a placed array.

pub shown_elements : (s : List ℕ) (v : Placed) → Everywhere (Shown 12 s) v → kind_of v ≡ 1 →
    elements_at 12 s (start_of v) ≡ elements (parts_of v)
unfolding Everywhere Shown
shown_elements s (item k q ps) h e = h.0.2 e

pub protected_rows : (header : List ℕ) → Reading 12 header → ProtectedRows header (outermost header)
protected_rows header r = record { reading = r; rows = outermost_rows header r }

-- A compact message

abbrev pub compact_rows : List ℕ → Rows
compact_rows header = record { protected = outermost header; shared = []; own = [] }

pub compact_applies : (known : List (List ℕ)) (message : List ℕ) (n : ℕ) → Compact known message →
    let header = header_text message (compact_components message).protected in
    Applies message n header (compact_rows header)
compact_applies known message n c =
    let s : Spelled message = record {
      header = c.header;
      key = c.key;
      iv = c.iv;
      ciphertext = c.ciphertext;
      tag = c.tag;
      octets = c.octets;
      spelled = c.spelled;
    } in
    subst (λ (h : List ℕ). Applies message n h (compact_rows h)) (sym (spelled_header message s))
    (compact _ c.spelled (protected_rows c.header c.protected.reading) refl refl)

pub compact_listed : (message : List ℕ) →
    let x = compact_rows (compact_outcome message).header in
    (listed (compact_outcome message).entries ≡ entries x) × (length (compact_outcome message).entries ≡ count x)
unfolding compact_outcome protected_entries entries_in
compact_listed message =
    let header = header_text message (compact_components message).protected in
    let es = protected_entries header in (
      ap listed (sym (append-nil es)) ∙ listed_rows _ header message (compact_rows header),
      ap length (sym (append-nil es)) ∙ counted_rows _ header message (compact_rows header),
    )

-- The entries of a header that stands in a message are those of its text, moved; and what is asked of their names and values
-- is asked of the same octets.
use mathlib.Core.Path.{◌≡◌, refl, sym, ap, ap₂, ◌∙◌}
use mathlib.Core.List.{List, [], ◌∷◌, map}
use Prim.Native.Nat.{ℕ, ◌+◌, ◌-◌, ◌≤◌}
use native.Mathlib.Omega.{arith}
use native.Mathlib.Nat.{add_assoc}
use lib.ListN.{length, length-append, length-drop}
use Rattle.prelude.specs.Limits.{levels}
use Rattle.parts.specs.Parts.{part}
use Rattle.parts.proofs.Laws.{part_fits}
use Rattle.grammar.specs.Bounds.{Every, Inside}
use Rattle.grammar.specs.Grammar.{curly}
use Rattle.grammar.specs.Places.{Member}
use Rattle.grammar.specs.Reader.{skip_space, members_at}
use Rattle.grammar.specs.Readings.{Reading}
use Rattle.json_read.proofs.Within.{members_within}
use Rattle.names.specs.Names.{number_in}
use Rattle.rows.specs.Rows.{spelled_name, spelled_value, entry_of, entries_in}
use Rattle.headers.specs.Headers.{outermost}
use Rattle.json_text.specs.Moved.{moved_member}
use Rattle.json_message.specs.Handed.{moved_entry}
use Rattle.json_text.proofs.Embedded.{Stands, octets_moved, embedded_members}

-- A place of w, and the same place moved, show the same part.

stands_fits : {s : List ℕ} {m : ℕ} {w : List ℕ} → Stands s m w → 1 ≤ length w → m + length w ≤ length s
stands_fits {s} {m} {w} h f =
    omega (arith, length-drop m s, ap length h.is, length-append w h.after)

pub part_moved : {s : List ℕ} {m : ℕ} {w : List ℕ} → Stands s m w → (start size : ℕ) → 1 ≤ length w →
    start + size ≤ length w → part s (m + start) size ≡ part w start size
part_moved {s} {m} {w} h start size f g =
    part_fits s (m + start) size (omega (arith, stands_fits h f))
    ∙ octets_moved h (record { start = start; size = size }) g
    ∙ sym (part_fits w start size g)

-- Entries

module _ {s : List ℕ} {m : ℕ} {w : List ℕ} (h : Stands s m w) where
  pub name_moved : (x : Member) → Inside curly (length w) x → spelled_name s (moved_member m x) ≡ spelled_name w x
  name_moved x i = part_moved h x.name_start x.name_size (omega (arith, i.value, i.filled)) i.name

  pub value_moved : (x : Member) → Inside curly (length w) x → spelled_value s (moved_member m x) ≡ spelled_value w x
  value_moved x i =
      ap (λ k. part s k (x.value_size - 2)) (add_assoc m x.value_start 1)
      ∙ part_moved h (x.value_start + 1) (x.value_size - 2) (omega (arith, i.value, i.filled))
      (omega (arith, i.value, i.filled))

  entry_moved : (names : List (List ℕ)) (o : ℕ) (x : Member) → Inside curly (length w) x →
      entry_of names s o (moved_member m x) ≡ moved_entry m (entry_of names w o x)
  entry_moved names o x i =
      ap (λ z. record { origin = o; member = moved_member m x; number = number_in names z })
      (name_moved x i)

  pub entries_moved : (names : List (List ℕ)) (o : ℕ) (ms : List Member) → Every (Inside curly (length w)) ms →
      entries_in names s o (map (moved_member m) ms) ≡ map (moved_entry m) (entries_in names w o ms)
  unfolding entries_in
  entries_moved names o [] i = refl
  entries_moved names o (x ∷ ms) i = ap₂ ◌∷◌ (entry_moved names o x i.0) (entries_moved names o ms i.1)

  -- Of the header that begins past the space of w.
  pub header_moved : (names : List (List ℕ)) (o : ℕ) → Reading levels w →
      entries_in names s o (members_at levels s (m + skip_space w 0)) ≡ map (moved_entry m) (entries_in names w o (outermost w))
  unfolding outermost
  header_moved names o r =
      ap (entries_in names s o) (embedded_members levels r h)
      ∙ entries_moved names o (members_at levels w (skip_space w 0)) (members_within levels w (skip_space w 0))

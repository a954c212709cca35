-- Sample T6's header, walked, by computation: two members, then the end; and the refusals, each on a text of its own.
use mathlib.Core.Path.{◌≡◌, refl}
use mathlib.Core.Bool.{xor}
use mathlib.Core.List.{List, [], ◌∷◌, map, flat_map}
use Prim.Native.Nat.{ℕ}
use Rattle.prelude.specs.Ascii.{ascii}
use Rattle.names.specs.Names.{number_in}
use Rattle.parts.specs.Parts.{part}
use Rattle.grammar.specs.Utf8.{utf8, utf8_after, follow, encode}
use Rattle.grammar.specs.Spellings.{undo, undo_from, adds, next, equal, has, alike}
use Rattle.grammar.specs.Reader.{pass_over, skip, turn, scan_string, string_at, digits_at, int_at, perhaps_at, fraction_at}
use Rattle.grammar.specs.Reader.{exponent_at, number_at, word_at, before_at, entry_at, entries_at, rows_at, nested_at, rows_in}
use Rattle.grammar.specs.Reader.{value_with, value_at, members_at, read_text}
use Rattle.json_read.specs.Members.{next_from}
use Rattle.prelude.specs.Any.{any, any_pair}
use Rattle.rows.specs.Rows.{entries_in, repeated}
use Rattle.jose.specs.Registered.{registered}
use Rattle.prelude.specs.Refusals.{first}
use Rattle.headers.specs.Headers.{unread, outermost, protected_entries, object_order}
use Rattle.walk.specs.Walk.{walk_order, first_offset, open_at, step_at, handed_numbers}
use Rattle.walk.proofs.Calls.{call}

abbrev walked : List ℕ → List ℕ → List (List ℕ)
walked s ks = map (λ (k : ℕ). handed_numbers (call s (open_at s) k)) ks

pub sample_walk : walked (ascii "{\"alg\":\"dir\",\"enc\":\"A128GCM\"}") (0 ∷ 1 ∷ 2 ∷ 3 ∷ [])
    ≡ (2 ∷ 3 ∷ 7 ∷ 5 ∷ 2 ∷ []) ∷ (14 ∷ 3 ∷ 19 ∷ 9 ∷ 2 ∷ []) ∷ [] ∷ [] ∷ []
unfolding ascii number_in utf8 utf8_after follow encode undo undo_from adds next equal has alike pass_over skip turn scan_string string_at digits_at int_at perhaps_at fraction_at exponent_at number_at word_at before_at entry_at entries_at rows_at nested_at rows_in value_with value_at members_at read_text next_from any any_pair entries_in repeated registered first unread outermost protected_entries object_order walk_order first_offset step_at call flat_map xor part
sample_walk = refl

pub sample_refusals : map (λ (s : List ℕ). first (walk_order s)) (ascii "{}" ∷ ascii "[]" ∷ ascii "{\"alg\":\"dir\",\"\\u0061lg\":\"dir\"}" ∷ [])
    ≡ 0 ∷ 7 ∷ 9 ∷ []
unfolding ascii number_in utf8 utf8_after follow encode undo undo_from adds next equal has alike pass_over skip turn scan_string string_at digits_at int_at perhaps_at fraction_at exponent_at number_at word_at before_at entry_at entries_at rows_at nested_at rows_in value_with value_at members_at read_text next_from any any_pair entries_in repeated registered first unread outermost protected_entries object_order walk_order first_offset step_at call flat_map xor part
sample_refusals = refl

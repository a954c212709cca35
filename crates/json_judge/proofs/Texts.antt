-- A given text, absent or present.
use mathlib.Core.Path.{◌≡◌, refl, ap, ap₂, sym, ◌∙◌}
use mathlib.Core.Bool.{Bool, true, false, not, true≢false}
use mathlib.Core.List.{List, [], ◌∷◌, ◌++◌, append-nil}
use Prim.Native.Nat.{ℕ, ◌+◌, ◌*◌}
use native.Mathlib.Omega.{arith}
use native.Mathlib.Nat.{add-zero}
use lib.ListN.{length, take, drop, take-append-drop, length-map}
use Rattle.grammar.specs.Grammar.{curly}
use Rattle.grammar.specs.Reader.{skip_space, members_at, read_text}
use Rattle.names.specs.Names.{names}
use Rattle.json_read.specs.Inner.Ends.{found_of}
use Rattle.json_read.specs.Inner.Known.{KnownIn}
use Rattle.json_read.specs.declared.Found.{Found}
use Rattle.std.specs.Prelude as std
use Rattle.json_read.proofs.Knowing.{text_known}
use Rattle.prelude.specs.Any.{any_pair}
use Rattle.prelude.specs.Buffer.{written}
use Rattle.prelude.specs.Refusals.{first, stage_of}
use Rattle.prelude.specs.Refusals.{Passed}
use Rattle.rows.specs.Rows.{Entry, entry_of, entries_in, repeated}
use Rattle.rows.specs.Tables.{width}
use Rattle.rows.specs.Inner.Prints.{flat, collected_table}
use Rattle.jose.specs.Registered.{registered}
use Rattle.headers.specs.Headers.{is_nothing, outermost, object_order}
use Rattle.headers.proofs.Texts.{no_value, by_reading}
use Rattle.shape.specs.Shape.{hollow}
use Rattle.json_text.proofs.Embedded.{Stands}
use Rattle.json_message.specs.Handed.{text_entries}
use Rattle.json_message.specs.WriteOrder.{unread_within}
use Rattle.json_message.specs.Inner.PiecesOrder.{hollow_text}
use Rattle.json_message.proofs.Unread.{text_iff}
use Rattle.json_message.proofs.Hollow.{header_hollow}

-- 7

pub unread_absent : (l : ℕ) (w : List ℕ) → length w ≡ 0 → false ≡ unread_within l w
unread_absent l [] e = refl
unread_absent l (c ∷ w) e = absurd (omega (arith, e))

present_is : (l : ℕ) (w : List ℕ) → (length w ≡ 0 → ⊥) → is_nothing (read_text l w) ≡ unread_within l w
present_is l [] h = absurd (h refl)
present_is l (c ∷ w) h = refl

pub unread_present : (l : ℕ) (w : List ℕ) → (length w ≡ 0 → ⊥) → (answer : std.Option Found) → answer ≡ found_of (read_text l w) →
    no_value answer ≡ unread_within l w
unread_present l w h answer e = ap no_value e ∙ by_reading (read_text l w) ∙ present_is l w h

pub none_read : (answer : std.Option Found) (b : Bool) → std.is_some answer ≡ not b → b ≡ no_value answer
none_read std.None true e = refl
none_read (std.Some v) false e = refl
none_read std.None false e = cc
none_read (std.Some v) true e = cc

-- 10

pub hollow_absent : (w : List ℕ) → length w ≡ 0 → false ≡ hollow_text w
hollow_absent [] e = refl
hollow_absent (c ∷ w) e = absurd (omega (arith, e))

-- A text stands in itself.
itself : (w : List ℕ) → Stands w 0 w
itself w = record { after = []; is = sym (append-nil w); ends = tt }

-- Of a text that reads, the octet where its first member would stand tells.
pub hollow_present : (w : List ℕ) → (length w ≡ 0 → ⊥) → unread_within 12 w ≡ false → hollow curly w (skip_space w 0) ≡ hollow_text w
hollow_present [] h e = absurd (h refl)
hollow_present (c ∷ w) h e =
    let at : skip_space (c ∷ w) 0 ≡ 0 + skip_space (c ∷ w) 0 = omega arith in
    ap (hollow curly (c ∷ w)) at ∙ header_hollow (itself (c ∷ w)) ((text_iff 12 (c ∷ w)).0 e)

-- 8 and 9

module _ (o : ℕ) (w : List ℕ) (absent : length w ≡ 0) where
  entries_absent : text_entries o w ≡ []
  unfolding text_entries
  entries_absent = none w absent
    where
      none : (w : List ℕ) → length w ≡ 0 → text_entries o w ≡ []
      none [] e = refl
      none (c ∷ w) e = absurd (omega (arith, e))

  pub absent_passes : Passed 0 ≡ stage_of (first (object_order w (text_entries o w))) (length (text_entries o w))
  unfolding stage_of first object_order repeated any_pair
  absent_passes = sym (ap (λ (es : List Entry). stage_of (first (object_order w es)) (length es)) entries_absent)

  pub absent_left : (from : ℕ) (table : List ℕ) → table ≡ collected_table from w (text_entries o w) table
  unfolding collected_table written flat
  absent_left from table =
      let none : written (from * width) [] table ≡ table =
      ap (λ (n : ℕ). take (from * width) table ++ drop n table) (add-zero (from * width))
      ∙ take-append-drop (from * width) table in
      sym (ap (λ (es : List Entry). collected_table from w es table) entries_absent ∙ none)

pub entries_present : (o : ℕ) (w : List ℕ) → (length w ≡ 0 → ⊥) → (list : List ℕ) → names list ≡ registered → (at : ℕ) →
    at ≡ skip_space w 0 → entries_in (names list) w o (members_at 12 w at) ≡ text_entries o w
unfolding text_entries outermost
entries_present o [] h list l at a = absurd (h refl)
entries_present o (c ∷ w) h list l at a =
    ap₂ (λ (ns : List (List ℕ)) (k : ℕ). entries_in ns (c ∷ w) o (members_at 12 (c ∷ w) k)) l a

pub count_present : (o : ℕ) (w : List ℕ) → (length w ≡ 0 → ⊥) → (list : List ℕ) → names list ≡ registered → (at : ℕ) →
    at ≡ skip_space w 0 → length (members_at 12 w at) ≡ length (text_entries o w)
unfolding entries_in
count_present o w h list l at a =
    sym (length-map (members_at 12 w at) (entry_of (names list) w o)) ∙ ap length (entries_present o w h list l at a)

-- What a text that reads shows of what opens in it.
pub known_present : (w : List ℕ) → (length w ≡ 0 → ⊥) → unread_within 12 w ≡ false → KnownIn curly 12 w (skip_space w 0)
known_present [] h e = absurd (h refl)
known_present (c ∷ w) h e = text_known 12 (c ∷ w) (λ z. true≢false (sym (ap is_nothing z) ∙ e))

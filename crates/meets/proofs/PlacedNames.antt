-- What a reading's placed values keep besides what the reader shows: at each name's place a string is spelled that says
-- code points, an array's parts have no names, and no value in the outermost object begins the text. By induction on
-- the tree.
use mathlib.Core.Path.{◌≡◌, refl, ap, sym, ◌∙◌}
use mathlib.Core.List.{List, [], ◌∷◌, ◌++◌}
use mathlib.Core.Bool.{Bool, true, false, ◌&&◌, cond}
use mathlib.Core.Option.{none, some}
use mathlib.Core.Logic.{◌↔◌}
use Prim.Native.Nat.{ℕ, ◌+◌, ◌≤◌, zero-le}
use native.Mathlib.Omega.{arith}
use lib.Dec.{T, leb}
use lib.ListN.{length, take, drop, length-append, length-take, length-drop}
use Rattle.parts.specs.Parts as parts
use Rattle.parts.proofs.Laws.{part_fits}
use Rattle.grammar.specs.Grammar.{comma, octets, leaves_sign, Str, leaves_chars}
use Rattle.grammar.specs.Grammar.{Bracket, curly, square, opening, Label, Value, nested, empty, string, number}
use Rattle.grammar.specs.Grammar.{literal, Entries, last, more, leaves_label, leaves_value}
use Rattle.grammar.specs.Places.{kind_nested, place, place_name, Place, Placed, item, Parts}
use Rattle.grammar.specs.Places.{done, part, placed, placed_entries, placed_text, kind_of, start_of, parts_of}
use Rattle.grammar.specs.Strings.{says, HasOctets, every_label, every, every_entries}
use Rattle.grammar.specs.Utf8.{points, encodes}
use Rattle.grammar.specs.Spellings.{undo, sayable}
use Rattle.grammar.specs.Readings.{Reading, octets_at}
use Rattle.grammar.specs.Shown.{Everywhere, EverywhereIn, NameStands, StringsStand, StringsStandIn}
use Rattle.grammar.proofs.Theorems.{read_stands, read_says}
use Rattle.grammar.proofs.Spellings.{undo_spelling}
use Rattle.grammar.proofs.Scan.{both_T}
use Rattle.meets.specs.Handed.{NameAt}
use Rattle.meets.proofs.Saying.{Spells}

-- A string that says code points is spelled at a place.
pub record Named (s : List ℕ) (q : Place) : Type 0 where
  pub name : Str
  pub stands : octets_at s q ≡ leaves_chars name.chars
  pub sized : q.size ≡ length (leaves_chars name.chars)
  pub says : T (sayable name)

-- At the place of each name among parts.
unfoldable pub NamesStand : List ℕ → Parts → Type 0
NamesStand s done = Unit {0}
NamesStand s (part none v ps) = NamesStand s ps
NamesStand s (part (some q) v ps) = Named s q × NamesStand s ps

-- No part has a name.
unfoldable pub Unnamed : Parts → Type 0
Unnamed done = Unit {0}
Unnamed (part none v ps) = Unnamed ps
Unnamed (part (some q) v ps) = ⊥

-- What a placed value keeps.
pub record Sits (s : List ℕ) (low : ℕ) (v : Placed) : Type 0 where
  pub starts : low ≤ start_of v
  pub names : NamesStand s (parts_of v)
  pub unnamed : kind_of v ≡ 1 → Unnamed (parts_of v)

-- Names

-- Octets that are taken at a place are the part there.
part_is : (s : List ℕ) (a n : ℕ) (w : List ℕ) → take n (drop a s) ≡ w → n ≡ length w → parts.part s a n ≡ w
unfolding parts.part
part_is s a n [] e f = cases (leb (a + n) (length s))
  where
    cases : (b : Bool) → cond b (take n (drop a s)) [] ≡ []
    cases true = e
    cases false = refl
part_is s a n (x ∷ w) e f =
    let t = length-take n (drop a s) in
    let d = length-drop a s in
    let l = ap length e in
    part_fits s a n (omega arith) ∙ e

pub named_spells : (s : List ℕ) (q : Place) (h : Named s q) → Spells (parts.part s q.start q.size) h.name
named_spells s q h = record {
  spelled = part_is s q.start q.size (leaves_chars h.name.chars) h.stands h.sized;
  sayable = h.says;
}

-- Strings that are spelled alike say the same.
says_spelled : (x y : Str) → leaves_chars x.chars ≡ leaves_chars y.chars → says x ≡ says y
unfolding says
says_spelled x y e = ap points (sym (undo_spelling x) ∙ ap undo e ∙ undo_spelling y)

-- So the name at a place is the one that stands there.
pub named_at : (s : List ℕ) (q : Place) (h : Named s q) (w : List ℕ) → NameAt s q w ↔ HasOctets h.name w
named_at s q h w = (
  (λ a. ap encodes (says_spelled h.name a.name (sym h.stands ∙ sym a.spelled)) ∙ a.has),
  (λ o. record { name = h.name; spelled = sym h.stands; has = o }),
)

-- Trees

module _ (s : List ℕ) where
  part_names : (b : Bracket) (l : Label b) (n : ℕ) (v : Placed) (ps : Parts) → NameStands s b n l →
      T (every_label sayable b l) → NamesStand s ps → NamesStand s (part (place_name b n l) v ps)
  unfolding NameStands every_label place_name NamesStand
  part_names curly l n v ps h t r = (record { name = l.name; stands = h; sized = refl; says = t }, r)
  part_names square l n v ps h t r = r

  names_in_lem : {b : Bracket} (es : Entries b) (n : ℕ) → StringsStandIn s n es → T (every_entries sayable es) →
      NamesStand s (placed_entries n es)
  unfolding placed StringsStand every NamesStand
  names_in_lem (last {b} l v) n h t =
      part_names b l n (placed (n + length (leaves_label b l)) v) done h.0
      (both_T (every_label sayable b l) (every sayable v) t).0 tt
  names_in_lem (more {b} l v x es) n h t =
      let u = both_T (every_label sayable b l) (every sayable v && every_entries sayable es) t in
      let m = n + length (leaves_label b l ++ (leaves_value v ++ leaves_sign comma x)) in
      part_names b l n (placed (n + length (leaves_label b l)) v) (placed_entries m es) h.0 u.0
      (names_in_lem es m h.2 (both_T (every sayable v) (every_entries sayable es) u.1).1)

  part_unnamed : (b : Bracket) (l : Label b) (n : ℕ) (v : Placed) (ps : Parts) → kind_nested b ≡ 1 → Unnamed ps →
      Unnamed (part (place_name b n l) v ps)
  unfolding place_name Unnamed
  part_unnamed curly l n v ps e r = absurd (omega arith)
  part_unnamed square l n v ps e r = r

  unnamed_in : {b : Bracket} (es : Entries b) (n : ℕ) → kind_nested b ≡ 1 → Unnamed (placed_entries n es)
  unfolding placed Unnamed
  unnamed_in (last {b} l v) n e = part_unnamed b l n (placed (n + length (leaves_label b l)) v) done e tt
  unnamed_in (more {b} l v x es) n e =
      let m = n + length (leaves_label b l ++ (leaves_value v ++ leaves_sign comma x)) in
      part_unnamed b l n (placed (n + length (leaves_label b l)) v) (placed_entries m es) e (unnamed_in es m e)

  -- One without parts.
  alone : (low k : ℕ) (q : Place) → low ≤ q.start → Everywhere (Sits s low) (item k q done)
  unfolding Everywhere NamesStand Unnamed
  alone low k q h = (record { starts = h; names = tt; unnamed = λ e. tt }, tt)

  -- Values whose leaves begin at n or later sit at n or later.
  module _ (low : ℕ) where
    mutual
      unfolding placed place every Everywhere StringsStand

      sits : (v : Value) (n : ℕ) → low ≤ n → StringsStand s n v → T (every sayable v) →
          Everywhere (Sits s low) (placed n v)
      sits (nested b x es y) n f h t =
          let m = n + length (leaves_sign (opening b) x) in (
            record {
              starts = omega arith;
              names = names_in_lem es m h t;
              unnamed = λ e. unnamed_in es m e;
            },
            sits_in es m (omega arith) h t,
          )
      sits (empty b x y) n f h t = alone low _ (place n (empty b x y)) (omega arith)
      sits (string x) n f h t = alone low _ (place n (string x)) (omega arith)
      sits (number x) n f h t = alone low _ (place n (number x)) (omega arith)
      sits (literal x) n f h t = alone low _ (place n (literal x)) (omega arith)

      sits_in : {b : Bracket} (es : Entries b) (n : ℕ) → low ≤ n → StringsStandIn s n es →
          T (every_entries sayable es) → EverywhereIn (Sits s low) (placed_entries n es)
      sits_in (last {b} l v) n f h t =
          (sits v _ (omega arith) h.1 (both_T (every_label sayable b l) (every sayable v) t).1, tt)
      sits_in (more {b} l v x es) n f h t =
          let u = both_T (every_label sayable b l) (every sayable v && every_entries sayable es) t in
          let w = both_T (every sayable v) (every_entries sayable es) u.1 in
          (sits v _ (omega arith) h.1 w.0, sits_in es _ (omega arith) h.2 w.1)

  -- The parts of a value sit behind its bracket.
  parts_sit : (v : Value) (n : ℕ) → StringsStand s n v → T (every sayable v) →
      EverywhereIn (Sits s 1) (parts_of (placed n v))
  unfolding placed every Everywhere StringsStand leaves_sign
  parts_sit (nested b x es y) n h t =
      let e = length-append (octets x.before) (opening b ∷ octets x.after) in
      sits_in 1 es (n + length (leaves_sign (opening b) x)) (omega arith) h t
  parts_sit (empty b x y) n h t = tt
  parts_sit (string x) n h t = tt
  parts_sit (number x) n h t = tt
  parts_sit (literal x) n h t = tt

-- The names of the outermost object stand, and its values sit.

top_names : (s : List ℕ) (v : Placed) → Everywhere (Sits s 0) v → NamesStand s (parts_of v)
unfolding Everywhere
top_names s (item k q ps) h = h.0.names

pub reading_names : (s : List ℕ) (r : Reading 12 s) → NamesStand s (parts_of (placed_text r.text))
unfolding placed_text
reading_names s r =
    top_names s (placed_text r.text) (sits s 0 r.text.value _ zero-le (read_stands 12 s r) (read_says 12 s r))

pub reading_sits : (s : List ℕ) (r : Reading 12 s) → EverywhereIn (Sits s 1) (parts_of (placed_text r.text))
unfolding placed_text
reading_sits s r = parts_sit s r.text.value _ (read_stands 12 s r) (read_says 12 s r)
